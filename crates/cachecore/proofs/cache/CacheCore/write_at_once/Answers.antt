use Rattle.std.proofs.Common.{arith, ap, refl, sym, subst, ◌≡◌, ◌<◌, ◌∙◌, false, true, length}
use Rattle.std.specs.Prelude.{IsTrue, is_err}
use Rattle.std.specs.FinMap as map
use Rattle.blockdev.specs.Device as device
use Rattle.blockdev.specs.Device.{Writes}
use Rattle.blockdev.specs.Jobs.{FinishedTask, Task}
use Rattle.blockmap.specs.Keys.{IsPage}
use Rattle.pc_types.specs.Limits.{is_err_code}
use Rattle.blockmap.specs.Blocks.{Blocks, with_valid}
use Rattle.machine.specs.declared.event.Reply.TheVariants as reply
use Rattle.machine.specs.State.{State}
use Rattle.machine.specs.Tests.{is_full}
use Rattle.machine.specs.Changes.{after_write, under_write}
use Rattle.pagestore.specs.Store.{Store, stored_at, the_page, with_pages}
use Rattle.cachecore.specs.Starting.{IsStarted, MayStart}
use Rattle.cachecore.proofs.AtOnceCalls.{WriteGoes, is_started, its_request, write_ends, write_fails, written_done, written_job, writing}
use Rattle.cachecore.proofs.CoreViews.{lists_are, state_is}
use Rattle.cachecore.proofs.Parts.{parts_of, state_by}
use Rattle.cachecore.proofs.PlacedBlocks.{told_within}
use Rattle.cachecore.proofs.SyncLaws.{err_code}
use Rattle.cachecore.proofs.cache.CacheCore.write_at_once.Goals as goal
use Rattle.cachecore.proofs.cache.CacheCore.write_at_once.Goals.{In-Some, After-write-written}
use Rattle.cachecore.proofs.cache.CacheCore.write_at_once.Given.{Over as Given}

may : (g : Given) (c : In-Some g) → MayStart (state_by (parts_of c.self.inside)) c.args.file.0 c.args.page.0
may g c = subst (λ s. MayStart s c.args.file.0 c.args.page.0) (sym (state_is c.self.view_is)) c.requires.start.startable

here : (g : Given) (c : In-Some g) → c.args.file.0 < length c.self.inside.pages.files
here g c = subst (λ (s : State). c.args.file.0 < length s.files) (sym (state_is c.self.view_is)) c.requires.start.here

place : (g : Given) (c : In-Some g) → IsPage c.args.file.0 c.args.page.0
place g c =
    let few = c.self.invariant.core.few_files in
    let it = here g c in
    record { file = omega arith; page = c.requires.start.below }

room : (g : Given) (c : In-Some g) → is_full (state_by (parts_of c.self.inside)) ≡ false
room g c = ap is_full (state_is c.self.view_is) ∙ c.requires.start.room

within : (g : Given) (c : In-Some g) → c.in-Some.placed.block.0 < c.self.inside.geometry.blocks
within g c = told_within (state_by (parts_of c.self.inside)) c.self.inside.pages c.self.inside.blocks c.self.invariant.core
    c.free_count.ensures.always (c.args.file.0, c.args.page.0) c.in-Some.placed c.in-Some.ensures

pub write-written-requires-clause-exists : goal.write-written-requires-clause-exists
write-written-requires-clause-exists g c =
    let b = (goal.at.write-written-requires-clause-exists g c).In-Some in
    let in_all = within g b in
    let count = c.requires.device.1 in
    let same = ap (λ (t : State). t.sizes.blocks) (state_is c.self.view_is) in
    omega arith

-- how it ended well
done : (g : Given) (c : goal.After-set_valid g) → (let b = (goal.at.invariant_of-self g c).In-Some in
    WriteGoes (parts_of c.self.inside) c.self.invariant c.args.file.0 c.args.page.0 (may g b) (place g b) (here g b) (room g b)
    c.in-Some.placed c.in-Some.ensures c.write-written.result reply.Written
    (record (parts_of c.self.inside) {
      store = c.write_through.new.self;
      blocks = c.set_valid.new.self;
      flights = c.pass.new.self;
    }))
done g c =
    let b = (goal.at.invariant_of-self g c).In-Some in
    let s = c.self.inside.pages in
    let went : c.is_err.result ≡ false = c.is_err.ensures.value ∙ ap is_err c.in-Ok.is in
    write_ends (parts_of c.self.inside) c.self.invariant c.args.file.0 c.args.page.0 (may g b) (place g b) (here g b) (room g b)
    c.in-Some.placed c.in-Some.ensures c.write-written.result c.in-Ok.is c.write_through.new.self c.set_valid.new.self
    c.pass.new.self
    (c.write_through.ensures ∙ ap (λ failed. with_pages s c.args.file.0 (map.insert (stored_at s c.args.file.0).pages c.args.page.0
    (after_write failed (under_write (the_page (stored_at s c.args.file.0).pages c.args.page.0)))) s.free) went)
    (c.set_valid.ensures ∙ ap (λ n. let z : Blocks = record c.self.inside.blocks {
      spots = with_valid n (map.get c.self.inside.blocks.spots (c.args.file.0, c.args.page.0))
          (c.args.file.0, c.args.page.0) c.self.inside.blocks.spots;
    } in z) c.page.ensures.value) c.pass.ensures

pub invariant_of-self : goal.invariant_of-self
invariant_of-self g c = (done g c).cache

-- how it failed
failed : (g : Given) (c : goal.After-note_failure g) → (let b = (goal.at.invariant_of-self-in-Err g c).In-Some in
    WriteGoes (parts_of c.self.inside) c.self.invariant c.args.file.0 c.args.page.0 (may g b) (place g b) (here g b) (room g b)
    c.in-Some.placed c.in-Some.ensures c.write-written.result (reply.Failed c.in-Err.code)
    (record (parts_of c.self.inside) {
      store = c.note_failure.new.self;
      flights = c.pass.new.self;
    }))
failed g c =
    let b = (goal.at.invariant_of-self-in-Err g c).In-Some in
    let s = c.self.inside.pages in
    let went : c.is_err.result ≡ true = c.is_err.ensures.value ∙ ap is_err c.in-Err.is in
    let code = c.from.ensures ∙ c.code.ensures.value in
    let is_code : IsTrue (is_err_code c.in-Err.code) = subst (λ n. IsTrue (is_err_code n)) code
    (err_code c.from.result (omega (arith, c.from.ensures, c.code.ensures.least))
    (omega (arith, c.from.ensures, c.code.ensures.most))) in
    write_fails (parts_of c.self.inside) c.self.invariant c.args.file.0 c.args.page.0 (may g b) (place g b) (here g b) (room g b)
    c.in-Some.placed c.in-Some.ensures c.write-written.result c.in-Err.code c.from.result code c.in-Err.is is_code
    c.write_through.new.self c.note_failure.new.self c.pass.new.self
    (c.write_through.ensures ∙ ap (λ failed. with_pages s c.args.file.0 (map.insert (stored_at s c.args.file.0).pages c.args.page.0
    (after_write failed (under_write (the_page (stored_at s c.args.file.0).pages c.args.page.0)))) s.free) went)
    c.note_failure.ensures c.pass.ensures

pub invariant_of-self-in-Err : goal.invariant_of-self-in-Err
invariant_of-self-in-Err g c = (failed g c).cache

-- ---- what both have

-- the page is as long as a block
size : (g : Given) (c : After-write-written g)
    → length (the_page (stored_at c.self.inside.pages c.args.file.0).pages c.args.page.0).bytes ≡ c.args.self.now.state.sizes.page
size g c = ap length (sym c.bytes.ensures.bytes) ∙ c.bytes.ensures.size ∙ c.self.invariant.core.page
    ∙ ap (λ (s : State). s.sizes.page) (state_is c.self.view_is)

writes : (g : Given) (c : After-write-written g)
    → Writes c.args.device.now.device c.in-Some.placed.block.0
    (the_page (stored_at c.self.inside.pages c.args.file.0).pages c.args.page.0).bytes c.write-written.result
    c.write-written.new.self.device
writes g c = subst (λ bytes. Writes c.args.device.now.device c.in-Some.placed.block.0 bytes c.write-written.result
    c.write-written.new.self.device) c.bytes.ensures.bytes c.write-written.ensures.writes

abbrev job : (g : Given) → In-Some g → device.Outcome → Task
job g c went = written_job (parts_of c.self.inside) c.self.invariant c.args.file.0 c.args.page.0 (may g c) (place g c) (here g c) (room g c)
    c.in-Some.placed c.in-Some.ensures went

abbrev job_done : (g : Given) → In-Some g → device.Outcome → FinishedTask
job_done g c went = written_done (parts_of c.self.inside) c.self.invariant c.args.file.0 c.args.page.0 (may g c) (place g c) (here g c) (room g c)
    c.in-Some.placed c.in-Some.ensures went

-- the state while the write is in flight, which nobody sees
abbrev mid : (g : Given) → In-Some g → device.Outcome → State
mid g c went = state_by (writing (parts_of c.self.inside) c.self.invariant c.args.file.0 c.args.page.0 (may g c) (place g c) (here g c) (room g c)
    c.in-Some.placed c.in-Some.ensures went)

started : (g : Given) (c : In-Some g) (went : device.Outcome)
    → IsStarted c.args.self.now.state c.args.file.0 c.args.page.0 (job g c went) (mid g c went)
started g c went = subst (λ s. IsStarted s c.args.file.0 c.args.page.0 (job g c went) (mid g c went)) (state_is c.self.view_is)
    (is_started (parts_of c.self.inside) c.self.invariant c.args.file.0 c.args.page.0 (may g c) (place g c) (here g c) (room g c)
    c.in-Some.placed c.in-Some.ensures went)

pub returns-in-Ok : goal.returns-in-Ok
returns-in-Ok g c =
    let b = (goal.at.returns-in-Ok g c).In-Some in
    let d = (goal.at.returns-in-Ok g c).After-write-written in
    let went = c.write-written.result in
    record {
      begun = mid g b went;
      job = job g b went;
      done = job_done g b went;
      started = started g b went;
      kind = refl;
      its = its_request (parts_of c.self.inside) c.self.invariant c.args.file.0 c.args.page.0 (may g b) (place g b) (here g b)
          (room g b) c.in-Some.placed c.in-Some.ensures went;
      within = (place g b).file;
      fits = record {
        cache = ap (λ (s : State). s.name) (state_is c.self.view_is);
        block = (let k = within g b in let same = ap (λ (s : State). s.sizes.blocks) (state_is c.self.view_is) in omega arith);
        size = size g d;
      };
      makes = record {
        performs = record { cache = refl; serial = refl; kind = refl; block = refl; length = refl; call = (writes g d, refl) };
        unflushed = c.write-written.ensures.unflushed;
      };
      ends = (done g c).step;
      lists = ap (λ (s : Store). s.lists) c.write_through.ensures ∙ lists_are c.self.view_is;
    }

pub returns-in-Err : goal.returns-in-Err
returns-in-Err g c =
    let b = (goal.at.returns-in-Err g c).In-Some in
    let d = (goal.at.returns-in-Err g c).After-write-written in
    let went = c.write-written.result in
    record {
      begun = mid g b went;
      job = job g b went;
      done = job_done g b went;
      started = started g b went;
      kind = refl;
      its = its_request (parts_of c.self.inside) c.self.invariant c.args.file.0 c.args.page.0 (may g b) (place g b) (here g b)
          (room g b) c.in-Some.placed c.in-Some.ensures went;
      within = (place g b).file;
      fits = record {
        cache = ap (λ (s : State). s.name) (state_is c.self.view_is);
        block = (let k = within g b in let same = ap (λ (s : State). s.sizes.blocks) (state_is c.self.view_is) in omega arith);
        size = size g d;
      };
      makes = record {
        performs = record { cache = refl; serial = refl; kind = refl; block = refl; length = refl; call = (writes g d, refl) };
        unflushed = c.write-written.ensures.unflushed;
      };
      ends = (failed g c).step;
      lists = ap (λ (s : Store). s.lists) c.note_failure.ensures ∙ ap (λ (s : Store). s.lists) c.write_through.ensures
          ∙ lists_are c.self.view_is;
    }

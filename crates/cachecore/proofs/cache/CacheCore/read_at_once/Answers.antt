use Rattle.std.proofs.Common.{arith, ap, refl, sym, subst, ◌≡◌, ℕ, ◌+◌, ◌-◌, ◌<◌, ◌∙◌, false, true, List, [], length}
use Rattle.std.proofs.lemmas.Bool.{or_right}
use Rattle.std.specs.Prelude.{Ok, Some, is_some, nat_lt, option_map, unwrap_or}
use Rattle.std.specs.FinSet as set
use Rattle.std.specs.FinMap as map
use Rattle.blockdev.specs.Device as device
use Rattle.blockdev.specs.Device.{Reads, Told}
use Rattle.blockmap.specs.Keys.{IsPage}
use Rattle.pc_types.specs.Spots.{Spot}
use Rattle.pc_types.specs.declared.ids.HandleId.{HandleId}
use Rattle.pc_types.specs.declared.ids.Serial.{Serial}
use Rattle.pc_types.specs.declared.kind.Kind.TheVariants.{Fill}
use Rattle.pc_types.specs.declared.limits.TheConstants.{SERIAL_END}
use Rattle.machine.specs.declared.event.Event.TheVariants as event
use Rattle.machine.specs.declared.event.Reply.TheVariants as reply
use Rattle.machine.specs.Changes.{requested}
use Rattle.machine.specs.ListChanges.{lists_after}
use Rattle.machine.specs.PageLists as lists
use Rattle.machine.specs.State.{State, free_frames, is_cached, is_filling, spot_at}
use Rattle.machine.specs.Tests.{is_full}
use Rattle.machine.specs.Step.{Step}
use Rattle.pagestore.specs.Store.{Store, is_awaited, stored_page}
use Rattle.pagestore.proofs.PairLemmas.{when_ok}
use Rattle.cachecore.proofs.AtOnceCalls.{ReadGoes, awaits_it, being_read, read_done, read_ends, read_fails, read_file, read_its}
use Rattle.cachecore.proofs.AtOnceCalls.{read_job, read_step, unfilled_lists}
use Rattle.cachecore.proofs.CoreLemmas.{free_frames_are}
use Rattle.cachecore.proofs.CoreViews.{lists_are, state_is}
use Rattle.cachecore.proofs.FlushKeeps.{serials_left}
use Rattle.cachecore.proofs.Parts.{parts_of, state_by}
use Rattle.cachecore.specs.Nexts.{its_spot}
use Rattle.cachecore.proofs.FillKeeps.{lt_true}
use Rattle.cachecore.proofs.cache.CacheCore.read_at_once.Goals as goal
use Rattle.cachecore.proofs.cache.CacheCore.read_at_once.Goals.{After-pass}
use Rattle.cachecore.proofs.cache.CacheCore.read_at_once.Given.{Over as Given}

abbrev s : (g : Given) → After-pass g → State
s g c = state_by (parts_of c.self.inside)

absent : (g : Given) (c : After-pass g) → is_cached (s g c) c.args.file.0 c.args.page.0 ≡ false
absent g c = ap (λ (t : State). is_cached t c.args.file.0 c.args.page.0) (state_is c.self.view_is) ∙ c.requires.reads.absent

idle : (g : Given) (c : After-pass g) → is_filling (s g c) c.args.file.0 c.args.page.0 ≡ false
idle g c = ap (λ (t : State). is_filling t c.args.file.0 c.args.page.0) (state_is c.self.view_is) ∙ c.requires.reads.idle

placed : (g : Given) (c : After-pass g)
    → spot_at (s g c) c.args.file.0 c.args.page.0 ≡ Some (its_spot c.args.placed)
placed g c = ap (λ (t : State). spot_at t c.args.file.0 c.args.page.0) (state_is c.self.view_is) ∙ c.requires.reads.placed

here : (g : Given) (c : After-pass g) → c.args.file.0 < length c.self.inside.pages.files
here g c = subst (λ (t : State). c.args.file.0 < length t.files) (sym (state_is c.self.view_is)) c.requires.reads.here

place : (g : Given) (c : After-pass g) → IsPage c.args.file.0 c.args.page.0
place g c =
    let few = c.self.invariant.core.few_files in
    let it = here g c in
    record { file = omega arith; page = c.requires.reads.below }

frames : (g : Given) (c : After-pass g) → 0 < c.self.inside.pages.free
frames g c =
    let free = free_frames_are c.self.invariant.core in
    let same = ap free_frames (state_is c.self.view_is) in
    let k = c.requires.reads.room in
    omega arith

room : (g : Given) (c : After-pass g) → is_full (s g c) ≡ false
room g c = sym c.is_full.ensures ∙ c.if-is_full.false

serials : (g : Given) (c : After-pass g) → c.self.inside.requests.next < SERIAL_END
serials g c = serials_left c.self.invariant.core (room g c)

-- the store once the page waits for its bytes
began : (g : Given) (c : After-pass g) → c.start_fill.new.self ≡ record c.self.inside.pages {
  filling = set.insert c.self.inside.pages.filling (c.args.file.0, c.args.page.0);
  free = c.self.inside.pages.free - 1;
  lists = lists.entered c.args.file.0 c.args.page.0 c.self.inside.pages.lists;
}
began g c = when_ok c.start_fill.result _ c.if-is_err.ensures.value c.start_fill.ensures.ok

-- the page is awaited, as long as the store is that of its begin
awaits : (g : Given) (c : After-pass g) (x : Store) → x ≡ record c.self.inside.pages {
  filling = set.insert c.self.inside.pages.filling (c.args.file.0, c.args.page.0);
  free = c.self.inside.pages.free - 1;
  lists = lists.entered c.args.file.0 c.args.page.0 c.self.inside.pages.lists;
} → is_awaited x c.args.file.0 c.args.page.0 ≡ true
awaits g c x is = ap (λ (x : Store). is_awaited x c.args.file.0 c.args.page.0) is
    ∙ awaits_it (parts_of c.self.inside) c.self.invariant c.args.file.0 c.args.page.0 (absent g c) (idle g c) (its_spot c.args.placed)
    (placed g c) c.requires.reads.valid (place g c) (here g c) (frames g c) (serials g c) [] [] (Ok tt)

pub fill_by-requires-clause-filling : goal.fill_by-requires-clause-filling
fill_by-requires-clause-filling g c =
    let b = (goal.at.fill_by-requires-clause-filling g c).After-pass in
    awaits g b c.start_fill.new.self (began g b)

pub leave-requires-clause-there : goal.leave-requires-clause-there
leave-requires-clause-there g c =
    let b = (goal.at.leave-requires-clause-there g c).After-pass in
    or_right (is_some (stored_page c.fill_by.new.self c.args.file.0 c.args.page.0)) (is_awaited c.fill_by.new.self c.args.file.0 c.args.page.0)
    (awaits g b c.fill_by.new.self (c.in-Err.ensures.failed ∙ began g b))

-- how it ended well
done : (g : Given) (c : goal.In-Ok g) → (let b = (goal.at.invariant_of-self-in-Ok g c).After-pass in
    ReadGoes (parts_of c.self.inside) c.self.invariant c.args.file.0 c.args.page.0 (absent g b) (idle g b) (its_spot c.args.placed)
    (placed g b) c.requires.reads.valid (place g b) (here g b) (frames g b) (serials g b) c.in-Ok.ensures.before c.in-Ok.ensures.after c.fill_by.result reply.Filled
    (record (parts_of c.self.inside) { store = c.fill_by.new.self; flights = c.pass.new.self }))
done g c =
    let b = (goal.at.invariant_of-self-in-Ok g c).After-pass in
    read_ends (parts_of c.self.inside) c.self.invariant c.args.file.0 c.args.page.0 (absent g b) (idle g b) (its_spot c.args.placed)
    (placed g b) c.requires.reads.valid (place g b) (here g b) (frames g b) (serials g b) c.in-Ok.ensures.before c.in-Ok.ensures.after c.fill_by.result c.in-Ok.is c.start_fill.new.self
    c.fill_by.new.self c.pass.new.self (began g b) c.in-Ok.ensures.done c.pass.ensures

pub invariant_of-self-in-Ok : goal.invariant_of-self-in-Ok
invariant_of-self-in-Ok g c = (done g c).cache

-- the page is absent again
left : (g : Given) (c : goal.After-leave g) → c.leave.new.self ≡ record c.fill_by.new.self {
  filling = set.remove c.fill_by.new.self.filling (c.args.file.0, c.args.page.0);
  free = c.fill_by.new.self.free + 1;
  lists = lists.left c.args.file.0 c.args.page.0 c.fill_by.new.self.lists;
}
left g c =
    let b = (goal.at.invariant_of-self-in-Err g c).After-pass in
    c.leave.ensures.fill (awaits g b c.fill_by.new.self (c.in-Err.ensures.failed ∙ began g b))

-- how it failed
failed : (g : Given) (c : goal.After-leave g) → (let b = (goal.at.invariant_of-self-in-Err g c).After-pass in
    ReadGoes (parts_of c.self.inside) c.self.invariant c.args.file.0 c.args.page.0 (absent g b) (idle g b) (its_spot c.args.placed)
    (placed g b) c.requires.reads.valid (place g b) (here g b) (frames g b) (serials g b) c.in-Err.ensures.before c.in-Err.ensures.after c.fill_by.result (reply.Failed c.in-Err.code)
    (record (parts_of c.self.inside) { store = c.leave.new.self; flights = c.pass.new.self }))
failed g c =
    let b = (goal.at.invariant_of-self-in-Err g c).After-pass in
    read_fails (parts_of c.self.inside) c.self.invariant c.args.file.0 c.args.page.0 (absent g b) (idle g b) (its_spot c.args.placed)
    (placed g b) c.requires.reads.valid (place g b) (here g b) (frames g b) (serials g b) c.in-Err.ensures.before c.in-Err.ensures.after c.fill_by.result c.in-Err.code c.in-Err.is
    c.fill_by.new.self c.leave.new.self c.pass.new.self (c.in-Err.ensures.failed ∙ began g b) (left g c)
    c.pass.ensures

pub invariant_of-self-in-Err : goal.invariant_of-self-in-Err
invariant_of-self-in-Err g c = (failed g c).cache

-- the device's answer, as the branch has it and as the call gave it
reads_of : {from to : Told} {b : ℕ} {before after : List ℕ} {r q : device.Outcome} → Reads from b before r after to → q ≡ r
    → Reads from b before q after to
reads_of {from = from} {to = to} {b = b} {before = before} {after = after} h is =
    subst (λ r. Reads from b before r after to) (sym is) h

-- ---- what both have

begins : (g : Given) (c : After-pass g) (h : HandleId) → map.get c.args.self.now.state.handles h.0 ≡ Some c.args.file.0
    → Step c.args.self.now.state (event.FillBegin h c.args.page) (reply.Job (record { 0 = c.self.inside.requests.next }))
    (requested (s g c) Fill c.args.file.0 c.args.page.0)
begins g c h found =
    let r = c.requires.reads in
    let same = state_is c.self.view_is in
    let written = ap (λ o. nat_lt 0 (unwrap_or (option_map (λ (x : Spot). x.valid) o) 0)) r.placed ∙ lt_true 0 c.args.placed.valid r.valid in
    subst (λ n. Step c.args.self.now.state (event.FillBegin h c.args.page) (reply.Job (record { 0 = n }))
    (requested (s g c) Fill c.args.file.0 c.args.page.0)) (ap (λ (t : State). t.next) (sym same))
    (subst (λ t. Step c.args.self.now.state (event.FillBegin h c.args.page)
    (reply.Job (record { 0 = c.args.self.now.state.next })) (requested t Fill c.args.file.0 c.args.page.0)) (sym same)
    (read_step c.args.self.now.state h c.args.page c.args.file.0 found r.inside r.idle r.absent r.room written
    (ap is_full (sym same) ∙ room g c)))

entered_lists : (g : Given) (c : After-pass g) (h : HandleId) (t : Serial)
    → map.get c.args.self.now.state.handles h.0 ≡ Some c.args.file.0 → c.start_fill.new.self.lists
    ≡ lists_after c.args.self.now.state (event.FillBegin h c.args.page) (reply.Job t) c.args.self.now.lists
entered_lists g c h t found =
    ap (λ (x : Store). x.lists) (began g c) ∙ ap (lists.entered c.args.file.0 c.args.page.0) (lists_are c.self.view_is)
    ∙ ap (λ f. lists.entered f c.args.page.0 c.args.self.now.lists) (sym (ap (λ o. unwrap_or o 0) found))

pub returns-in-Ok : goal.returns-in-Ok
returns-in-Ok g c = λ h found.
    let b = (goal.at.returns-in-Ok g c).After-pass in
    let p = parts_of c.self.inside in
    let e = c.in-Ok.ensures in
    let page = ap (λ (x : Store). x.page) (began g b) ∙ c.self.invariant.core.page
    ∙ ap (λ (t : State). t.sizes.page) (state_is c.self.view_is) in
    record {
      begun = state_by (being_read (parts_of c.self.inside) c.self.invariant c.args.file.0 c.args.page.0 (absent g b) (idle g b) (its_spot c.args.placed)
          (placed g b) c.requires.reads.valid (place g b) (here g b) (frames g b) (serials g b) e.before e.after c.fill_by.result);
      job = read_job (parts_of c.self.inside) c.self.invariant c.args.file.0 c.args.page.0 (absent g b) (idle g b) (its_spot c.args.placed)
          (placed g b) c.requires.reads.valid (place g b) (here g b) (frames g b) (serials g b) e.before e.after c.fill_by.result;
      done = read_done (parts_of c.self.inside) c.self.invariant c.args.file.0 c.args.page.0 (absent g b) (idle g b) (its_spot c.args.placed)
          (placed g b) c.requires.reads.valid (place g b) (here g b) (frames g b) (serials g b) e.before e.after c.fill_by.result;
      begins = begins g b h found;
      its = read_its (parts_of c.self.inside) c.self.invariant c.args.file.0 c.args.page.0 (absent g b) (idle g b) (its_spot c.args.placed)
          (placed g b) c.requires.reads.valid (place g b) (here g b) (frames g b) (serials g b) e.before e.after c.fill_by.result;
      file = read_file (parts_of c.self.inside) c.self.invariant c.args.file.0 c.args.page.0 (absent g b) (idle g b) (its_spot c.args.placed)
          (placed g b) c.requires.reads.valid (place g b) (here g b) (frames g b) (serials g b) e.before e.after c.fill_by.result;
      within = (place g b).file;
      fits = record {
        cache = ap (λ (t : State). t.name) (state_is c.self.view_is);
        block = c.requires.reads.within;
        size = e.size.0 ∙ page;
      };
      makes = record {
        performs = record {
          cache = refl;
          serial = refl;
          kind = refl;
          block = refl;
          length = e.size.1 ∙ sym e.size.0;
          call = reads_of e.reads c.in-Ok.is;
        };
        unflushed = e.unflushed;
      };
      ends = (done g c).step;
      lists = ap (λ (x : Store). x.lists) e.done ∙ entered_lists g b h (record { 0 = p.flights.next }) found;
    }

pub returns-in-Err : goal.returns-in-Err
returns-in-Err g c = λ h found.
    let b = (goal.at.returns-in-Err g c).After-pass in
    let p = parts_of c.self.inside in
    let e = c.in-Err.ensures in
    let page = ap (λ (x : Store). x.page) (began g b) ∙ c.self.invariant.core.page
    ∙ ap (λ (t : State). t.sizes.page) (state_is c.self.view_is) in
    let start = entered_lists g b h (record { 0 = p.flights.next }) found in
    record {
      begun = state_by (being_read (parts_of c.self.inside) c.self.invariant c.args.file.0 c.args.page.0 (absent g b) (idle g b) (its_spot c.args.placed)
          (placed g b) c.requires.reads.valid (place g b) (here g b) (frames g b) (serials g b) e.before e.after c.fill_by.result);
      job = read_job (parts_of c.self.inside) c.self.invariant c.args.file.0 c.args.page.0 (absent g b) (idle g b) (its_spot c.args.placed)
          (placed g b) c.requires.reads.valid (place g b) (here g b) (frames g b) (serials g b) e.before e.after c.fill_by.result;
      done = read_done (parts_of c.self.inside) c.self.invariant c.args.file.0 c.args.page.0 (absent g b) (idle g b) (its_spot c.args.placed)
          (placed g b) c.requires.reads.valid (place g b) (here g b) (frames g b) (serials g b) e.before e.after c.fill_by.result;
      begins = begins g b h found;
      its = read_its (parts_of c.self.inside) c.self.invariant c.args.file.0 c.args.page.0 (absent g b) (idle g b) (its_spot c.args.placed)
          (placed g b) c.requires.reads.valid (place g b) (here g b) (frames g b) (serials g b) e.before e.after c.fill_by.result;
      file = read_file (parts_of c.self.inside) c.self.invariant c.args.file.0 c.args.page.0 (absent g b) (idle g b) (its_spot c.args.placed)
          (placed g b) c.requires.reads.valid (place g b) (here g b) (frames g b) (serials g b) e.before e.after c.fill_by.result;
      within = (place g b).file;
      fits = record {
        cache = ap (λ (t : State). t.name) (state_is c.self.view_is);
        block = c.requires.reads.within;
        size = e.size.0 ∙ page;
      };
      makes = record {
        performs = record {
          cache = refl;
          serial = refl;
          kind = refl;
          block = refl;
          length = e.size.1 ∙ sym e.size.0;
          call = reads_of e.reads c.in-Err.is;
        };
        unflushed = e.unflushed;
      };
      ends = (failed g c).step;
      lists = ap (λ (x : Store). x.lists) (left g c)
          ∙ ap (lists.left c.args.file.0 c.args.page.0) (ap (λ (x : Store). x.lists) e.failed ∙ start)
          ∙ sym (unfilled_lists (parts_of c.self.inside) c.self.invariant c.args.file.0 c.args.page.0 (absent g b) (idle g b) (its_spot c.args.placed)
          (placed g b) c.requires.reads.valid (place g b) (here g b) (frames g b) (serials g b) e.before e.after c.fill_by.result _);
    }

use Rattle.std.proofs.Common.{arith, length, ap, sym, subst, ◌∙◌, ◌≡◌}
use Rattle.pc_types.specs.declared.kind.Kind.TheVariants.{Flush}
use Rattle.blockmap.specs.Keys.{IsPage}
use Rattle.blockdev.specs.Buffer.{written_over}
use Rattle.blockdev.specs.Jobs.{Task}
use Rattle.pagestore.specs.Store.{the_page, stored_at}
use Rattle.machine.specs.State.{State}
use Rattle.machine.specs.Tests.{is_full}
use Rattle.cachecore.specs.Starting.{IsStarted, MayStart}
use Rattle.cachecore.proofs.CoreViews.{state_is}
use Rattle.cachecore.proofs.FlushCalls.{begun_cache, begun_is, cached_start, held_room, mapped_block}
use Rattle.cachecore.proofs.FlushCalls.{must_be_told, started_call, unheld_block, written_whole}
use Rattle.cachecore.proofs.Parts.{IsKept, Parts, parts_of, state_by}
use Rattle.cachecore.proofs.PlacedBlocks.{told_within}
use Rattle.cachecore.proofs.cache.CacheCore.begin_flush.Goals as goal
use Rattle.cachecore.proofs.cache.CacheCore.begin_flush.Goals.{After-self}

may : (c : After-self) → MayStart (state_by (parts_of c.self.inside)) c.args.file.0 c.args.page.0
may c = subst (λ s. MayStart s c.args.file.0 c.args.page.0) (sym (state_is c.self.view_is)) c.requires.startable

pub unreachable-requires : goal.unreachable-requires
unreachable-requires c =
    let p = parts_of c.self.inside in
    let start = may (goal.at.unreachable-requires c).After-self in
    must_be_told p c.self.invariant c.args.file.0 c.args.page.0 start c.in_default.ensures

pub start_write-requires-clause-cached : goal.start_write-requires-clause-cached
start_write-requires-clause-cached c =
    let p = parts_of c.self.inside in
    let start = may (goal.at.start_write-requires-clause-cached c).After-self in
    cached_start p c.self.invariant c.args.file.0 c.args.page.0 start

pub hold-requires-clause-mapped : goal.hold-requires-clause-mapped
hold-requires-clause-mapped c =
    let p = parts_of c.self.inside in
    let start = may (goal.at.hold-requires-clause-mapped c).After-self in
    mapped_block p c.self.invariant c.args.file.0 c.args.page.0 start c.in-Some.placed
    c.in-Some.ensures

pub hold-requires-clause-not_held : goal.hold-requires-clause-not_held
hold-requires-clause-not_held c =
    let p = parts_of c.self.inside in
    let start = may (goal.at.hold-requires-clause-not_held c).After-self in
    unheld_block p c.self.invariant c.args.file.0 c.args.page.0 start c.in-Some.placed
    c.in-Some.ensures

pub hold-requires-clause-room : goal.hold-requires-clause-room
hold-requires-clause-room c =
    let p = parts_of c.self.inside in
    let start = may (goal.at.hold-requires-clause-room c).After-self in
    held_room p c.self.invariant c.args.file.0 c.args.page.0 start c.in-Some.placed
    c.in-Some.ensures (ap is_full (state_is c.self.view_is) ∙ c.requires.room)

pub begin-serial-requires : goal.begin-serial-requires
begin-serial-requires c =
    ap is_full (state_is c.self.view_is) ∙ c.requires.room

pub invariant_of-self : goal.invariant_of-self
invariant_of-self c =
    let p = parts_of c.self.inside in
    let start = may (goal.at.invariant_of-self c).After-self in
    let is = begun_is p c.self.invariant c.args.file.0 c.args.page.0 start c.in-Some.placed
    c.in-Some.ensures _ _ _ c.start_write.ensures.begun c.hold.ensures c.begin-serial.ensures.begun in
    let few = c.self.invariant.core.few_files in
    let count = ap (λ (s : State). length s.files) (state_is c.self.view_is) in
    let here = c.requires.here in
    let place : IsPage c.args.file.0 c.args.page.0 = record { file = omega arith; page = c.requires.below } in
    subst IsKept (sym is)
    (begun_cache p c.self.invariant c.args.file.0 c.args.page.0 start place
    (ap is_full (state_is c.self.view_is) ∙ c.requires.room))

-- the page is as long as the buffer
whole : (c : After-self)
    → length (the_page (stored_at c.self.inside.pages c.args.file.0).pages c.args.page.0).bytes ≡ length c.args.buffer
whole c = (c.self.invariant.core.sized c.args.file.0).each c.args.page.0
    (cached_start (parts_of c.self.inside) c.self.invariant c.args.file.0 c.args.page.0 (may c))
    ∙ ap (λ (s : State). s.sizes.page) (state_is c.self.view_is) ∙ sym c.requires.size

copy : (c : goal.After-new) → written_over c.args.buffer c.start_write.new.out
    ≡ (the_page (stored_at c.self.inside.pages c.args.file.0).pages c.args.page.0).bytes
copy c = written_whole c.args.buffer c.start_write.new.out
    (ap length c.start_write.ensures.copy ∙ whole (goal.at.returns-clause-fits c).After-self) ∙ c.start_write.ensures.copy

pub returns-clause-begun : goal.returns-clause-begun
returns-clause-begun c =
    let p = parts_of c.self.inside in
    let start = may (goal.at.returns-clause-begun c).After-self in
    let is = begun_is p c.self.invariant c.args.file.0 c.args.page.0 start c.in-Some.placed
    c.in-Some.ensures _ _ _ c.start_write.ensures.begun c.hold.ensures c.begin-serial.ensures.begun in
    let copied = copy c in
    let job =
    c.new.ensures ∙ (λ k. let task : Task =
    record {
      cache = p.name;
      serial = c.begin-serial.result.0;
      kind = Flush;
      block = c.in-Some.placed.block.0;
      bytes = copied k;
    } in task) in
    let call = started_call p c.self.invariant c.args.file.0 c.args.page.0 start
    c.in-Some.placed c.in-Some.ensures c.begin-serial.result c.begin-serial.ensures.serial c.new.result job in
    let now : Parts =
    record p { store = c.start_write.new.self; blocks = c.hold.new.self; flights = c.begin-serial.new.self } in
    subst (λ s. IsStarted s c.args.file.0 c.args.page.0 c.new.result (state_by now))
    (state_is c.self.view_is)
    (subst (λ (x : Parts). IsStarted (state_by p) c.args.file.0 c.args.page.0 c.new.result
    (state_by x)) (sym is) call)

pub returns-clause-fits : goal.returns-clause-fits
returns-clause-fits c =
    let p = parts_of c.self.inside in
    let start = may (goal.at.returns-clause-fits c).After-self in
    let within = told_within (state_by p) p.store p.blocks c.self.invariant.core
    c.free_count.ensures.always (c.args.file.0, c.args.page.0) c.in-Some.placed c.in-Some.ensures in
    let copied = copy c in
    let sized = whole (goal.at.returns-clause-fits c).After-self in
    let same = ap (λ (t : State). t.sizes.blocks) (state_is c.self.view_is) in
    let block = ap (λ (t : Task). t.block) c.new.ensures in
    record {
      cache = ap (λ (t : Task). t.cache) c.new.ensures ∙ ap (λ (t : State). t.name) (state_is c.self.view_is);
      block = omega arith;
      size = ap (λ (t : Task). length t.bytes) c.new.ensures ∙ ap length copied ∙ sized ∙ c.requires.size;
    }

use Rattle.std.proofs.Common.{◌≡◌, ℕ, ◌<◌, false, length, ap, sym, refl, subst, ◌∙◌, arith}
use Rattle.std.specs.Prelude.{if◌then◌else◌, Some}
use Rattle.pc_types.specs.Spots.{Spot}
use Rattle.pc_types.specs.declared.kind.Kind.TheVariants.{Fill}
use Rattle.pc_types.specs.declared.refusal.Refusal.TheVariants.{Memory, TooManyInFlight}
use Rattle.machine.specs.State.{State, free_frames, is_cached, is_filling, spot_at}
use Rattle.machine.specs.Changes.{requested}
use Rattle.machine.specs.Tests.{is_full}
use Rattle.machine.specs.PageLists.{entered}
use Rattle.pagestore.specs.Store.{Store}
use Rattle.pagestore.proofs.PairLemmas.{when_err, when_ok}
use Rattle.cachecore.specs.Core.{Core}
use Rattle.cachecore.specs.Nexts.{its_spot}
use Rattle.cachecore.specs.Tables.{state_of}
use Rattle.cachecore.proofs.CoreLemmas.{free_frames_are}
use Rattle.cachecore.proofs.FillCalls.{reading, reading_cache, reading_is}
use Rattle.cachecore.proofs.FillKeeps.{mapped_here, unheld_here}
use Rattle.cachecore.proofs.FlushKeeps.{held_room, serials_left}
use Rattle.cachecore.proofs.Parts.{IsKept, Parts, parts_of, state_by}
use Rattle.cachecore.proofs.CoreViews.{lists_are, state_is}
use Rattle.cachecore.proofs.cache.CacheCore.begin_read.Goals as goal
use Rattle.cachecore.proofs.cache.CacheCore.begin_read.Goals.{After-self}

pub returns-then-is_full-clause-refused : goal.returns-then-is_full-clause-refused
returns-then-is_full-clause-refused c =
    let full = ap is_full (sym (state_is c.self.view_is)) ∙ sym c.is_full.ensures ∙ c.if-is_full.true in
    (refl, ap (λ b. if b then TooManyInFlight else Memory) (sym full))

pub returns-then-is_err-clause-refused : goal.returns-then-is_err-clause-refused
returns-then-is_err-clause-refused c =
    let i = c.self.inside in
    let full = ap is_full (sym (state_is c.self.view_is)) ∙ sym c.is_full.ensures ∙ c.if-is_full.false in
    let same = when_err c.start_fill.result (c.start_fill.new.self ≡ i.pages) c.if-is_err.ensures.value
    c.start_fill.ensures.err in (
      ap (λ (p : Store). let k : Core =
          record {
            state = state_of i.geometry i.name p.files i.handles i.blocks i.requests i.syncs;
            lists = p.lists;
          } in
          k) same ∙ c.self.view_is,
      ap (λ b. if b then TooManyInFlight else Memory) (sym full),
    )

-- the page is absent, is not read, and its block is placed
record Fits (s : State) (f p : ℕ) (spot : Spot) : Type 0 where
  absent : is_cached s f p ≡ false
  idle : is_filling s f p ≡ false
  at : spot_at s f p ≡ Some spot

abbrev spot : After-self → Spot
spot c = its_spot c.args.placed

fits : (c : After-self) → Fits (state_by (parts_of c.self.inside)) c.args.file c.args.page.0 (spot c)
fits c =
    let same = state_is c.self.view_is in
    record {
      absent = ap (λ (s : State). is_cached s c.args.file c.args.page.0) same ∙ c.requires.absent;
      idle = ap (λ (s : State). is_filling s c.args.file c.args.page.0) same ∙ c.requires.idle;
      at = ap (λ (s : State). spot_at s c.args.file c.args.page.0) same ∙ c.requires.placed;
    }

pub hold-requires-clause-mapped : goal.hold-requires-clause-mapped
hold-requires-clause-mapped c =
    let p = parts_of c.self.inside in
    let w = fits (goal.at.hold-requires-clause-mapped c).After-self in
    mapped_here c.self.invariant.core c.args.file c.args.page.0 w.absent w.idle
    (spot (goal.at.hold-requires-clause-mapped c).After-self) w.at refl

pub hold-requires-clause-not_held : goal.hold-requires-clause-not_held
hold-requires-clause-not_held c =
    let p = parts_of c.self.inside in
    let w = fits (goal.at.hold-requires-clause-not_held c).After-self in
    unheld_here c.self.invariant.core c.args.file c.args.page.0 w.absent w.idle
    (spot (goal.at.hold-requires-clause-not_held c).After-self) w.at

pub hold-requires-clause-room : goal.hold-requires-clause-room
hold-requires-clause-room c =
    let p = parts_of c.self.inside in
    held_room c.self.invariant.core (sym c.is_full.ensures ∙ c.if-is_full.false)

begun : (c : goal.After-begin) → (let w = fits (goal.at.invariant_of-self-2 c).After-self in
    let now : Parts =
    record (parts_of c.self.inside) {
      store = c.start_fill.new.self;
      blocks = c.hold.new.self;
      flights = c.begin.new.self;
    } in
    now ≡ reading (parts_of c.self.inside) c.self.invariant c.args.file c.args.page.0 w.absent w.idle
    (spot (goal.at.invariant_of-self-2 c).After-self) w.at)
begun c =
    let w = fits (goal.at.invariant_of-self-2 c).After-self in
    reading_is (parts_of c.self.inside) c.self.invariant c.args.file c.args.page.0 w.absent w.idle
    (spot (goal.at.invariant_of-self-2 c).After-self) w.at _ _ _
    (when_ok c.start_fill.result _ c.if-is_err.ensures.value c.start_fill.ensures.ok) c.hold.ensures
    c.begin.ensures.begun

pub invariant_of-self-2 : goal.invariant_of-self-2
invariant_of-self-2 c =
    let p = parts_of c.self.inside in
    let s = state_by p in
    let w = fits (goal.at.invariant_of-self-2 c).After-self in
    let same = state_is c.self.view_is in
    let room = sym c.is_full.ensures ∙ c.if-is_full.false in
    let here : c.args.file < length p.store.files =
    subst (λ (s : State). c.args.file < length s.files) (sym same) c.requires.here in
    let free = free_frames_are c.self.invariant.core in
    let frames = ap free_frames same in
    let few = c.self.invariant.core.few_files in
    subst IsKept (sym (begun c))
    (reading_cache p c.self.invariant c.args.file c.args.page.0 w.absent w.idle
    (spot (goal.at.invariant_of-self-2 c).After-self) w.at
    (record { file = omega (arith, here, few); page = c.requires.below }) here c.requires.valid
    (omega (arith, free, frames, c.requires.room)) (serials_left c.self.invariant.core room))

pub returns-clause-begun : goal.returns-clause-begun
returns-clause-begun c =
    let same = state_is c.self.view_is in (
      ap is_full (sym same) ∙ sym c.is_full.ensures ∙ c.if-is_full.false,
      c.begin.ensures.serial ∙ ap (λ (s : State). s.next) same,
      ap state_by (begun c) ∙ ap (λ (s : State). requested s Fill c.args.file c.args.page.0) same,
      ap (λ (x : Store). x.lists)
          (when_ok c.start_fill.result _ c.if-is_err.ensures.value c.start_fill.ensures.ok)
          ∙ ap (entered c.args.file c.args.page.0) (lists_are c.self.view_is),
    )

use Rattle.std.proofs.Common.{sym, ap, subst, refl, ◌∙◌, ◌≡◌, arith, IsSome, w32, not, eqb, None}
use Rattle.std.proofs.Math.Facts.{Fits-lt-pow}
use Rattle.std.proofs.lemmas.Result.{IfOk-at_ok}
use Rattle.xarray.specs.MarkedArray.{Array, entry_at, remarked, stored}
use Rattle.xarray.specs.declared.entry.Mark.TheVariants.{M0}
use Rattle.idalloc.specs.Bitmaps.{full}
use Rattle.idalloc.specs.Marked.{AreMarked, bitmaps}
use Rattle.idalloc.proofs.MarkLemmas.{alike, held_entry, kept, kept-marked, stored_entry, turned, turned-marked}
use Rattle.idalloc.proofs.bitmaps.put.Goals as goal

pub unwrap-before-requires : goal.unwrap-before-requires
unwrap-before-requires c = c.store.ensures.over (omega arith) (held_entry c.args.array.now.ranges c.args.index c.args.before c.requires.marked c.requires.there)

pub mark_room-requires : goal.mark_room-requires
mark_room-requires c =
    let now = IfOk-at_ok (λ _. c.store.new.self ≡ record { ranges = stored c.args.array.now.ranges c.args.index c.args.bits; ready = None }) c.unwrap-before.ensures c.store.ensures.stores in
    subst (λ (a : Array). IsSome (entry_at a.ranges c.args.index)) (sym now)
    (stored_entry c.args.array.now.ranges c.args.index c.args.before c.args.bits c.requires.marked c.requires.there)

pub returns-then-has_room-before-clause-marked : goal.returns-then-has_room-before-clause-marked
returns-then-has_room-before-clause-marked c =
    let now = IfOk-at_ok (λ _. c.store.new.self ≡ record { ranges = stored c.args.array.now.ranges c.args.index c.args.bits; ready = None }) c.unwrap-before.ensures c.store.ensures.stores in
    subst AreMarked (sym (c.mark_room.ensures ∙ ap (λ (a : Array). remarked a.ranges c.args.index M0 (not (eqb c.args.bits full))) now))
    (turned-marked c.args.array.now.ranges c.args.index c.args.before c.args.bits (not (eqb c.args.bits full)) c.requires.marked c.requires.there (Fits-lt-pow {w = w32} c.ranges.bits) refl)

pub returns-then-has_room-before-clause-changed : goal.returns-then-has_room-before-clause-changed
returns-then-has_room-before-clause-changed c =
    let now = IfOk-at_ok (λ _. c.store.new.self ≡ record { ranges = stored c.args.array.now.ranges c.args.index c.args.bits; ready = None }) c.unwrap-before.ensures c.store.ensures.stores in
    ap bitmaps (c.mark_room.ensures ∙ ap (λ (a : Array). remarked a.ranges c.args.index M0 (not (eqb c.args.bits full))) now)
    ∙ turned c.args.array.now.ranges c.args.index c.args.before c.args.bits (not (eqb c.args.bits full)) c.requires.marked c.requires.there

pub returns-else-has_room-before-clause-marked : goal.returns-else-has_room-before-clause-marked
returns-else-has_room-before-clause-marked c =
    let now = IfOk-at_ok (λ _. c.store.new.self ≡ record { ranges = stored c.args.array.now.ranges c.args.index c.args.bits; ready = None }) c.unwrap-before.ensures c.store.ensures.stores in
    subst (λ (a : Array). AreMarked a.ranges) (sym now)
    (kept-marked c.args.array.now.ranges c.args.index c.args.before c.args.bits c.requires.marked c.requires.there (Fits-lt-pow {w = w32} c.ranges.bits) (alike (not (eqb c.args.bits full)) (not (eqb c.args.before full)) c.if-has_room-before.false))

pub returns-else-has_room-before-clause-changed : goal.returns-else-has_room-before-clause-changed
returns-else-has_room-before-clause-changed c =
    let now = IfOk-at_ok (λ _. c.store.new.self ≡ record { ranges = stored c.args.array.now.ranges c.args.index c.args.bits; ready = None }) c.unwrap-before.ensures c.store.ensures.stores in
    ap (λ (a : Array). bitmaps a.ranges) now
    ∙ kept c.args.array.now.ranges c.args.index c.args.before c.args.bits c.requires.marked c.requires.there

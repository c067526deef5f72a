use Rattle.std.proofs.Common.{sym, ap, subst, refl, ◌∙◌, ◌≡◌, arith, IsSome, w32, true, None}
use Rattle.std.proofs.Math.Facts.{Fits-lt-pow}
use Rattle.std.proofs.lemmas.Result.{IfOk-at_ok, err_from_is_err_and}
use Rattle.xarray.specs.MarkedArray.{Array, entry_at, remarked, unmarked}
use Rattle.xarray.specs.declared.entry.Mark.TheVariants.{M0}
use Rattle.idalloc.specs.Marked.{AreMarked, bitmaps}
use Rattle.idalloc.proofs.MarkLemmas.{added, added-marked, entry_at_none, made_entry}
use Rattle.idalloc.proofs.bitmaps.add.Goals as goal

pub returns-in_err-insert-clause-memory : goal.returns-in_err-insert-clause-memory
returns-in_err-insert-clause-memory c =
    let p = err_from_is_err_and c.from_residual.result c.from_residual.ensures.1 in
    rw (p.1, p.2) (c.in_err-insert.ensures.memory (omega arith) (entry_at_none c.args.array.now.ranges c.args.index c.requires.marked c.requires.absent))

pub unwrap-requires : goal.unwrap-requires
unwrap-requires c = c.set_mark.ensures.held (subst (λ (a : Array). IsSome (entry_at a.ranges c.args.index)) (sym c.in_ok-insert.ensures.inserts) (made_entry c.args.array.now.ranges c.args.index (unmarked 0 c.args.bits) c.requires.marked refl))

pub returns-clause-marked : goal.returns-clause-marked
returns-clause-marked c =
    let set = IfOk-at_ok (λ _. c.set_mark.new.self ≡ record { ranges = remarked c.insert.new.self.ranges c.args.index M0 true; ready = None }) c.unwrap.ensures c.set_mark.ensures.sets in
    subst (λ (a : Array). AreMarked a.ranges) (sym set)
    (subst (λ (a : Array). AreMarked (remarked a.ranges c.args.index M0 true)) (sym c.in_ok-insert.ensures.inserts)
    (added-marked c.args.array.now.ranges c.args.index c.args.bits c.requires.marked (Fits-lt-pow {w = w32} c.ranges.bits) c.requires.room))

pub returns-clause-ok : goal.returns-clause-ok
returns-clause-ok c =
    let set = IfOk-at_ok (λ _. c.set_mark.new.self ≡ record { ranges = remarked c.insert.new.self.ranges c.args.index M0 true; ready = None }) c.unwrap.ensures c.set_mark.ensures.sets in
    ap (λ (a : Array). bitmaps a.ranges) set
    ∙ ap (λ (a : Array). bitmaps (remarked a.ranges c.args.index M0 true)) c.in_ok-insert.ensures.inserts
    ∙ added c.args.array.now.ranges c.args.index c.args.bits c.requires.marked

use Rattle.std.proofs.Common.{sym, subst, refl, ◌∙◌, ◌+◌, None, Some}
use Rattle.std.proofs.lemmas.Option.{same_Some}
use Rattle.idalloc.specs.Bitmaps.{Bitmaps, IsTidy, full}
use Rattle.idalloc.proofs.TidyLemmas.{changed}
use Rattle.idalloc.proofs.changes.shrink.Goals as goal

pub drop_idle-requires : goal.drop_idle-requires
drop_idle-requires c =
    subst (λ (m : Bitmaps). IsTidy m (Some (c.args.index + 1))) (sym c.replace.ensures)
    (changed c.args.bitmaps.now c.args.index c.args.bits (Some (c.args.index + 1)) c.requires.tidy c.requires.room (λ empty. absurd (c.requires.some c.if-before-eq-FULL.true empty)) (λ _. refl))

pub drop_idle-requires-then-bits-eq0 : goal.drop_idle-requires-then-bits-eq0
drop_idle-requires-then-bits-eq0 c =
    subst (λ (m : Bitmaps). IsTidy m (Some c.args.index)) (sym c.replace.ensures)
    (changed c.args.bitmaps.now c.args.index c.args.bits (Some c.args.index) c.requires.tidy c.requires.room (λ _. refl) (λ was_full. absurd (c.if-before-eq-FULL.false (same_Some c.args.before full (sym c.requires.there ∙ was_full)))))

pub returns-else-bits-eq0-clause-tidy : goal.returns-else-bits-eq0-clause-tidy
returns-else-bits-eq0-clause-tidy c =
    subst (λ (m : Bitmaps). IsTidy m None) (sym c.replace.ensures)
    (changed c.args.bitmaps.now c.args.index c.args.bits None c.requires.tidy c.requires.room (λ empty. absurd (c.if-bits-eq0.false empty)) (λ was_full. absurd (c.if-before-eq-FULL.false (same_Some c.args.before full (sym c.requires.there ∙ was_full)))))

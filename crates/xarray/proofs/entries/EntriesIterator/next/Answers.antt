use Rattle.std.proofs.Common.{◌≡◌, refl, sym, ap, ◌∙◌, length, rules, arith}
use Rattle.xarray.specs.View.{ranges_of}
use Rattle.xarray.specs.Walks.{IsNear, IsOn, kind_of, left}
use Rattle.xarray.proofs.NearLemmas.{near_first, near_none, near_place, on_twig}
use Rattle.xarray.proofs.entries.EntriesIterator.next.Goals as goal

pub next_on-requires-clause-twig : goal.next_on-requires-clause-twig
next_on-requires-clause-twig c = (rw (c.in-Some.is) at (c.self.invariant.on c.in_ok-from.from c.in_ok-from.was)).twig

pub step-requires-clause-twig : goal.step-requires-clause-twig
step-requires-clause-twig c = on_twig c.self.inside.ranged.now c.self.inside.mark c.in_ok-from.from c.self.inside.twig (c.self.invariant.on c.in_ok-from.from c.in_ok-from.was)

pub returns-then-place-self-clause-steps : goal.returns-then-place-self-clause-steps
returns-then-place-self-clause-steps c =
    let it = c.self.inside in
    let m = ranges_of it.ranged.now in
    let from = c.in_ok-from.from in
    let on : IsOn it.ranged.now it.mark from c.in-Some.twig = rw (c.in-Some.is) at (c.self.invariant.on from c.in_ok-from.was) in
    let near = c.in-Some-next_on.ensures.near it.mark on.mark_is it.to (c.self.invariant.le from c.in_ok-from.was) in
    let none = near_none m it.mark from it.to c.in-Some-next_on.onward.place c.in-Some-next_on.onward.value near c.if-place-self.true in
    (sym c.self.view_is ∙ ap (λ n. left it.mark m n it.to) c.in_ok-from.was ∙ none, refl)

pub invariant_of-self-2 : goal.invariant_of-self-2
invariant_of-self-2 c =
    let it = c.self.inside in
    let from = c.in_ok-from.from in
    let onward = c.in-Some-next_on.onward in
    let on : IsOn it.ranged.now it.mark from c.in-Some.twig = rw (c.in-Some.is) at (c.self.invariant.on from c.in_ok-from.was) in
    let near = c.in-Some-next_on.ensures.near it.mark on.mark_is it.to (c.self.invariant.le from c.in_ok-from.was) in
    near_place (ranges_of it.ranged.now) it.mark from it.to onward.place onward.value near (omega (arith, c.if-place-self.false))
    c.index_after-self-inside.result c.index_after-self-inside.ensures it.ranged.now refl onward.twig c.in-Some-next_on.ensures.twig (c.in-Some-next_on.ensures.mark ∙ on.mark_is) it.slot

pub returns-clause-steps : goal.returns-clause-steps
returns-clause-steps c =
    let it = c.self.inside in
    let m = ranges_of it.ranged.now in
    let from = c.in_ok-from.from in
    let onward = c.in-Some-next_on.onward in
    let on : IsOn it.ranged.now it.mark from c.in-Some.twig = rw (c.in-Some.is) at (c.self.invariant.on from c.in_ok-from.was) in
    let near = c.in-Some-next_on.ensures.near it.mark on.mark_is it.to (c.self.invariant.le from c.in_ok-from.was) in
    sym c.self.view_is ∙ ap (λ n. left it.mark m n it.to) c.in_ok-from.was
    ∙ near_first m it.mark from it.to onward.place onward.value near (omega (arith, c.if-place-self.false)) c.index_after-self-inside.result c.index_after-self-inside.ensures (record { first = onward.place; order = 0; value = onward.value }) refl

pub returns-clause-goes : goal.returns-clause-goes
returns-clause-goes c =
    let it = c.self.inside in
    let m = ranges_of it.ranged.now in
    let from = c.in_ok-from.from in
    let onward = c.in-Some-next_on.onward in
    let on : IsOn it.ranged.now it.mark from c.in-Some.twig = rw (c.in-Some.is) at (c.self.invariant.on from c.in_ok-from.was) in
    let near = c.in-Some-next_on.ensures.near it.mark on.mark_is it.to (c.self.invariant.le from c.in_ok-from.was) in
    let step = sym c.self.view_is ∙ ap (λ n. left it.mark m n it.to) c.in_ok-from.was
    ∙ near_first m it.mark from it.to onward.place onward.value near (omega (arith, c.if-place-self.false)) c.index_after-self-inside.result c.index_after-self-inside.ensures (record { first = onward.place; order = 0; value = onward.value }) refl in
    let shorter = ap length step in
    search rules

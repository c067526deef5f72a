use Rattle.std.proofs.Common.{sym, ap, subst, ◌∙◌, ◌≡◌, ◌+◌, ◌*◌, ◌/◌, ◌<◌, arith}
use Rattle.std.specs.FinMap as map
use Rattle.idalloc.specs.Search.{IsFirstClear}
use Rattle.idalloc.proofs.SearchLemmas.{after_found, after_none}
use Rattle.idalloc.proofs.search.lowest_after.Goals as goal

pub returns-in_err-at : goal.returns-in_err-at
returns-in_err-at c = rw c.from_residual.ensures (after_none c.args.bitmaps.now (c.args.index + 1) c.args.last c.requires.tidy c.requires.last (sym c.is_followed.ensures ∙ c.if-not-is_followed.false) c.in_err-at.ensures)

pub returns : goal.returns
returns c =
    let m = c.args.bitmaps.now in
    let found = c.in_ok-at.ensures in
    let within : c.lowest_zero.result < 32 = c.lowest_zero.ensures.within in
    let number = c.at.ensures.number in
    let index : c.at.result.number / 32 ≡ c.in_ok-at.at = omega (arith, number, within) in
    let first = after_found m (c.args.index + 1) c.args.last c.in_ok-at.at c.in_ok-at.bits c.lowest_zero.result c.requires.tidy c.requires.last (sym c.is_followed.ensures ∙ c.if-not-is_followed.false) found c.lowest_zero.ensures in
    (subst (λ n. IsFirstClear m (32 * (c.args.index + 1)) n) (sym number) first, c.at.ensures.bitmap ∙ sym (ap (map.get m) index ∙ found.there))

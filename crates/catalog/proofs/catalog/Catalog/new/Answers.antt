use Rattle.std.proofs.Common.{List, ℕ, sym, subst, ◌∙◌}
use Rattle.std.specs.FinMap as map
use Rattle.blockmap.specs.Blocks.{Blocks}
use Rattle.catalog.specs.Kept.{IsKept}
use Rattle.catalog.proofs.Keeping.{kept_new}
use Rattle.catalog.proofs.catalog.Catalog.new.Goals as goal

pub invariant_of-result : goal.invariant_of-result
invariant_of-result c =
    let P = c.page.result in
    let n = c.blocks-2.result in
    let same = c.blocks-3.ensures.value ∙ sym c.blocks-2.ensures.value in
    subst (λ (b : Blocks). IsKept P n c.new.result.items b) (sym (c.new-2.ensures ∙ (λ i. record { count = same i; spots = map.empty; held = map.empty })))
    (subst (λ (xs : List ℕ). IsKept P n xs (record { count = n; spots = map.empty; held = map.empty })) (sym c.new.ensures.items)
    (kept_new P n c.page.ensures.least c.page.ensures.most c.blocks-2.ensures.most))

use Rattle.std.proofs.Common.{◌∙◌, sym, subst}
use Rattle.std.specs.Prelude.{IsTrue}
use Rattle.std.specs.Int.{is_power_of_two}
use Rattle.pagestore.proofs.PowerLaws.{page_power, power_is}
use Rattle.pagestore.proofs.layout.Layout.new.Goals as goal

pub invariant_of-result : goal.invariant_of-result
invariant_of-result c =
    let page = c.page.result in (
      c.ilog2.ensures.bound,
      sym c.page.ensures.value
          ∙ power_is page c.ilog2.result
          (subst (λ n. IsTrue (is_power_of_two n)) (sym c.page.ensures.value)
          (page_power c.args.geometry.now c.page.ensures.within)) c.ilog2.ensures.power_le c.ilog2.ensures.next_power_gt,
    )

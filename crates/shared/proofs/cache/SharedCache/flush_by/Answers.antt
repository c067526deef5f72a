use Rattle.std.proofs.Common.{◌∙◌, ap, length, sym}
use Rattle.pc_types.specs.declared.kind.Kind.TheVariants.{Flush}
use Rattle.shared.proofs.Ending.{back_sized, made_as}
use Rattle.shared.proofs.Owning.{only_flush_end}
use Rattle.shared.proofs.Rooming.{failed_by}
use Rattle.shared.proofs.Settling.{done_ends}
use Rattle.shared.proofs.cache.SharedCache.flush_by.Goals as goal

pub returns-clause-only : goal.returns-clause-only
returns-clause-only g c =
    only_flush_end _ _ _ _ _ _ _
    (made_as Flush c.carry_out-report.result c.end-ended.result.0 _ _ _ _ _ (c.carry_out-report.ensures.same.1 ∙ c.requires.kind)
    c.end-ended.ensures.made)

pub returns-clause-failed : goal.returns-clause-failed
returns-clause-failed g c e =
    failed_by _ _ _ _ _ _ _
    (made_as Flush c.carry_out-report.result c.end-ended.result.0 _ _ _ _ _ (c.carry_out-report.ensures.same.1 ∙ c.requires.kind)
    c.end-ended.ensures.made) (sym c.written.ensures.is ∙ e)

pub returns-clause-size : goal.returns-clause-size
returns-clause-size g c =
    ap length c.written.ensures.back ∙ back_sized _ c.carry_out-report.result g.B.Naming.sizes.page c.end-ended.ensures.back
    c.carry_out-report.ensures.size

pub returns-clause-ends : goal.returns-clause-ends
returns-clause-ends g c =
    done_ends g.B.Naming.name Flush c.args.job c.carry_out-report.result _ _ _ _ _ _ c.requires.kind c.requires.fits.cache
    c.carry_out-report.ensures.same c.end-ended.ensures.made

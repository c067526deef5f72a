use Rattle.std.proofs.Common.{◌∙◌, subst, sym}
use Rattle.std.specs.Prelude.{Ok}
use Rattle.cachecore.specs.Replies.{end_of, fill_ended}
use Rattle.cachecore.specs.declared.answers.Ended.{Ended}
use Rattle.machine.specs.declared.event.Event.TheVariants as event
use Rattle.pc_types.specs.declared.kind.Kind.TheVariants.{Fill}
use Rattle.held.specs.Entered.{Made}
use Rattle.shared.specs.Denials.{IsDenied}
use Rattle.shared.specs.Own.{IsHelp}
use Rattle.shared.proofs.Ending.{made_as}
use Rattle.shared.proofs.Making.{failed_end}
use Rattle.shared.proofs.Owning.{only_fill_end}
use Rattle.shared.proofs.Settling.{done_ends}
use Rattle.shared.proofs.cache.SharedCache.fill_by.Goals as goal

pub returns-in-Failed-clause-denied : goal.returns-in-Failed-clause-denied
returns-in-Failed-clause-denied g c =
    subst (IsDenied g.B.Naming.files g.B.Naming.sizes g.B.Naming.name g.B.Naming.whole (IsHelp c.args.handle) c.args.seat.now c.end-ended.new.seat) (sym c.by.ensures)
    (failed_end g.B.Naming.files g.B.Naming.sizes g.B.Naming.name g.B.Naming.whole c.args.handle (end_of c.carry_out-report.result) c.in-Failed.field-0 c.in-Failed.code c.in-Failed.field-2
    c.deref_mut-2.result.now c.end-ended.new.self c.args.seat.now c.end-ended.new.seat c.end-ended.result.2
    (subst (λ (x : Ended). Made (event.End Fill (end_of c.carry_out-report.result)) (fill_ended (Ok x))
    c.deref_mut-2.result.now c.end-ended.new.self c.args.seat.now c.end-ended.new.seat c.end-ended.result.2)
    c.in-Failed.is
    (made_as Fill c.carry_out-report.result c.end-ended.result.0 _ _ _ _ _ (c.carry_out-report.ensures.same.1 ∙ c.requires.kind)
    c.end-ended.ensures.made)))

pub returns-in-Failed-clause-only : goal.returns-in-Failed-clause-only
returns-in-Failed-clause-only g c =
    only_fill_end c.args.handle _ _ _ _ _ _ _
    (made_as Fill c.carry_out-report.result c.end-ended.result.0 _ _ _ _ _ (c.carry_out-report.ensures.same.1 ∙ c.requires.kind)
    c.end-ended.ensures.made)

pub returns-clause-only : goal.returns-clause-only
returns-clause-only g c =
    only_fill_end c.args.handle _ _ _ _ _ _ _
    (made_as Fill c.carry_out-report.result c.end-ended.result.0 _ _ _ _ _ (c.carry_out-report.ensures.same.1 ∙ c.requires.kind)
    c.end-ended.ensures.made)

pub returns-in-Failed-clause-ends : goal.returns-in-Failed-clause-ends
returns-in-Failed-clause-ends g c =
    done_ends g.B.Naming.name Fill c.args.job c.carry_out-report.result _ _ _ _ _ _ c.requires.kind c.requires.fits.cache
    c.carry_out-report.ensures.same c.end-ended.ensures.made

pub returns-clause-ends : goal.returns-clause-ends
returns-clause-ends g c =
    done_ends g.B.Naming.name Fill c.args.job c.carry_out-report.result _ _ _ _ _ _ c.requires.kind c.requires.fits.cache
    c.carry_out-report.ensures.same c.end-ended.ensures.made

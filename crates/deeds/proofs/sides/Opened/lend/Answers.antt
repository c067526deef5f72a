use Rattle.std.proofs.Common.{rules, ◌<◌, length, refl, sym, subst}
use Rattle.deeds.specs.Shown.{OpenedSeen}
use Rattle.deeds.specs.Views.{desk_in, home_in}
use Rattle.deeds.proofs.Counts.{length_uncalled}
use Rattle.deeds.proofs.Lending.{home_there, lends}
use Rattle.deeds.proofs.sides.Opened.lend.Goals as goal

pub give-deed-requires-clause-home : goal.give-deed-requires-clause-home
give-deed-requires-clause-home c =
    home_there _ _ _ _ c.self.invariant.4
    (subst (λ n. c.args.job.block < n) (sym (length_uncalled _))
    (subst (λ (o : OpenedSeen). c.args.job.block < length o.blocks) (sym c.self.view_is) c.requires))

pub invariant_of-lent : goal.invariant_of-lent
invariant_of-lent c = let was = c.self.invariant in
    let desk = lends _ _ _ _ record {
      task = c.args.job;
      before = home_in (desk_in c.self.inside.desk.me.0).1 c.args.job.block;
    } was.4
    (subst (λ n. c.args.job.block < n) (sym (length_uncalled _))
    (subst (λ (o : OpenedSeen). c.args.job.block < length o.blocks) (sym c.self.view_is) c.requires)) refl
    c.give-deed.ensures.desk in (was.0, was.1, search rules, was.3, desk.0, desk.1)

use Rattle.std.proofs.Common.{◌+◌, ◌/◌, None, Some, ◌∙◌, sym, subst, arith}
use Rattle.radix.specs.Entries.{StandsAt}
use Rattle.xarray.specs.Walks.{IsOn}
use Rattle.xarray.proofs.ranged.Ranged.twig_of.Goals as goal

pub entry_twig-requires : goal.entry_twig-requires
entry_twig-requires c = subst (λ l. StandsAt c.self.inside.nodes c.args.cursor l (c.args.place / 64)) (omega (arith, c.if-level-gt0.false)) (rw (sym c.self.view_is) at c.requires)

pub marked_twig-requires-clause-stands : goal.marked_twig-requires-clause-stands
marked_twig-requires-clause-stands c = subst (λ l. StandsAt c.self.inside.nodes c.args.cursor l (c.args.place / 64)) (omega (arith, c.if-level-gt0.false)) (rw (sym c.self.view_is) at c.requires)

pub returns-in-None : goal.returns-in-None
returns-in-None c =
    let on : IsOn c.self.inside.nodes None (c.args.place + 1) c.entry_twig.result = record { twig = c.entry_twig.ensures.on; mark_is = c.entry_twig.ensures.mark } in
    (omega (arith, c.if-level-gt0.false), rw (c.in-None.is) (rw (c.self.view_is) at on))

pub returns-in-Some : goal.returns-in-Some
returns-in-Some c =
    let on : IsOn c.self.inside.nodes (Some c.in-Some.mark) (c.args.place + 1) c.marked_twig.result = record { twig = c.marked_twig.ensures.on; mark_is = c.marked_twig.ensures.mark ∙ c.number.ensures } in
    (omega (arith, c.if-level-gt0.false), rw (c.in-Some.is) (rw (c.self.view_is) at on))

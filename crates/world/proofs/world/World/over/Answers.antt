use Rattle.std.proofs.Common.{ap, ◌∙◌, subst, sym, ◌≡◌, arith}
use Rattle.std.specs.Prelude.{IfSome}
use Rattle.cachecore.specs.Core.{Core}
use Rattle.runs.specs.Runs.{Adopts}
use Rattle.world.specs.Flights.{IsWorld, seen_of}
use Rattle.world.specs.Stepping.{adopted_world, world_of}
use Rattle.blockdev.specs.Watching.{Watch}
use Rattle.world.proofs.FirstWorld.{first_is, first_kept, is_first}
use Rattle.world.proofs.world.World.over.Goals as goal

pub invariant_of-result : goal.invariant_of-result
invariant_of-result g c = (
  subst (λ (d : Watch). IsWorld c.in-Ok-over.core.state c.in-Ok.jobs d) (sym c.over-in-Ok-over.ensures)
      (first_kept c.args.geometry.now c.args.name c.args.catalog.files c.in-Ok-over.core.state c.in-Ok.jobs (g.D.BlockDevice.told c.args.device)
      (ap (λ (k : Core). k.state) c.in-Ok-over.ensures.adopted) c.in-Ok.ensures
      (let a = c.page.ensures.least in let b = c.page.ensures.value in omega arith)
      (sym c.block_size.ensures ∙ c.if-block_size-page.false ∙ c.page.ensures.value)
      (sym c.blocks-else-block_size-page.ensures.count ∙ c.if-blocks.false
      ∙ c.blocks-else-block_size-page-2.ensures.value)),
  tt,
)

pub returns-in-Ok-over-clause-fresh : goal.returns-in-Ok-over-clause-fresh
returns-in-Ok-over-clause-fresh g c =
    subst (λ (d : Watch). seen_of c.in-Ok-over.core.state c.in-Ok.jobs d
    ≡ adopted_world c.args.geometry.now c.args.name c.args.catalog.files (g.D.BlockDevice.told c.args.device))
    (sym c.over-in-Ok-over.ensures) (first_is c.args.geometry.now c.args.name c.args.catalog.files c.in-Ok-over.core.state c.in-Ok.jobs _
    (ap (λ (k : Core). k.state) c.in-Ok-over.ensures.adopted) c.in-Ok.ensures)

pub returns-in-Ok-over-clause-first : goal.returns-in-Ok-over-clause-first
returns-in-Ok-over-clause-first g c =
    subst (λ (d : Watch). IfSome (g.D.BlockDevice.told c.args.device).contents
    (λ _. Adopts c.args.catalog.files (world_of (seen_of c.in-Ok-over.core.state c.in-Ok.jobs d))))
    (sym c.over-in-Ok-over.ensures) (is_first c.args.geometry.now c.args.name c.args.catalog.files c.in-Ok-over.core.state c.in-Ok.jobs
    (g.D.BlockDevice.told c.args.device) (ap (λ (k : Core). k.state) c.in-Ok-over.ensures.adopted) c.in-Ok.ensures
    (let a = c.page.ensures.least in let b = c.page.ensures.value in omega arith)
    (sym c.block_size.ensures ∙ c.if-block_size-page.false ∙ c.page.ensures.value)
    (sym c.blocks-else-block_size-page.ensures.count ∙ c.if-blocks.false
    ∙ c.blocks-else-block_size-page-2.ensures.value) c.blocks-else-block_size-page.ensures.sized)

use Rattle.std.proofs.Common.{subst, sym}
use Rattle.std.proofs.lemmas.List.Elements.{All-push}
use Rattle.std.specs.Prelude.{All}
use Rattle.shared.specs.Keeps.{IsDisk}
use Rattle.workload_shards.proofs.sources.sources_of.Goals as goal

pub loop-name-preserved : goal.loop-name-preserved
loop-name-preserved c =
    subst (All (λ s. IsDisk c.args.geometry.now s.device)) (sym c.in-Ok.ensures.items)
    (All-push (λ s. IsDisk c.args.geometry.now s.device) c.loop-name.sources.items c.in_ok-source.source c.loop-name.invariant
    c.in_ok-source.ensures)

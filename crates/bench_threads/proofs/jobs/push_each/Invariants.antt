use Rattle.std.proofs.Common.{◌≡◌, ◌<◌, ◌≤◌, ℕ, []}
use Rattle.std.specs.Prelude.{slice_get, Some}
use Rattle.deeds.specs.Shown.{uncalled}
use Rattle.deeds.specs.declared.views.Place.TheVariants.{Home}
use Rattle.ring.specs.Serving.{Serves, Carries}
use Rattle.bench_threads.proofs.jobs.push_each.Given as goal

abbrev pub invariant-loop-block : goal.invariant-loop-block
invariant-loop-block g l =
    Serves l.ring l.pass × Carries 7 64 l.geometry.page g.B.NamesDeeds.deeds l.pass
    × ((k : ℕ) → l.block ≤ k → k < 64 → slice_get l.desk k ≡ Some (Home (uncalled [])))

use Rattle.std.proofs.Common.{◌≡◌, ◌<◌, ◌≤◌, ℕ, []}
use Rattle.std.specs.Prelude.{slice_get, Some}
use Rattle.deeds.specs.Shown.{uncalled}
use Rattle.deeds.specs.declared.views.Place.TheVariants.{Home}
use Rattle.ring.specs.Serving.{Serves, Carries}
use Rattle.tests_ring.proofs.tests.fills.Given as goal

abbrev pub invariant-loop-serial : goal.invariant-loop-serial
invariant-loop-serial g l =
    Serves l.ring l.pass × Carries 7 128 l.geometry.page g.B.NamesDeeds.deeds l.pass
    × ((k : ℕ) → l.serial ≤ k → k < 128 → slice_get l.desk k ≡ Some (Home (uncalled [])))

use Rattle.shared.specs.Keeps.{IsDisk}
use Rattle.tests_shared.proofs.era_rows.eras.Given as goal

abbrev pub invariant-loop-era : goal.invariant-loop-era
invariant-loop-era g l = IsDisk l.geometry (g.D.BlockDevice.told l.left.device)

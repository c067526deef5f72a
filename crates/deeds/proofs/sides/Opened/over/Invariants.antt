use Rattle.std.specs.Prelude.{is_some}
use Rattle.deeds.specs.Shown.{found_in}
use Rattle.deeds.proofs.sides.Opened.over.Given as goal

-- the device as it is
abbrev pub ghost-found : goal.ghost-found
ghost-found g a = let d = g.D.BlockDevice.told a.device.now in (is_some d.contents, found_in d.contents d.count)

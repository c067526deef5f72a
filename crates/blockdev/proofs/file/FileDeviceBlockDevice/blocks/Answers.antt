use Rattle.std.proofs.Common.{subst}
use Rattle.blockdev.specs.Device.{IsSized}
use Rattle.blockdev.specs.Files.{FileSeen}
use Rattle.blockdev.proofs.FileLemmas.{told_sized}
use Rattle.blockdev.proofs.file.FileDeviceBlockDevice.blocks.Goals as goal

pub returns-clause-sized : goal.returns-clause-sized
returns-clause-sized g c =
    subst (λ (d : FileSeen). IsSized d.told) c.self.view_is
    (told_sized c.self.inside.size c.self.inside.count (g.F.RawFile.bytes c.self.inside.file) c.self.invariant.4)

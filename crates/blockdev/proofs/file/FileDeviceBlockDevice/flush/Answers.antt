use Rattle.std.proofs.Common.{subst, refl, ◌+◌, ◌<◌, inl, Err, arith}
use Rattle.blockdev.specs.Device.{Flushes}
use Rattle.blockdev.specs.Files.{FileSeen}
use Rattle.blockdev.proofs.FileLemmas.{file_not_flushed, shown}
use Rattle.blockdev.proofs.file.FileDeviceBlockDevice.flush.Goals.{else-not-self-via-then-not-self+else-sync, else-not-self-via-else-not-self}
use Rattle.blockdev.proofs.file.FileDeviceBlockDevice.flush.Goals as goal

pub returns-clause-flush : goal.returns-clause-flush
returns-clause-flush g c =
    let i = c.self.inside in
    let j = c.else-not-self.self-inside in
    let counted : i.flushes < 18446744073709551615 = omega (arith, c.if-self.false, c.self.ranges) in
    subst (λ (d : FileSeen). Flushes d.told (Err 5) (shown j.size j.count (g.F.RawFile.bytes j.file) (g.F.RawFile.synced j.file) j.calls j.flushes (j.faults + (j.flush_faults + 1)))) c.self.view_is
    (elim c.else-not-self.branch [
      | else-not-self-via-then-not-self+else-sync w ↦
          rw w.self-inside-is (file_not_flushed i.size i.count (g.F.RawFile.bytes i.file) (g.F.RawFile.synced i.file) (g.F.RawFile.bytes w.sync.new.self)
          (g.F.RawFile.synced w.sync.new.self) i.calls i.flushes (i.faults + i.flush_faults) _ counted w.if-sync.ensures.bytes
          (w.if-sync.ensures.failed refl) (omega arith))
      | else-not-self-via-else-not-self w ↦
          rw w.self-inside-is (file_not_flushed i.size i.count (g.F.RawFile.bytes i.file) (g.F.RawFile.synced i.file) (g.F.RawFile.bytes i.file)
          (g.F.RawFile.synced i.file) i.calls i.flushes (i.faults + i.flush_faults) _ counted refl (inl refl) (omega arith))
    ])

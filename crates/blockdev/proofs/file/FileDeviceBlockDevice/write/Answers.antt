use Rattle.std.proofs.Common.{◌≡◌, ◌∙◌, sym, ap, subst, refl, ◌+◌, ◌<◌, length, Ok, Err, arith}
use Rattle.blockdev.specs.Device.{Writes}
use Rattle.blockdev.specs.Files.{FileSeen}
use Rattle.blockdev.proofs.FileLemmas.{block_within, file_written, file_not_written, shown}
use Rattle.blockdev.proofs.file.FileDeviceBlockDevice.write.Goals as goal

pub write_at-requires : goal.write_at-requires
write_at-requires g c =
    let i = c.self.inside in
    let below : c.args.block.0 < i.count = omega (arith, ap (λ (d : FileSeen). d.told.count) c.self.view_is) in
    let size : length c.args.bytes.now ≡ i.size = c.requires.size ∙ sym (ap (λ (d : FileSeen). d.told.size) c.self.view_is) in
    record {
      within = block_within i.size i.count c.args.block.0 c.offset-offset.result (length c.args.bytes.now) (g.F.RawFile.bytes i.file) below
          c.offset-offset.ensures size c.self.invariant.4;
    }

pub returns-then-write_at-clause-write : goal.returns-then-write_at-clause-write
returns-then-write_at-clause-write g c =
    let i = c.self.inside in
    let below : c.args.block.0 < i.count = omega (arith, ap (λ (d : FileSeen). d.told.count) c.self.view_is) in
    let size : length c.args.bytes.now ≡ i.size = c.requires.size ∙ sym (ap (λ (d : FileSeen). d.told.size) c.self.view_is) in
    subst (λ (d : FileSeen). Writes d.told c.args.block.0 c.args.bytes.now (Ok tt) (shown i.size i.count (g.F.RawFile.bytes c.write_at.new.self) (g.F.RawFile.synced c.write_at.new.self) (i.calls + 1) i.flushes (i.faults + i.flush_faults))) c.self.view_is
    (file_written i.size i.count c.args.block.0 c.offset-offset.result c.args.bytes.now (g.F.RawFile.bytes i.file) (g.F.RawFile.synced i.file)
    (g.F.RawFile.bytes c.write_at.new.self) (g.F.RawFile.synced c.write_at.new.self) i.calls i.flushes (i.faults + i.flush_faults) below
    c.offset-offset.ensures size c.self.invariant.4 (omega (arith, c.if-self.false, c.self.ranges)) c.if-write_at.ensures.synced
    (c.if-write_at.ensures.written refl))

pub returns-clause-write : goal.returns-clause-write
returns-clause-write g c =
    let i = c.self.inside in
    let below : c.args.block.0 < i.count = omega (arith, ap (λ (d : FileSeen). d.told.count) c.self.view_is) in
    let size : length c.args.bytes.now ≡ i.size = c.requires.size ∙ sym (ap (λ (d : FileSeen). d.told.size) c.self.view_is) in
    subst (λ (d : FileSeen). Writes d.told c.args.block.0 c.args.bytes.now (Err 5) (shown i.size i.count (g.F.RawFile.bytes c.write_at.new.self) (g.F.RawFile.synced c.write_at.new.self) (i.calls + 1) i.flushes (i.faults + 1 + i.flush_faults))) c.self.view_is
    (file_not_written i.size i.count c.args.block.0 c.offset-offset.result c.args.bytes.now (g.F.RawFile.bytes i.file) (g.F.RawFile.synced i.file)
    (g.F.RawFile.bytes c.write_at.new.self) (g.F.RawFile.synced c.write_at.new.self) i.calls i.flushes (i.faults + i.flush_faults) below
    c.offset-offset.ensures size c.self.invariant.4 (omega (arith, c.if-self.false, c.self.ranges)) c.if-write_at.ensures.synced
    (i.faults + 1 + i.flush_faults) (omega arith) (c.if-write_at.ensures.whole refl))

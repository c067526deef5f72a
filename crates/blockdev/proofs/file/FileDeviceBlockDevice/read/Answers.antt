use Rattle.std.proofs.Common.{◌≡◌, ◌∙◌, ap, subst, refl, ◌+◌, ◌<◌, length, Ok, IfSome, arith, rules}
use Rattle.std.proofs.lemmas.List.{take_at}
use Rattle.blockdev.specs.Device.{Reads}
use Rattle.blockdev.specs.Files.{FileSeen, bytes_at}
use Rattle.blockdev.proofs.FileLemmas.{file_read, shown}
use Rattle.blockdev.proofs.file.FileDeviceBlockDevice.read.Goals as goal

pub returns-then-read_at-clause-read : goal.returns-then-read_at-clause-read
returns-then-read_at-clause-read g c =
    let i = c.self.inside in
    let below : c.args.block.0 < i.count = omega (arith, ap (λ (d : FileSeen). d.told.count) c.self.view_is) in
    let filled : length c.read_at.new.out ≡ length c.deref_mut.result.now = search rules in
    let whole : length c.deref_mut.result.now ≡ i.spare.len = search rules in
    let copied : c.copy_from_slice.new.self ≡ c.read_at.new.out =
    c.copy_from_slice.ensures.after ∙ c.deref.ensures.value ∙ take_at c.read_at.new.out _ i.spare.len (filled ∙ whole)
    in
    let size : length c.deref_mut.result.now ≡ i.size = search rules in
    let read : IfSome (g.F.RawFile.bytes i.file) (λ all. c.copy_from_slice.new.self ≡ bytes_at all c.offset-offset.result (length c.deref_mut.result.now)) =
    rw copied (c.if-read_at.ensures refl) in
    subst (λ (d : FileSeen). Reads d.told c.args.block.0 c.args.out.now (Ok tt) c.copy_from_slice.new.self (shown i.size i.count (g.F.RawFile.bytes i.file) (g.F.RawFile.synced i.file) (i.calls + 1) i.flushes (i.faults + i.flush_faults))) c.self.view_is
    (file_read i.size i.count c.args.block.0 c.offset-offset.result _ (g.F.RawFile.bytes i.file) (g.F.RawFile.synced i.file) i.calls
    i.flushes (i.faults + i.flush_faults) c.args.out.now c.copy_from_slice.new.self below c.offset-offset.ensures size (omega (arith, c.if-self.false, c.self.ranges)) read)

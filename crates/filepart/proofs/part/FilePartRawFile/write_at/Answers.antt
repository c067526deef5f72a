use Rattle.std.proofs.Common.{◌∙◌, ◌+◌, ◌≤◌, ap, length, arith}
use Rattle.filepart.specs.Parts.{part_of}
use Rattle.filepart.proofs.PartCalls.{put_in, failed_in, write_outside}
use Rattle.filepart.proofs.part.FilePartRawFile.write_at.Goals as goal

pub returns-then-has-clause-written : goal.returns-then-has-clause-written
returns-then-has-clause-written g c =
    let p = c.args.self.now in
    let here : c.args.offset + length c.args.these.now ≤ p.len = omega arith in
    λ e. ap (part_of p.first p.len) (c.write_at.ensures.written e) ∙ put_in p.first p.len c.args.offset (g.F.RawFile.bytes p.file) c.args.these.now here p.long

pub returns-then-has-clause-whole : goal.returns-then-has-clause-whole
returns-then-has-clause-whole g c =
    let p = c.args.self.now in
    let here : c.args.offset + length c.args.these.now ≤ p.len = omega arith in
    λ e. failed_in p.first p.len c.args.offset (g.F.RawFile.bytes p.file) _ c.args.these.now here p.long (c.write_at.ensures.whole e)

pub returns-then-has-clause-outside : goal.returns-then-has-clause-outside
returns-then-has-clause-outside g c =
    let p = c.args.self.now in
    let here : c.args.offset + length c.args.these.now ≤ p.len = omega arith in
    write_outside p.first p.len c.args.offset c.write_at.result (g.F.RawFile.bytes p.file) (g.F.RawFile.synced p.file)
    (g.F.RawFile.bytes c.write_at.new.self) (g.F.RawFile.synced c.write_at.new.self) c.args.these.now here p.long
    c.write_at.ensures.written c.write_at.ensures.whole c.write_at.ensures.synced

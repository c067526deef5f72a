use Rattle.std.proofs.Common.{rules}
use Rattle.filesvc.proofs.Laws.{keeps_trans}
use Rattle.desk.proofs.Longs.{wrote_more}
use Rattle.desk.proofs.long.write_long.Goals as goal

pub parts-preserved : goal.parts-preserved
parts-preserved g c =
    wrote_more c.args.solo.now c.parts.solo c.pwrite.new.self c.args.handle.now c.args.offset c.parts.done c.min-end.result c.args.bytes.now c.parts.invariant c.requires.open (search rules) (search rules) c.pwrite.ensures.keeps (search rules)

pub returns-then-done-eq0-clause-keeps : goal.returns-then-done-eq0-clause-keeps
returns-then-done-eq0-clause-keeps g c = keeps_trans _ _ _ c.parts.invariant.keeps c.pwrite.ensures.keeps

pub returns-in-Err-clause-keeps : goal.returns-in-Err-clause-keeps
returns-in-Err-clause-keeps g c = keeps_trans _ _ _ c.parts.invariant.keeps c.pwrite.ensures.keeps

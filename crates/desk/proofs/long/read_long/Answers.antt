use Rattle.std.proofs.Common.{rules}
use Rattle.filesvc.proofs.Laws.{serves_trans}
use Rattle.desk.proofs.Longs.{read_last, read_more}
use Rattle.desk.proofs.long.read_long.Goals as goal

pub returns-in_err-count-clause-serves : goal.returns-in_err-count-clause-serves
returns-in_err-count-clause-serves g c = serves_trans _ _ _ c.parts.invariant.serves c.pread.ensures.serves

pub parts-preserved : goal.parts-preserved
parts-preserved g c =
    read_more _ _ _ _ _ _ _ _ _ _ _ (record { before = c.parts.invariant; from = search rules; to = search rules; serves = c.pread.ensures.serves; length = search rules; bytes = search rules; all = search rules })

pub returns-then-done-end-clause-serves : goal.returns-then-done-end-clause-serves
returns-then-done-end-clause-serves g c = serves_trans _ _ _ c.parts.invariant.serves c.pread.ensures.serves

pub returns-then-done-end-clause-bytes : goal.returns-then-done-end-clause-bytes
returns-then-done-end-clause-bytes g c =
    read_last _ _ _ _ _ _ _ _ _ _ _ (record { before = c.parts.invariant; from = search rules; to = search rules; serves = c.pread.ensures.serves; length = search rules; bytes = search rules; all = search rules }) c.if-done-end.true

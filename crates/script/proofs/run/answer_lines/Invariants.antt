use Rattle.std.proofs.Common.{IfSome}
use Rattle.script.proofs.RunLemmas.{Stands}
use Rattle.script.proofs.run.answer_lines.Given as goal

abbrev pub invariant-lines : goal.invariant-lines
invariant-lines g l = IfSome (g.R.Read.remaining l.fn.lines.reader) (λ script. Stands script (g.R.Read.remaining l.lines.reader) l.lines.number l.session (g.W.Write.contents l.fn.out.writer) (g.W.Write.contents l.out.writer))

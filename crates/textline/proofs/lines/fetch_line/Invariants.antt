use Rattle.std.proofs.Common.{◌≤◌, IfSome, vec_len}
use Rattle.std.specs.Io.KnownBytes.{Keeps}
use Rattle.textline.specs.Lines.{HasBegun}
use Rattle.textline.proofs.lines.fetch_line.Given as goal

abbrev pub invariant-looks : goal.invariant-looks
invariant-looks g l = record {
  within : vec_len l.line ≤ l.fn.most;
  begun : IfSome (g.R.Read.remaining l.initial.reader) (λ bytes. HasBegun bytes l.line.items (g.R.Read.remaining l.reader));
  out : Keeps (g.W.Write.contents l.initial.out) (g.W.Write.contents l.out);
}

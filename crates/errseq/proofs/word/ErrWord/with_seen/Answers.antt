use Rattle.std.proofs.Common.{ap, ◌∙◌}
use Rattle.errseq.specs.Word.{with_seen}
use Rattle.errseq.proofs.Bits.{with_seen_or}
use Rattle.errseq.proofs.word.ErrWord.with_seen.Goals as goal

pub returns : goal.returns
returns c = with_seen_or _ ∙ ap with_seen c.self.view_is

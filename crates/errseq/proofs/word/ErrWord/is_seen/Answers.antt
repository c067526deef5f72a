use Rattle.std.proofs.Common.{ap, ◌∙◌}
use Rattle.errseq.specs.Word.{is_seen}
use Rattle.errseq.proofs.Bits.{is_seen_and}
use Rattle.errseq.proofs.word.ErrWord.is_seen.Goals as goal

pub returns : goal.returns
returns c = is_seen_and _ ∙ ap is_seen c.self.view_is

use Rattle.std.proofs.Common.{ℕ, ap, ◌∙◌, arith}
use Rattle.errseq.specs.Word.{word_set}
use Rattle.errseq.proofs.Bits.{word_or}
use Rattle.errseq.proofs.word.ErrWord.set.Goals as goal

pub returns-clause-word : goal.returns-clause-word
returns-clause-word c =
    let most = c.code.ensures.most in
    let is = c.code.ensures.value in
    word_or _ _ _ _ c.next_counter.ensures (c.from.ensures ∙ is) (omega (arith, most, is)) ∙ ap (λ (w : ℕ). word_set w c.args.code) c.self.view_is

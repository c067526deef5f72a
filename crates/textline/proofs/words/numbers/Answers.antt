use Rattle.textline.proofs.NumberLemmas.{read_all}
use Rattle.textline.proofs.words.numbers.Goals as goal

pub returns : goal.returns
returns c = read_all _ _ _ c.loop-word.invariant c.in_default.ensures

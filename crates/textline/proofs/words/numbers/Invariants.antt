use Rattle.std.proofs.Common.{length}
use Rattle.textline.proofs.NumberLemmas.{Reads}
use Rattle.textline.proofs.words.numbers.Given as goal

abbrev pub invariant-loop-word : goal.invariant-loop-word
invariant-loop-word l = Reads l.initial.words l.words l.numbers.items

abbrev pub decreases-loop-word : goal.decreases-loop-word
decreases-loop-word l = length l.words

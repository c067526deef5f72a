-- A word is got back from what it stands for.
use Rattle.std.specs.Prelude.{◌≡◌, ℕ}
use Rattle.std.proofs.Common.{arith}
use Rattle.radix.specs.Words.{slot_of_word, word_of_slot, link_of_word, word_of_link}

pub word_again : (w : ℕ) → word_of_slot (slot_of_word w) ≡ w
word_again w = grind (arith)

pub link_again : (w : ℕ) → word_of_link (link_of_word w) ≡ w
link_again w = grind (arith)

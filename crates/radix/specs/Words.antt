-- How a slot, and the key of the node above, are kept in one word.
use Rattle.std.specs.Prelude.{ℕ, ◌+◌, ◌*◌, ◌-◌, ◌/◌, ◌%◌, ◌^◌, ◌<◌, ◌==◌, cond, Option, Some, None}
use Rattle.radix.specs.declared.slot.Slot.{Slot}
use Rattle.radix.specs.declared.slot.Slot.TheVariants.{Empty, Leaf, Child, Sibling}

-- an odd word is a leaf; of the even ones, 2 modulo 4 a child, 0 empty, and the rest siblings
abbrev pub slot_of_word : ℕ → Slot
slot_of_word w = cond (w % 2 == 1) (Leaf (w / 2)) (cond (w % 4 == 2) (Child (w / 4)) (cond (w == 0) Empty (Sibling (w / 4 - 1))))

abbrev pub word_of_slot : Slot → ℕ
word_of_slot Empty = 0
word_of_slot (Leaf value) = value * 2 + 1
word_of_slot (Child key) = key * 4 + 2
word_of_slot (Sibling offset) = offset * 4 + 4

-- a slot that a word has room for
abbrev pub FitsWord : Slot → Type 0
FitsWord Empty = Unit {0}
FitsWord (Leaf value) = value < 2 ^ 63
FitsWord (Child key) = key < 2 ^ 62
FitsWord (Sibling offset) = offset < 64

-- 0 is no key, and any other word one more than a key
abbrev pub link_of_word : ℕ → Option ℕ
link_of_word w = cond (w == 0) None (Some (w - 1))

abbrev pub word_of_link : Option ℕ → ℕ
word_of_link None = 0
word_of_link (Some key) = key + 1

-- a key that a word has room for
abbrev pub FitsLink : Option ℕ → Type 0
FitsLink None = Unit {0}
FitsLink (Some key) = key < 2 ^ 62

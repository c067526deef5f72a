-- A part of a file: bytes of it in a row, as a file of their own.
use Rattle.std.specs.Prelude.{◌≡◌, ℕ, ◌+◌, ◌≤◌, ◌⊎◌, List, length, take, drop, Option, option_map}
use Rattle.blockdev.specs.Files.{bytes_at}

-- what a file tells, as the part tells it: as many bytes from the first on
abbrev pub part_of : ℕ → ℕ → Option (List ℕ) → Option (List ℕ)
part_of first len told = option_map (λ (all : List ℕ). bytes_at all first len) told

-- how many bytes are told
abbrev pub length_of : Option (List ℕ) → Option ℕ
length_of told = option_map (λ (all : List ℕ). length all) told

-- of what a file tells, the bytes before the part and those behind it
abbrev pub outside_of : ℕ → ℕ → Option (List ℕ) → Option (List ℕ × List ℕ)
outside_of first len told = option_map (λ (all : List ℕ). (take first all, drop (first + len) all)) told

-- a file before and after calls of a part, by its bytes and those that are synced: it is as long as it was, outside the part it holds
-- what it held, and what is synced there is what was, or what it holds
pub record Outside (first len : ℕ) (was was_synced now now_synced : Option (List ℕ)) : Type 0 where
  pub size : length_of now ≡ length_of was
  pub bytes : outside_of first len now ≡ outside_of first len was
  pub synced : (outside_of first len now_synced ≡ outside_of first len was_synced) ⊎ (outside_of first len now_synced ≡ outside_of first len was)

-- ---- parts of one file

-- calls of a part, one after another, are as one: outside it the file is as it was before the first
pub record OutsideGoesOn : Type 0 where
  pub none : (first len : ℕ) (bytes synced : Option (List ℕ)) → Outside first len bytes synced bytes synced
  pub more : (first len : ℕ) (was was_synced between between_synced now now_synced : Option (List ℕ))
      → Outside first len was was_synced between between_synced → Outside first len between between_synced now now_synced
      → Outside first len was was_synced now now_synced

-- two parts that share no byte
abbrev pub AreApart : ℕ → ℕ → ℕ → ℕ → Type 0
AreApart first len other n = (other + n ≤ first) ⊎ (first + len ≤ other)

-- a file that was not written to: what is synced is what was, or what it holds
pub record Unwritten (was was_synced now now_synced : Option (List ℕ)) : Type 0 where
  pub bytes : now ≡ was
  pub synced : (now_synced ≡ was_synced) ⊎ (now_synced ≡ was)

-- what calls of one part are to the other
abbrev pub PartsAreApart : Type 0
PartsAreApart = (first len other n : ℕ) (was was_synced now now_synced : Option (List ℕ)) → AreApart first len other n
    → Outside first len was was_synced now now_synced
    → Unwritten (part_of other n was) (part_of other n was_synced) (part_of other n now) (part_of other n now_synced)

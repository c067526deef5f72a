-- The lines of a text, as bytes that a reader has left.
use Rattle.std.specs.Prelude.{◌≡◌, ◌≢◌, ℕ, ◌<◌, Bool, ◌==◌, ◌||◌, slice_index, List, [], ◌∷◌, ◌++◌, length, All, Option, Some}
use Rattle.std.specs.List.{before_first, after_first, slice_split}
use Rattle.textline.specs.declared.lines.Fetched.{Fetched}
use Rattle.textline.specs.declared.lines.Fetched.TheVariants.{Line, TooLong, End}
use Rattle.textline.specs.declared.lines.Look.{Look}
use Rattle.textline.specs.declared.lines.Look.TheVariants.{Part, Ended}

-- the end of a line, byte 0a in hexadecimal
abbrev pub is_newline : ℕ → Bool
is_newline b = b == 10

-- the parts of a text between the ends of its lines, without a last part that is empty
abbrev pub without_empty_end : List (List ℕ) → List (List ℕ)
without_empty_end [] = []
without_empty_end ([] ∷ []) = []
without_empty_end (line ∷ lines) = line ∷ without_empty_end lines

-- the lines of a text. Each ends in a newline, which the last may lack
abbrev pub lines_of : List ℕ → List (List ℕ)
lines_of text = without_empty_end (slice_split is_newline text)

-- what came of asking for a line of at most `most` bytes where the reader had `bytes` left: the line, and what the reader has left now
abbrev pub Fetches : ℕ → List ℕ → Fetched → List ℕ → Option (List ℕ) → Type 0
Fetches most bytes Line line left = (bytes ≢ []) × (line ≡ before_first is_newline bytes) × (left ≡ Some (after_first is_newline bytes))
Fetches most bytes TooLong line left = most < length (before_first is_newline bytes)
Fetches most bytes End line left = bytes ≡ []

-- the line that is first in `bytes` has begun with `line`, and the reader has the rest left
abbrev pub HasBegun : List ℕ → List ℕ → Option (List ℕ) → Type 0
HasBegun bytes line left = (rest : List ℕ) × (left ≡ Some rest) × (bytes ≡ line ++ rest) × All (λ b. b ≢ 10) line

-- what came of one look at the reader's buffer
abbrev pub Goes : ℕ → List ℕ → Look → List ℕ → Option (List ℕ) → Type 0
Goes most bytes Part line left = HasBegun bytes line left
Goes most bytes (Ended fetched) line left = Fetches most bytes fetched line left

-- an empty line, or a comment: it begins with `#`, byte 23 in hexadecimal
abbrev pub is_blank : List ℕ → Bool
is_blank line = (length line == 0) || (slice_index line 0 == 35)

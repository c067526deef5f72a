-- The words of a line, and what a word stands for.
use Rattle.std.specs.Prelude.{◌≡◌, ℕ, ◌^◌, ◌<◌, Bool, ◌==◌, ◌&&◌, ◌||◌, nat_lt, slice_index, if◌then◌else◌, List, [], ◌∷◌, length, Option, Some, None, codes, decimal}
use Rattle.std.specs.Result.{result_ok}
use denote.Ref.{Bor}
use Rattle.std.specs.List.{slice_split}
use Rattle.std.specs.Str.{bytes_eq}
use Rattle.std.specs.Str.Parse.{IsNumeral, digits_value, without_leading_plus}
use Rattle.hex.specs.Hex.{decode_of}

-- the space, byte 20 in hexadecimal
abbrev pub is_space : ℕ → Bool
is_space b = b == 32

-- what stands between the spaces of a line
abbrev pub words_of : List ℕ → List (List ℕ)
words_of line = slice_split is_space line

-- the word is the number as it is printed: decimal digits with no leading zero, below 2^64
abbrev pub IsNumber : List ℕ → ℕ → Type 0
IsNumber word n = (word ≡ decimal n) × (n < 2 ^ 64)

-- the words are one of which `P` holds, and then the rest
abbrev pub First : (List ℕ → Type 0) → List (List ℕ) → List (List ℕ) → Type 0
First P words rest = (word : List ℕ) × (more : List (List ℕ)) × (words ≡ word ∷ more) × P word × (more ≡ rest)

-- each word is one of these numbers, in order, and there are no others
abbrev pub AreNumbers : List (List ℕ) → List ℕ → Type 0
AreNumbers [] [] = Unit {0}
AreNumbers [] (n ∷ numbers) = ⊥
AreNumbers (word ∷ words) [] = ⊥
AreNumbers (word ∷ words) (n ∷ numbers) = IsNumber word n × AreNumbers words numbers

-- the bytes of a word of hexadecimal digits of either case, two a byte, or of `-`, which is no byte
abbrev pub bytes_of : List ℕ → Option (List ℕ)
bytes_of word =
    if bytes_eq word (codes "-") then Some []
    else if length word == 0 then None
    else result_ok (decode_of word)

-- the words that a rest of a line still has, where there is one
abbrev pub words_left : Option (Bor (List ℕ)) → List (List ℕ)
words_left None = []
words_left (Some rest) = words_of rest.now

-- a plus (43), or a zero (48) before another byte: what a parse of digits takes and `decimal` never writes
abbrev pub has_sign_or_leading_zero : List ℕ → Bool
has_sign_or_leading_zero word = (slice_index word 0 == 43) || ((slice_index word 0 == 48) && nat_lt 1 (length word))

-- what a parse takes: digits after a plus or none, of a value below 2^64
abbrev pub IsParse : List ℕ → Type 0
IsParse word = IsNumeral 10 (without_leading_plus word) × (digits_value 10 (without_leading_plus word) < 2 ^ 64)

-- The entries of an array as a trace shows them, and their hash.
use Rattle.std.specs.Prelude.{◌≡◌, ◌<◌, ◌≤◌, true, false, nat_lt, ℕ, ◌+◌, ◌*◌, ◌%◌, ◌^◌, Bool, if◌then◌else◌, List, [], ◌∷◌, ◌++◌, leb, filter, Option, Some, None, bit_xor, fold}
use Rattle.std.specs.FinMap as map
use Rattle.std.specs.Int.{to_le_bytes}
use mir.Syntax.{w64}
use Rattle.xarray.specs.declared.entry.Found.{Found}
use Rattle.xarray.specs.MarkedArray.{Range, Ranges, found_of}
use Rattle.xarray_trace.specs.declared.entries.Entry.{Entry}
use Rattle.xarray_trace.specs.declared.entries.TheConstants.{FNV_OFFSET, FNV_PRIME}

-- the marks as bits: bit m is mark m
abbrev pub marks_of : Range → ℕ
marks_of r = (if r.first_mark then 1 else 0) + (if r.second_mark then 2 else 0) + (if r.third_mark then 4 else 0)

-- an entry as a trace shows it
abbrev pub shown : ℕ × Range → Entry
shown e = record { found = found_of e; marks = marks_of e.1 }

-- the marks of an entry, and none where there is none
abbrev pub bits_of : Option (ℕ × Range) → ℕ
bits_of None = 0
bits_of (Some e) = marks_of e.1

-- how many entries an array has; counting them begins again at 2^64
abbrev pub entry_count : Ranges → ℕ
entry_count m = map.len m % 2 ^ 64

-- FNV-1a of 64 bits, from a hash on (Fowler, Noll, Vo: xor with the byte, then multiply by the prime)
abbrev pub hash_bytes : ℕ → List ℕ → ℕ
hash_bytes hash bytes = fold (λ h byte. bit_xor h byte * FNV_PRIME % 2 ^ 64) hash bytes

-- the bytes of an entry: first index, order, value and marks, the numbers with their low bytes first
abbrev pub entry_bytes : Entry → List ℕ
entry_bytes e = to_le_bytes w64 e.found.first ++ (e.found.order % 256 ∷ []) ++ to_le_bytes w64 e.found.value ++ (e.marks ∷ [])

abbrev pub hash_entries : ℕ → List (ℕ × Range) → ℕ
hash_entries hash [] = hash
hash_entries hash (e ∷ entries) = hash_entries (hash_bytes hash (entry_bytes (shown e))) entries

-- the hash of an array's entries in rising order
abbrev pub hash_of : Ranges → ℕ
hash_of m = hash_entries FNV_OFFSET (map.entries m)

-- Bytes that are written part by part.
use Rattle.std.proofs.Common.{◌≡◌, ℕ, ◌+◌, ◌≤◌, min, List, ◌++◌, Option, Result, Ok, Err, length, take, drop, sym, subst, ◌∙◌, arith}
use Rattle.std.specs.Io.KnownBytes.{Appends, Keeps}
use Rattle.std.proofs.KnownBytes.{Appends-kept, Appends-nil, Appends-trans}
use Rattle.std.proofs.Math.Seq.{take-add, take-append-add, take-length}
use Rattle.std.proofs.lemmas.List.{take-append-le, take_all, take_min}
use Rattle.textline.specs.declared.stop.Stop.{Stop}
use Rattle.textline.specs.declared.stop.Stop.TheVariants.{Malformed, Input, Output, Memory}
use Rattle.textline.specs.Prints.{AppendsPart, Writes}

-- the next n bytes are written after the first ones
pub part_and_more : (a b c : Option (List ℕ)) (done n : ℕ) (text : List ℕ) → Appends a b (take done text) → Appends b c (take n (drop done text)) → Appends a c (take (done + n) text)
part_and_more a b c done n text first next = subst (Appends a c) (sym (take-add done n text)) (Appends-trans a b c (take done text) (take n (drop done text)) first next)

-- no byte is left
pub part_is_whole : (a b : Option (List ℕ)) (done : ℕ) (text : List ℕ) → Appends a b (take done text) → done ≡ length text → Appends a b text
part_is_whole a b done text written over = subst (Appends a b) (take_all done text (omega (arith, over))) written

-- the whole is a beginning of itself
pub whole_part : (a b : Option (List ℕ)) (text : List ℕ) → Appends a b text → AppendsPart a b text
whole_part a b text h = (length text, subst (Appends a b) (sym (take-length text)) h)

-- nothing is a beginning of each text
pub none_part : (a b : Option (List ℕ)) (text : List ℕ) → Keeps a b → AppendsPart a b text
none_part a b text h = (0, Appends-kept a a b _ (Appends-nil a) h)

pub part_kept : (a b c : Option (List ℕ)) (text : List ℕ) → AppendsPart a b text → Keeps b c → AppendsPart a c text
part_kept a b c text (n, h) kept = (n, Appends-kept a b c _ h kept)

-- a beginning of a text is one of that text and more
pub part_before : (a b : Option (List ℕ)) (text more : List ℕ) → AppendsPart a b text → AppendsPart a b (text ++ more)
part_before a b text more (n, h) =
    let short : min n (length text) ≤ length text = omega arith in
    let same : take (min n (length text)) (text ++ more) ≡ take n text = take-append-le (min n (length text)) text more short ∙ take_min n text in
    (min n (length text), subst (Appends a b) (sym same) h)

-- a text, and then a beginning of more
pub part_after : (a b c : Option (List ℕ)) (text more : List ℕ) → Appends a b text → AppendsPart b c more → AppendsPart a c (text ++ more)
part_after a b c text more h (n, part) = (length text + n, subst (Appends a c) (sym (take-append-add text more n)) (Appends-trans a b c text (take n more) h part))

-- what stands there of a text that was not written whole
pub failed_part : (stop : Stop) (a b : Option (List ℕ)) (text : List ℕ) → Writes (Err stop) text a b → AppendsPart a b text
failed_part (Malformed n) a b text h = absurd h
failed_part Input a b text h = absurd h
failed_part Output a b text h = h
failed_part Memory a b text h = none_part a b text h

-- Texts that are written one after the other.
use Rattle.std.proofs.Common.{List, ℕ, ◌++◌, Option, Result, Ok, Err, OnErr}
use Rattle.std.specs.Io.KnownBytes.{Appends}
use Rattle.textline.specs.Prints.{AppendsPart, Writes}
use Rattle.textline.specs.declared.stop.Stop.{Stop}
use Rattle.textline.proofs.PrintLemmas.{failed_part, part_after}

pub on_err : {T E : Type 0} (r : Result T E) (P : Type 0) → P → OnErr r P
on_err (Ok x) P h = tt
on_err (Err e) P h = h

-- a text, and then a beginning of more where that fails
pub then_part : (r : Result (Unit {0}) Stop) (a b c : Option (List ℕ)) (text more : List ℕ) → Appends a b text
    → OnErr r (AppendsPart b c more) → OnErr r (AppendsPart a c (text ++ more))
then_part (Ok u) a b c text more h part = tt
then_part (Err e) a b c text more h part = part_after a b c text more h part

pub then_line : (r : Result (Unit {0}) Stop) (a b c : Option (List ℕ)) (text more : List ℕ) → Appends a b text
    → Writes r more b c → OnErr r (AppendsPart a c (text ++ more))
then_line (Ok u) a b c text more h line = tt
then_line (Err e) a b c text more h line = part_after a b c text more h (failed_part e b c more line)

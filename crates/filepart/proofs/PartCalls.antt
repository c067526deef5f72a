-- What a write of the file behind is, as a write of the part.
use Rattle.std.proofs.Common.{◌≡◌, ◌∙◌, ap, refl, ℕ, ◌+◌, ◌≤◌, ◌⊎◌, inl, inr, List, ◌++◌, length, take, drop, Bool, true, false, Option, Some, None, IfSome, arith}
use Rattle.blockdev.specs.Files.{put_at}
use Rattle.blockdev.proofs.BlockLemmas.{length-placed}
use Rattle.filepart.specs.Parts.{part_of, outside_of, length_of, Outside}
use Rattle.filepart.proofs.Bytes.{bytes_at-put, take-put, drop-past_put}

-- the file has the part
abbrev pub IsLong : ℕ → ℕ → Option (List ℕ) → Type 0
IsLong f l told = IfSome told (λ all. f + l ≤ length all)

-- the part after a write within it
pub put_in : (f l o : ℕ) (told : Option (List ℕ)) (these : List ℕ) → o + length these ≤ l → IsLong f l told
    → part_of f l (put_at told (f + o) these) ≡ put_at (part_of f l told) o these
put_in f l o None these h long = refl
put_in f l o (Some all) these h long = ap Some (bytes_at-put f l o (length these) all these refl h long)

-- and what is outside it
put_outside : (f l o : ℕ) (told : Option (List ℕ)) (these : List ℕ) → o + length these ≤ l → IsLong f l told
    → outside_of f l (put_at told (f + o) these) ≡ outside_of f l told
put_outside f l o None these h long = refl
put_outside f l o (Some all) these h long =
    let before = take-put f o (length these) all these (omega arith) in
    let behind = drop-past_put (f + l) (f + o) (length these) all these refl (omega arith) (omega arith) in
    ap (λ (xs : List ℕ). Some (xs, drop (f + l) (take (f + o) all ++ (these ++ drop (f + o + length these) all)))) before
    ∙ ap (λ (xs : List ℕ). Some (take f all, xs)) behind

-- the file is as long as it was
put_size : (f l o : ℕ) (told : Option (List ℕ)) (these : List ℕ) → o + length these ≤ l → IsLong f l told
    → length_of (put_at told (f + o) these) ≡ length_of told
put_size f l o None these h long = refl
put_size f l o (Some all) these h long = ap Some (length-placed (length these) (f + o) all these (omega arith) refl)

-- a write that fails took effect whole or not at all
pub failed_in : (f l o : ℕ) (told new : Option (List ℕ)) (these : List ℕ) → o + length these ≤ l → IsLong f l told
    → (new ≡ told) ⊎ (new ≡ put_at told (f + o) these)
    → (part_of f l new ≡ part_of f l told) ⊎ (part_of f l new ≡ put_at (part_of f l told) o these)
failed_in f l o told new these h long e = elim e [
  | inl same ↦ inl (ap (part_of f l) same)
  | inr put ↦ inr (ap (part_of f l) put ∙ put_in f l o told these h long)
]

-- what is the same after bytes are put in stays, whatever the write answers
whatever_answer : {X : Type 0} (look : Option (List ℕ) → X) (r : Bool) (told put new : Option (List ℕ)) → look put ≡ look told
    → (r ≡ true → new ≡ put) → (r ≡ false → (new ≡ told) ⊎ (new ≡ put)) → look new ≡ look told
whatever_answer look true told put new same well failed = ap look (well refl) ∙ same
whatever_answer look false told put new same well failed = elim (failed refl) [ inl e ↦ ap look e | inr e ↦ ap look e ∙ same ]

-- what is outside the part after a write of this answer
pub write_outside : (f l o : ℕ) (r : Bool) (told synced new resynced : Option (List ℕ)) (these : List ℕ) → o + length these ≤ l → IsLong f l told
    → (r ≡ true → new ≡ put_at told (f + o) these) → (r ≡ false → (new ≡ told) ⊎ (new ≡ put_at told (f + o) these))
    → (resynced ≡ synced) ⊎ (resynced ≡ new) → Outside f l told synced new resynced
write_outside f l o r told synced new resynced these h long well failed settled =
    let put = put_at told (f + o) these in
    let same = whatever_answer (outside_of f l) r told put new (put_outside f l o told these h long) well failed in
    record {
      size = whatever_answer length_of r told put new (put_size f l o told these h long) well failed;
      bytes = same;
      synced = elim settled [
        | inl was ↦ inl (ap (outside_of f l) was)
        | inr held ↦ inr (ap (outside_of f l) held ∙ same)
      ];
    }

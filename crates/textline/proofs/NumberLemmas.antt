-- Words that are numbers, read one by one.
use Rattle.std.proofs.Common.{◌≡◌, ℕ, List, [], ◌∷◌, ◌++◌, refl, sym, subst, ◌∙◌, append_assoc, append-nil}
use Rattle.std.proofs.lemmas.Fmt.{decimal_injective}
use Rattle.textline.specs.Words.{AreNumbers, IsNumber}

-- words are one list of numbers
pub same_numbers : (words : List (List ℕ)) (ms ns : List ℕ) → AreNumbers words ms → AreNumbers words ns → ms ≡ ns
same_numbers [] [] [] h k = refl
same_numbers [] [] (n ∷ ns) h k = absurd k
same_numbers [] (m ∷ ms) ns h k = absurd h
same_numbers (w ∷ ws) [] ns h k = absurd h
same_numbers (w ∷ ws) (m ∷ ms) [] h k = absurd k
same_numbers (w ∷ ws) (m ∷ ms) (n ∷ ns) h k =
    let first : m ≡ n = decimal_injective m n h.0.1 k.0.1 (sym h.0.0 ∙ k.0.0) in
    let rest : ms ≡ ns = same_numbers ws ms ns h.1 k.1 in
    cc

-- what the words read so far and the words that are left say of all of them
pub record Reads (all left : List (List ℕ)) (read : List ℕ) : Type 0 where
  pub each : (more : List ℕ) → AreNumbers left more → AreNumbers all (read ++ more)
  pub none : ((more : List ℕ) → ¬ (AreNumbers left more)) → (numbers : List ℕ) → ¬ (AreNumbers all numbers)

pub reads_none : (all : List (List ℕ)) → Reads all all []
reads_none all = record { each = λ more h. h; none = λ f. f }

pub reads_more : (all left rest : List (List ℕ)) (read : List ℕ) (word : List ℕ) (n : ℕ) → Reads all left read → left ≡ word ∷ rest → IsNumber word n → Reads all rest (read ++ (n ∷ []))
reads_more all left rest read word n reads e is = record {
  each = λ more h.
      let whole : AreNumbers left (n ∷ more) = subst (λ ws. AreNumbers ws (n ∷ more)) (sym e) (is, h) in
      subst (AreNumbers all) (sym (append_assoc read (n ∷ []) more)) (reads.each (n ∷ more) whole);
  none = λ f. reads.none (λ more h. no_more more (subst (λ ws. AreNumbers ws more) e h) f);
}
  where
    no_more : (more : List ℕ) → AreNumbers (word ∷ rest) more → ((ns : List ℕ) → ¬ (AreNumbers rest ns)) → ⊥
    no_more [] h f = h
    no_more (m ∷ ms) h f = f ms h.1

pub not_number : (all left rest : List (List ℕ)) (read : List ℕ) (word : List ℕ) → Reads all left read → left ≡ word ∷ rest → ((n : ℕ) → ¬ (IsNumber word n))
    → (numbers : List ℕ) → ¬ (AreNumbers all numbers)
not_number all left rest read word reads e f = reads.none (λ more h. no_more more (subst (λ ws. AreNumbers ws more) e h))
  where
    no_more : (more : List ℕ) → AreNumbers (word ∷ rest) more → ⊥
    no_more [] h = h
    no_more (m ∷ ms) h = f m h.0

pub read_all : (all left : List (List ℕ)) (read : List ℕ) → Reads all left read → left ≡ [] → AreNumbers all read
read_all all left read reads e =
    let whole : AreNumbers left [] = subst (λ ws. AreNumbers ws []) (sym e) tt in
    subst (AreNumbers all) (append-nil read) (reads.each [] whole)

-- Lists of frames without doubles.
use Rattle.std.proofs.Common.{◌≡◌, ◌≢◌, ◌∙◌, sym, ap, subst, refl, ℕ, zero, suc, ◌+◌, ◌<◌, ◌≤◌, inl, inr, Bool, true, false, cond, eqb, ◌||◌, List, [], ◌∷◌, length, arith}
use Rattle.std.proofs.lemmas.Bool.{eq-eqb, ne_eqb, false≢true}
use Rattle.std.proofs.lemmas.Bool.Decides.{eqb_tells}
use Rattle.frames.specs.Lists.{has, without, IsWithoutDoubles}

-- a choice whose test is known
pub chosen : {X : Type 0} (b : Bool) (x y : X) → b ≡ true → cond b x y ≡ x
chosen b x y e = ap (λ t. cond t x y) e

pub other_chosen : {X : Type 0} (b : Bool) (x y : X) → b ≡ false → cond b x y ≡ y
other_chosen b x y e = ap (λ t. cond t x y) e

pub has-head : (f : ℕ) (xs : List ℕ) → has f (f ∷ xs) ≡ true
has-head f xs = ap (λ (t : Bool). t || has f xs) (eq-eqb f f refl)

pub has-other : (f x : ℕ) (xs : List ℕ) → x ≢ f → has f (x ∷ xs) ≡ has f xs
has-other f x xs ne = ap (λ (t : Bool). t || has f xs) (ne_eqb x f ne)

-- a frame in the list is not one that is out of it
pub apart : (f g : ℕ) (xs : List ℕ) → has f xs ≡ true → has g xs ≡ false → f ≢ g
apart f g xs yes_f no_g e = false≢true (sym no_g ∙ (ap (λ (n : ℕ). has n xs) (sym e) ∙ yes_f))

-- out of a list, so not its head and out of the rest
pub out_of_rest : (f x : ℕ) (xs : List ℕ) → has f (x ∷ xs) ≡ false → (x ≢ f) × (has f xs ≡ false)
out_of_rest f x xs absent =
    elim (eqb_tells x f) [
      | inl same ↦ absurd (false≢true (sym absent ∙ ap (λ (t : Bool). t || has f xs) same.0))
      | inr differ ↦ (differ.1, sym (ap (λ (t : Bool). t || has f xs) differ.0) ∙ absent)
    ]

pub without-head : (f : ℕ) (xs : List ℕ) → without f (f ∷ xs) ≡ without f xs
without-head f xs = chosen (eqb f f) (without f xs) (f ∷ without f xs) (eq-eqb f f refl)

pub without-other : (f x : ℕ) (xs : List ℕ) → x ≢ f → without f (x ∷ xs) ≡ x ∷ without f xs
without-other f x xs ne = other_chosen (eqb x f) (without f xs) (x ∷ without f xs) (ne_eqb x f ne)

pub without-absent : (f : ℕ) (xs : List ℕ) → has f xs ≡ false → without f xs ≡ xs
without-absent f [] absent = refl
without-absent f (x ∷ xs) absent =
    let rest = out_of_rest f x xs absent in
    without-other f x xs rest.0 ∙ ap (λ (ys : List ℕ). x ∷ ys) (without-absent f xs rest.1)

pub has-without_same : (f : ℕ) (xs : List ℕ) → has f (without f xs) ≡ false
has-without_same f [] = refl
has-without_same f (x ∷ xs) =
    elim (eqb_tells x f) [
      | inl same ↦ ap (λ (ys : List ℕ). has f ys) (chosen (eqb x f) (without f xs) (x ∷ without f xs) same.0) ∙ has-without_same f xs
      | inr differ ↦ ap (λ (ys : List ℕ). has f ys) (without-other f x xs differ.1) ∙ has-other f x (without f xs) differ.1 ∙ has-without_same f xs
    ]

pub has-without_other : (f g : ℕ) (xs : List ℕ) → g ≢ f → has g (without f xs) ≡ has g xs
has-without_other f g [] ne = refl
has-without_other f g (x ∷ xs) ne =
    elim (eqb_tells x f) [
      | inl same ↦
          let differs : x ≢ g = λ e. ne (sym e ∙ same.1) in
          ap (λ (ys : List ℕ). has g ys) (chosen (eqb x f) (without f xs) (x ∷ without f xs) same.0)
          ∙ has-without_other f g xs ne
          ∙ sym (has-other g x xs differs)
      | inr differ ↦
          ap (λ (ys : List ℕ). has g ys) (without-other f x xs differ.1)
          ∙ ap (λ (t : Bool). eqb x g || t) (has-without_other f g xs ne)
    ]

pub once-without : (f : ℕ) (xs : List ℕ) → IsWithoutDoubles xs → IsWithoutDoubles (without f xs)
once-without f [] once = tt
once-without f (x ∷ xs) once =
    let P : List ℕ → Type 0 = λ (ys : List ℕ). IsWithoutDoubles ys in
    elim (eqb_tells x f) [
      | inl same ↦ subst P (sym (chosen (eqb x f) (without f xs) (x ∷ without f xs) same.0)) (once-without f xs once.1)
      | inr differ ↦ subst P (sym (without-other f x xs differ.1)) (has-without_other f x xs differ.1 ∙ once.0, once-without f xs once.1)
    ]

pub length-without : (f : ℕ) (xs : List ℕ) → IsWithoutDoubles xs → has f xs ≡ true → length (without f xs) + 1 ≡ length xs
length-without f [] once yes_f = absurd (false≢true yes_f)
length-without f (x ∷ xs) once yes_f =
    elim (eqb_tells x f) [
      | inl same ↦
          let absent : has f xs ≡ false = ap (λ (n : ℕ). has n xs) (sym same.1) ∙ once.0 in
          let rest = chosen (eqb x f) (without f xs) (x ∷ without f xs) same.0 ∙ without-absent f xs absent in
          omega (arith, ap (λ (ys : List ℕ). length ys) rest)
      | inr differ ↦
          let in_rest = sym (has-other f x xs differ.1) ∙ yes_f in
          omega (arith, ap (λ (ys : List ℕ). length ys) (without-other f x xs differ.1), length-without f xs once.1 in_rest)
    ]

-- a frame in a list stands at a place of it
pub some_length : (f : ℕ) (xs : List ℕ) → has f xs ≡ true → 0 < length xs
some_length f [] yes_f = absurd (false≢true yes_f)
some_length f (x ∷ xs) yes_f = omega arith

pub in_without : (f g : ℕ) (xs : List ℕ) → has f (without g xs) ≡ true → (f ≢ g) × (has f xs ≡ true)
in_without f g xs h =
    let differs : f ≢ g = λ e. false≢true (sym (ap (λ (n : ℕ). has n (without g xs)) e ∙ has-without_same g xs) ∙ h) in
    (differs, sym (has-without_other g f xs differs) ∙ h)

-- there are no more of them than numbers below the count
pub few_frames : (n : ℕ) (xs : List ℕ) → IsWithoutDoubles xs → ((f : ℕ) → has f xs ≡ true → f < n) → length xs ≤ n
few_frames zero [] once below = omega arith
few_frames zero (x ∷ xs) once below = absurd (omega (arith, below x (has-head x xs)))
few_frames (suc n) xs once below =
    elim (has n xs) as (λ b. has n xs ≡ b → length xs ≤ suc n) [
      | true ↦ λ there.
          let rest = few_frames n (without n xs) (once-without n xs once)
          (λ f h. let k = in_without f n xs h in let ne = k.0 in omega (arith, below f k.1)) in
          omega (arith, length-without n xs once there)
      | false ↦ λ absent.
          let rest = few_frames n xs once (λ f h. let ne = apart f n xs h absent in omega (arith, below f h)) in
          omega arith
    ] refl

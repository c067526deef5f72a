-- A walk backwards is the list turned round, and the first frame that passes on it.
use Rattle.std.proofs.Common.{None, Some, ◌≡◌, ◌∙◌, sym, ap, subst, refl, ℕ, suc, ◌+◌, inl, inr, Bool, true, false, eqb, ◌||◌, List, [], ◌∷◌, ◌++◌, length, reverse, Option, is_some, arith}
use Rattle.std.specs.Option.{option_map}
use Rattle.pc_types.specs.declared.ids.FrameId.{FrameId}
use Rattle.std.proofs.lemmas.Bool.{false≢true}
use Rattle.std.proofs.lemmas.List.{append_assoc, append-nil}
use Rattle.std.proofs.lemmas.Grind.{reverse_onto}
use Rattle.frames.specs.declared.link.Link.{Link}
use Rattle.frames.specs.Lists.{has, IsFirstPassing}
use Rattle.frames.specs.Rings.{prev_of, Chain, walk_back}
use Rattle.frames.proofs.ListLemmas.{has-head}

walk_back-chain : (links : List Link) (a : ℕ) (xs : List ℕ) (b n : ℕ) → Chain links a xs b → walk_back links (length xs + n) (prev_of links b) ≡ reverse xs ++ walk_back links n a
walk_back-chain links a [] b n chain =
    let size : length {A = ℕ} [] + n ≡ n = omega arith in
    ap (λ (k : ℕ). walk_back links k (prev_of links b)) size ∙ ap (λ (x : ℕ). walk_back links n x) chain.1
walk_back-chain links a (x ∷ xs) b n chain =
    let size : length (x ∷ xs) + n ≡ length xs + suc n = omega arith in
    ap (λ (k : ℕ). walk_back links k (prev_of links b)) size
    ∙ walk_back-chain links x xs b (suc n) chain.2
    ∙ ap (λ (y : ℕ). reverse xs ++ (x ∷ walk_back links n y)) chain.1
    ∙ sym (append_assoc (reverse xs) (x ∷ []) (walk_back links n a))
    ∙ ap (λ (ys : List ℕ). ys ++ walk_back links n a) (sym (reverse_onto xs x []))

pub walk_back-whole : (links : List Link) (a : ℕ) (xs : List ℕ) (b : ℕ) → Chain links a xs b → walk_back links (length xs) (prev_of links b) ≡ reverse xs
walk_back-whole links a xs b chain =
    let size : length xs ≡ length xs + 0 = omega arith in
    ap (λ (k : ℕ). walk_back links k (prev_of links b)) size ∙ walk_back-chain links a xs b 0 chain ∙ append-nil (reverse xs)

has-append : (f : ℕ) (xs ys : List ℕ) → has f (xs ++ ys) ≡ (has f xs || has f ys)
has-append f [] ys = refl
has-append f (x ∷ xs) ys = ap (λ (b : Bool). eqb x f || b) (has-append f xs ys) ∙ or_assoc (eqb x f) (has f xs) (has f ys)
  where
    or_assoc : (a b c : Bool) → (a || (b || c)) ≡ ((a || b) || c)
    or_assoc true b c = refl
    or_assoc false b c = refl

pub has-reverse : (f : ℕ) (xs : List ℕ) → has f (reverse xs) ≡ true → has f xs ≡ true
has-reverse f [] h = h
has-reverse f (x ∷ xs) h =
    pick (eqb x f) (has f (reverse xs)) (has f xs)
    (sym (ap (λ (ys : List ℕ). has f ys) (reverse_onto xs x []) ∙ has-append f (reverse xs) (x ∷ [])) ∙ h)
    (has-reverse f xs)
  where
    pick : (a b c : Bool) → (b || (a || false)) ≡ true → (b ≡ true → c ≡ true) → (a || c) ≡ true
    pick true b c h next = refl
    pick false true c h next = next refl
    pick false false c h next = absurd (false≢true h)

pub first_here : (answers : ℕ → Bool → Type 0) (links : List Link) (n m at : ℕ) → n ≡ suc m → answers at true → IsFirstPassing answers (walk_back links n at) (Some at)
first_here answers links n m at e h =
    let P : ℕ → Type 0 = λ (k : ℕ). IsFirstPassing answers (walk_back links k at) (Some at) in
    subst P (sym e) (inl (h, refl))

pub first_later : (answers : ℕ → Bool → Type 0) (links : List Link) (n m at next : ℕ) (r : Option ℕ) → n ≡ suc m → next ≡ prev_of links at → answers at false → IsFirstPassing answers (walk_back links m next) r → IsFirstPassing answers (walk_back links n at) r
first_later answers links n m at next r e step h rest =
    let P : ℕ → Type 0 = λ (k : ℕ). IsFirstPassing answers (walk_back links k at) r in
    let Q : ℕ → Type 0 = λ (k : ℕ). IsFirstPassing answers (walk_back links m k) r in
    subst P (sym e) (inr (h, subst Q step rest))

pub at_walk : (links : List Link) (n m at : ℕ) → n ≡ suc m → has at (walk_back links n at) ≡ true
at_walk links n m at e = ap (λ (k : ℕ). has at (walk_back links k at)) e ∙ has-head at (walk_back links m (prev_of links at))

pub later_walk : (links : List Link) (n m at next f : ℕ) → n ≡ suc m → next ≡ prev_of links at → has f (walk_back links m next) ≡ true → has f (walk_back links n at) ≡ true
later_walk links n m at next f e step h =
    ap (λ (k : ℕ). has f (walk_back links k at)) e
    ∙ or_true (eqb at f) (has f (walk_back links m (prev_of links at))) (sym (ap (λ (k : ℕ). has f (walk_back links m k)) step) ∙ h)
  where
    or_true : (s t : Bool) → t ≡ true → (s || t) ≡ true
    or_true true t e = refl
    or_true false t e = e

pub moved : (answers : ℕ → Bool → Type 0) (r : Option ℕ) (xs ys : List ℕ) → xs ≡ ys → IsFirstPassing answers xs r → IsFirstPassing answers ys r
moved answers r xs ys e h =
    let P : List ℕ → Type 0 = λ (zs : List ℕ). IsFirstPassing answers zs r in
    subst P e h

pub found_first : (answers : ℕ → Bool → Type 0) (xs ys : List ℕ) (r : Option ℕ) → is_some r ≡ true → IsFirstPassing answers xs r → IsFirstPassing answers (xs ++ ys) r
found_first answers [] ys r e h = absurd (false≢true (sym (ap is_some h) ∙ e))
found_first answers (x ∷ xs) ys r e (inl h) = inl h
found_first answers (x ∷ xs) ys r e (inr h) = inr (h.0, found_first answers xs ys r e h.1)

pub found_after : (answers : ℕ → Bool → Type 0) (xs ys : List ℕ) (first r : Option ℕ) → is_some first ≡ false → IsFirstPassing answers xs first → IsFirstPassing answers ys r → IsFirstPassing answers (xs ++ ys) r
found_after answers [] ys first r e h rest = rest
found_after answers (x ∷ xs) ys first r e (inl h) rest = absurd (false≢true (sym e ∙ ap is_some h.1))
found_after answers (x ∷ xs) ys first r e (inr h) rest = inr (h.0, found_after answers xs ys first r e h.1 rest)

-- the walk over a list from its head backwards
pub walked : (links now : List Link) (n at len : ℕ) (xs ys : List ℕ) → now ≡ links → at ≡ n → len ≡ length xs → Chain links n xs n → xs ≡ ys → walk_back now len (prev_of now at) ≡ reverse ys
walked links now n at len xs ys of_links of_at of_len chain of_list =
    ap (λ (ls : List Link). walk_back ls len (prev_of ls at)) of_links
    ∙ ap (λ (k : ℕ). walk_back links len (prev_of links k)) of_at
    ∙ ap (λ (k : ℕ). walk_back links k (prev_of links n)) of_len
    ∙ walk_back-whole links n xs n chain
    ∙ ap (λ (zs : List ℕ). reverse zs) of_list

pub is_some_number : (o : Option FrameId) → is_some (option_map (λ (f : FrameId). f.0) o) ≡ is_some o
is_some_number None = refl
is_some_number (Some f) = refl

-- Chains of links: walks along them, and what an insertion or a removal leaves.
use Rattle.std.proofs.Common.{◌≡◌, ◌≢◌, ◌∙◌, sym, ap, subst, refl, ℕ, ◌⊎◌, inl, inr, Bool, true, false, eqb, ◌||◌, List, [], ◌∷◌, length}
use Rattle.std.proofs.lemmas.Bool.{false≢true}
use Rattle.std.proofs.lemmas.Bool.Decides.{eqb_tells}
use Rattle.frames.specs.declared.link.Link.{Link}
use Rattle.frames.specs.Lists.{has, without, IsWithoutDoubles}
use Rattle.frames.specs.Rings.{next_of, prev_of, Chain, walk, Inserts, Unlinks}
use Rattle.frames.proofs.ListLemmas.{has-head, has-other, apart, out_of_rest, without-other, without-absent, chosen}

pub walk-chain : (links : List Link) (a : ℕ) (xs : List ℕ) (b : ℕ) → Chain links a xs b → walk links (length xs) (next_of links a) ≡ xs
walk-chain links a [] b chain = refl
walk-chain links a (x ∷ xs) b chain =
    ap (λ (y : ℕ). y ∷ walk links (length xs) (next_of links y)) chain.0
    ∙ ap (λ (ys : List ℕ). x ∷ ys) (walk-chain links x xs b chain.2)

-- links that differ elsewhere alone make the same chain
pub Chain-same : (old new : List Link) (a : ℕ) (xs : List ℕ) (b : ℕ) → ((x : ℕ) → (x ≡ a) ⊎ (has x xs ≡ true) → next_of new x ≡ next_of old x) → ((x : ℕ) → (x ≡ b) ⊎ (has x xs ≡ true) → prev_of new x ≡ prev_of old x) → Chain old a xs b → Chain new a xs b
Chain-same old new a [] b nexts prevs chain = (nexts a (inl refl) ∙ chain.0, prevs b (inl refl) ∙ chain.1)
Chain-same old new a (x ∷ xs) b nexts prevs chain =
    let in_list : (y : ℕ) → has y xs ≡ true → has y (x ∷ xs) ≡ true = λ y yes_y. or_true (eqb x y) (has y xs) yes_y in (
      nexts a (inl refl) ∙ chain.0,
      prevs x (inr (has-head x xs)) ∙ chain.1,
      Chain-same old new x xs b
          (λ y which. nexts y (inr (elim which [ inl e ↦ ap (λ (n : ℕ). has n (x ∷ xs)) e ∙ has-head x xs | inr yes_y ↦ in_list y yes_y ])))
          (λ y which. prevs y (elim which [ inl e ↦ inl e | inr yes_y ↦ inr (in_list y yes_y) ]))
          chain.2,
    )
  where
    or_true : (s t : Bool) → t ≡ true → (s || t) ≡ true
    or_true true t e = refl
    or_true false t e = e

-- the first place after a, and its way back
pub Chain-first : (links : List Link) (a : ℕ) (xs : List ℕ) (b : ℕ) → Chain links a xs b → (next_of links a ≡ b) ⊎ (has (next_of links a) xs ≡ true)
Chain-first links a [] b chain = inl chain.0
Chain-first links a (x ∷ xs) b chain = inr (ap (λ (n : ℕ). has n (x ∷ xs)) chain.0 ∙ has-head x xs)

-- a frame is put at the front
pub Chain-inserted : (old new : List Link) (a f : ℕ) (xs : List ℕ) (b : ℕ) → has f xs ≡ false → has a xs ≡ false → f ≢ a → f ≢ b → IsWithoutDoubles xs → has b xs ≡ false → Chain old a xs b → Inserts old a f new → Chain new a (f ∷ xs) b
Chain-inserted old new a f [] b no_f no_a not_a not_b once no_b chain ins =
    (ins.next_at, ins.prev_frame, (ins.next_frame ∙ chain.0, ap (λ (n : ℕ). prev_of new n) (sym chain.0) ∙ ins.prev_after))
Chain-inserted old new a f (x ∷ xs) b no_f no_a not_a not_b once no_b chain ins =
    let rest_f = out_of_rest f x xs no_f in
    let rest_a = out_of_rest a x xs no_a in
    let rest_b = out_of_rest b x xs no_b in (
      ins.next_at,
      ins.prev_frame,
      (
        ins.next_frame ∙ chain.0,
        ap (λ (n : ℕ). prev_of new n) (sym chain.0) ∙ ins.prev_after,
        Chain-same old new x xs b
            (λ y which. ins.next_others y
            (elim which [ inl e ↦ λ k. rest_a.0 (sym e ∙ k) | inr yes_y ↦ apart y a xs yes_y rest_a.1 ])
            (elim which [ inl e ↦ λ k. rest_f.0 (sym e ∙ k) | inr yes_y ↦ apart y f xs yes_y rest_f.1 ]))
            (λ y which. ins.prev_others y
            (elim which [ inl e ↦ λ k. rest_b.0 (sym chain.0 ∙ (sym k ∙ e)) | inr yes_y ↦ λ k. apart y x xs yes_y once.0 (k ∙ chain.0) ])
            (elim which [ inl e ↦ λ k. not_b (sym k ∙ e) | inr yes_y ↦ apart y f xs yes_y rest_f.1 ]))
            chain.2,
      ),
    )

-- the neighbours of a frame of the chain
pub prev_in : (links : List Link) (a f : ℕ) (xs : List ℕ) (b : ℕ) → has f xs ≡ true → Chain links a xs b → (prev_of links f ≡ a) ⊎ (has (prev_of links f) xs ≡ true)
prev_in links a f [] b yes_f chain = absurd (false≢true yes_f)
prev_in links a f (x ∷ xs) b yes_f chain =
    elim (eqb_tells x f) [
      | inl same ↦ inl (ap (λ (n : ℕ). prev_of links n) (sym same.1) ∙ chain.1)
      | inr differ ↦
          elim (prev_in links x f xs b (sym (has-other f x xs differ.1) ∙ yes_f) chain.2) [
            | inl e ↦ inr (ap (λ (n : ℕ). has n (x ∷ xs)) e ∙ has-head x xs)
            | inr yes_p ↦ inr (or_true (eqb x (prev_of links f)) (has (prev_of links f) xs) yes_p)
          ]
    ]
  where
    or_true : (s t : Bool) → t ≡ true → (s || t) ≡ true
    or_true true t e = refl
    or_true false t e = e

pub next_in : (links : List Link) (a f : ℕ) (xs : List ℕ) (b : ℕ) → has f xs ≡ true → Chain links a xs b → (next_of links f ≡ b) ⊎ (has (next_of links f) xs ≡ true)
next_in links a f [] b yes_f chain = absurd (false≢true yes_f)
next_in links a f (x ∷ xs) b yes_f chain =
    elim (eqb_tells x f) [
      | inl same ↦
          let first = Chain-first links x xs b chain.2 in
          let here = ap (λ (n : ℕ). next_of links n) (sym same.1) in
          elim first [
            | inl e ↦ inl (here ∙ e)
            | inr yes_n ↦ inr (or_true (eqb x (next_of links f)) (has (next_of links f) xs) (ap (λ (n : ℕ). has n xs) here ∙ yes_n))
          ]
      | inr differ ↦
          elim (next_in links x f xs b (sym (has-other f x xs differ.1) ∙ yes_f) chain.2) [
            | inl e ↦ inl e
            | inr yes_n ↦ inr (or_true (eqb x (next_of links f)) (has (next_of links f) xs) yes_n)
          ]
    ]
  where
    or_true : (s t : Bool) → t ≡ true → (s || t) ≡ true
    or_true true t e = refl
    or_true false t e = e

-- a frame is taken out
pub Chain-unlinked : (old new : List Link) (a f : ℕ) (xs : List ℕ) (b : ℕ) → has f xs ≡ true → has a xs ≡ false → has b xs ≡ false → IsWithoutDoubles xs → Chain old a xs b → Unlinks old f new → Chain new a (without f xs) b
Chain-unlinked old new a f [] b yes_f no_a no_b once chain out = absurd (false≢true yes_f)
Chain-unlinked old new a f (x ∷ xs) b yes_f no_a no_b once chain out =
    let rest_a = out_of_rest a x xs no_a in
    let rest_b = out_of_rest b x xs no_b in
    let P : List ℕ → Type 0 = λ (ys : List ℕ). Chain new a ys b in
    elim (eqb_tells x f) [
      | inl same ↦
          let no_f : has f xs ≡ false = ap (λ (n : ℕ). has n xs) (sym same.1) ∙ once.0 in
          let before : prev_of old f ≡ a = ap (λ (n : ℕ). prev_of old n) (sym same.1) ∙ chain.1 in
          let joined_rest = front old new a f xs b rest_a.1 rest_b.1 once.1 before (subst (λ (n : ℕ). Chain old n xs b) same.1 chain.2) out in
          subst P (sym (chosen (eqb x f) (without f xs) (x ∷ without f xs) same.0 ∙ without-absent f xs no_f)) joined_rest
      | inr differ ↦
          let in_rest : has f xs ≡ true = sym (has-other f x xs differ.1) ∙ yes_f in
          let not_first : a ≢ prev_of old f =
          elim (prev_in old x f xs b in_rest chain.2) [ inl e ↦ λ k. rest_a.0 (sym (k ∙ e)) | inr yes_p ↦ λ k. apart (prev_of old f) a xs yes_p rest_a.1 (sym k) ]
          in
          let not_after : x ≢ next_of old f =
          elim (next_in old x f xs b in_rest chain.2) [ inl e ↦ λ k. rest_b.0 (k ∙ e) | inr yes_n ↦ λ k. apart (next_of old f) x xs yes_n once.0 (sym k) ]
          in
          subst P (sym (without-other f x xs differ.1)) (
            out.next_others a not_first ∙ chain.0,
            out.prev_others x not_after ∙ chain.1,
            Chain-unlinked old new x f xs b in_rest once.0 rest_b.1 once.1 chain.2 out,
          )
    ]
  where
    front : (old new : List Link) (a f : ℕ) (xs : List ℕ) (b : ℕ) → has a xs ≡ false → has b xs ≡ false → IsWithoutDoubles xs → prev_of old f ≡ a → Chain old f xs b → Unlinks old f new → Chain new a xs b
    front old new a f [] b no_a no_b once before chain out = (
      ap (λ (n : ℕ). next_of new n) (sym before) ∙ out.next_before ∙ chain.0,
      ap (λ (n : ℕ). prev_of new n) (sym chain.0) ∙ out.prev_after ∙ before,
    )
    front old new a f (y ∷ ys) b no_a no_b once before chain out =
        let rest_a = out_of_rest a y ys no_a in
        let rest_b = out_of_rest b y ys no_b in (
          ap (λ (n : ℕ). next_of new n) (sym before) ∙ out.next_before ∙ chain.0,
          ap (λ (n : ℕ). prev_of new n) (sym chain.0) ∙ out.prev_after ∙ before,
          Chain-same old new y ys b
              (λ z which. out.next_others z (elim which [ inl e ↦ λ k. rest_a.0 (sym e ∙ (k ∙ before)) | inr yes_z ↦ λ k. apart z a ys yes_z rest_a.1 (k ∙ before) ]))
              (λ z which. out.prev_others z (elim which [ inl e ↦ λ k. rest_b.0 (sym chain.0 ∙ (sym k ∙ e)) | inr yes_z ↦ λ k. apart z y ys yes_z once.0 (k ∙ chain.0) ]))
              chain.2,
        )

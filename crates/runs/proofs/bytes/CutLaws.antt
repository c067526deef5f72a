-- What a truncation does to the pages of a plain file, and which pages a write covers.
use Rattle.std.proofs.Common.{◌≡◌, ℕ, ◌+◌, ◌-◌, ◌*◌, ◌/◌, ◌%◌, ◌<◌, ◌≤◌, true, cond, ltb, leb, List, [], length, get_or}
use Rattle.std.proofs.Common.{take, drop, ap, sym, ◌∙◌, arith, inl, inr, length-drop, ◌&&◌, ◌⊎◌, le-div_iff_mul-le}
use Rattle.std.proofs.lemmas.Grind.{same_number_lists}
use Rattle.std.proofs.lemmas.Bool.Decides.{nat_tests}
use Rattle.std.proofs.lemmas.List.{get_or_past}
use Rattle.pc_types.specs.Files.{pwrite, cut, page_of}
use Rattle.pc_types.proofs.FileLaws.{byte-pwrite, byte-take, byte-page, length-cut, byte-cut}
use Rattle.machine.specs.Changes.{overlay}
use Rattle.machine.specs.Tests.{covers}
use Rattle.machine.specs.State.{page_count}
use Rattle.machine.proofs.changes.StateLaws.{touches}
use Rattle.machine.proofs.changes.WriteLengths.{length-overlay}
use Rattle.runs.proofs.bytes.PageLaws.{length-page}

-- ---- page counts

-- a page below the count begins below the size
pub begins_below : (P z q : ℕ) → 0 < P → q < page_count P z → q * P < z
begins_below P z q h l =
    let a : (q + 1) * P ≤ z + (P - 1) = (le-div_iff_mul-le h).0 (omega arith) in
    let b : (q + 1) * P ≡ q * P + P = grind arith in omega arith

-- and the other way round
pub below_count : (P z q : ℕ) → 0 < P → q * P < z → q < page_count P z
below_count P z q h l =
    (let b : (q + 1) * P ≡ q * P + P = grind arith in let a : q + 1 ≤ (z + (P - 1)) / P =
    (le-div_iff_mul-le h).1 (omega arith) in omega arith)

-- a page at or past the count begins at the size or past it
pub begins_past : (P z q : ℕ) → 0 < P → page_count P z ≤ q → z ≤ q * P
begins_past P z q h l = let no : q * P < z → q < page_count P z = below_count P z q h in
    let n : ¬ (q * P < z) = (λ k. let a = no k in omega arith) in omega arith

-- a page below the count that the cut does not fall into lies before it
pub lies_before : (P z q : ℕ) → 0 < P → q < page_count P z → (z / P ≡ q → z % P ≡ 0) → q * P + P ≤ z
lies_before P z q h l whole =
    let a = begins_below P z q h l in
    let b : q ≤ z / P = (le-div_iff_mul-le h).1 (omega arith) in
    let d : (q + 1) * P ≡ q * P + P = grind arith in
    let f : q + 1 ≤ z / P → (q + 1) * P ≤ z = (le-div_iff_mul-le h).0 in
    let e : z / P * P ≡ P * (z / P) = grind arith in
    let g : z / P ≡ q → z / P * P ≡ q * P = λ k i. k i * P in
    go a b d f e g whole
  where
    split : (x q : ℕ) → q ≤ x → (x ≡ q) ⊎ (q + 1 ≤ x)
    split x q l = grind arith

    go : q * P < z → q ≤ z / P → (q + 1) * P ≡ q * P + P → (q + 1 ≤ z / P → (q + 1) * P ≤ z) → z / P * P ≡ P * (z / P)
        → (z / P ≡ q → z / P * P ≡ q * P) → (z / P ≡ q → z % P ≡ 0) → q * P + P ≤ z
    go a b d f e g whole = elim (split (z / P) q b) [
      | inl k ↦ (let m = whole k in let n = g k in omega arith)
      | inr k ↦ (let m = f k in omega arith)
    ]

-- ---- cut

-- pages before the cut stay
pub cut_before : (P z q : ℕ) (f : List ℕ) → q * P + P ≤ z → page_of P (cut f z) q ≡ page_of P f q
cut_before P z q f h = same_number_lists _ _ (length-page P (cut f z) q ∙ sym (length-page P f q)) (λ k l.
    let small : k < P = omega (arith, length-page P (cut f z) q) in
    byte-page P (cut f z) q k small ∙ byte-cut f z (q * P + k) ∙ grind (arith, nat_tests)
    ∙ sym (byte-page P f q k small))

byte-zeros : (P k : ℕ) → get_or (cut [] P) k 0 ≡ 0
byte-zeros P k = byte-cut [] P k ∙ grind (arith, nat_tests)

-- pages past the cut are zeros
pub cut_past : (P z q : ℕ) (f : List ℕ) → z ≤ q * P → page_of P (cut f z) q ≡ cut [] P
cut_past P z q f h = same_number_lists _ _ (length-page P (cut f z) q ∙ sym (length-cut [] P)) (λ k l.
    let small : k < P = omega (arith, length-page P (cut f z) q) in
    byte-page P (cut f z) q k small ∙ byte-cut f z (q * P + k) ∙ grind (arith, nat_tests) ∙ sym (byte-zeros P k))

-- the page that the cut falls into keeps its front
pub cut_within : (P z q : ℕ) (f : List ℕ) → 0 < P → z / P ≡ q
    → page_of P (cut f z) q ≡ cut (take (z % P) (page_of P f q)) P
cut_within P z q f h e =
    same_number_lists _ _ (length-page P (cut f z) q ∙ sym (length-cut (take (z % P) (page_of P f q)) P)) (λ k l.
    let small : k < P = omega (arith, length-page P (cut f z) q) in
    byte-page P (cut f z) q k small ∙ byte-cut f z (q * P + k) ∙ same k small
    ∙ sym (byte-cut (take (z % P) (page_of P f q)) P k
    ∙ ap (λ (x : ℕ). cond (ltb k P) x 0) (byte-take (z % P) (page_of P f q) k)))
  where
    same : (k : ℕ) → k < P → cond (ltb (q * P + k) z) (get_or f (q * P + k) 0) 0
        ≡ cond (ltb k P) (cond (ltb k (z % P)) (get_or (page_of P f q) k 0) 0) 0
    same k small =
        let byte = byte-page P f q k small in
        let d : z / P * P ≡ P * (z / P) = grind arith in
        let g : z / P * P ≡ q * P = (λ i. e i * P) in
        let whole : q * P + z % P ≡ z = omega arith in
        grind (arith, nat_tests)

-- zeros cut anywhere are zeros
pub cut_zeros : (P m : ℕ) → cut (take m (cut [] P)) P ≡ cut [] P
cut_zeros P m = same_number_lists _ _ (length-cut (take m (cut [] P)) P ∙ sym (length-cut [] P))
    (λ k l. byte-cut (take m (cut [] P)) P k
    ∙ ap (λ (x : ℕ). cond (ltb k P) x 0)
    (byte-take m (cut [] P) k ∙ ap (λ (x : ℕ). cond (ltb k m) x 0) (byte-zeros P k)) ∙ grind (arith, nat_tests)
    ∙ sym (byte-zeros P k))

-- a file that grows by zeros has the same pages
pub cut_longer : (P z q : ℕ) (f : List ℕ) → length f ≤ z → page_of P (cut f z) q ≡ page_of P f q
cut_longer P z q f h = same_number_lists _ _ (length-page P (cut f z) q ∙ sym (length-page P f q)) (λ k l.
    let small : k < P = omega (arith, length-page P (cut f z) q) in
    let past = get_or_past f (q * P + k) 0 in
    byte-page P (cut f z) q k small ∙ byte-cut f z (q * P + k) ∙ grind (arith, nat_tests)
    ∙ sym (byte-page P f q k small))

-- ---- write

-- where a page is wholly covered, what it held does not matter
pub overlay_covered : (P o p : ℕ) (b x y : List ℕ) → length x ≡ P → length y ≡ P → covers P o (length b) p ≡ true
    → overlay P o b p x ≡ overlay P o b p y
overlay_covered P o p b x y e k c =
    same_number_lists _ _ (length-overlay P o p b x e ∙ sym (length-overlay P o p b y k)) (λ i l.
    let small : i < P = omega (arith, length-overlay P o p b x e) in
    byte-take P (pwrite x (o - p * P) (drop (p * P - o) b)) i
    ∙ ap (λ (v : ℕ). cond (ltb i P) v 0) (byte-pwrite x (o - p * P) (drop (p * P - o) b) i)
    ∙ same i small
    ∙ sym (byte-take P (pwrite y (o - p * P) (drop (p * P - o) b)) i
    ∙ ap (λ (v : ℕ). cond (ltb i P) v 0) (byte-pwrite y (o - p * P) (drop (p * P - o) b) i)))
  where
    same : (i : ℕ) → i < P → cond (ltb i P)
        (cond (leb (o - p * P) i && ltb i (o - p * P + length (drop (p * P - o) b)))
        (get_or (drop (p * P - o) b) (i - (o - p * P)) 0) (get_or x i 0)) 0
        ≡ cond (ltb i P) (cond (leb (o - p * P) i && ltb i (o - p * P + length (drop (p * P - o) b)))
        (get_or (drop (p * P - o) b) (i - (o - p * P)) 0) (get_or y i 0)) 0
    same i small =
        let size = length-drop (p * P - o) b in
        grind (arith, nat_tests)

-- a page that is touched is below the count of the size that is reached
pub touched_in : (P o n p z : ℕ) → 0 < P → 0 < n → o + n ≤ z → touches P o n p ≡ true → p < page_count P z
touched_in P o n p z h m l t =
    let a : (o / P ≤ p) × (p ≤ (o + n - 1) / P) = grind (arith, nat_tests) in
    let b : p * P ≤ o + n - 1 = (le-div_iff_mul-le h).0 a.1 in
    below_count P z p h (omega arith)

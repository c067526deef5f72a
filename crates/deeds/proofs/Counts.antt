-- The bytes of blocks, the calls of them, and how many deeds are out, after one block or place was set.
use Rattle.std.proofs.Common.{◌≡◌, ◌⊎◌, ℕ, zero, suc, ◌+◌, ◌≤◌, Bool, cond, List, [], ◌∷◌, map, length, refl, ap, sym, ◌∙◌, arith, inl, inr, ⊎_elim}
use Rattle.std.specs.Prelude.{slice_get, slice_set, Some}
use Rattle.std.proofs.lemmas.List.Sums.{sum_by-cons}
use Rattle.std.proofs.lemmas.Option.{none-some, same_Some}
use Rattle.blockdev.specs.Device.{Told}
use Rattle.deeds.specs.declared.views.Block.{Block}
use Rattle.deeds.specs.declared.views.Given.{Given}
use Rattle.deeds.specs.declared.views.Place.{Place}
use Rattle.deeds.specs.declared.views.Place.TheVariants.{Home, Out}
use Rattle.deeds.specs.Comes.{MayHave, MayLeave}
use Rattle.deeds.specs.Rules.{HasOut, Knows}
use Rattle.deeds.specs.Shown.{AreTold, bytes_of, calls_of, is_out, known, out_count, uncalled}

-- ---- bytes

pub contents_at : (blocks : List Block) (k : ℕ) (b : Block) → slice_get blocks k ≡ Some b
    → slice_get (bytes_of blocks) k ≡ Some b.bytes
contents_at [] k b e = absurd (none-some b e)
contents_at (x ∷ xs) zero b e = ap (λ (y : Block). Some y.bytes) (same_Some x b e)
contents_at (x ∷ xs) (suc k) b e = contents_at xs k b e

pub contents_set : (blocks : List Block) (k : ℕ) (b : Block)
    → bytes_of (slice_set blocks k b) ≡ slice_set (bytes_of blocks) k b.bytes
contents_set [] k b = refl
contents_set (x ∷ xs) zero b = refl
contents_set (x ∷ xs) (suc k) b = λ i. x.bytes ∷ contents_set xs k b i

pub contents_uncalled : (blocks : List (List ℕ)) → bytes_of (map uncalled blocks) ≡ blocks
contents_uncalled [] = refl
contents_uncalled (b ∷ bs) = λ i. b ∷ contents_uncalled bs i

pub length_uncalled : (blocks : List (List ℕ)) → length (map uncalled blocks) ≡ length blocks
length_uncalled [] = refl
length_uncalled (b ∷ bs) = ap suc (length_uncalled bs)

-- ---- calls

abbrev calls_in : Block → ℕ
calls_in b = b.calls

calls_cons : (b : Block) (bs : List Block) → calls_of (b ∷ bs) ≡ b.calls + calls_of bs
calls_cons b bs = sum_by-cons calls_in b bs

pub calls_uncalled : (blocks : List (List ℕ)) → calls_of (map uncalled blocks) ≡ 0
calls_uncalled [] = refl
calls_uncalled (b ∷ bs) =
    let here = calls_cons (uncalled b) (map uncalled bs) in
    let rest = calls_uncalled bs in
    omega (arith, here, rest)

pub calls_set : (blocks : List Block) (k : ℕ) (b c : Block) → slice_get blocks k ≡ Some b → c.calls ≡ b.calls + 1
    → calls_of (slice_set blocks k c) ≡ calls_of blocks + 1
calls_set [] k b c e more = absurd (none-some b e)
calls_set (x ∷ xs) zero b c e more =
    let same : x.calls ≡ b.calls = ap calls_in (same_Some x b e) in
    let old = calls_cons x xs in
    let new = calls_cons c xs in
    omega (arith, same, old, new, more)
calls_set (x ∷ xs) (suc k) b c e more =
    let old = calls_cons x xs in
    let new = calls_cons x (slice_set xs k c) in
    let rest = calls_set xs k b c e more in
    omega (arith, old, new, rest)

-- ---- deeds that are out

abbrev as_one : Place → ℕ
as_one p = cond (is_out p) 1 0

out_cons : (p : Place) (ps : List Place) → out_count (p ∷ ps) ≡ as_one p + out_count ps
out_cons p ps = sum_by-cons as_one p ps

pub none_is_out : (blocks : List Block) → out_count (map Home blocks) ≡ 0
none_is_out [] = refl
none_is_out (b ∷ bs) =
    let here = out_cons (Home b) (map Home bs) in
    let rest = none_is_out bs in
    omega (arith, here, rest)

-- one more place that counts as the other does not
set_one : (places : List Place) (k : ℕ) (p q : Place) → slice_get places k ≡ Some p → as_one q ≡ as_one p + 1
    → out_count (slice_set places k q) ≡ out_count places + 1
set_one [] k p q e more = absurd (none-some p e)
set_one (x ∷ xs) zero p q e more =
    let same : as_one x ≡ as_one p = ap as_one (same_Some x p e) in
    let old = out_cons x xs in
    let new = out_cons q xs in
    omega (arith, same, old, new, more)
set_one (x ∷ xs) (suc k) p q e more =
    let old = out_cons x xs in
    let new = out_cons x (slice_set xs k q) in
    let rest = set_one xs k p q e more in
    omega (arith, old, new, rest)

set_less : (places : List Place) (k : ℕ) (p q : Place) → slice_get places k ≡ Some p → as_one q + 1 ≡ as_one p
    → out_count (slice_set places k q) + 1 ≡ out_count places
set_less [] k p q e less = absurd (none-some p e)
set_less (x ∷ xs) zero p q e less =
    let same : as_one x ≡ as_one p = ap as_one (same_Some x p e) in
    let old = out_cons x xs in
    let new = out_cons q xs in
    omega (arith, same, old, new, less)
set_less (x ∷ xs) (suc k) p q e less =
    let old = out_cons x xs in
    let new = out_cons x (slice_set xs k q) in
    let rest = set_less xs k p q e less in
    omega (arith, old, new, rest)

pub out_set : (places : List Place) (k : ℕ) (b : Block) (g : Given) → slice_get places k ≡ Some (Home b)
    → out_count (slice_set places k (Out g)) ≡ out_count places + 1
out_set places k b g e = set_one places k (Home b) (Out g) e refl

pub in_set : (places : List Place) (k : ℕ) (g : Given) (b : Block) → slice_get places k ≡ Some (Out g)
    → out_count (slice_set places k (Home b)) + 1 ≡ out_count places
in_set places k g b e = set_less places k (Out g) (Home b) e refl

-- ---- both sides together

-- the device made the calls that the desk knows of, and at most one more for each deed that is out
abbrev pub AccountsFor : List Block → List Place → Type 0
AccountsFor blocks places = (more : ℕ) × (more ≤ out_count places) × (calls_of blocks ≡ calls_of (known places) + more)

more_by : (told : Bool) (g : Given) (now : Block) → MayHave told g.task g.before now
    → (now.calls ≡ g.before.calls) ⊎ (now.calls ≡ g.before.calls + 1)
more_by told g now m = ⊎_elim
    (λ (e : now ≡ g.before). inl (ap calls_in e))
    (λ (l : MayLeave told g.task g.before now). inr l.0) m

pub accounts : (told : Bool) (blocks : List Block) (places : List Place) → Knows told blocks places
    → AccountsFor blocks places
accounts told [] [] k = (0, omega arith, refl)
accounts told [] (p ∷ ps) k = absurd (let e = k.count in omega arith)
accounts told (b ∷ bs) [] k = absurd (let e = k.count in omega arith)
accounts told (b ∷ bs) (p ∷ ps) k =
    let count : length ps ≡ length bs = let e = k.count in omega arith in
    let rest = accounts told bs ps
    (record { count = count; home = λ i x h. k.home (suc i) x h; out = λ i g h. k.out (suc i) g h }) in
    at p refl rest
  where
    at : (q : Place) → p ≡ q → AccountsFor bs ps → AccountsFor (b ∷ bs) (p ∷ ps)
    at (Home now) is rest =
        let same : b.calls ≡ now.calls = ap calls_in (same_Some b now (k.home 0 now (ap Some is))) in
        let known_is : calls_of (known (p ∷ ps)) ≡ now.calls + calls_of (known ps) =
        ap (λ x. calls_of (known (x ∷ ps))) is ∙ calls_cons now (known ps) in
        let out_is : out_count (p ∷ ps) ≡ 0 + out_count ps =
        ap (λ x. out_count (x ∷ ps)) is ∙ out_cons (Home now) ps in
        let here = calls_cons b bs in
        let few = rest.1 in
        let all = rest.2 in
        (rest.0, omega (arith, few, out_is), omega (arith, same, known_is, here, all))
    at (Out g) is rest =
        let o : HasOut told (b ∷ bs) 0 g = k.out 0 g (ap Some is) in
        let same : b.calls ≡ o.0.calls = ap calls_in (same_Some b o.0 o.1) in
        let known_is : calls_of (known (p ∷ ps)) ≡ g.before.calls + calls_of (known ps) =
        ap (λ x. calls_of (known (x ∷ ps))) is ∙ calls_cons g.before (known ps) in
        let out_is : out_count (p ∷ ps) ≡ 1 + out_count ps =
        ap (λ x. out_count (x ∷ ps)) is ∙ out_cons (Out g) ps in
        let here = calls_cons b bs in
        let few = rest.1 in
        let all = rest.2 in
        ⊎_elim
        (λ (e : o.0.calls ≡ g.before.calls).
        (rest.0, omega (arith, few, out_is), omega (arith, same, known_is, here, all, e)))
        (λ (e : o.0.calls ≡ g.before.calls + 1).
        (rest.0 + 1, omega (arith, few, out_is), omega (arith, same, known_is, here, all, e)))
        (more_by told g o.0 o.2)

-- ---- what the device tells

pub told_uncalled : (told : Bool) (device : Told) (blocks found : List (List ℕ)) (side : List Block) → AreTold told device blocks
    → side ≡ map uncalled found → found ≡ blocks → AreTold told device (bytes_of side)
told_uncalled told device blocks found side tells is same sure =
    tells sure ∙ ap Some (sym (ap bytes_of is ∙ contents_uncalled found ∙ same))

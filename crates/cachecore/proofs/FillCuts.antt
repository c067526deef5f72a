-- The pages that are filling after a truncation, and how many there are.
use Rattle.std.proofs.Common.{◌≡◌, ℕ, Bool, true, false, cond, not, eqb, eqb-true, List, [], ◌∷◌, refl, ap, sym, ◌∙◌}
use Rattle.std.proofs.Common.{map}
use Rattle.std.specs.Prelude.{◌&&◌, ◌||◌, Some, nat_le}
use Rattle.std.specs.List.{list_any}
use Rattle.std.specs.FinMap as finmap
use Rattle.std.specs.FinSet as set
use Rattle.pc_types.specs.Kinds.{is_fill}
use Rattle.machine.specs.State.{State, Request, fills, filling_total, is_filling, page_count, block_at}
use Rattle.machine.specs.Changes.{cut_request, shrunk}
use Rattle.machine.specs.Sound.{Sound}
use Rattle.pagestore.specs.Store.{Store, is_awaited}
use Rattle.machine.proofs.steps.Choices.{and_true, not_true}
use Rattle.cachecore.proofs.FillPlaces.{len-filling}
use Rattle.maps.proofs.MapLaws.{entries-each_value}

nothing_left : (b : Bool) → false ≡ (b && false)
nothing_left true = refl
nothing_left false = refl

all_left : (b : Bool) → b ≡ (b && true)
all_left true = refl
all_left false = refl

or_left : (a b w : Bool) → ((a && w) || (b && w)) ≡ ((a || b) && w)
or_left true true true = refl
or_left true true false = refl
or_left true false true = refl
or_left true false false = refl
or_left false b w = refl

-- whether page q of file g is cut off
abbrev off : ℕ → ℕ → ℕ → ℕ → Bool
off f n g q = eqb g f && nat_le n q

-- a fill stays where its page is not cut off
one_fill : (f n g q : ℕ) (r : Request) → fills g q (cut_request f n r) ≡ (fills g q r && not (eqb g f && nat_le n q))
one_fill f n g q r = go (eqb r.file g) (eqb r.page q) (eqb r.file f && nat_le n r.page) refl refl refl
  where
    cut_here : (c : Bool) → c ≡ off f n g q → (a d : Bool)
        → (a && not (cond c true d) && true) ≡ ((a && not d && true) && not (off f n g q))
    cut_here true e true d = nothing_left (not d && true) ∙ ap (λ b. (not d && true) && not b) e
    cut_here true e false d = refl
    cut_here false e true d = all_left (not d && true) ∙ ap (λ b. (not d && true) && not b) e
    cut_here false e false d = refl

    elsewhere : (a d : Bool) → (a && d && false) ≡ false
    elsewhere true true = refl
    elsewhere true false = refl
    elsewhere false d = refl

    none : (a d w : Bool) → false ≡ ((a && d && false) && w)
    none true true w = refl
    none true false w = refl
    none false d w = refl

    drops : (c : Bool) → fills g q (cond c (record r { dropped = true }) r)
        ≡ (is_fill r.kind && not (cond c true r.dropped) && (eqb r.file g && eqb r.page q))
    drops true = refl
    drops false = refl

    go : (x y c : Bool) → eqb r.file g ≡ x → eqb r.page q ≡ y → (eqb r.file f && nat_le n r.page) ≡ c
        → fills g q (cut_request f n r) ≡ (fills g q r && not (off f n g q))
    go true true c i j k =
        let same : c ≡ off f n g q = sym k ∙ (λ t. eqb (eqb-true r.file g i t) f && nat_le n (eqb-true r.page q j t)) in
        ap (λ b. fills g q (cond b (record r { dropped = true }) r)) k ∙ drops c
        ∙ (λ t. is_fill r.kind && not (cond c true r.dropped) && (i t && j t))
        ∙ cut_here c same (is_fill r.kind) r.dropped
        ∙ (λ t. (is_fill r.kind && not r.dropped && (sym i t && sym j t)) && not (off f n g q))
    go true false c i j k = ap (λ b. fills g q (cond b (record r { dropped = true }) r)) k ∙ drops c
        ∙ (λ t. is_fill r.kind && not (cond c true r.dropped) && (i t && j t))
        ∙ elsewhere (is_fill r.kind) (not (cond c true r.dropped))
        ∙ none (is_fill r.kind) (not r.dropped) (not (off f n g q))
        ∙ (λ t. (is_fill r.kind && not r.dropped && (sym i t && sym j t)) && not (off f n g q))
    go false y c i j k = ap (λ b. fills g q (cond b (record r { dropped = true }) r)) k ∙ drops c
        ∙ (λ t. is_fill r.kind && not (cond c true r.dropped) && (i t && eqb r.page q))
        ∙ elsewhere (is_fill r.kind) (not (cond c true r.dropped))
        ∙ none (is_fill r.kind) (not r.dropped) (not (off f n g q))
        ∙ (λ t. (is_fill r.kind && not r.dropped && (sym i t && eqb r.page q)) && not (off f n g q))

any_fill : (f n g q : ℕ) (es : List (ℕ × Request))
    → list_any (fills g q) (map (λ (e : ℕ × Request). e.1) (map (λ (e : ℕ × Request). (e.0, cut_request f n e.1)) es))
    ≡ (list_any (fills g q) (map (λ (e : ℕ × Request). e.1) es) && not (eqb g f && nat_le n q))
any_fill f n g q [] = refl
any_fill f n g q (e ∷ es) = (λ i. one_fill f n g q e.1 i || any_fill f n g q es i)
    ∙ or_left (fills g q e.1) (list_any (fills g q) (map (λ (e : ℕ × Request). e.1) es)) (not (eqb g f && nat_le n q))

-- which pages are filling after a cut
pub filling-shrunk : (s : State) (f z g q : ℕ)
    → is_filling (shrunk s f z) g q ≡ (is_filling s g q && not (eqb g f && nat_le (page_count s.sizes.page z) q))
filling-shrunk s f z g q =
    ap (λ (es : List (ℕ × Request)). list_any (fills g q) (map (λ (e : ℕ × Request). e.1) es))
    (entries-each_value (λ _. cut_request f (page_count s.sizes.page z)) s.requests)
    ∙ any_fill f (page_count s.sizes.page z) g q (finmap.entries s.requests)

-- the store has as many filling pages as there are live fills
pub filling_counted : (s : State) (store : Store) → Sound s → ((f p : ℕ) → is_awaited store f p ≡ is_filling s f p)
    → set.len store.filling ≡ filling_total s
filling_counted s store ok is = len-filling s.requests store.filling is (λ t u r q a b live more file page.
    let x : r.dropped ≡ false = not_true r.dropped (and_true (is_fill r.kind) (not r.dropped) live).1 in
    let y : q.dropped ≡ false = not_true q.dropped (and_true (is_fill q.kind) (not q.dropped) more).1 in
    let one = ok.mapped t r a x in
    let two = ok.mapped u q b y in
    let both : Some r.block ≡ Some q.block = sym one ∙ (λ i. block_at s (file i) (page i)) ∙ two in
    ok.requests_apart t u r q a b (let same : r.block ≡ q.block = cc in same))

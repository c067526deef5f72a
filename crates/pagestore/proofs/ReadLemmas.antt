-- A read over a range of pages, page by page.
use Rattle.std.proofs.Common.{◌≡◌, ℕ, ◌+◌, ◌-◌, ◌*◌, ◌/◌, ◌%◌, ◌<◌, ◌≤◌, min, true, false, cond, ltb, leb, List, ◌++◌}
use Rattle.std.proofs.Common.{length, get_or, take, drop, refl, ap, sym, ◌∙◌, arith, length-append, length-drop}
use Rattle.std.specs.Prelude.{Some, slice_range, ◌&&◌}
use Rattle.std.specs.Ordering.{nat_cmp}
use Rattle.std.specs.FinMap as finmap
use Rattle.std.specs.FinMap.{FinMap}
use Rattle.std.proofs.lemmas.Bool.Decides.{nat_tests}
use Rattle.std.proofs.lemmas.Nat.{div-mul-add}
use Rattle.std.proofs.lemmas.List.{length-take, get_or-drop}
use Rattle.pc_types.proofs.FileLaws.{byte-append, byte-take}
use Rattle.machine.specs.State.{Page}
use Rattle.pagestore.specs.Ranges.{page_byte, AreRead}

-- the quotient and the remainder of a place in page p
pub place_in : (P p x : ℕ) → p * P ≤ x → x < p * P + P → (x / P ≡ p) × (x % P ≡ x - p * P)
place_in P p x above below =
    let rest : x - p * P < P = omega arith in
    let sum : p * P + (x - p * P) ≡ x = omega arith in
    let quotient : x / P ≡ p = ap (λ n. n / P) (sym sum) ∙ div-mul-add p P (x - p * P) rest in
    let whole : P * (x / P) + x % P ≡ x = omega arith in (
      quotient,
      (let same : P * (x / P) ≡ p * P = ap (λ n. P * n) quotient
          ∙ (let e : P * p ≡ p * P = omega arith in e) in omega arith),
    )

-- byte i after a part was copied in
copied : (out bytes : List ℕ) (from to at i : ℕ) → from ≤ to → to ≤ length out → at + (to - from) ≤ length bytes
    → get_or (take from out ++ slice_range bytes at (at + (to - from)) ++ drop to out) i 0
    ≡ cond (leb from i && ltb i to) (get_or bytes (at + (i - from)) 0) (get_or out i 0)
copied out bytes from to at i order inside there =
    let part = slice_range bytes at (at + (to - from)) in
    let front_len : length (take from out) ≡ from = omega (arith, length-take from out) in
    let part_len : length part ≡ to - from =
    omega (arith, length-take (at + (to - from) - at) (drop at bytes), length-drop at bytes) in
    let both_len : length (take from out ++ part) ≡ to =
    omega (arith, length-append (take from out) part, front_len, part_len) in
    let outer = byte-append (take from out ++ part) (drop to out) i in
    let inner = byte-append (take from out) part i in
    let front = byte-take from out i in
    let mid = byte-take (at + (to - from) - at) (drop at bytes) (i - from) in
    let mid' = get_or-drop at bytes (i - from) 0 in
    let back = get_or-drop to out (i - to) 0 in
    grind (arith, nat_tests)

not_le : (a b : ℕ) → leb a b ≡ false → b < a
not_le a b e = grind (arith, nat_tests)

is_le : (a b : ℕ) → leb a b ≡ true → a ≤ b
is_le a b e = grind (arith, nat_tests)

lt_is : (a b : ℕ) → a < b → ltb a b ≡ true
lt_is a b e = grind (arith, nat_tests)

pub read_step : (P o p at from to : ℕ) (pages : FinMap nat_cmp Page) (page : Page) (out new : List ℕ) → at ≡ o - p * P
    → from ≡ p * P - o → to ≡ min (length out) (p * P + P - o) → o < p * P + P → p * P < o + length out
    → length page.bytes ≡ P → Some page ≡ finmap.get pages p
    → new ≡ take from out ++ slice_range page.bytes at (at + (to - from)) ++ drop to out
    → AreRead P o pages (p * P - o) out → AreRead P o pages ((p + 1) * P - o) new
read_step P o p at from to pages page out new e1 e2 e3 above below size found is r = record {
  each = λ i h k.
      let more : (p + 1) * P ≡ p * P + P = omega arith in
      let inside : to ≤ length out = omega arith in
      let there : at + (to - from) ≤ length page.bytes = omega arith in
      let now : get_or new i 0 ≡ cond (leb from i && ltb i to) (get_or page.bytes (at + (i - from)) 0)
      (get_or out i 0) = ap (λ l. get_or l i 0) is
      ∙ copied out page.bytes from to at i (omega arith) inside there in
      elim (leb from i) as (λ t. leb from i ≡ t
      → get_or new i 0 ≡ page_byte (finmap.get pages ((o + i) / P)) ((o + i) % P)) [
        | true ↦ λ t. later i h (long i k inside there) more t now
        | false ↦ λ t. earlier i (long i k inside there) t now
      ] refl;
}
  where
    long : (i : ℕ) → i < length new → to ≤ length out → at + (to - from) ≤ length page.bytes → i < length out
    long i k inside there =
        let same : length new ≡ length out = ap length is
        ∙ omega (
          arith,
          length-append (take from out ++ slice_range page.bytes at (at + (to - from))) (drop to out),
          length-append (take from out) (slice_range page.bytes at (at + (to - from))),
          length-take from out,
          length-take (at + (to - from) - at) (drop at page.bytes),
          length-drop at page.bytes,
          length-drop to out,
        ) in
        omega arith

    earlier : (i : ℕ) → i < length out → leb from i ≡ false
        → get_or new i 0 ≡ cond (leb from i && ltb i to) (get_or page.bytes (at + (i - from)) 0) (get_or out i 0)
        → get_or new i 0 ≡ page_byte (finmap.get pages ((o + i) / P)) ((o + i) % P)
    earlier i k t now =
        let before : i < from = not_le from i t in
        now ∙ ap (λ b. cond (b && ltb i to) (get_or page.bytes (at + (i - from)) 0) (get_or out i 0)) t
        ∙ r.each i (omega arith) k

    later : (i : ℕ) → i < (p + 1) * P - o → i < length out → (p + 1) * P ≡ p * P + P → leb from i ≡ true
        → get_or new i 0 ≡ cond (leb from i && ltb i to) (get_or page.bytes (at + (i - from)) 0) (get_or out i 0)
        → get_or new i 0 ≡ page_byte (finmap.get pages ((o + i) / P)) ((o + i) % P)
    later i h k more t now =
        let from_i : from ≤ i = is_le from i t in
        let low : p * P ≤ o + i = omega arith in
        let high : o + i < p * P + P = omega arith in
        let place = place_in P p (o + i) low high in
        let inside : ltb i to ≡ true = lt_is i to (omega arith) in
        let index : at + (i - from) ≡ (o + i) % P = omega (arith, place.1) in
        now ∙ (λ j. cond (t j && inside j) (get_or page.bytes (index j) 0) (get_or out i 0))
        ∙ ap (λ x. page_byte x ((o + i) % P)) (found ∙ ap (finmap.get pages) (sym place.0))

-- How many pages a file has after a write, and how many bytes a page.
use Rattle.std.proofs.Common.{◌≡◌, ℕ, ◌+◌, ◌-◌, ◌*◌, ◌/◌, ◌≤◌, zero, suc, true, false, cond, not, ◌&&◌, eqb, eqb-true}
use Rattle.std.proofs.Common.{leb, ltb, List, [], ◌∷◌, length, drop, map, refl, ap, sym, ◌∙◌, arith, Some, None}
use Rattle.std.proofs.Common.{is_some, count_by, nat_cmp, length-take}
use Rattle.std.specs.Option.{option_or}
use Rattle.std.specs.List.{range_with_len}
use Rattle.std.specs.Cmp.{nat_cmp_total, unsigned_tied}
use Rattle.std.specs.FinMap as finmap
use Rattle.std.specs.FinMap.{FinMap, find, len-insert, get-from_entries, get-entries}
use Rattle.std.proofs.lemmas.Bool.Decides.{nat_tests}
use Rattle.std.proofs.lemmas.List.Sums.{sum_by-cons}
use Rattle.pc_types.specs.Files.{pwrite}
use Rattle.pc_types.proofs.FileLaws.{length-pwrite}
use Rattle.machine.specs.State.{Page, touched, touched_count}
use Rattle.machine.specs.Changes.{overlay, written_page, written_pages}
use Rattle.maps.specs.Maps.{overwrite}
use Rattle.maps.proofs.MapLaws.{same_nat_map, get-overwrite}

-- ---- the pages of a file after a write, by number

find-range : (g : ℕ → Page) (q a n : ℕ) → find nat_cmp q (map (λ p. (p, g p)) (range_with_len a n))
    ≡ cond (leb a q && ltb q (a + n)) (Some (g q)) None
find-range g q a zero = let none : (leb a q && ltb q (a + 0)) ≡ false = grind (arith, nat_tests) in
    sym (ap (λ b. cond b (Some (g q)) None) none)
find-range g q a (suc n) =
    ap (λ b. cond b (Some (g a)) (find nat_cmp q (map (λ p. (p, g p)) (range_with_len (a + 1) n)))) (unsigned_tied q a)
    ∙ elim (eqb q a) as (λ b. eqb q a ≡ b
    → cond b (Some (g a)) (find nat_cmp q (map (λ p. (p, g p)) (range_with_len (a + 1) n)))
    ≡ cond (leb a q && ltb q (a + suc n)) (Some (g q)) None) [
      | true ↦ λ e. let here : (leb a q && ltb q (a + suc n)) ≡ true = grind (arith, nat_tests) in
          ap (λ p. Some (g p)) (sym (eqb-true q a e)) ∙ sym (ap (λ b. cond b (Some (g q)) None) here)
      | false ↦ λ e. let same : (leb (a + 1) q && ltb q (a + 1 + n)) ≡ (leb a q && ltb q (a + suc n)) =
          grind (arith, nat_tests) in find-range g q (a + 1) n ∙ ap (λ b. cond b (Some (g q)) None) same
    ] refl

from_all : (m : FinMap nat_cmp Page) → finmap.from_entries (finmap.entries m) ≡ m
from_all m = same_nat_map _ m (λ q. get-from_entries nat_cmp_total (finmap.entries m) q ∙ sym (get-entries m q))

len-over : (g : ℕ → Page) (m : FinMap nat_cmp Page) (a n : ℕ)
    → finmap.len (overwrite (map (λ p. (p, g p)) (range_with_len a n)) m) ≡ finmap.len m
    + count_by (λ p. not (is_some (finmap.get m p))) (range_with_len a n)
len-over g m a zero = ap finmap.len (from_all m) ∙ omega arith
len-over g m a (suc n) =
    let rest : FinMap nat_cmp Page = overwrite (map (λ p. (p, g p)) (range_with_len (a + 1) n)) m in
    let later : finmap.len rest ≡ finmap.len m + count_by (λ p. not (is_some (finmap.get m p)))
    (range_with_len (a + 1) n) = len-over g m (a + 1) n in
    let none : (leb (a + 1) a && ltb a (a + 1 + n)) ≡ false = grind (arith, nat_tests) in
    let here : finmap.get rest a ≡ finmap.get m a =
    get-overwrite nat_cmp_total (map (λ p. (p, g p)) (range_with_len (a + 1) n)) m a
    ∙ ap (λ x. option_or x (finmap.get m a)) (find-range g a (a + 1) n ∙ ap (λ b. cond b (Some (g a)) None) none) in
    let counted = sum_by-cons (λ p. cond (not (is_some (finmap.get m p))) 1 0) a (range_with_len (a + 1) n) in
    len-insert nat_cmp_total rest a (g a)
    ∙ ap (λ o. cond (is_some o) (finmap.len rest) (finmap.len rest + 1)) here
    ∙ elim (is_some (finmap.get m a)) as (λ b. is_some (finmap.get m a) ≡ b
    → cond b (finmap.len rest) (finmap.len rest + 1) ≡ finmap.len m + count_by (λ p. not (is_some (finmap.get m p)))
    (a ∷ range_with_len (a + 1) n)) [
      | true ↦ λ e. let no : ◌≡◌ {A = ℕ} (cond (not (is_some (finmap.get m a))) 1 0) 0 = ap (λ b. cond (not b) 1 0) e in
          omega (arith, later, counted, no)
      | false ↦ λ e. let one : ◌≡◌ {A = ℕ} (cond (not (is_some (finmap.get m a))) 1 0) 1 =
          ap (λ b. cond (not b) 1 0) e in omega (arith, later, counted, one)
    ] refl

pub len-written_pages : (P o : ℕ) (b : List ℕ) (m : FinMap nat_cmp Page)
    → finmap.len (written_pages P o b m) ≡ finmap.len m + count_by (λ p. not (is_some (finmap.get m p)))
    (touched P o (length b))
len-written_pages P o b m = len-over (λ p. written_page P o b p (finmap.get m p)) m (o / P)
    (touched_count P o (length b))

-- ---- the bytes of a page that is written

length_wrote : (f : List ℕ) (o : ℕ) (b : List ℕ) → length f ≤ length (pwrite f o b)
length_wrote f o [] = omega arith
length_wrote f o (x ∷ b) = omega (arith, length-pwrite f o (x ∷ b) (omega arith))

pub length-overlay : (P o p : ℕ) (b bytes : List ℕ) → length bytes ≡ P → length (overlay P o b p bytes) ≡ P
length-overlay P o p b bytes e =
    omega (
      arith,
      length-take P (pwrite bytes (o - p * P) (drop (p * P - o) b)),
      length_wrote bytes (o - p * P) (drop (p * P - o) b),
    )

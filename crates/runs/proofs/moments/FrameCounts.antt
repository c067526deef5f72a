-- How many pages are cached and how many are filling, after a change of one file or of the requests.
use Rattle.std.proofs.Common.{◌≡◌, ℕ, ◌++◌, ◌+◌, ◌<◌, ◌≤◌, Bool, true, false, cond, eqb, List, [], ◌∷◌, length, refl}
use Rattle.std.proofs.Common.{ap, arith, map, ◌&&◌, not, count_by, sum_by, slice_set, nat_le, nat_cmp}
use Rattle.std.specs.FinMap as finmap
use Rattle.std.specs.FinMap.{FinMap, len-empty}
use Rattle.std.proofs.lemmas.List.Sums.{sum_by-cons, sum_by-set, sum_by-append}
use Rattle.pc_types.specs.Kinds.{is_fill}
use Rattle.machine.specs.State.{State, File, Page, Request, file_at, no_file, cached_total, filling_total}
use Rattle.machine.specs.Changes.{cut_request}
use Rattle.maps.specs.Maps.{each_value}
use Rattle.maps.proofs.Count.{count_of, passing}
use Rattle.maps.proofs.Lengths.{count_each}

-- ---- pages that are filling

abbrev pub is_live_fill : Request → Bool
is_live_fill r = is_fill r.kind && not r.dropped

values_pass : (es : List (ℕ × Request)) → count_by is_live_fill (map (λ (e : ℕ × Request). e.1) es)
    ≡ passing is_live_fill es
values_pass [] = refl
values_pass (e ∷ es) =
    let a = sum_by-cons (λ (r : Request). cond {A = ℕ} (is_live_fill r) 1 0) e.1 (map (λ (e : ℕ × Request). e.1) es) in
    let b = sum_by-cons (λ (x : ℕ × Request). cond {A = ℕ} (is_live_fill x.1) 1 0) e es in
    let c = values_pass es in omega arith

pub filling_is : (s : State) → filling_total s ≡ count_of is_live_fill s.requests
filling_is s = values_pass (finmap.entries s.requests)

-- what a truncation drops fills no longer
uncut : (f n : ℕ) (r : Request) → is_live_fill (cut_request f n r) ≡ true → is_live_fill r ≡ true
uncut f n r e =
    elim (eqb r.file f && nat_le n r.page) as (λ c. is_live_fill (cond c (record r { dropped = true }) r) ≡ true
    → is_live_fill r ≡ true) [ true ↦ λ k. absurd (never (is_fill r.kind) k) | false ↦ λ k. k ] e
  where
    never : (b : Bool) → (b && false) ≡ true → ⊥
    never true k = cc
    never false k = cc

pub count_cut : (f n : ℕ) (m : FinMap nat_cmp Request) → count_of is_live_fill (each_value (λ _. cut_request f n) m)
    ≤ count_of is_live_fill m
count_cut f n m = count_each is_live_fill is_live_fill (cut_request f n) m (uncut f n)

-- ---- pages that are cached

pub cached_set : (s new : State) (f : ℕ) (file : File) → f < length s.files → new.files ≡ slice_set s.files f file
    → cached_total new + finmap.len (file_at s f).pages ≡ cached_total s + finmap.len file.pages
cached_set s new f file here e = let a = ap (sum_by (λ (x : File). finmap.len x.pages)) e in
    let b = sum_by-set (λ (x : File). finmap.len x.pages) s.files f file no_file here in omega arith

pub cached_more : (s new : State) → new.files ≡ s.files ++ no_file ∷ [] → cached_total new ≡ cached_total s
cached_more s new e =
    let a = ap (sum_by (λ (x : File). finmap.len x.pages)) e in
    let b = sum_by-append (λ (x : File). finmap.len x.pages) s.files (no_file ∷ []) in
    let c = sum_by-cons (λ (x : File). finmap.len x.pages) no_file [] in
    let d : finmap.len no_file.pages ≡ 0 = len-empty nat_cmp Page in omega arith

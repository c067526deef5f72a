-- What reads, writes, truncations and the begin of a sync do, page by page: each change of many pages as a record of
-- look-ups. The change has the record.
use Rattle.std.proofs.Common.{◌≡◌, ℕ, zero, suc, ◌+◌, ◌/◌, ◌%◌, ◌<◌, ◌≤◌, Bool, true, false, cond, not, eqb, eqb-true}
use Rattle.std.proofs.Common.{leb, ltb, List, [], ◌∷◌, length, get_or, refl, ap, sym, ◌∙◌, arith, max, ◌&&◌, ◌||◌}
use Rattle.std.proofs.Common.{Option, Some, None, is_some, option_map, slice_set, nat_le, nat_lt, map, nat_cmp}
use Rattle.std.specs.Option.{option_or}
use Rattle.std.specs.List.{range_with_len, zip}
use Rattle.std.specs.Ordering.{eq_by_cmp}
use Rattle.std.specs.Cmp.{nat_cmp_total, unsigned_tied}
use Rattle.std.specs.FinMap as finmap
use Rattle.std.specs.FinMap.{FinMap, find}
use Rattle.std.proofs.lemmas.Bool.Decides.{nat_tests}
use Rattle.std.proofs.lemmas.List.FromFn.{length-map-range_with_len, get_or-map-range_with_len}
use Rattle.machine.specs.State.{State, File, Page, file_at, page_at, spot_at, page_count, has_block, touched}
use Rattle.machine.specs.State.{touched_count, without_block, free_blocks, page_bytes, bytes_at, Sync}
use Rattle.pc_types.specs.Spots.{Spot, place_cmp}
use Rattle.machine.specs.Changes.{written_page, written_pages, placed, written, boundary, cut_page, cut_boundary}
use Rattle.machine.specs.Changes.{cut_request, shrunk, to_write, sync_begun}
use Rattle.maps.specs.Maps.{each_value}
use Rattle.maps.proofs.MapLaws.{places_total, same_place, get-overwrite, get-change_at, get-retain_nat}
use Rattle.maps.proofs.MapLaws.{get-retain_place}
use Rattle.maps.proofs.Maps.{get-each_value}
use Rattle.machine.proofs.changes.StateLaws.{file_at-here, touches, is_free}
use Rattle.maps.proofs.Kept.{IsKept, kept_below, kept_at, kept_rise, kept_more, kept_within, find_kept}

-- ---- reads

-- byte k of a file's cached pages
abbrev pub byte_at : State → ℕ → ℕ → ℕ
byte_at s f k = get_or (page_bytes s f (k / s.sizes.page)) (k % s.sizes.page) 0

pub length-bytes_at : (s : State) (f o n : ℕ) → length (bytes_at s f o n) ≡ n
length-bytes_at s f o n = length-map-range_with_len (byte_at s f) o n

pub byte-bytes_at : (s : State) (f o n k : ℕ) → k < n → get_or (bytes_at s f o n) k 0 ≡ byte_at s f (o + k)
byte-bytes_at s f o n k h = get_or-map-range_with_len (byte_at s f) o n k (o + k) 0 h refl

-- ---- writes

-- a block that a page took
abbrev pub new_spot : ℕ → Spot
new_spot b = record { block = b; valid = 0 }

-- the k-th page of a list without a block takes the k-th free block: here the page p of those from `first` on
abbrev pub taken_by : State → ℕ → ℕ → ℕ → ℕ
taken_by s f first p = get_or (free_blocks s) (kept_below (λ q. not (has_block s f q)) first p) 0

-- page p is touched and has no block
abbrev pub needs_block : State → ℕ → ℕ → ℕ → ℕ → Bool
needs_block s f o n p = touches s.sizes.page o n p && not (has_block s f p)

-- the places after each page without a block, of n pages from `first` on, has taken one
pub record Places (old : State) (f first n : ℕ) (spots : FinMap place_cmp Spot) : Type 0 where
  pub each : (g p : ℕ) → finmap.get spots (g, p)
      ≡ cond (eqb g f && (leb first p && ltb p (first + n) && not (has_block old f p)))
      (Some (new_spot (taken_by old f first p))) (spot_at old g p)

-- b is written to file f at o
pub record WritesBytes (old : State) (f o : ℕ) (b : List ℕ) (new : State) : Type 0 where
  pub pages : (p : ℕ) → page_at new f p ≡ cond (touches old.sizes.page o (length b) p)
      (Some (written_page old.sizes.page o b p (page_at old f p))) (page_at old f p)
  pub spots : (g p : ℕ) → spot_at new g p ≡ cond (eqb g f && needs_block old f o (length b) p)
      (Some (new_spot (taken_by old f (o / old.sizes.page) p))) (spot_at old g p)
  pub file : new.files ≡ slice_set old.files f
      (record (file_at old f) { size = max (file_at old f).size (o + length b); pages = (file_at new f).pages })
  pub rest : new ≡ record old { files = new.files; spots = new.spots }

-- ---- truncations

-- file f is cut to z bytes, which are fewer than it has
pub record Truncates (old : State) (f z : ℕ) (new : State) : Type 0 where
  pub pages : (p : ℕ) → page_at new f p ≡ cond (nat_le (page_count old.sizes.page z) p) None
      (cond (eqb (z / old.sizes.page) p && is_some (boundary old f z))
      (option_map (cut_page old.sizes.page z (has_block old f p)) (page_at old f p)) (page_at old f p))
  pub spots : (g p : ℕ) → spot_at new g p ≡ cond (eqb g f && nat_le (page_count old.sizes.page z) p) None
      (spot_at old g p)
  pub file : new.files ≡ slice_set old.files f (record (file_at old f) { size = z; pages = (file_at new f).pages })
  pub rest : new ≡ record old {
    files = new.files;
    spots = new.spots;
    requests = each_value (λ _. cut_request f (page_count old.sizes.page z)) old.requests;
  }

-- ---- the begin of a sync

-- sync m of file f begins, which is y
pub record BeginsSync (old : State) (f m : ℕ) (y : Sync) (new : State) : Type 0 where
  pub pages : (p : ℕ) → page_at new f p ≡ option_map (to_write y p) (page_at old f p)
  pub file : new.files ≡ slice_set old.files f (record (file_at old f) { pages = (file_at new f).pages })
  pub rest : new ≡ record old { files = new.files; syncs = finmap.insert old.syncs m y }

-- ---- the changes have the records

both_hold : (a b : Bool) → (a && b) ≡ true → (a ≡ true) × (b ≡ true)
both_hold true b e = (refl, e)
both_hold false b e = absurd cc

-- the pages of a write among many
find_written : (W : ℕ → Page) (a n e q : ℕ) → a + n ≡ e → find nat_cmp q (map (λ p. (p, W p)) (range_with_len a n))
    ≡ cond (leb a q && ltb q e) (Some (W q)) None
find_written W a zero e q s =
    sym (ap (λ b. cond b (Some (W q)) None) (let r : (leb a q && ltb q e) ≡ false = grind (arith, nat_tests) in r))
find_written W a (suc n) e q s =
    ap (λ k. cond k (Some (W a)) (find nat_cmp q (map (λ p. (p, W p)) (range_with_len (a + 1) n)))) (unsigned_tied q a)
    ∙ ap (cond (eqb q a) (Some (W a))) (find_written W (a + 1) n e q (omega arith))
    ∙ elim (eqb q a) as (λ b. eqb q a ≡ b → cond b (Some (W a)) (cond (leb (a + 1) q && ltb q e) (Some (W q)) None)
    ≡ cond (leb a q && ltb q e) (Some (W q)) None) [
      | true ↦ λ t. ap (λ x. Some (W x)) (sym (eqb-true q a t))
          ∙ sym (ap (λ b. cond b (Some (W q)) None)
          (let i : q ≡ a = eqb-true q a t in let r : (leb a q && ltb q e) ≡ true =
          grind (arith, nat_tests) in r))
      | false ↦ λ t. ap (λ b. cond b (Some (W q)) None)
          (let r : (leb (a + 1) q && ltb q e) ≡ (leb a q && ltb q e) = grind (arith, nat_tests) in r)
    ] refl

-- a touched page is one of the range
touched_range : (P o n p : ℕ) → (leb (o / P) p && ltb p (o / P + touched_count P o n)) ≡ touches P o n p
touched_range P o n p = grind (arith, nat_tests)

or_cond : {A : Type 0} (b : Bool) (x : A) (o : Option A) → option_or (cond b (Some x) None) o ≡ cond b (Some x) o
or_cond true x o = refl
or_cond false x o = refl

pub find_placed : (f g q : ℕ) (es : List (ℕ × ℕ))
    → find place_cmp (g, q) (map (λ (e : ℕ × ℕ). ((f, e.0), new_spot e.1)) es)
    ≡ cond (eqb g f) (option_map (λ b. new_spot b) (find nat_cmp q es)) None
find_placed f g q [] = nothing (eqb g f)
  where
    nothing : (b : Bool) → ◌≡◌ {A = Option Spot} None (cond b None None)
    nothing true = refl
    nothing false = refl
find_placed f g q (e ∷ es) =
    ap (λ b. cond b (Some (new_spot e.1)) (find place_cmp (g, q) (map (λ e. ((f, e.0), new_spot e.1)) es)))
    (same_place g q f e.0) ∙ ap (cond (eqb g f && eqb q e.0) (Some (new_spot e.1))) (find_placed f g q es)
    ∙ ap (λ b. cond (eqb g f && b) (Some (new_spot e.1))
    (cond (eqb g f) (option_map (λ b. new_spot b) (find nat_cmp q es)) None)) (sym (unsigned_tied q e.0))
    ∙ go (eqb g f) (eq_by_cmp nat_cmp q e.0) (find nat_cmp q es)
  where
    go : (a c : Bool) (o : Option ℕ)
        → cond (a && c) (Some (new_spot e.1)) (cond a (option_map (λ b. new_spot b) o) None)
        ≡ cond a (option_map (λ b. new_spot b) (cond c (Some e.1) o)) None
    go true true o = refl
    go true false o = refl
    go false c o = refl

place_cond : (a c : Bool) (x : ℕ) (o : Option Spot)
    → option_or (cond a (option_map (λ b. new_spot b) (cond c (Some x) None)) None) o
    ≡ cond (a && c) (Some (new_spot x)) o
place_cond true true x o = refl
place_cond true false x o = refl
place_cond false c x o = refl

-- n pages from `first` on take blocks, where there are enough
pub placed_places : (s : State) (f first n : ℕ) → length (without_block s f (range_with_len first n))
    ≤ length (free_blocks s) → Places s f first n (placed s f (range_with_len first n))
placed_places s f first n room = record {
  each = λ g p. get-overwrite places_total
      (map (λ e. ((f, e.0), new_spot e.1)) (zip (without_block s f (range_with_len first n)) (free_blocks s))) s.spots
      (g, p)
      ∙ ap (λ x. option_or x (spot_at s g p))
      (find_placed f g p (zip (without_block s f (range_with_len first n)) (free_blocks s))
      ∙ ap (λ x. cond (eqb g f) (option_map (λ b. new_spot b) x) None)
      (find_kept (λ q. not (has_block s f q)) first n (first + n) p refl (free_blocks s) room))
      ∙ place_cond (eqb g f) _ _ (spot_at s g p);
}

-- the pages after a write
pub get-written_pages : (P o : ℕ) (b : List ℕ) (pages : FinMap nat_cmp Page) (p : ℕ)
    → finmap.get (written_pages P o b pages) p ≡ cond (touches P o (length b) p)
    (Some (written_page P o b p (finmap.get pages p))) (finmap.get pages p)
get-written_pages P o b pages p =
    get-overwrite nat_cmp_total (map (λ q. (q, written_page P o b q (finmap.get pages q))) (touched P o (length b)))
    pages p
    ∙ ap (λ x. option_or x (finmap.get pages p))
    (find_written (λ q. written_page P o b q (finmap.get pages q)) (o / P) (touched_count P o (length b)) _ p refl)
    ∙ or_cond _ (written_page P o b p (finmap.get pages p)) (finmap.get pages p)
    ∙ ap (λ t. cond t (Some (written_page P o b p (finmap.get pages p))) (finmap.get pages p))
    (touched_range P o (length b) p)

-- the file after the write
abbrev written_file : State → ℕ → ℕ → List ℕ → File
written_file s f o b =
    record (file_at s f) {
      size = max (file_at s f).size (o + length b);
      pages = written_pages s.sizes.page o b (file_at s f).pages;
    }

-- a write is what it says, where there are blocks enough
pub written_writes : (s : State) (f o : ℕ) (b : List ℕ) → f < length s.files
    → length (without_block s f (touched s.sizes.page o (length b))) ≤ length (free_blocks s)
    → WritesBytes s f o b (written s f o b)
written_writes s f o b here room = record {
  pages = λ p. ap (λ (x : File). finmap.get x.pages p) (file_at-here s f (written_file s f o b) here)
      ∙ get-written_pages s.sizes.page o b (file_at s f).pages p;
  spots = λ g p. (placed_places s f (o / s.sizes.page) (touched_count s.sizes.page o (length b)) room).each g p
      ∙ ap (λ t. cond (eqb g f && (t && not (has_block s f p))) (Some (new_spot (taken_by s f (o / s.sizes.page) p)))
      (spot_at s g p)) (touched_range s.sizes.page o (length b) p);
  file = ap (λ (x : File). slice_set s.files f
      (record (file_at s f) { size = max (file_at s f).size (o + length b); pages = x.pages }))
      (sym (file_at-here s f (written_file s f o b) here));
  rest = refl;
}

-- a truncation

at_boundary : (s : State) (f z p : ℕ) (o : Option ℕ) → ((q : ℕ) → o ≡ Some q → q ≡ z / s.sizes.page)
    → finmap.get (cut_boundary s f z o) p ≡ cond (eqb (z / s.sizes.page) p && is_some o)
    (option_map (cut_page s.sizes.page z (has_block s f p)) (page_at s f p)) (page_at s f p)
at_boundary s f z p None h =
    elim (eqb (z / s.sizes.page) p) as (λ b. page_at s f p
    ≡ cond (b && false) (option_map (cut_page s.sizes.page z (has_block s f p)) (page_at s f p)) (page_at s f p))
    [ true ↦ refl | false ↦ refl ]
at_boundary s f z p (Some q) h = get-change_at q (cut_page s.sizes.page z (has_block s f q)) (file_at s f).pages p
    ∙ go (eqb p q) refl
  where
    turn : (a b c : ℕ) → a ≡ b → eqb c a ≡ (eqb b c && true)
    turn a b c e = grind (arith, nat_tests)

    go : (t : Bool) → eqb p q ≡ t → cond t (option_map (cut_page s.sizes.page z (has_block s f q)) (page_at s f p))
        (page_at s f p) ≡ cond (eqb (z / s.sizes.page) p && true)
        (option_map (cut_page s.sizes.page z (has_block s f p)) (page_at s f p)) (page_at s f p)
    go true t = ap (λ k. option_map (cut_page s.sizes.page z (has_block s f k)) (page_at s f p)) (sym (eqb-true p q t))
        ∙ ap (λ k. cond k (option_map (cut_page s.sizes.page z (has_block s f p)) (page_at s f p)) (page_at s f p))
        (sym t ∙ turn q (z / s.sizes.page) p (h q refl))
    go false t =
        ap (λ k. cond k (option_map (cut_page s.sizes.page z (has_block s f p)) (page_at s f p)) (page_at s f p))
        (sym t ∙ turn q (z / s.sizes.page) p (h q refl))

-- the boundary is the page of z
pub boundary_is : (s : State) (f z q : ℕ) → boundary s f z ≡ Some q → q ≡ z / s.sizes.page
boundary_is s f z q e =
    elim (nat_lt z (file_at s f).size && not (eqb (z % s.sizes.page) 0)) as (λ b. cond b (Some (z / s.sizes.page)) None
    ≡ Some q → q ≡ z / s.sizes.page) [ true ↦ λ k. cc | false ↦ λ k. absurd cc ] e

below_cond : {A : Type 0} (p n : ℕ) (o : Option A) → cond (nat_lt p n) o None ≡ cond (nat_le n p) None o
below_cond p n o = flip (nat_lt p n) (nat_le n p) (let e : nat_le n p ≡ not (nat_lt p n) = grind (arith, nat_tests) in
    e)
  where
    flip : (a b : Bool) → b ≡ not a → cond a o None ≡ cond b None o
    flip true b e = ap (λ k. cond k None o) (sym e)
    flip false b e = ap (λ k. cond k None o) (sym e)

outside_cond : {A : Type 0} (here : Bool) (p n : ℕ) (o : Option A)
    → cond (not here || nat_lt p n) o None ≡ cond (here && nat_le n p) None o
outside_cond true p n o = below_cond p n o
outside_cond false p n o = refl

-- the pages after a cut
abbrev pub cut_pages : State → ℕ → ℕ → FinMap nat_cmp Page
cut_pages s f z = finmap.retain_keys (cut_boundary s f z (boundary s f z)) (λ p. nat_lt p (page_count s.sizes.page z))

pub get-cut_pages : (s : State) (f z p : ℕ)
    → finmap.get (cut_pages s f z) p ≡ cond (nat_le (page_count s.sizes.page z) p) None
    (cond (eqb (z / s.sizes.page) p && is_some (boundary s f z))
    (option_map (cut_page s.sizes.page z (has_block s f p)) (page_at s f p)) (page_at s f p))
get-cut_pages s f z p = get-retain_nat (cut_boundary s f z (boundary s f z)) (λ q. nat_lt q (page_count s.sizes.page z))
    p
    ∙ below_cond p (page_count s.sizes.page z) (finmap.get (cut_boundary s f z (boundary s f z)) p)
    ∙ ap (cond (nat_le (page_count s.sizes.page z) p) None) (at_boundary s f z p (boundary s f z) (boundary_is s f z))

abbrev cut_file : State → ℕ → ℕ → File
cut_file s f z = record (file_at s f) { size = z; pages = cut_pages s f z }

pub shrunk_truncates : (s : State) (f z : ℕ) → f < length s.files → Truncates s f z (shrunk s f z)
shrunk_truncates s f z here = record {
  pages = λ p. ap (λ (x : File). finmap.get x.pages p) (file_at-here s f (cut_file s f z) here) ∙ get-cut_pages s f z p;
  spots = λ g p. get-retain_place s.spots (λ k. not (eqb k.0 f) || nat_lt k.1 (page_count s.sizes.page z)) g p
      ∙ outside_cond (eqb g f) p (page_count s.sizes.page z) (spot_at s g p);
  file = ap (λ (x : File). slice_set s.files f (record (file_at s f) { size = z; pages = x.pages }))
      (sym (file_at-here s f (cut_file s f z) here));
  rest = refl;
}

abbrev begun_file : State → ℕ → Sync → File
begun_file s f y = record (file_at s f) { pages = each_value (to_write y) (file_at s f).pages }

pub sync_begun_begins : (s : State) (f m : ℕ) (y : Sync) → f < length s.files → BeginsSync s f m y (sync_begun s f m y)
sync_begun_begins s f m y here = record {
  pages = λ p. ap (λ (x : File). finmap.get x.pages p) (file_at-here s f (begun_file s f y) here)
      ∙ get-each_value (to_write y) (file_at s f).pages p;
  file = ap (λ (x : File). slice_set s.files f (record (file_at s f) { pages = x.pages }))
      (sym (file_at-here s f (begun_file s f y) here));
  rest = refl;
}

-- ---- what a page takes

-- of a free block by its place among them
pub record IsFree (s : State) (block : ℕ) : Type 0 where
  pub free : is_free s block ≡ true
  pub on_device : block < s.sizes.blocks

pub free_at : (s : State) (k : ℕ) → k < length (free_blocks s) → IsFree s (get_or (free_blocks s) k 0)
free_at s k h = let i = kept_at (is_free s) 0 s.sizes.blocks s.sizes.blocks (omega arith) k h in
    record { free = i.passes; on_device = i.below }

-- a page without a block, among those touched
needs_parts : (s : State) (f o n p : ℕ) → needs_block s f o n p ≡ true
    → IsKept (λ r. not (has_block s f r)) (o / s.sizes.page) (o / s.sizes.page + touched_count s.sizes.page o n) p
needs_parts s f o n p e =
    let t = both_hold (touches s.sizes.page o n p) (not (has_block s f p)) e in
    let l : (o / s.sizes.page ≤ p) × (p < o / s.sizes.page + touched_count s.sizes.page o n) =
    in_range s.sizes.page o n p (touched_range s.sizes.page o n p ∙ t.0) in
    record { passes = t.1; from = l.0; below = l.1 }
  where
    in_range : (P o n p : ℕ) → (leb (o / P) p && ltb p (o / P + touched_count P o n)) ≡ true
        → (o / P ≤ p) × (p < o / P + touched_count P o n)
    in_range P o n p e = grind (arith, nat_tests)

place_below : (s : State) (f o n p : ℕ) → length (without_block s f (touched s.sizes.page o n)) ≤ length (free_blocks s)
    → needs_block s f o n p ≡ true → kept_below (λ r. not (has_block s f r)) (o / s.sizes.page) p
    < length (free_blocks s)
place_below s f o n p room needs = let i = needs_parts s f o n p needs in
    let k = kept_within (λ r. not (has_block s f r)) (o / s.sizes.page) (touched_count s.sizes.page o n) p i.from
    i.below i.passes in omega arith

-- a touched page without a block takes one that is free
pub takes_free : (s : State) (f o n p : ℕ) → length (without_block s f (touched s.sizes.page o n))
    ≤ length (free_blocks s) → needs_block s f o n p ≡ true → IsFree s (taken_by s f (o / s.sizes.page) p)
takes_free s f o n p room needs = free_at s _ (place_below s f o n p room needs)

-- and no two the same
pub takes_apart : (s : State) (f o n p q : ℕ) → length (without_block s f (touched s.sizes.page o n))
    ≤ length (free_blocks s) → needs_block s f o n p ≡ true → needs_block s f o n q ≡ true → p < q
    → taken_by s f (o / s.sizes.page) p < taken_by s f (o / s.sizes.page) q
takes_apart s f o n p q room a b less =
    let i = needs_parts s f o n p a in
    kept_rise (is_free s) 0 s.sizes.blocks _ _
    (kept_more (λ r. not (has_block s f r)) (o / s.sizes.page) p q i.from less i.passes)
    (place_below s f o n q room b)

-- How many requests of the table are fills.
use Rattle.std.proofs.Common.{◌≡◌, ℕ, ◌+◌, ◌<◌, ◌≤◌, Bool, true, false, cond, List, [], ◌∷◌, ◌++◌, length, get_or, refl, ap, sym, ◌∙◌, arith}
use Rattle.std.proofs.Common.{map, remove, count_by, nat_le, ◌&&◌, eqb}
use Rattle.std.specs.FinMap as finmap
use Rattle.std.specs.Ordering.{nat_cmp}
use Rattle.std.proofs.lemmas.List.{length-map}
use Rattle.std.proofs.lemmas.List.Sums.{sum_by-cons, sum_by-remove, sum_by_push}
use Rattle.pc_types.specs.Kinds.{is_fill, is_flush}
use Rattle.pc_types.specs.declared.kind.Kind.TheVariants.{Fill, Flush}
use Rattle.pc_types.specs.declared.kind.Kind.{Kind}
use Rattle.machine.specs.State.{Request}
use Rattle.writeback.specs.declared.requests.Entry.{Entry}
use Rattle.writeback.specs.Requests.{cut_entry, entry_of, request_of}
use Rattle.writeback.proofs.RisingLemmas.{entries-rising}
use Rattle.writeback.proofs.TableLemmas.{IsTable, len_table, table}

abbrev pub one_if : Bool → ℕ
one_if b = cond b 1 0

pub one_if-le : (b : Bool) → one_if b ≤ 1
one_if-le true = omega arith
one_if-le false = omega arith

abbrev pub is_fill_of : Entry → Bool
is_fill_of e = is_fill e.request.kind

pub fills_pushed : (items new : List Entry) (e : Entry) → new ≡ items ++ e ∷ []
    → count_by is_fill_of new ≡ count_by is_fill_of items + one_if (is_fill e.request.kind)
fills_pushed items new e is = ap (count_by is_fill_of) is ∙ sum_by_push (λ x. one_if (is_fill_of x)) items e

pub fills_removed : (items new : List Entry) (i : ℕ) (e : Entry) → i < length items → new ≡ remove items i → e ≡ get_or items i e
    → count_by is_fill_of new + one_if (is_fill e.request.kind) ≡ count_by is_fill_of items
fills_removed items new i e inside is at =
    ap (λ xs. count_by is_fill_of xs + one_if (is_fill e.request.kind)) is
    ∙ ap (λ (x : Entry). count_by is_fill_of (remove items i) + one_if (is_fill x.request.kind)) at
    ∙ sum_by-remove (λ x. one_if (is_fill_of x)) items i e inside

pub fills_cut : (f p : ℕ) (items new : List Entry) → new ≡ map (cut_entry f p) items
    → count_by is_fill_of new ≡ count_by is_fill_of items
fills_cut f p items new is = ap (count_by is_fill_of) is ∙ same items
  where
    kept : (e : Entry) (b : Bool) → is_fill_of (cond b (record e { request = record e.request { dropped = true } }) e) ≡ is_fill_of e
    kept e true = refl
    kept e false = refl

    same : (es : List Entry) → count_by is_fill_of (map (cut_entry f p) es) ≡ count_by is_fill_of es
    same [] = refl
    same (e ∷ es) =
        let k = ap one_if (kept e (eqb e.request.file.0 f && nat_le p e.request.page.0)) in
        omega (
          arith,
          same es,
          k,
          sum_by-cons (λ x. one_if (is_fill_of x)) e es,
          sum_by-cons (λ x. one_if (is_fill_of x)) (cut_entry f p e) (map (cut_entry f p) es),
        )

pub fills_table : (next : ℕ) (items : List Entry) → IsTable next items
    → count_by is_fill_of items ≡ count_by (λ (x : Request). is_fill x.kind) (finmap.values (table next items).requests)
fills_table next items r = in_list items
    ∙ ap (λ (es : List (ℕ × Request)). count_by (λ (x : Request). is_fill x.kind) (map (λ (e : ℕ × Request). e.1) es))
    (sym (entries-rising 0 next (map entry_of items) r))
  where
    in_list : (es : List Entry) → count_by is_fill_of es
        ≡ count_by (λ (x : Request). is_fill x.kind) (map (λ (e : ℕ × Request). e.1) (map entry_of es))
    in_list [] = refl
    in_list (e ∷ es) =
        omega (
          arith,
          in_list es,
          sum_by-cons (λ x. one_if (is_fill_of x)) e es,
          sum_by-cons (λ (x : Request). one_if (is_fill x.kind)) (request_of e.request)
              (map (λ (e : ℕ × Request). e.1) (map entry_of es)),
        )

-- the others are flushes
pub others : (xs : List Request) → count_by (λ (x : Request). is_flush x.kind) xs + count_by (λ (x : Request). is_fill x.kind) xs ≡ length xs
others [] = refl
others (x ∷ xs) =
    omega (
      arith,
      others xs,
      each x.kind,
      sum_by-cons (λ (x : Request). one_if (is_flush x.kind)) x xs,
      sum_by-cons (λ (x : Request). one_if (is_fill x.kind)) x xs,
    )
  where
    each : (k : Kind) → one_if (is_flush k) + one_if (is_fill k) ≡ 1
    each Fill = refl
    each Flush = refl

-- as many as there are requests
pub values_len : (m : finmap.FinMap nat_cmp Request) → length (finmap.values m) ≡ finmap.len m
values_len m = length-map (finmap.entries m) (λ (e : ℕ × Request). e.1) ∙ sym (finmap.len-entries m)

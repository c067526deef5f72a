-- The table of open handles: the map that its places make, and what it keeps through each change.
use Rattle.std.proofs.Common.{◌≡◌, ◌≢◌, ℕ, ◌+◌, ◌-◌, ◌<◌, ◌≤◌, ◌&&◌, ◌⊎◌, zero, suc, Bool, true, false, cond, not, eqb}
use Rattle.std.proofs.Common.{List, length, replicate, get_or, Option, Some, None, refl, ap, sym, ◌∙◌}
use Rattle.std.proofs.Common.{arith, inl, inr}
use Rattle.std.specs.Prelude.{◌||◌, is_some, Result, Ok, Err, IsOk, IsOkUnless, slice_set}
use Rattle.std.specs.Ordering.{nat_cmp}
use Rattle.std.specs.Cmp.{nat_cmp_total, unsigned_tied}
use Rattle.std.specs.FinMap as map
use Rattle.std.specs.FinSet as set
use Rattle.std.proofs.lemmas.Bool.{cases_lt, ne_eqb, false≢true}
use Rattle.std.proofs.lemmas.List.{length-set, length-replicate, get_or_past}
use Rattle.pc_types.specs.declared.limits.TheConstants.{MAX_HANDLES}
use Rattle.pc_types.specs.declared.refusal.Refusal.{Refusal}
use Rattle.pc_types.specs.declared.refusal.Refusal.TheVariants.{Memory, NoEntry, NoId}
use Rattle.idalloc.specs.Ids.{AllUsed, IsLowestUnused, IsNoIdOrMemory}
use Rattle.cachecore.specs.Handles.{AreHandles}
use Rattle.maps.specs.Vectors.{by_place}
use Rattle.maps.proofs.Vectors.{get-by_place, by_place-some, by_place-none, by_place-empty, get_or-set}
use Rattle.maps.proofs.Lengths.{len_one_gone}
use Rattle.mapping.proofs.MapLemmas.{len_insert_new}
use Rattle.machine.proofs.steps.Choices.{some_of}
use Rattle.machine.specs.Step.{IsLowest}
use Rattle.maps.proofs.Maps.{get-remove_nat}

-- ---- how many entries a map has

pub len_one_less : {X : Type 0} (m : map.FinMap nat_cmp X) (k : ℕ) → is_some (map.get m k) ≡ true
    → map.len m ≡ map.len (map.remove m k) + 1
len_one_less m k h = let a = some_of (map.get m k) h in len_one_gone m k a.0 a.1

-- a map with each key below n has n entries or more
filled : (n : ℕ) (m : map.FinMap nat_cmp ℕ) → ((k : ℕ) → k < n → is_some (map.get m k) ≡ true) → n ≤ map.len m
filled zero m each = omega arith
filled (suc n) m each =
    let rest : n ≤ map.len (map.remove m n) =
    filled n (map.remove m n) (λ k low. ap is_some
    (get-remove_nat m n k ∙ ap (λ b. cond b None (map.get m k)) (ne_eqb k n (λ e. omega (arith, low, e))))
    ∙ each k (omega (arith, low))) in
    let one : map.len m ≡ map.len (map.remove m n) + 1 = len_one_less m n (each n (omega arith)) in
    omega (arith, rest, one)

-- ---- the numbers in use

or_some : (b : Bool) (file : ℕ) (o : Option ℕ) → (b || is_some o) ≡ is_some (cond b (Some file) o)
or_some true file o = refl
or_some false file o = refl

and_some : (b : Bool) (o : Option ℕ) → (not b && is_some o) ≡ is_some (cond b None o)
and_some true o = refl
and_some false o = refl

-- ---- answers

pub freed : (r : Result (Unit {0}) Refusal) → IsOkUnless r NoEntry → (r ≡ Err NoEntry → ⊥) → IsOk r
freed (Ok x) only never = refl
freed (Err e) only never = absurd (never (ap Err only))

pub memory_alone : (e : Refusal) → IsNoIdOrMemory e → e ≢ NoId → e ≡ Memory
memory_alone NoId only never = absurd (never refl)
memory_alone Memory only never = refl
memory_alone _ only never = absurd only

-- ---- what the table keeps

none_there : (h : ℕ) → get_or {A = Option ℕ} (replicate MAX_HANDLES None) h None ≡ None
none_there h = sym (get-by_place (replicate MAX_HANDLES None) h)
    ∙ ap (λ (m : map.FinMap nat_cmp ℕ). map.get m h) (by_place-empty MAX_HANDLES) ∙ map.get-empty nat_cmp h

pub no_handles : AreHandles set.empty (replicate MAX_HANDLES None) 0
no_handles = record {
  whole = length-replicate {A = Option ℕ} MAX_HANDLES None;
  numbered = λ h. set.contains-empty nat_cmp h ∙ sym (ap is_some (none_there h));
  counted = sym (ap map.len (by_place-empty MAX_HANDLES) ∙ map.len-empty nat_cmp ℕ);
}

module _ (used : set.FinSet nat_cmp) (files : List (Option ℕ)) (count : ℕ) (are : AreHandles used files count) where
  in_use : (h : ℕ) → is_some (map.get (by_place files) h) ≡ set.contains used h
  in_use h = ap is_some (get-by_place files h) ∙ sym (are.numbered h)

  pub used_handle : (h : ℕ) → is_some (map.get (by_place files) h) ≡ true → set.contains used h ≡ false → ⊥
  used_handle h there free = false≢true (sym free ∙ sym (in_use h) ∙ there)

  pub past_end : (h : ℕ) → MAX_HANDLES ≤ h → map.get (by_place files) h ≡ None
  past_end h past = get-by_place files h ∙ get_or_past files h None (omega (arith, are.whole, past))

  pub has_place : (h : ℕ) → is_some (map.get (by_place files) h) ≡ true → h < length files
  has_place h there = by_place (cases_lt h (length files))
    where
      by_place : (h < length files) ⊎ (length files ≤ h) → h < length files
      by_place (inl low) = low
      by_place (inr past) = absurd (false≢true (sym (ap is_some (past_end h (omega (arith, are.whole, past)))) ∙ there))

  nothing : (o : Option ℕ) → is_some o ≡ false → o ≡ None
  nothing None h = refl
  nothing (Some file) h = absurd (false≢true (sym h))

  no_file : (h : ℕ) → set.contains used h ≡ false → map.get (by_place files) h ≡ None
  no_file h free = nothing (map.get (by_place files) h) (in_use h ∙ free)

  pub lowest_handle : (max h : ℕ) → IsLowestUnused used 0 max h → IsLowest (λ k. is_some (map.get (by_place files) k)) h
  lowest_handle max h is = (in_use h ∙ is.unused, λ k low. in_use k ∙ is.lowest k (omega arith) low)

  -- fewer handles than the limit leave a number
  pub has_room : map.len (by_place files) < MAX_HANDLES → AllUsed used 0 (MAX_HANDLES - 1) → ⊥
  has_room few all =
      let most : MAX_HANDLES ≤ map.len (by_place files) =
      filled MAX_HANDLES (by_place files) (λ k low. in_use k ∙ all.each k (omega arith) (omega (arith, low))) in
      omega (arith, few, most)

  pub handle_opened : (h file : ℕ) → h < length files → set.contains used h ≡ false
      → AreHandles (set.insert used h) (slice_set files h (Some file)) (count + 1)
  handle_opened h file within free = record {
    whole = length-set files h (Some file) ∙ are.whole;
    numbered = λ q.
        set.contains-insert nat_cmp_total used h q
        ∙ (λ i. unsigned_tied q h i || are.numbered q i)
        ∙ or_some (eqb q h) file (get_or files q None)
        ∙ sym (ap is_some (get_or-set files h q (Some file) None within));
    counted =
        ap (λ n. n + 1) are.counted
        ∙ sym (ap map.len (by_place-some files h file within) ∙ len_insert_new (by_place files) h file (no_file h free));
  }

  pub handle_closed : (h : ℕ) → is_some (map.get (by_place files) h) ≡ true
      → AreHandles (set.remove used h) (slice_set files h None) (count - 1)
  handle_closed h there =
      let within = has_place h there in
      record {
        whole = length-set files h None ∙ are.whole;
        numbered = λ q.
            set.contains-remove nat_cmp_total used h q
            ∙ (λ i. not (unsigned_tied q h i) && are.numbered q i)
            ∙ and_some (eqb q h) (get_or files q None)
            ∙ sym (ap is_some (get_or-set files h q None None within));
        counted =
            let fewer : count - 1 ≡ map.len (map.remove (by_place files) h) =
            omega (arith, are.counted, len_one_less (by_place files) h there) in
            fewer ∙ sym (ap map.len (by_place-none files h within));
      }

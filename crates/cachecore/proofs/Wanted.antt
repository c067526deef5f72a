-- Which room a call wants.
use Rattle.std.proofs.Common.{◌≡◌, ◌≤◌, ℕ, ◌+◌, ◌-◌, ◌/◌, Bool, true, false, not, refl, sym, ◌∙◌, arith, inl, inr}
use Rattle.std.specs.Prelude.{◌&&◌, ◌⊎◌, Some, None, count_by, nat_lt, if◌then◌else◌}
use Rattle.std.specs.List.{range_with_len}
use Rattle.std.proofs.lemmas.Bool.Decides.{nat_tests}
use Rattle.machine.specs.State.{State, dirty_total, free_frames, handle_file, is_cached, tags_at}
use Rattle.cachecore.specs.declared.answers.Demand.{Demand}
use Rattle.cachecore.specs.declared.answers.Want.TheVariants.{Clean, Frames}
use Rattle.cachecore.specs.Wants.{demanded, frames_short, lacking, lacks_frames, may_touch, passes_limit, wants}

-- too many pages would be dirty, by the pages that a call touches
pub over_is : (s : State) (h o n file first end : ℕ) (over : Bool) → may_touch s h o n ≡ true → file ≡ handle_file s h
    → first ≡ o / s.sizes.page → end ≡ (o + n - 1) / s.sizes.page + 1
    → over ≡ (nat_lt 0 (count_by (λ p. not (tags_at s file p).dirty) (range_with_len first (end - first)))
    && nat_lt s.sizes.dirty_limit
    (dirty_total s + count_by (λ p. not (tags_at s file p).dirty) (range_with_len first (end - first))))
    → over ≡ passes_limit s h o n
over_is s h o n file first end over may f a b is =
    is ∙ (λ i. sym may i
    && (nat_lt 0 (count_by (λ p. not (tags_at s (f i) p).dirty) (range_with_len (a i) (b i - a i)))
    && nat_lt s.sizes.dirty_limit
    (dirty_total s + count_by (λ p. not (tags_at s (f i) p).dirty) (range_with_len (a i) (b i - a i)))))

-- enough frames are free, by the pages that it touches
pub enough_is : (s : State) (h o n file first end short : ℕ) → file ≡ handle_file s h → first ≡ o / s.sizes.page
    → end ≡ (o + n - 1) / s.sizes.page + 1
    → short ≡ count_by (λ p. not (is_cached s file p)) (range_with_len first (end - first)) - free_frames s → short ≤ 0
    → lacks_frames s h o n ≡ false
enough_is s h o n file first end short f a b is none =
    let same : count_by (λ p. not (is_cached s file p)) (range_with_len first (end - first)) ≡ lacking s (handle_file s h) o n =
    λ i. count_by (λ p. not (is_cached s (f i) p)) (range_with_len (a i) (b i - a i)) in
    by (may_touch s h o n) (free_frames s) (lacking s (handle_file s h) o n) (omega (arith, same, is, none))
  where
    by : (may : Bool) (F L : ℕ) → L ≤ F → (may && nat_lt F L) ≡ false
    by true F L few = grind (arith, nat_tests)
    by false F L few = refl

module _ (s : State) (d : Demand) (enough : lacks_frames s d.handle.0 d.offset (demanded s d) ≡ false) where
  abbrev short : ℕ
  short = frames_short s d.handle.0 d.offset (demanded s d)

  abbrev passes : Bool
  passes = passes_limit s d.handle.0 d.offset (demanded s d)

  pub wants_clean : d.dirties ≡ true → passes ≡ true → wants s d ≡ Some Clean
  wants_clean dirties over = λ i. if enough i then Some (Frames short) else if (dirties i && over i) then Some Clean else None

  pub wants_none : (d.dirties ≡ false) ⊎ (passes ≡ false) → wants s d ≡ None
  wants_none (inl clean) = λ i. if enough i then Some (Frames short) else if (clean i && passes) then Some Clean else None
  wants_none (inr few) =
      (λ i. if enough i then Some (Frames short) else if (d.dirties && few i) then Some Clean else None) ∙ go d.dirties
    where
      go : (b : Bool) → (if b && false then Some Clean else None) ≡ None
      go true = refl
      go false = refl

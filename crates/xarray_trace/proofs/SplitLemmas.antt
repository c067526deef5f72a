-- What a split answers and leaves, by its tests.
use Rattle.std.proofs.Common.{◌≡◌, ℕ, ◌<◌, ltb, min, Option, Some, None, Result, Ok, Err, refl, sym, ap, ◌∙◌, inl, inr, arith}
use Rattle.std.proofs.lemmas.Bool.{cases_lt, cond-false, le-ltb}
use Rattle.pc_types.specs.declared.refusal.Refusal.TheVariants.{BadOrder}
use Rattle.xarray.specs.MarkedArray.{Array, IsArray, Range, entry_at, split}
use Rattle.xarray.proofs.RangeLemmas.{at-some}
use Rattle.xarray_trace.specs.Calls.{holding, split_made}
use Rattle.xarray_trace.specs.declared.answer.Answer.TheVariants as says

pub ok_err : {T E : Type 0} (x : T) (e : E) → ◌≡◌ {A = Result T E} (Ok x) (Err e) → ⊥
ok_err x e h = cc

module _ (a : Array) (shape : IsArray a.ranges) (index order least : ℕ) (is_min : least ≡ min order 64) (new : Array) (splits : new ≡ holding (split a.ranges index least)) (held : entry_at a.ranges index ≡ None → ⊥) (fits : (first : ℕ) (r : Range) → entry_at a.ranges index ≡ Some (first, r) → r.order < least → ⊥) where
  pub split_ok : (says.Ok, new) ≡ split_made a index order (entry_at a.ranges index)
  split_ok = by_entry (entry_at a.ranges index) refl
    where
      by_entry : (o : Option (ℕ × Range)) → entry_at a.ranges index ≡ o → (says.Ok, new) ≡ split_made a index order o
      by_entry None none = absurd (held none)
      by_entry (Some e) is = elim (cases_lt e.1.order least) [
        | inl above ↦ absurd (fits e.0 e.1 is above)
        | inr le ↦
            let top = shape.order e.0 e.1 (at-some a.ranges index e.0 e.1 is).there in
            let same : least ≡ order = omega (arith, le, top, is_min) in
            ap (λ (z : Array). (says.Ok, z)) (splits ∙ ap (λ o. holding (split a.ranges index o)) same)
            ∙ sym (cond-false (ltb e.1.order order) (says.Refused BadOrder, a) (says.Ok, holding (split a.ranges index order)) (le-ltb e.1.order order (omega (arith, le, same))))
      ]

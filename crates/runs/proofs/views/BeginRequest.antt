-- What a request that begins adds to the others.
use Rattle.std.proofs.Common.{◌≡◌, ℕ, true, ap, sym, subst, ◌∙◌, inl, inr, Some, None, is_some}
use Rattle.runs.proofs.views.View.{View, Flight, Good, RequestIs, put1, put1_tells, put1_else, fresh}

module _ (v : View) (ok : Good v) (new : Flight) where
  pub begun_apart : ((u : ℕ) (s : Flight) → v.request u ≡ Some s → new.block ≡ s.block → ⊥) → (t u : ℕ) (r s : Flight)
      → put1 v.request v.next (Some new) t ≡ Some r → put1 v.request v.next (Some new) u ≡ Some s → r.block ≡ s.block
      → t ≡ u
  begun_apart clash t u r s e k b = elim (put1_tells v.request v.next (Some new) t) [
    | inl h ↦ elim (put1_tells v.request v.next (Some new) u) [
      | inl j ↦ h.0 ∙ sym j.0
      | inr j ↦ absurd (clash u s (sym j.1 ∙ k) (let a : Some new ≡ Some r = sym h.1 ∙ e in cc))
    ]
    | inr h ↦ elim (put1_tells v.request v.next (Some new) u) [
      | inl j ↦ absurd (clash t r (sym h.1 ∙ e) (let a : Some new ≡ Some s = sym j.1 ∙ k in cc))
      | inr j ↦ ok.requests_apart t u r s (sym h.1 ∙ e) (sym j.1 ∙ k) b
    ]
  ]

  pub begun_requests : (w : View) → RequestIs w v.next new
      → ((t : ℕ) (r : Flight) → v.request t ≡ Some r → RequestIs w t r) → (t : ℕ) (r : Flight)
      → put1 v.request v.next (Some new) t ≡ Some r → RequestIs w t r
  begun_requests w is_new old t r e = elim (put1_tells v.request v.next (Some new) t) [
    | inl h ↦ subst (λ u. RequestIs w u r) (sym h.0)
        (subst (λ x. RequestIs w v.next x) (let a : Some new ≡ Some r = sym h.1 ∙ e in cc) is_new)
    | inr h ↦ old t r (sym h.1 ∙ e)
  ]

  -- a request that was there stays
  pub stays_begun : (u : ℕ) (s : Flight) → v.request u ≡ Some s → put1 v.request v.next (Some new) u ≡ v.request u
  stays_begun u s e = put1_else v.request v.next (Some new) u (λ same. let none : v.request u ≡ None = ap v.request same
      ∙ fresh v ok in cc)

  pub begun_outcomes : (t : ℕ) → is_some (v.outcome t) ≡ true → is_some (put1 v.request v.next (Some new) t) ≡ true
  begun_outcomes t e = elim (put1_tells v.request v.next (Some new) t) [
    | inl h ↦ ap is_some h.1
    | inr h ↦ ap is_some h.1
        ∙ ok.outcomes t e
  ]

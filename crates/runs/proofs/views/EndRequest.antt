-- What stays when a request ends: the others.
use Rattle.std.proofs.Common.{◌≡◌, ℕ, ◌≢◌, true, false, ap, sym, ◌∙◌, inl, inr, Some, None, is_some}
use Rattle.runs.proofs.views.View.{View, Flight, Good, put1, put1_tells, put1_else, one_request}

module _ (v : View) (ok : Good v) (t : ℕ) where
  pub others : (u : ℕ) (s : Flight) → put1 v.request t None u ≡ Some s → (u ≢ t) × (v.request u ≡ Some s)
  others u s e =
      elim (put1_tells v.request t None u) [ inl h ↦ absurd (let a = h.1 in cc) | inr h ↦ (h.0, sym h.1 ∙ e) ]

  pub outcome_left : (u : ℕ) → u ≢ t → put1 v.outcome t None u ≡ v.outcome u
  outcome_left u n = put1_else v.outcome t None u n

  pub others_apart : (u w : ℕ) (s x : Flight) → put1 v.request t None u ≡ Some s → put1 v.request t None w ≡ Some x
      → s.block ≡ x.block → u ≡ w
  others_apart u w s x e k = ok.requests_apart u w s x (others u s e).1 (others w x k).1

  pub outcomes_left : (u : ℕ) → is_some (put1 v.outcome t None u) ≡ true → is_some (put1 v.request t None u) ≡ true
  outcomes_left u e = elim (put1_tells v.outcome t None u) [
    | inl h ↦ absurd (let a = h.1 in cc)
    | inr h ↦ ap is_some (put1_else v.request t None u h.0) ∙ ok.outcomes u (sym (ap is_some h.1) ∙ e)
  ]

  -- a request that is another stays
  pub left : (r : Flight) → v.request t ≡ Some r → (u : ℕ) (s : Flight) → v.request u ≡ Some s → (s ≡ r → ⊥)
      → put1 v.request t None u ≡ v.request u
  left r is u s e n =
      put1_else v.request t None u (λ same. n (let a : v.request t ≡ Some s = (λ i. v.request (sym same i)) ∙ e in cc))

  -- of the page of a request that was not dropped no other is in flight
  pub none_beside : (r : Flight) → v.request t ≡ Some r → r.dropped ≡ false → (u : ℕ) (s : Flight) → u ≢ t
      → v.request u ≡ Some s → s.dropped ≡ false → s.file ≡ r.file → s.page ≡ r.page → ⊥
  none_beside r is live u s n e d f p = n (one_request v ok u t s r e is d live f p)

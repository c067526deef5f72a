-- A request ends that was dropped, or a fill that failed.
use Rattle.std.proofs.Common.{◌≡◌, ℕ, false, refl, ap, sym, ◌∙◌, Some, None}
use Rattle.pc_types.specs.declared.kind.Kind.TheVariants.{Flush}
use Rattle.runs.proofs.views.View.{View, Flight, Good, Goes, no_gone, quietly_evolves, request_stays, put1, good_after}
use Rattle.runs.proofs.views.View.{still_flying}
use Rattle.runs.proofs.views.EndRequest.{others, outcome_left, others_apart, outcomes_left, left}

module _ (v : View) (ok : Good v) (t : ℕ) (r : Flight) (is : v.request t ≡ Some r)
    (quiet : r.dropped ≡ false → r.kind ≡ Flush → ⊥) where
  abbrev pub after : View
  after = record v { request = put1 v.request t None; outcome = put1 v.outcome t None }

  -- a write that is not dropped is another request
  another : (s : Flight) → s.dropped ≡ false → s.kind ≡ Flush → s ≡ r → ⊥
  another s d k same = quiet (sym (ap (λ (x : Flight). x.dropped) same) ∙ d)
      (sym (ap (λ (x : Flight). x.kind) same) ∙ k)

  pub end_quietly : Goes no_gone v after
  end_quietly = (
    good_after v ok _ _ _ _ _ ok.pages ok.page_in
        (λ u s e. let k = others v ok t u s e in let old = ok.requests u s k.1 in
        request_stays v _ _ _ _ _ u s old old.serial (outcome_left v ok t u k.0) (λ _ _. refl) (λ _ _. refl))
        (others_apart v ok t)
        (λ g q e. let h = ok.flushes g q e in
        still_flying v after g q h (left v ok t r is h.serial h.request h.is (another h.request h.live h.kind)))
        (outcomes_left v ok t),
    quietly_evolves no_gone v after (λ g q _ b h. h) (λ u s e k d. (others v ok t u s e).1)
        (λ u s e k d _. left v ok t r is u s e (another s d k) ∙ e) (λ g q _ e. e) (λ g. refl) refl,
  )

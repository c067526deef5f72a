-- The outcome of a device call is noted.
use Rattle.std.proofs.Common.{◌≡◌, ℕ, true, List, refl, ap, sym, ◌∙◌, inl, inr, Some, is_some}
use Rattle.std.specs.Prelude.{unwrap_or}
use Rattle.pc_types.specs.Spots.{shown}
use Rattle.pc_types.specs.declared.kind.Kind.TheVariants.{Fill, Flush}
use Rattle.machine.specs.declared.event.Outcome.{Outcome}
use Rattle.machine.specs.declared.event.Outcome.TheVariants as outcome
use Rattle.runs.proofs.views.View.{View, Flight, Good, RequestIs, Goes, no_gone, quietly_evolves, put1, put1_tells}
use Rattle.runs.proofs.views.View.{dirty, writeback, valid_of, good_after, still_flying}

-- an outcome is of a request in flight
pub noted_outcomes : (v : View) → Good v → (t : ℕ) (r : Flight) → v.request t ≡ Some r → (o : Outcome) (u : ℕ)
    → is_some (put1 v.outcome t (Some o) u) ≡ true → is_some (v.request u) ≡ true
noted_outcomes v ok t r is o u e = elim (put1_tells v.outcome t (Some o) u) [
  | inl h ↦ ap is_some ((λ i. v.request (h.0 i)) ∙ is)
  | inr h ↦ ok.outcomes u (sym (ap is_some h.1) ∙ e)
]

pub same_request : (v : View) (t : ℕ) (r : Flight) → v.request t ≡ Some r → (u : ℕ) (s : Flight) → u ≡ t
    → v.request u ≡ Some s → s ≡ r
same_request v t r is u s e k = let a : v.request u ≡ Some r = (λ i. v.request (e i)) ∙ is in cc

-- a fill that went well gave its block's bytes, and a flush that went well left its own there
pub record WentWell (v : View) (r : Flight) (o : Outcome) : Type 0 where
  pub fill : (bytes : List ℕ) → o ≡ outcome.Read bytes → r.kind ≡ Fill → bytes ≡ v.block r.block
  pub flush : o ≡ outcome.Written → r.kind ≡ Flush → v.block r.block ≡ r.bytes

module _ (v : View) (ok : Good v) (t : ℕ) (r : Flight) (is : v.request t ≡ Some r) (o : Outcome)
    (well : WentWell v r o) where
  abbrev pub after : View
  after = record v { outcome = put1 v.outcome t (Some o) }

  requests : (u : ℕ) (s : Flight) → after.request u ≡ Some s → RequestIs after u s
  requests u s e = let old = ok.requests u s e in record {
    serial = old.serial;
    block = old.block;
    bytes = old.bytes;
    fill = λ d j. let h = old.fill d j in record {
      mapped = h.mapped;
      valid = h.valid;
      absent = h.absent;
      noted = λ bytes k. elim (put1_tells v.outcome t (Some o) u) [
        | inl w ↦ ap (shown v.page_size (valid_of (v.spot s.file s.page)))
            (well.fill bytes (let a : Some o ≡ Some (outcome.Read bytes) = sym w.1 ∙ k in
            let b : o ≡ outcome.Read bytes = cc in b)
            (ap (λ (x : Flight). x.kind) (sym (same_request v t r is u s w.0 e)) ∙ j)
            ∙ (λ i. v.block ((sym (same_request v t r is u s w.0 e) i).block))
            ∙ sym (ap (λ o. v.block (unwrap_or o 0)) h.mapped))
            ∙ (ok.pages s.file s.page).clean (ap dirty h.absent) (ap writeback h.absent)
        | inr w ↦ h.noted bytes (sym w.1 ∙ k)
      ];
    };
    flush = λ d j. let h = old.flush d j in record {
      mapped = h.mapped;
      writeback = h.writeback;
      clean = h.clean;
      noted = λ k. elim (put1_tells v.outcome t (Some o) u) [
        | inl w ↦ (λ i. v.block ((same_request v t r is u s w.0 e i).block))
            ∙ well.flush (let a : Some o ≡ Some outcome.Written = sym w.1 ∙ k in let b : o ≡ outcome.Written = cc in b)
            (ap (λ (x : Flight). x.kind) (sym (same_request v t r is u s w.0 e)) ∙ j)
            ∙ ap (λ (x : Flight). x.bytes) (sym (same_request v t r is u s w.0 e))
        | inr w ↦ h.noted (sym w.1 ∙ k)
      ];
    };
    dead = old.dead;
  }

  pub call_noted : Goes no_gone v after
  call_noted = (
    good_after v ok _ _ _ _ _ ok.pages ok.page_in requests ok.requests_apart
        (λ g q e. still_flying v after g q (ok.flushes g q e) refl) (noted_outcomes v ok t r is o),
    quietly_evolves no_gone v after (λ g q _ b h. h) (λ u r e k d. e) (λ u r e k d _. e) (λ g q _ e. e) (λ g. refl)
        refl,
  )

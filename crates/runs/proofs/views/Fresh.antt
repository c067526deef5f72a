-- What becomes of a page that a sync looks after, in one step.
use Rattle.std.proofs.Common.{◌≡◌, ℕ, ◌+◌, Bool, true, false, List, sym, subst, ◌∙◌, arith, inl, inr, ◌⊎◌, Some, None}
use Rattle.pc_types.specs.declared.kind.Kind.TheVariants.{Flush}
use Rattle.runs.proofs.views.View.{View, Flight, Good, Evolves, Holds, one_request, towrite, held}

-- the device holds bytes of a moment, and so has each write in flight
pub record IsFresh (v : View) (Seen : List ℕ → Type 0) (f p : ℕ) : Type 0 where
  pub bytes : List ℕ
  pub on_device : Holds v f p bytes
  pub seen : Seen bytes
  pub flushes : (t : ℕ) (r : Flight) → v.request t ≡ Some r → r.kind ≡ Flush → r.dropped ≡ false → r.file ≡ f
      → r.page ≡ p → Seen r.bytes

-- a write of bytes of a moment is in flight
pub record IsUnder (v : View) (Seen : List ℕ → Type 0) (f p t : ℕ) : Type 0 where
  pub request : Flight
  pub is : v.request t ≡ Some request
  pub kind : request.kind ≡ Flush
  pub live : request.dropped ≡ false
  pub file : request.file ≡ f
  pub page : request.page ≡ p
  pub seen : Seen request.bytes

module _ (v w : View) (ok : Good v) (gone : ℕ → ℕ → Bool) (ev : Evolves gone v w) (f p : ℕ) (left : gone f p ≡ false)
    (Seen Later : List ℕ → Type 0) (more : (b : List ℕ) → Seen b → Later b) (now : Later (v.content f p)) where
  from_now : (t : ℕ) (r : Flight) → w.request t ≡ Some r → r.kind ≡ Flush → r.dropped ≡ false → r.file ≡ f → r.page ≡ p
      → (v.request t ≡ Some r → Later r.bytes) → Later r.bytes
  from_now t r e k d g q old =
      elim (ev.from t r e k d) [ inl h ↦ old h | inr h ↦ subst Later (sym (h.bytes ∙ (λ i. v.content (g i) (q i)))) now ]

  flushes_next : IsFresh v Seen f p → (t : ℕ) (r : Flight) → w.request t ≡ Some r → r.kind ≡ Flush
      → r.dropped ≡ false → r.file ≡ f → r.page ≡ p → Later r.bytes
  flushes_next h t r e k d g q = from_now t r e k d g q (λ o. more _ (h.flushes t r o k d g q))

  pub fresh_next : IsFresh v Seen f p → IsFresh w Later f p
  fresh_next h = elim (ev.on_device f p left h.bytes h.on_device) [
    | inl e ↦ record { bytes = h.bytes; on_device = e; seen = more _ h.seen; flushes = flushes_next h }
    | inr x ↦ record {
      bytes = x.request.bytes;
      on_device = x.bytes;
      seen = more _ (h.flushes x.serial x.request x.is x.kind x.live x.file x.page);
      flushes = flushes_next h;
    }
  ]

  pub under_next : (t : ℕ) → IsUnder v Seen f p t → w.failures f ≡ v.failures f → IsUnder w Later f p t
      ⊎ IsFresh w Later f p
  under_next t u same = elim (ev.flush t u.request u.is u.kind u.live ((λ i. gone (u.file i) (u.page i)) ∙ left)) [
    | inl e ↦ inl (search (e, more _ u.seen))
    | inr x ↦ elim x [
      | inl failed ↦ absurd (let a : w.failures f ≡ v.failures f + 1 = (λ i. w.failures (sym u.file i)) ∙ failed
          ∙ (λ i. v.failures (u.file i) + 1) in omega arith)
      | inr done ↦ inr (record {
        bytes = u.request.bytes;
        on_device = inl ((λ i. held w (sym u.file i) (sym u.page i)) ∙ done.1);
        seen = more _ u.seen;
        flushes = λ s r e k d g q. from_now s r e k d g q (λ o.
            let same_serial : s ≡ t = one_request v ok s t r u.request o u.is d u.live (g ∙ sym u.file)
            (q ∙ sym u.page) in
            absurd (let a : w.request s ≡ None = (λ i. w.request (same_serial i)) ∙ done.0 in cc));
      })
    ]
  ]

  pub waiting_next : towrite (v.page f p) ≡ true → (towrite (w.page f p) ≡ true) ⊎ ((t : ℕ) × IsUnder w Later f p t)
  waiting_next e = elim (ev.to_write f p left e) [
    | inl h ↦ inl h
    | inr x ↦ inr (x.serial, search (subst Later (sym x.bytes) now))
  ]

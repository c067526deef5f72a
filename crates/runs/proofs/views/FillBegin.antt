-- A fill begins.
use Rattle.std.proofs.Common.{◌≡◌, ℕ, ◌+◌, true, false, [], refl, sym, ◌∙◌, arith, Option, Some, None, option_map}
use Rattle.pc_types.specs.declared.kind.Kind.TheVariants.{Fill, Flush}
use Rattle.runs.proofs.views.View.{View, Flight, Good, RequestIs, Goes, no_gone, quietly_evolves, request_stays, put1}
use Rattle.runs.proofs.views.View.{put1_tells, spot_of, is_valid, fresh, no_outcome, block_user, writeback, good_after, still_flying}
use Rattle.runs.proofs.views.BeginRequest.{begun_apart, begun_requests, stays_begun, begun_outcomes}

module _ (v : View) (ok : Good v) (f p b : ℕ) (absent : v.page f p ≡ None)
    (mapped : option_map (λ s. s.block) (v.spot f p) ≡ Some b) (valid : is_valid (v.spot f p) ≡ true)
    (alone : (t : ℕ) (r : Flight) → v.request t ≡ Some r → r.dropped ≡ false → r.kind ≡ Fill → r.file ≡ f → r.page ≡ p
    → ⊥) where
  abbrev pub new : Flight
  new = record { kind = Fill; file = f; page = p; block = b; bytes = []; dropped = false }

  abbrev pub after : View
  after = record v { request = put1 v.request v.next (Some new); next = v.next + 1 }

  new_request : RequestIs after v.next new
  new_request = record {
    serial = omega arith;
    block = let s = spot_of _ _ mapped in let a = ok.spot_block f p s.0 s.1 in let e = s.2 in omega arith;
    bytes = λ k. absurd cc;
    fill = λ d k. record {
      mapped = mapped;
      valid = valid;
      absent = absent;
      noted = λ bytes e. let none = no_outcome v ok in
          absurd cc;
    };
    flush = λ d k. absurd cc;
    dead = λ d. absurd cc;
  }

  clash : (u : ℕ) (s : Flight) → v.request u ≡ Some s → b ≡ s.block → ⊥
  clash u s e same =
      let x = spot_of _ _ mapped in
      let who = block_user v ok u s f p x.0 e x.1 (x.2 ∙ same) in
      elim s.kind as (λ k. s.kind ≡ k → ⊥) [
        | Fill ↦ λ k. alone u s e who.0 k (sym who.1) (sym who.2)
        | Flush ↦ λ k. let w = ((ok.requests u s e).flush who.0 k).writeback in let a : writeback (v.page f p) ≡ true =
            (λ i. writeback (v.page (who.1 i) (who.2 i))) ∙ w in absurd cc
      ] refl

  pub fill_begin : Goes no_gone v after
  fill_begin = (
    good_after v ok _ _ _ _ _ ok.pages ok.page_in
        (begun_requests v ok new after new_request (λ t r e. let old = ok.requests t r e in
        request_stays v _ _ _ _ _ t r old (let a = old.serial in omega arith) refl (λ _ _. refl) (λ _ _. refl)))
        (begun_apart v ok new clash)
        (λ g q e. let h = ok.flushes g q e in still_flying v after g q h (stays_begun v ok new h.serial h.request h.is))
        (begun_outcomes v ok new),
    quietly_evolves no_gone v after (λ g q _ b h. h) (λ u r e k d. grind (arith, put1_tells {A = Option Flight}))
        (λ u r e k d _. let none = fresh v ok in grind (arith, put1_tells {A = Option Flight})) (λ g q _ e. e)
        (λ g. refl) refl,
  )

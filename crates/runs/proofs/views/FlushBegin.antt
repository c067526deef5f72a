-- A write of a page is started.
use Rattle.std.proofs.Common.{◌≡◌, ℕ, ◌+◌, true, false, length, refl, ap, sym, ◌∙◌, arith, inl, inr}
use Rattle.std.specs.Prelude.{Option, Some, None, is_some, option_map}
use Rattle.pc_types.specs.declared.kind.Kind.TheVariants.{Fill, Flush}
use Rattle.machine.specs.State.{Page}
use Rattle.runs.proofs.views.View.{View, Flight, Good, PageIs, RequestIs, HasFlush, Evolves, no_gone, put1, put2}
use Rattle.runs.proofs.views.View.{put1_tells, put2_else, put2_tells, put1_here, spot_of, fresh, no_outcome, live_spot, block_user}
use Rattle.runs.proofs.views.View.{Goes, request_stays, dirty, writeback, towrite, held, good_after, still_flying, one_page, one_page_in}
use Rattle.runs.proofs.views.BeginRequest.{begun_apart, begun_requests, stays_begun, begun_outcomes}

module _ (v : View) (ok : Good v) (f p b : ℕ) (old_page : Page) (cached : v.page f p ≡ Some old_page)
    (is_dirty : old_page.tags.dirty ≡ true) (idle : old_page.tags.writeback ≡ false)
    (mapped : option_map (λ s. s.block) (v.spot f p) ≡ Some b) (size : length old_page.bytes ≡ v.page_size) where
  abbrev pub new : Flight
  new = record { kind = Flush; file = f; page = p; block = b; bytes = old_page.bytes; dropped = false }

  abbrev pub page : Page
  page = record old_page { tags = record { dirty = false; writeback = true; towrite = false } }

  abbrev pub after : View
  after = record v { page = put2 v.page f p (Some page); request = put1 v.request v.next (Some new); next = v.next + 1 }

  page_is : PageIs (v.content f p) (held v f p) (v.spot f p) (Some page)
  page_is = record {
    bytes = λ x e. (let a : page ≡ x = cc in sym (ap (λ (y : Page). y.bytes) a)) ∙ (ok.pages f p).bytes old_page cached;
    towrite = λ e. absurd cc;
    dirty_block = λ e. absurd cc;
    writeback_block = λ _. ap is_some (spot_of _ _ mapped).1;
    clean = λ _ e. absurd cc;
    clean_block = λ _ e. absurd cc;
  }

  here : v.page f p ≡ Some old_page → put2 v.page f p (Some page) f p ≡ Some page
  here _ = grind (arith, put2_tells {A = Option Page})

  new_request : RequestIs after v.next new
  new_request = record {
    serial = omega arith;
    block = let s = spot_of _ _ mapped in let a = ok.spot_block f p s.0 s.1 in let e = s.2 in omega arith;
    bytes = λ k. size;
    fill = λ d k. absurd cc;
    flush = λ d k. record {
      mapped = mapped;
      writeback = ap writeback (here cached);
      clean = λ _. (ok.pages f p).bytes old_page cached;
      noted = λ e. let none = no_outcome v ok in absurd cc;
    };
    dead = λ d. absurd cc;
  }

  clash : (u : ℕ) (s : Flight) → v.request u ≡ Some s → b ≡ s.block → ⊥
  clash u s e same =
      let x = spot_of _ _ mapped in
      let who = block_user v ok u s f p x.0 e x.1 (x.2 ∙ same) in
      elim s.kind as (λ k. s.kind ≡ k → ⊥) [
        | Fill ↦ λ k. let w = ((ok.requests u s e).fill who.0 k).absent in let a : v.page f p ≡ None =
            (λ i. v.page (who.1 i) (who.2 i)) ∙ w in absurd cc
        | Flush ↦ λ k. let w = ((ok.requests u s e).flush who.0 k).writeback in let a : writeback (v.page f p) ≡ true =
            (λ i. writeback (v.page (who.1 i) (who.2 i))) ∙ w in let c : writeback (v.page f p) ≡ false =
            ap writeback cached ∙ idle in absurd cc
      ] refl

  apart : (t : ℕ) (r : Flight) → v.request t ≡ Some r → r.dropped ≡ false → r.file ≡ f → r.page ≡ p → ⊥
  apart t r e d g q =
      clash t r e (let a = live_spot v ok t r e d in let c : option_map (λ s. s.block) (v.spot r.file r.page) ≡ Some b =
      (λ i. option_map (λ s. s.block) (v.spot (g i) (q i))) ∙ mapped in cc)

  old_request : (t : ℕ) (r : Flight) → v.request t ≡ Some r → RequestIs after t r
  old_request t r e =
      let old = ok.requests t r e in
      let same = λ (d : r.dropped ≡ false). put2_else v.page f p (Some page) r.file r.page (apart t r e d) in
      request_stays v _ _ _ _ _ t r old (let a = old.serial in omega arith) refl (λ d _. same d) (λ d _. same d)

  flushes : (g q : ℕ) → writeback (after.page g q) ≡ true → HasFlush after g q
  flushes g q e = elim (put2_tells v.page f p (Some page) g q) [
    | inl h ↦ record {
      serial = v.next;
      request = new;
      is = put1_here v.request v.next (Some new);
      kind = refl;
      live = refl;
      file = sym h.0;
      page = sym h.1;
    }
    | inr h ↦ let j = ok.flushes g q (sym (ap writeback h.1) ∙ e) in
        still_flying v after g q j (stays_begun v ok new j.serial j.request j.is)
  ]

  kept : Good after
  kept = good_after v ok _ _ _ _ _ (one_page v ok f p (Some page) page_is)
      (one_page_in v ok f p (Some page) (λ _. ok.page_in f p (ap is_some cached)))
      (begun_requests v ok new after new_request old_request) (begun_apart v ok new clash) flushes
      (begun_outcomes v ok new)

  evolves : Evolves no_gone v after
  evolves = record {
    on_device = λ g q _ b h. inl h;
    from = λ u r e k d. elim (put1_tells v.request v.next (Some new) u) [
      | inl h ↦ inr (let a : Some new ≡ Some r = sym h.1 ∙ e in let b : new ≡ r = cc in record {
        fresh_serial = (λ i. v.request (h.0 i)) ∙ fresh v ok;
        was_dirty = (λ i. dirty (v.page ((sym b i).file) ((sym b i).page))) ∙ ap dirty cached ∙ is_dirty;
        bytes = ap (λ (x : Flight). x.bytes) (sym b) ∙ (ok.pages f p).bytes old_page cached
            ∙ (λ i. v.content ((b i).file) ((b i).page));
      })
      | inr h ↦ inl (sym h.1 ∙ e)
    ];
    flush = λ u r e k d _. inl (let none = fresh v ok in grind (arith, put1_tells {A = Option Flight}));
    to_write = λ g q _ e. elim (put2_tells v.page f p (Some page) g q) [
      | inl h ↦ inr (record {
        serial = v.next;
        request = new;
        fresh_serial = fresh v ok;
        is = put1_here v.request v.next (Some new);
        kind = refl;
        live = refl;
        file = sym h.0;
        page = sym h.1;
        bytes = (ok.pages f p).bytes old_page cached ∙ (λ i. v.content (sym h.0 i) (sym h.1 i));
      })
      | inr h ↦ inl (ap towrite h.1 ∙ e)
    ];
    failures = λ g. omega arith;
    same_size = refl;
  }

  pub flush_begin : Goes no_gone v after
  flush_begin = (kept, evolves)

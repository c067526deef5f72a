-- A write ends that failed.
use Rattle.std.proofs.Common.{◌≡◌, ℕ, ◌+◌, true, false, refl, ap, sym, ◌∙◌, arith, inl, inr, Some, None, is_some}
use Rattle.pc_types.specs.declared.kind.Kind.TheVariants.{Flush}
use Rattle.machine.specs.State.{Page}
use Rattle.runs.proofs.views.View.{View, Flight, Good, PageIs, FlushIs, RequestIs, HasFlush, Evolves, no_gone, put1}
use Rattle.runs.proofs.views.View.{Goes, request_stays, put2, put2_else, put1_tells, put2_tells, put1_here, writeback}
use Rattle.runs.proofs.views.View.{towrite, held, good_after, still_flying, one_page, one_page_in, spot_of}
use Rattle.runs.proofs.views.EndRequest.{others, outcome_left, others_apart, outcomes_left, left, none_beside}

module _ (v : View) (ok : Good v) (t : ℕ) (r : Flight) (is : v.request t ≡ Some r) (live : r.dropped ≡ false)
    (kind : r.kind ≡ Flush) (old_page page : Page) (cached : v.page r.file r.page ≡ Some old_page)
    (bytes : page.bytes ≡ old_page.bytes) (is_dirty : page.tags.dirty ≡ true) (idle : page.tags.writeback ≡ false) where
  abbrev pub after : View
  after = record v {
    page = put2 v.page r.file r.page (Some page);
    request = put1 v.request t None;
    outcome = put1 v.outcome t None;
    failures = put1 v.failures r.file (v.failures r.file + 1);
  }

  flush_is : FlushIs (v.spot r.file r.page) (v.page r.file r.page) (v.content r.file r.page) (v.outcome t)
      (v.block r.block) r
  flush_is = (ok.requests t r is).flush live kind

  page_is : PageIs (v.content r.file r.page) (held v r.file r.page) (v.spot r.file r.page) (Some page)
  page_is = record {
    bytes = λ x e. (let a : page ≡ x = cc in sym (ap (λ (y : Page). y.bytes) a)) ∙ bytes
        ∙ (ok.pages r.file r.page).bytes old_page cached;
    towrite = λ _. is_dirty;
    dirty_block = λ _. mapped;
    writeback_block = λ _. mapped;
    clean = λ d _. absurd cc;
    clean_block = λ d _. absurd cc;
  }
    where
      mapped : is_some (v.spot r.file r.page) ≡ true
      mapped = ap is_some (spot_of _ _ flush_is.mapped).1

  requests : (u : ℕ) (s : Flight) → after.request u ≡ Some s → RequestIs after u s
  requests u s e =
      let k = others v ok t u s e in
      let old = ok.requests u s k.1 in
      let same = λ (d : s.dropped ≡ false). put2_else v.page r.file r.page (Some page) s.file s.page
      (none_beside v ok t r is live u s k.0 k.1 d) in
      request_stays v _ _ _ _ _ u s old old.serial (outcome_left v ok t u k.0) (λ d _. same d) (λ d _. same d)

  flushes : (g q : ℕ) → writeback (after.page g q) ≡ true → HasFlush after g q
  flushes g q e = elim (put2_tells v.page r.file r.page (Some page) g q) [
    | inl h ↦ absurd (let a : writeback (Some page) ≡ true = sym (ap writeback h.2) ∙ e in cc)
    | inr h ↦ let j = ok.flushes g q (sym (ap writeback h.1) ∙ e) in
        still_flying v after g q j (left v ok t r is j.serial j.request j.is
        (λ d. h.0 (sym j.file ∙ ap (λ (x : Flight). x.file) d) (sym j.page ∙ ap (λ (x : Flight). x.page) d)))
  ]

  kept : Good after
  kept = good_after v ok _ _ _ _ _ (one_page v ok r.file r.page (Some page) page_is)
      (one_page_in v ok r.file r.page (Some page) (λ _. ok.page_in r.file r.page (ap is_some cached))) requests
      (others_apart v ok t) flushes (outcomes_left v ok t)

  evolves : (page.tags.towrite ≡ old_page.tags.towrite) → Evolves no_gone v after
  evolves same_towrite = record {
    on_device = λ g q _ b h. inl h;
    from = λ u s e k d. inl (others v ok t u s e).1;
    flush = λ u s e k d _. elim (put1_tells v.request t None u) [
      | inl h ↦ inr (inl (let a : v.request t ≡ Some s = (λ i. v.request (sym h.0 i)) ∙ e in let b : s ≡ r = cc in
          (λ i. after.failures ((b i).file)) ∙ put1_here v.failures r.file (v.failures r.file + 1)
          ∙ (λ i. v.failures ((sym b i).file) + 1)))
      | inr h ↦ inl (h.1 ∙ e)
    ];
    to_write = λ g q _ e. inl (elim (put2_tells v.page r.file r.page (Some page) g q) [
      | inl h ↦ ap towrite h.2 ∙ same_towrite ∙ sym (ap towrite cached)
          ∙ (λ i. towrite (v.page (sym h.0 i) (sym h.1 i))) ∙ e
      | inr h ↦ ap towrite h.1 ∙ e
    ]);
    failures = λ g. elim (put1_tells v.failures r.file (v.failures r.file + 1) g)
        [ inl h ↦ (let a = h.1 in let b = ap v.failures h.0 in omega arith) | inr h ↦ (let a = h.1 in omega arith) ];
    same_size = refl;
  }

  pub flush_fails : page.tags.towrite ≡ old_page.tags.towrite → Goes no_gone v after
  flush_fails same = (kept, evolves same)

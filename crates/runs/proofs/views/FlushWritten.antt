-- A write ends that went well.
use Rattle.std.proofs.Common.{◌≡◌, ℕ, ◌<◌, true, false, refl, ap, sym, ◌∙◌, arith, inl, inr}
use Rattle.std.proofs.Common.{subst, ◌≤◌}
use Rattle.std.specs.Prelude.{Option, Some, None, is_some, option_map, nat_lt}
use Rattle.std.proofs.lemmas.Bool.Decides.{nat_tests}
use Rattle.pc_types.specs.declared.kind.Kind.TheVariants.{Flush}
use Rattle.machine.specs.declared.event.Outcome.TheVariants as outcome
use Rattle.machine.specs.State.{Page, page_count}
use Rattle.pc_types.specs.Spots.{Spot, shown}
use Rattle.pc_types.proofs.SpotLaws.{shown_whole}
use Rattle.runs.proofs.views.View.{View, Flight, Good, PageIs, FlushIs, RequestIs, HasFlush, Evolves, no_gone, put1}
use Rattle.runs.proofs.views.View.{Goes, put2, put1_tells, put2_tells, put2_here, spot_of, dirty, writeback, towrite, settled}
use Rattle.runs.proofs.views.View.{HoldsBy, held_by, held, still_flying, put2_else, valid_of, is_valid}
use Rattle.runs.proofs.views.EndRequest.{others, outcome_left, others_apart, outcomes_left, left, none_beside}

module _ (v : View) (ok : Good v) (t : ℕ) (r : Flight) (is : v.request t ≡ Some r) (live : r.dropped ≡ false)
    (kind : r.kind ≡ Flush) (old_page page : Page) (cached : v.page r.file r.page ≡ Some old_page)
    (noted : v.outcome t ≡ Some outcome.Written)
    (bytes : page.bytes ≡ old_page.bytes) (same_dirty : page.tags.dirty ≡ old_page.tags.dirty)
    (same_towrite : page.tags.towrite ≡ old_page.tags.towrite) (idle : page.tags.writeback ≡ false) where
  abbrev pub spot : Spot
  spot = record { block = r.block; valid = v.page_size }

  abbrev pub after : View
  after = record v {
    page = put2 v.page r.file r.page (Some page);
    spot = put2 v.spot r.file r.page (Some spot);
    request = put1 v.request t None;
    outcome = put1 v.outcome t None;
  }

  flush_is : FlushIs (v.spot r.file r.page) (v.page r.file r.page) (v.content r.file r.page) (v.outcome t)
      (v.block r.block) r
  flush_is = (ok.requests t r is).flush live kind

  before : (x : Spot) × (v.spot r.file r.page ≡ Some x) × (x.block ≡ r.block)
  before = spot_of _ _ flush_is.mapped

  -- the block has no bytes past the page's
  whole : shown v.page_size v.page_size (v.block r.block) ≡ v.block r.block
  whole = shown_whole v.page_size v.page_size (v.block r.block)
      (ok.block_sizes r.block (ok.requests t r is).block) (omega arith)

  some_valid : nat_lt 0 v.page_size ≡ true
  some_valid = let h = ok.positive in grind (arith, nat_tests)

  pages : (g q : ℕ) → PageIs (after.content g q) (held after g q) (after.spot g q) (after.page g q)
  pages g q = elim (put2_tells v.spot r.file r.page (Some spot) g q) [
    | inl h ↦ let e : after.page g q ≡ Some page = grind (arith, put2_tells {A = Option Page}) in let s = h.2 in
        let old = ok.pages r.file r.page in let b = old.bytes old_page cached in let tw = old.towrite in
        let j = flush_is.noted noted in let c = flush_is.clean in
        let same : v.content g q ≡ v.content r.file r.page = (λ i. v.content (h.0 i) (h.1 i)) in
        let hd : held after g q ≡ v.block r.block = ap (held_by v.block v.page_size) s ∙ whole in
        record {
          bytes = λ x k. cc;
          towrite = grind arith;
          dirty_block = λ _. ap is_some s;
          writeback_block = λ _. ap is_some s;
          clean = λ d w. hd ∙ j ∙ c (let a : dirty (Some page) ≡ false = sym (ap dirty e) ∙ d in ap dirty cached
              ∙ sym same_dirty ∙ a) ∙ sym same;
          clean_block = λ d w. ap settled s ∙ some_valid;
        }
    | inr h ↦ let e : after.page g q ≡ v.page g q = grind (arith, put2_tells {A = Option Page}) in let s = h.1 in
        let old = ok.pages g q in
        let hd : held after g q ≡ held v g q = ap (held_by v.block v.page_size) s in
        record {
          bytes = λ x k. old.bytes x (sym e ∙ k);
          towrite = λ k. ap dirty e ∙ old.towrite (sym (ap towrite e) ∙ k);
          dirty_block = λ k. ap is_some s ∙ old.dirty_block (sym (ap dirty e) ∙ k);
          writeback_block = λ k. ap is_some s ∙ old.writeback_block (sym (ap writeback e) ∙ k);
          clean = λ d w. hd ∙ old.clean (sym (ap dirty e) ∙ d) (sym (ap writeback e) ∙ w);
          clean_block = λ d w. ap settled s ∙ old.clean_block (sym (ap dirty e) ∙ d) (sym (ap writeback e) ∙ w);
        }
  ]

  page_in : (g q : ℕ) → is_some (after.page g q) ≡ true → q < page_count v.page_size (v.size g)
  page_in g q e = let old = ok.page_in g q in grind (arith, put2_tells {A = Option Page})

  -- each block as before
  block_of_spot : (g q : ℕ) (s : Spot) → after.spot g q ≡ Some s
      → (x : Spot) × (v.spot g q ≡ Some x) × (x.block ≡ s.block)
  block_of_spot g q s e = elim (put2_tells v.spot r.file r.page (Some spot) g q) [
    | inl h ↦ (
      before.0,
      (λ i. v.spot (h.0 i) (h.1 i)) ∙ before.1,
      before.2
          ∙ (let a : Some spot ≡ Some s = sym h.2 ∙ e in let b : spot ≡ s = cc in ap (λ (y : Spot). y.block) b),
    )
    | inr h ↦ (s, sym h.1 ∙ e, refl)
  ]

  spot_in : (g q : ℕ) → is_some (after.spot g q) ≡ true → q < page_count v.page_size (v.size g)
  spot_in g q e = elim (after.spot g q) as (λ o. after.spot g q ≡ o → q < page_count v.page_size (v.size g)) [
    | None ↦ λ k. absurd (let a = ap is_some k in cc)
    | Some s ↦ λ k. let x = block_of_spot g q s k in ok.spot_in g q (ap is_some x.1)
  ] refl

  spot_block : (g q : ℕ) (s : Spot) → after.spot g q ≡ Some s → s.block < v.blocks
  spot_block g q s e = let x = block_of_spot g q s e in let a = ok.spot_block g q x.0 x.1 in let b = x.2 in omega arith

  spot_valid : (g q : ℕ) (s : Spot) → after.spot g q ≡ Some s → s.valid ≤ v.page_size
  spot_valid g q s e = elim (put2_tells v.spot r.file r.page (Some spot) g q) [
    | inl h ↦ (let a : Some spot ≡ Some s = sym h.2 ∙ e in let b : spot ≡ s = cc in
        let c = ap (λ (y : Spot). y.valid) b in omega arith)
    | inr h ↦ ok.spot_valid g q s (sym h.1 ∙ e)
  ]

  spots_apart : (f p g q : ℕ) (s x : Spot) → after.spot f p ≡ Some s → after.spot g q ≡ Some x → s.block ≡ x.block
      → (f ≡ g) × (p ≡ q)
  spots_apart f p g q s x e k b = let i = block_of_spot f p s e in let j = block_of_spot g q x k in
      ok.spots_apart f p g q i.0 j.0 i.1 j.1 (i.2 ∙ b ∙ sym j.2)

  requests : (u : ℕ) (s : Flight) → after.request u ≡ Some s → RequestIs after u s
  requests u s e = let k = others v ok t u s e in let old = ok.requests u s k.1 in
      let same = outcome_left v ok t u k.0 in let not_here = none_beside v ok t r is live u s k.0 k.1 in record {
        serial = old.serial;
        block = old.block;
        bytes = old.bytes;
        fill = λ d j. let h = old.fill d j in let n = not_here d in
            let same_spot = put2_else v.spot r.file r.page (Some spot) s.file s.page n in
            record {
              mapped = ap (option_map (λ (x : Spot). x.block)) same_spot ∙ h.mapped;
              valid = ap is_valid same_spot ∙ h.valid;
              absent = let a = h.absent in
                  grind (arith, put2_tells {A = Option Page});
              noted = λ bytes o. ap (λ x. shown v.page_size (valid_of x) bytes) same_spot
                  ∙ h.noted bytes (sym same ∙ o);
            };
        flush = λ d j. let h = old.flush d j in let n = not_here d in
            record {
              mapped = let a = h.mapped in grind (arith, put2_tells {A = Option Spot});
              writeback = let a = h.writeback in grind (arith, put2_tells {A = Option Page});
              clean = let a = h.clean in
                  grind (arith, put2_tells {A = Option Page});
              noted = λ o. h.noted (sym same ∙ o);
            };
        dead = λ d g q x e'. elim (put2_tells v.spot r.file r.page (Some spot) g q) [
          | inl j ↦ λ b. let x_is : spot ≡ x = (let y : Some spot ≡ Some x = sym j.2 ∙ e' in cc) in
              k.0 (let same : s.block ≡ r.block = sym b ∙ sym (ap (λ (y : Spot). y.block) x_is) in
              ok.requests_apart u t s r k.1 is same)
          | inr j ↦ old.dead d g q x (sym j.1 ∙ e')
        ];
      }

  flushes : (g q : ℕ) → writeback (after.page g q) ≡ true → HasFlush after g q
  flushes g q e = elim (put2_tells v.page r.file r.page (Some page) g q) [
    | inl h ↦ absurd (let a : writeback (Some page) ≡ true = sym (ap writeback h.2) ∙ e in cc)
    | inr h ↦ let j = ok.flushes g q (sym (ap writeback h.1) ∙ e) in
        still_flying v after g q j (left v ok t r is j.serial j.request j.is
        (λ d. h.0 (sym j.file ∙ ap (λ (x : Flight). x.file) d) (sym j.page ∙ ap (λ (x : Flight). x.page) d)))
  ]

  kept : Good after
  kept = record {
    positive = ok.positive;
    pages = pages;
    page_in = page_in;
    spot_in = spot_in;
    spot_block = spot_block;
    spot_valid = spot_valid;
    spots_apart = spots_apart;
    requests = requests;
    requests_apart = others_apart v ok t;
    flushes = flushes;
    outcomes = outcomes_left v ok t;
    block_sizes = ok.block_sizes;
  }

  evolves : Evolves no_gone v after
  evolves =
      let now : held after r.file r.page ≡ r.bytes =
      ap (held_by v.block v.page_size) (put2_here v.spot r.file r.page (Some spot)) ∙ whole ∙ flush_is.noted noted in
      record {
        on_device = λ g q _ b before. elim (put2_tells v.spot r.file r.page (Some spot) g q) [
          | inl h ↦ inr (record {
            serial = t;
            request = r;
            is = is;
            kind = kind;
            live = live;
            file = sym h.0;
            page = sym h.1;
            bytes = inl ((λ i. held after (h.0 i) (h.1 i)) ∙ now);
          })
          | inr h ↦ inl (subst (λ x. HoldsBy v.block v.page_size x b) (sym h.1) before)
        ];
        from = λ u s e k d. inl (others v ok t u s e).1;
        flush = λ u s e k d _. elim (put1_tells v.request t None u) [
          | inl h ↦ inr (inr (
            h.1,
            (let a : v.request t ≡ Some s = (λ i. v.request (sym h.0 i)) ∙ e in
                let b : s ≡ r = cc in (λ i. held after ((b i).file) ((b i).page)) ∙ now
                ∙ sym (ap (λ (x : Flight). x.bytes) b)),
          ))
          | inr h ↦ inl (h.1 ∙ e)
        ];
        to_write = λ g q _ e. inl (elim (put2_tells v.page r.file r.page (Some page) g q) [
          | inl h ↦ ap towrite h.2 ∙ same_towrite ∙ sym (ap towrite cached)
              ∙ (λ i. towrite (v.page (sym h.0 i) (sym h.1 i))) ∙ e
          | inr h ↦ ap towrite h.1 ∙ e
        ]);
        failures = λ g. omega arith;
        same_size = refl;
      }

  pub flush_written : Goes no_gone v after
  flush_written = (kept, evolves)

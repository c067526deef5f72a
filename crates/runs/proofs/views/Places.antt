-- A change of many pages keeps what holds always.
use Rattle.std.proofs.Common.{◌≡◌, ℕ, ◌<◌, ◌≤◌, Bool, true, false, cond, List, refl, ap, sym, subst, ◌∙◌, arith, inl, inr}
use Rattle.std.specs.Prelude.{◌⊎◌, Option, Some, None, is_some, option_map}
use Rattle.machine.specs.State.{Page, page_count}
use Rattle.pc_types.specs.Spots.{Spot, shown}
use Rattle.runs.proofs.views.View.{View, Flight, Good, PageIs, RequestIs, HasFlush, Evolves, quietly_evolves}
use Rattle.runs.proofs.views.View.{Goes, HoldsBy, block_user, dirty, writeback, towrite, settled, held_by, held}
use Rattle.runs.proofs.views.View.{valid_of, is_valid}
use Rattle.runs.proofs.views.Place.{IsSame, IsGone, IsNew, IsPut, dropped_where}

module _ (v : View) (ok : Good v) (page : ℕ → ℕ → Option Page) (spot : ℕ → ℕ → Option Spot) (content : ℕ → ℕ → List ℕ)
    (size : ℕ → ℕ) (gone : ℕ → ℕ → Bool)
    (is_gone : (g q : ℕ) → gone g q ≡ true → IsGone v page spot content g q)
    (is_kept : (g q : ℕ) → gone g q ≡ false → IsSame v page spot content g q ⊎ IsPut v page spot content g q)
    (news_apart : (f p g q : ℕ) (i : IsNew v page spot content f p) (j : IsNew v page spot content g q)
    → i.block ≡ j.block → (f ≡ g) × (p ≡ q))
    (page_in : (g q : ℕ) → is_some (page g q) ≡ true → q < page_count v.page_size (size g))
    (spot_in : (g q : ℕ) → is_some (spot g q) ≡ true → q < page_count v.page_size (size g)) where
  abbrev pub after : View
  after = record v {
    page = page;
    spot = spot;
    content = content;
    size = size;
    request = λ u. option_map (dropped_where gone) (v.request u);
  }

  gone_or : (g q : ℕ) → ((gone g q ≡ true) × IsGone v page spot content g q)
      ⊎ ((gone g q ≡ false) × (IsSame v page spot content g q ⊎ IsPut v page spot content g q))
  gone_or g q =
      elim (gone g q) as (λ b. gone g q ≡ b → ((b ≡ true) × IsGone v page spot content g q)
      ⊎ ((b ≡ false) × (IsSame v page spot content g q ⊎ IsPut v page spot content g q))) [
        | true ↦ λ e. inl (refl, is_gone g q e)
        | false ↦ λ e. inr (refl, is_kept g q e)
      ] refl

  is_new : (g q : ℕ) (x : Spot) → spot g q ≡ Some x → (n : IsNew v page spot content g q)
      → x ≡ record { block = n.block; valid = 0 }
  is_new g q x e n = let a : Some x ≡ Some (record { block = n.block; valid = 0 }) = sym e ∙ n.is in cc

  -- a block that a page has now it had before, or it was free
  spot_was : (g q : ℕ) (x : Spot) → spot g q ≡ Some x
      → (gone g q ≡ false) × ((v.spot g q ≡ Some x) ⊎ ((i : IsNew v page spot content g q) × (x.block ≡ i.block) × (x.valid ≡ 0)))
  spot_was g q x e = elim (gone_or g q) [
    | inl h ↦ absurd (let a = h.1.on_spot in cc)
    | inr h ↦ (
      h.0,
      elim h.1 [
        | inl s ↦ inl (sym s.on_spot ∙ e)
        | inr s ↦ elim s.block [
          | inl b ↦ inl (sym b.0 ∙ e)
          | inr n ↦ inr (
            n,
            ap (λ (y : Spot). y.block) (is_new g q x e n),
            ap (λ (y : Spot). y.valid) (is_new g q x e n),
          )
        ]
      ],
    )
  ]

  pages : (g q : ℕ) → PageIs (after.content g q) (held after g q) (after.spot g q) (after.page g q)
  pages g q = elim (gone_or g q) [
    | inl h ↦ let a = h.1.on_page in let b = h.1.on_spot in let c = h.1.on_content in record {
      bytes = λ x e. absurd cc;
      towrite = λ e. absurd (let d = ap towrite a in cc);
      dirty_block = λ e. absurd (let d = ap dirty a in cc);
      writeback_block = λ e. absurd (let d = ap writeback a in cc);
      clean = λ _ _. ap (held_by v.block v.page_size) b ∙ sym c;
      clean_block = λ _ _. ap settled b;
    }
    | inr h ↦ elim h.1 [
      | inl s ↦ let old = ok.pages g q in record {
        bytes = λ x e. old.bytes x (sym s.on_page ∙ e) ∙ sym s.on_content;
        towrite = λ e. ap dirty s.on_page ∙ old.towrite (sym (ap towrite s.on_page) ∙ e);
        dirty_block = λ e. ap is_some s.on_spot ∙ old.dirty_block (sym (ap dirty s.on_page) ∙ e);
        writeback_block = λ e. ap is_some s.on_spot ∙ old.writeback_block (sym (ap writeback s.on_page) ∙ e);
        clean = λ d w. ap (held_by v.block v.page_size) s.on_spot
            ∙ old.clean (sym (ap dirty s.on_page) ∙ d) (sym (ap writeback s.on_page) ∙ w) ∙ sym s.on_content;
        clean_block = λ d w. ap settled s.on_spot
            ∙ old.clean_block (sym (ap dirty s.on_page) ∙ d) (sym (ap writeback s.on_page) ∙ w);
      }
      | inr s ↦
          let has : is_some (spot g q) ≡ true =
          elim s.block [ inl b ↦ ap is_some b.0 ∙ b.1 | inr n ↦ ap is_some n.is ] in
          let d : dirty (page g q) ≡ true = ap dirty s.is ∙ s.dirty in
          record {
            bytes = λ x e. (let a : Some x ≡ Some s.new = sym e ∙ s.is in let b : x ≡ s.new = cc in
                ap (λ (y : Page). y.bytes) b) ∙ s.bytes;
            towrite = λ _. d;
            dirty_block = λ _. has;
            writeback_block = λ _. has;
            clean = λ c _. absurd cc;
            clean_block = λ c _. absurd cc;
          }
    ]
  ]

  spot_block : (g q : ℕ) (x : Spot) → spot g q ≡ Some x → x.block < v.blocks
  spot_block g q x e =
      elim (spot_was g q x e).1 [
        | inl o ↦ ok.spot_block g q x o
        | inr n ↦ (let a = n.0.within in let b = n.1 in omega arith)
      ]

  spot_valid : (g q : ℕ) (x : Spot) → spot g q ≡ Some x → x.valid ≤ v.page_size
  spot_valid g q x e =
      elim (spot_was g q x e).1 [ inl o ↦ ok.spot_valid g q x o | inr n ↦ (let b = n.2 in omega arith) ]

  spots_apart : (f p g q : ℕ) (s x : Spot) → spot f p ≡ Some s → spot g q ≡ Some x → s.block ≡ x.block
      → (f ≡ g) × (p ≡ q)
  spots_apart f p g q s x e k b = elim (spot_was f p s e).1 [
    | inl o ↦ elim (spot_was g q x k).1 [
      | inl w ↦ ok.spots_apart f p g q s x o w b
      | inr n ↦ absurd (n.0.free_spot f p s o (b ∙ n.1))
    ]
    | inr m ↦ elim (spot_was g q x k).1 [
      | inl w ↦ absurd (m.0.free_spot g q x w (sym b ∙ m.1))
      | inr n ↦ news_apart f p g q m.0 n.0 (sym m.1 ∙ b ∙ n.1)
    ]
  ]

  -- a request before, and whether it is dropped now
  request_was : (u : ℕ) (s : Flight) → after.request u ≡ Some s
      → (r : Flight) × (v.request u ≡ Some r)
      × (((gone r.file r.page ≡ false) × (s ≡ r)) ⊎ ((gone r.file r.page ≡ true) × (s ≡ record r { dropped = true })))
  request_was u s e =
      elim (v.request u) as (λ o. option_map (dropped_where gone) o ≡ Some s
      → (r : Flight) × (o ≡ Some r) × (((gone r.file r.page ≡ false) × (s ≡ r))
      ⊎ ((gone r.file r.page ≡ true) × (s ≡ record r { dropped = true })))) [
        | None ↦ λ k. absurd cc
        | Some r ↦ λ k. (
          r,
          refl,
          elim (gone r.file r.page) as (λ b. Some (cond b (record r { dropped = true }) r) ≡ Some s
              → ((b ≡ false) × (s ≡ r)) ⊎ ((b ≡ true) × (s ≡ record r { dropped = true }))) [
                | true ↦ λ j. inr (refl, cc)
                | false ↦ λ j. inl (refl, cc)
              ] k,
        )
      ] e

  -- the block of a request that was there is not given out
  still_apart : (u : ℕ) (r : Flight) → v.request u ≡ Some r → (g q : ℕ) (x : Spot) → spot g q ≡ Some x
      → x.block ≡ r.block → v.spot g q ≡ Some x
  still_apart u r e g q x k b =
      elim (spot_was g q x k).1 [ inl o ↦ o | inr n ↦ absurd (n.0.free_request u r e (sym b ∙ n.1)) ]

  kept_request : (u : ℕ) (r : Flight) → v.request u ≡ Some r → gone r.file r.page ≡ false → RequestIs after u r
  kept_request u r e n = let old = ok.requests u r e in record {
    serial = old.serial;
    block = old.block;
    bytes = old.bytes;
    fill = λ d k. let h = old.fill d k in elim (is_kept r.file r.page n) [
      | inl s ↦ record {
        mapped = ap (option_map (λ x. x.block)) s.on_spot ∙ h.mapped;
        valid = ap is_valid s.on_spot ∙ h.valid;
        absent = s.on_page ∙ h.absent;
        noted = λ bytes o. ap (λ x. shown v.page_size (valid_of x) bytes) s.on_spot ∙ h.noted bytes o
            ∙ sym s.on_content;
      }
      | inr s ↦ absurd (s.no_fill u r e d k refl refl)
    ];
    flush = λ d k. let h = old.flush d k in elim (is_kept r.file r.page n) [
      | inl s ↦ record {
        mapped = ap (option_map (λ x. x.block)) s.on_spot ∙ h.mapped;
        writeback = ap writeback s.on_page ∙ h.writeback;
        clean = λ c. h.clean (sym (ap dirty s.on_page) ∙ c)
            ∙ sym s.on_content;
        noted = h.noted;
      }
      | inr s ↦ record {
        mapped = elim s.block [
          | inl b ↦ ap (option_map (λ x. x.block)) b.0 ∙ h.mapped
          | inr w ↦ absurd (let a : option_map (λ x. x.block) (v.spot r.file r.page) ≡ None =
              ap (option_map (λ x. x.block)) w.was in let c = h.mapped in cc)
        ];
        writeback = ap writeback s.is ∙ s.writeback ∙ h.writeback;
        clean = λ c. absurd (let a : dirty (page r.file r.page) ≡ true = ap dirty s.is ∙ s.dirty in cc);
        noted = h.noted;
      }
    ];
    dead = λ d g q x k b. old.dead d g q x (still_apart u r e g q x k b) b;
  }

  dropped_request : (u : ℕ) (r : Flight) → v.request u ≡ Some r → gone r.file r.page ≡ true
      → RequestIs after u (record r { dropped = true })
  dropped_request u r e n = let old = ok.requests u r e in record {
    serial = old.serial;
    block = old.block;
    bytes = old.bytes;
    fill = λ d k. absurd cc;
    flush = λ d k. absurd cc;
    dead = λ d g q x k b.
        let who = block_user v ok u r g q x e (still_apart u r e g q x k b) b in
        let a : gone g q ≡ true = (λ i. gone (who.1 i) (who.2 i)) ∙ n in
        let c = (spot_was g q x k).0 in absurd cc;
  }

  requests : (u : ℕ) (s : Flight) → after.request u ≡ Some s → RequestIs after u s
  requests u s e = let w = request_was u s e in elim w.2 [
    | inl h ↦ subst (λ x. RequestIs after u x) (sym h.1) (kept_request u w.0 w.1 h.0)
    | inr h ↦ subst (λ x. RequestIs after u x) (sym h.1) (dropped_request u w.0 w.1 h.0)
  ]

  block_was : (u : ℕ) (s : Flight) → after.request u ≡ Some s
      → (r : Flight) × (v.request u ≡ Some r) × (s.block ≡ r.block)
  block_was u s e = let w = request_was u s e in
      (w.0, w.1, elim w.2 [ inl h ↦ ap (λ (x : Flight). x.block) h.1 | inr h ↦ ap (λ (x : Flight). x.block) h.1 ])

  requests_apart : (t u : ℕ) (r s : Flight) → after.request t ≡ Some r → after.request u ≡ Some s → r.block ≡ s.block
      → t ≡ u
  requests_apart t u r s e k b = let i = block_was t r e in let j = block_was u s k in
      ok.requests_apart t u i.0 j.0 i.1 j.1 (sym i.2 ∙ b ∙ j.2)

  still_flushes : (g q : ℕ) → gone g q ≡ false → HasFlush v g q → HasFlush after g q
  still_flushes g q n h =
      let not_gone : gone h.request.file h.request.page ≡ false = (λ i. gone (h.file i) (h.page i)) ∙ n in
      search (
        h,
        ap (option_map (dropped_where gone)) h.is
            ∙ ap (λ b. Some (cond b (record h.request { dropped = true }) h.request)) not_gone,
      )

  flushes : (g q : ℕ) → writeback (page g q) ≡ true → HasFlush after g q
  flushes g q e = elim (gone_or g q) [
    | inl h ↦ absurd (let a = ap writeback h.1.on_page in cc)
    | inr h ↦ still_flushes g q h.0
        (ok.flushes g q (elim h.1 [
          | inl s ↦ sym (ap writeback s.on_page) ∙ e
          | inr s ↦ sym s.writeback
              ∙ sym (ap writeback s.is) ∙ e
        ]))
  ]

  outcomes : (u : ℕ) → is_some (v.outcome u) ≡ true → is_some (after.request u) ≡ true
  outcomes u e = elim (v.request u) as (λ o. is_some o ≡ true → is_some (option_map (dropped_where gone) o) ≡ true)
      [ None ↦ λ k. k | Some r ↦ λ k. refl ] (ok.outcomes u e)

  kept : Good after
  kept = record {
    positive = ok.positive;
    pages = pages;
    page_in = page_in;
    spot_in = spot_in;
    spot_block = spot_block;
    spot_valid = spot_valid;
    spots_apart = spots_apart;
    requests = requests;
    requests_apart = requests_apart;
    flushes = flushes;
    outcomes = outcomes;
    block_sizes = ok.block_sizes;
  }

  -- of a page without a block the device holds zeros, and so it does once the page has taken one
  of_none : (b : List ℕ) (k : ℕ) → HoldsBy v.block v.page_size None b
      → HoldsBy v.block v.page_size (Some (record { block = k; valid = 0 })) b
  of_none b k h = elim h [ inl zeros ↦ inl zeros | inr part ↦ absurd (let a = part.0 in omega arith) ]

  evolves : Evolves gone v after
  evolves = quietly_evolves gone v after
      (λ g q n b h. elim (is_kept g q n) [
        | inl s ↦ subst (λ x. HoldsBy v.block v.page_size x b) (sym s.on_spot) h
        | inr s ↦ elim s.block [
          | inl c ↦ subst (λ x. HoldsBy v.block v.page_size x b) (sym c.0) h
          | inr w ↦ subst (λ x. HoldsBy v.block v.page_size x b) (sym w.is)
              (of_none b w.block (subst (λ x. HoldsBy v.block v.page_size x b) w.was h))
        ]
      ])
      (λ u s e k d. let w = request_was u s e in
      elim w.2 [
        | inl h ↦ w.1 ∙ ap Some (sym h.1)
        | inr h ↦ absurd (let a = ap (λ (x : Flight). x.dropped) h.1 in cc)
      ])
      (λ u r e k d n. ap (option_map (dropped_where gone)) e
      ∙ ap (λ b. Some (cond b (record r { dropped = true }) r)) n)
      (λ g q n e. elim (is_kept g q n) [ inl s ↦ ap towrite s.on_page ∙ e | inr s ↦ ap towrite s.is ∙ s.towrite ∙ e ])
      (λ g. refl) refl

  pub places : Goes gone v after
  places = (kept, evolves)

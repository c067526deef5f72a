-- A write of a block takes effect.
use Rattle.std.proofs.Common.{◌≡◌, ℕ, zero, suc, ◌<◌, ◌≢◌, true, false, List, length, refl, subst, ap, sym, ◌∙◌, arith, inl}
use Rattle.std.proofs.Common.{inr}
use Rattle.std.specs.Prelude.{◌⊎◌, Option, Some, None}
use Rattle.std.proofs.lemmas.Bool.{cases_lt}
use Rattle.pc_types.specs.Spots.{Spot, shown}
use Rattle.pc_types.proofs.SpotLaws.{shown_whole}
use Rattle.runs.proofs.views.View.{View, HasFlush, Flight, Good, PageIs, RequestIs, Evolves, WasFlushed, no_gone, put1}
use Rattle.runs.proofs.views.View.{Goes, Holds, HoldsBy, put1_tells, put1_here, put1_else, block_user, writeback, held_by, held, still_flying}
use Rattle.pc_types.specs.declared.kind.Kind.TheVariants.{Flush}
use Rattle.runs.proofs.views.CallNoted.{same_request}

module _ (v : View) (ok : Good v) (t : ℕ) (r : Flight) (is : v.request t ≡ Some r) (kind : r.kind ≡ Flush) where
  abbrev pub after : View
  after = record v { block = put1 v.block r.block r.bytes }

  same_block : (b : ℕ) → b ≢ r.block → after.block b ≡ v.block b
  same_block b n = put1_else v.block r.block r.bytes b n

  same_held : (g q : ℕ) → writeback (v.page g q) ≡ false → held after g q ≡ held v g q
  same_held g q w =
      elim (v.spot g q) as (λ s. v.spot g q ≡ s → held_by after.block v.page_size s ≡ held_by v.block v.page_size s) [
        | None ↦ λ e. refl
        | Some x ↦ λ e. ap (shown v.page_size x.valid) (same_block x.block (λ b.
            let who = block_user v ok t r g q x is e b in
            let f = (ok.requests t r is).flush who.0 kind in
            let here : writeback (v.page g q) ≡ true = (λ i. writeback (v.page (who.1 i) (who.2 i))) ∙ f.writeback in
            absurd cc))
      ] refl

  pages : (g q : ℕ) → PageIs (after.content g q) (held after g q) (after.spot g q) (after.page g q)
  pages g q = let old = ok.pages g q in record {
    bytes = old.bytes;
    towrite = old.towrite;
    dirty_block = old.dirty_block;
    writeback_block = old.writeback_block;
    clean = λ d w. same_held g q w ∙ old.clean d w;
    clean_block = old.clean_block;
  }

  requests : (u : ℕ) (s : Flight) → after.request u ≡ Some s → RequestIs after u s
  requests u s e = let old = ok.requests u s e in record {
    serial = old.serial;
    block = old.block;
    bytes = old.bytes;
    fill = old.fill;
    flush = λ d j. let h = old.flush d j in record {
      mapped = h.mapped;
      writeback = h.writeback;
      clean = h.clean;
      noted = λ k. elim (put1_tells v.block r.block r.bytes s.block) [
        | inl w ↦ w.1 ∙ ap (λ (x : Flight). x.bytes)
            (sym (same_request v t r is u s (ok.requests_apart u t s r e is w.0) e))
        | inr w ↦ w.1 ∙ h.noted k
      ];
    };
    dead = old.dead;
  }

  block_sizes : (b : ℕ) → b < v.blocks → length (after.block b) ≡ v.page_size
  block_sizes b h = elim (put1_tells v.block r.block r.bytes b) [
    | inl w ↦ ap length w.1 ∙ (ok.requests t r is).bytes kind
    | inr w ↦ ap length w.1 ∙ ok.block_sizes b h
  ]

  kept : Good after
  kept =
      let flushes : (g q : ℕ) → writeback (v.page g q) ≡ true → HasFlush after g q =
      λ g q e. still_flying v after g q (ok.flushes g q e) refl in
      assumption (pages, requests, flushes, block_sizes)

  evolves : Evolves no_gone v after
  evolves = record {
    on_device = λ g q _ b h. go g q b h (v.spot g q) refl;
    from = λ u s e k d. inl e;
    flush = λ u s e k d _. inl e;
    to_write = λ g q _ e. inl e;
    failures = λ g. omega arith;
    same_size = refl;
  }
    where
      -- of the block that is written
      of_written : (g q : ℕ) (x : Spot) → v.spot g q ≡ Some x → x.block ≡ r.block → (n : ℕ) → x.valid ≡ n
          → (b : List ℕ) → HoldsBy v.block v.page_size (Some x) b
          → HoldsBy after.block v.page_size (Some x) b ⊎ WasFlushed v after g q
      of_written g q x e same zero none b h = inl (elim h [
        | inl shows ↦ inl (ap (λ n. shown v.page_size n (after.block x.block)) none
            ∙ sym (ap (λ n. shown v.page_size n (v.block x.block)) none) ∙ shows)
        | inr part ↦ absurd (let a = part.0 in omega arith)
      ])
      of_written g q x e same (suc n) some b h =
          let who = block_user v ok t r g q x is e same in
          let bytes : after.block x.block ≡ r.bytes = ap after.block same ∙ put1_here v.block r.block r.bytes in
          inr (record {
            serial = t;
            request = r;
            is = is;
            kind = kind;
            live = who.0;
            file = sym who.1;
            page = sym who.2;
            bytes = subst (λ o. HoldsBy after.block v.page_size o r.bytes) (sym e) (elim (cases_lt x.valid v.page_size) [
              | inl less ↦ inr (omega arith, less, bytes)
              | inr more ↦ inl (ap (shown v.page_size x.valid) bytes
                  ∙ shown_whole v.page_size x.valid r.bytes ((ok.requests t r is).bytes kind) more)
            ]);
          })

      go : (g q : ℕ) (b : List ℕ) → Holds v g q b → (o : Option Spot) → v.spot g q ≡ o
          → Holds after g q b ⊎ WasFlushed v after g q
      go g q b h None e = inl (subst (λ o. HoldsBy after.block v.page_size o b) (sym e)
          (elim (subst (λ o. HoldsBy v.block v.page_size o b) e h)
          [ inl zeros ↦ inl zeros | inr part ↦ absurd (let a = part.0 in omega arith) ]))
      go g q b h (Some x) e =
          let before = subst (λ o. HoldsBy v.block v.page_size o b) e h in
          elim (put1_tells v.block r.block r.bytes x.block) [
            | inl k ↦ elim (of_written g q x e k.0 x.valid refl b before) [
              | inl now ↦ inl (subst (λ o. HoldsBy after.block v.page_size o b) (sym e) now)
              | inr w ↦ inr w
            ]
            | inr k ↦ inl (subst (λ o. HoldsBy after.block v.page_size o b) (sym e) (elim before [
              | inl shows ↦ inl (ap (shown v.page_size x.valid) k.1 ∙ shows)
              | inr part ↦ inr (part.0, part.1, k.1 ∙ part.2)
            ]))
          ]

  pub block_written : Goes no_gone v after
  block_written = (kept, evolves)

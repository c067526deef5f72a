-- A write keeps a state sound: the pages that it touches become DIRTY, and those without a block take free ones.
use Rattle.std.proofs.Common.{◌≡◌, ◌≢◌, ℕ, zero, suc, ◌+◌, ◌/◌, ◌<◌, ◌≤◌, Bool, true, false, cond, not, eqb, eqb-true}
use Rattle.std.proofs.Common.{eq-eqb, ltb, leb, List, length, refl, ap, sym, subst, ◌∙◌, arith, inl, inr, max, ◌&&◌}
use Rattle.std.proofs.Common.{◌||◌, ◌⊎◌, Option, Some, None, is_some, option_map, find}
use Rattle.std.specs.List.{range_with_len}
use Rattle.std.specs.FinMap as finmap
use Rattle.std.proofs.lemmas.Bool.Decides.{nat_tests}
use Rattle.pc_types.specs.Kinds.{is_fill}
use Rattle.pc_types.specs.Spots.{Spot}
use Rattle.pc_types.specs.declared.kind.Kind.TheVariants.{Fill}
use Rattle.machine.specs.State.{State, Page, Request, file_at, handle_file, page_at, spot_at, has_block, fills}
use Rattle.machine.specs.State.{is_filling, touched, touched_count, block_at}
use Rattle.machine.specs.Changes.{written, written_page, written_pages}
use Rattle.machine.specs.Tests.{must_fill, covers}
use Rattle.machine.specs.Sound.{Sound}
use Rattle.machine.proofs.steps.Choices.{and_true, neither, none_of, not_true}
use Rattle.machine.proofs.steps.Passed.{MayWrite}
use Rattle.machine.proofs.changes.StateLaws.{touches, filling_shows, free_of_spots, free_of_requests}
use Rattle.machine.proofs.changes.ChangeLaws.{IsFree, needs_block, new_spot, taken_by, placed_places, takes_free}
use Rattle.machine.proofs.changes.ChangeLaws.{takes_apart, get-written_pages}
use Rattle.machine.proofs.sound.Changes.{Lookups, SoundBy, lookups, TagsFit, PageFits, Takes, writeback, tags_fit}
use Rattle.machine.proofs.sound.Changes.{page_fits, pages_change, blocks_taken}
use Rattle.machine.proofs.sound.Lookups.{put_file_tells}

-- ---- what the tests of a write found

-- none of a range passes, where none is found
none_of_range : (test : ℕ → Bool) (a n p : ℕ) → find test (range_with_len a n) ≡ None → a ≤ p → p < a + n
    → test p ≡ false
none_of_range test a zero p h l m = absurd (omega arith)
none_of_range test a (suc n) p h l m =
    elim (test a) as (λ b. test a ≡ b → cond b (Some a) (find test (range_with_len (a + 1) n)) ≡ None → test p ≡ false) [
      | true ↦ λ t k. absurd cc
      | false ↦ λ t k. elim (first_or_past a p l) [
        | inl e ↦ ap test (sym e) ∙ t
        | inr e ↦ none_of_range test (a + 1) n p k e (omega arith)
      ]
    ] refl h
  where
    first_or_past : (a p : ℕ) → a ≤ p → (a ≡ p) ⊎ (a + 1 ≤ p)
    first_or_past a p l = grind arith

pub none_touched : (test : ℕ → Bool) (P o n p : ℕ) → find test (touched P o n) ≡ None → touches P o n p ≡ true
    → test p ≡ false
none_touched test P o n p none t = let k = within P o n p t in
    none_of_range test (o / P) (touched_count P o n) p none k.0 k.1
  where
    within : (P o n p : ℕ) → touches P o n p ≡ true → (o / P ≤ p) × (p < o / P + touched_count P o n)
    within P o n p t = grind (arith, nat_tests)

-- ---- a page that is written

written_fits : (P o : ℕ) (b : List ℕ) (p : ℕ) (block : Option ℕ) → is_some block ≡ true → (page : Option Page)
    → TagsFit block (Some (written_page P o b p page))
written_fits P o b p block has None =
    record { dirty_block = λ _. has; writeback_block = λ _. has; towrite_dirty = λ _. refl }
written_fits P o b p block has (Some page) =
    record { dirty_block = λ _. has; writeback_block = λ _. has; towrite_dirty = λ _. refl }

still_writeback : (P o : ℕ) (b : List ℕ) (p : ℕ) (page : Option Page) → writeback page ≡ true
    → writeback (Some (written_page P o b p page)) ≡ true
still_writeback P o b p None e = absurd cc
still_writeback P o b p (Some page) e = e

module _ (s : State) (ok : Sound s) (h o : ℕ) (b : List ℕ) (may : MayWrite s h o (length b)) where
  abbrev f : ℕ
  f = handle_file s h

  abbrev P : ℕ
  P = s.sizes.page

  abbrev touch : ℕ → Bool
  touch q = touches P o (length b) q

  abbrev needs : ℕ → Bool
  needs q = needs_block s f o (length b) q

  abbrev taken : ℕ → ℕ
  taken q = taken_by s f (o / P) q

  abbrev new : State
  new = written s f o b

  -- ---- blocks

  spot_now : (g q : ℕ) → spot_at new g q ≡ cond (eqb g f && needs q) (Some (new_spot (taken q))) (spot_at s g q)
  spot_now g q = (placed_places s f (o / P) (touched_count P o (length b)) may.blocks).each g q
      ∙ ap (λ t. cond (eqb g f && (t && not (has_block s f q))) (Some (new_spot (taken q))) (spot_at s g q))
      (in_range P o (length b) q)
    where
      in_range : (P o n p : ℕ) → (leb (o / P) p && ltb p (o / P + touched_count P o n)) ≡ touches P o n p
      in_range P o n p = grind (arith, nat_tests)

  block_now : (g q : ℕ) → ((block_at new g q ≡ block_at s g q) × (g ≡ f → needs q ≡ false))
      ⊎ ((g ≡ f) × (needs q ≡ true) × (block_at new g q ≡ Some (taken q)))
  block_now g q = go (eqb g f) (needs q) refl refl (ap (option_map (λ (x : Spot). x.block)) (spot_now g q))
    where
      go : (here need : Bool) → eqb g f ≡ here → needs q ≡ need
          → block_at new g q ≡ option_map (λ (x : Spot). x.block)
          (cond (here && need) (Some (new_spot (taken q))) (spot_at s g q))
          → ((block_at new g q ≡ block_at s g q) × (g ≡ f → needs q ≡ false))
          ⊎ ((g ≡ f) × (needs q ≡ true) × (block_at new g q ≡ Some (taken q)))
      go true true e k is = inr (eqb-true g f e, k, is)
      go true false e k is = inl (is, λ _. k)
      go false need e k is = inl (is, λ same. absurd (let a = eq-eqb g f same in cc))

  no_block : (q : ℕ) → needs q ≡ true → block_at s f q ≡ None
  no_block q n =
      ap (option_map (λ (x : Spot). x.block))
      (none_of (spot_at s f q) (not_true (has_block s f q) (and_true (touch q) (not (has_block s f q)) n).1))

  free_block : (q : ℕ) → needs q ≡ true → IsFree s (taken q)
  free_block q n = takes_free s f o (length b) q may.blocks n

  takes : (g q : ℕ) → g ≡ f → needs q ≡ true → Takes (lookups s) g q (taken q)
  takes g q e n = record {
    none = ap (λ k. block_at s k q) e ∙ no_block q n;
    no_page = λ i k is. let x = spot_of (spot_at s i k) (taken q) is in
        free_of_spots s (taken q) (free_block q n).free i k x.0 x.1 x.2;
    no_request = λ t r is. free_of_requests s (taken q) (free_block q n).free t r is;
  }
    where
      spot_of : (x : Option Spot) (k : ℕ) → option_map (λ (y : Spot). y.block) x ≡ Some k
          → (y : Spot) × (x ≡ Some y) × (y.block ≡ k)
      spot_of None k e = absurd cc
      spot_of (Some y) k e = (y, refl, cc)

  stays : (g q k : ℕ) → block_at s g q ≡ Some k → block_at new g q ≡ Some k
  stays g q k e = elim (block_now g q) [
    | inl a ↦ a.0 ∙ e
    | inr a ↦ absurd (let none = (takes g q a.0 a.1).none in cc)
  ]

  was : (g q k : ℕ) → block_at new g q ≡ Some k → (block_at s g q ≡ Some k) ⊎ Takes (lookups s) g q k
  was g q k e = elim (block_now g q) [
    | inl a ↦ inl (sym a.0 ∙ e)
    | inr a ↦ inr (subst (Takes (lookups s) g q) (let same : Some (taken q) ≡ Some k = sym a.2 ∙ e in cc)
        (takes g q a.0 a.1))
  ]

  -- of two pages that took a block the higher took a higher one
  taken_apart : (p q : ℕ) → needs p ≡ true → needs q ≡ true → taken p ≡ taken q → p ≡ q
  taken_apart p q n m e = elim (three p q) [
    | inl l ↦ absurd (let k = takes_apart s f o (length b) p q may.blocks n m l in omega arith)
    | inr x ↦ elim x [
      | inl k ↦ k
      | inr l ↦
          absurd (let k = takes_apart s f o (length b) q p may.blocks m n l in omega arith)
    ]
  ]
    where
      three : (p q : ℕ) → (p < q) ⊎ ((p ≡ q) ⊎ (q < p))
      three p q = grind arith

  apart : (i p g q k : ℕ) → Takes (lookups s) i p k → Takes (lookups s) g q k → block_at new i p ≡ Some k
      → block_at new g q ≡ Some k → (i ≡ g) × (p ≡ q)
  apart i p g q k x y e d = elim (block_now i p) [
    | inl a ↦ absurd (let none = x.none in let same = a.0 in cc)
    | inr a ↦ elim (block_now g q) [
      | inl c ↦ absurd (let none = y.none in let same = c.0 in cc)
      | inr c ↦ (
        a.0 ∙ sym c.0,
        taken_apart p q a.1 c.1 (let l : Some (taken p) ≡ Some (taken q) = sym a.2 ∙ e ∙ sym d
            ∙ c.2 in cc),
      )
    ]
  ]

  abbrev with_blocks : Lookups
  with_blocks = record (lookups s) { block = block_at new }

  with_blocks_sound : SoundBy with_blocks
  with_blocks_sound = blocks_taken (lookups s) ok (block_at new) stays was apart

  has_now : (g q : ℕ) → g ≡ f → touch q ≡ true → is_some (block_at new g q) ≡ true
  has_now g q e t = elim (block_now g q) [
    | inl a ↦ ap is_some a.0 ∙ ap (λ k. is_some (block_at s k q)) e ∙ has (touch q) t (spot_at s f q) (a.1 e)
    | inr a ↦ ap is_some a.2
  ]
    where
      has : (t : Bool) → t ≡ true → (x : Option Spot) → (t && not (is_some x)) ≡ false
          → is_some (option_map (λ (y : Spot). y.block) x) ≡ true
      has true e None k = absurd cc
      has true e (Some y) k = refl
      has false e x k = absurd cc

  -- ---- pages

  page_now : (g q : ℕ) → (page_at new g q ≡ page_at s g q)
      ⊎ ((g ≡ f) × (touch q ≡ true) × (page_at new g q ≡ Some (written_page P o b q (page_at s g q))))
  page_now g q =
      elim (put_file_tells s f (record (file_at s f)
      { size = max (file_at s f).size (o + length b); pages = written_pages P o b (file_at s f).pages }) g q) [
        | inl a ↦ go a.0 (touch q) refl (a.1 ∙ get-written_pages P o b (file_at s f).pages q)
        | inr a ↦ inl a.0
      ]
    where
      go : g ≡ f → (t : Bool) → touch q ≡ t → page_at new g q ≡ cond t (Some (written_page P o b q (page_at s f q)))
          (page_at s f q) → (page_at new g q ≡ page_at s g q)
          ⊎ ((g ≡ f) × (touch q ≡ true) × (page_at new g q ≡ Some (written_page P o b q (page_at s g q))))
      go e true t is = inr (e, t, is ∙ ap (λ k. Some (written_page P o b q (page_at s k q))) (sym e))
      go e false t is = inl (is ∙ ap (λ k. page_at s k q) (sym e))

  no_fill : (t : ℕ) (r : Request) → finmap.get s.requests t ≡ Some r → r.dropped ≡ false → r.file ≡ f
      → touch r.page ≡ true → r.kind ≢ Fill
  no_fill t r e d g touched k =
      let it : fills f r.page r ≡ true = (λ i. is_fill (k i) && not (d i) && (eqb (g i) f && eqb r.page r.page))
      ∙ (λ i. true && true && (eq-eqb f f refl i && eq-eqb r.page r.page refl i)) in
      let shows = filling_shows s f r.page t r e it in
      let passes = none_touched (λ p. is_filling s f p || (must_fill s f p && not (covers P o (length b) p))) P o
      (length b) r.page may.free touched in
      let n = (neither (is_filling s f r.page) _ passes).0 in cc

  tags : (g q : ℕ) → TagsFit (block_at new g q) (page_at new g q)
  tags g q = elim (page_now g q) [
    | inl e ↦ subst (TagsFit (block_at new g q)) (sym e) (tags_fit with_blocks with_blocks_sound g q)
    | inr e ↦ subst (TagsFit (block_at new g q)) (sym e.2)
        (written_fits P o b q (block_at new g q) (has_now g q e.0 e.1) (page_at s g q))
  ]

  requests : (t : ℕ) (r : Request) → finmap.get s.requests t ≡ Some r → r.dropped ≡ false
      → PageFits r (page_at new r.file r.page)
  requests t r e d = elim (page_now r.file r.page) [
    | inl k ↦ subst (PageFits r) (sym k) (page_fits (lookups s) ok t r e d)
    | inr k ↦ subst (PageFits r) (sym k.2)
        (record {
          fill = λ j. absurd (no_fill t r e d k.0 k.1 j);
          flush = λ j. still_writeback P o b r.page (page_at s r.file r.page) (ok.flush t r e d j);
        })
  ]

  pub written_sound : Sound (written s (handle_file s h) o b)
  written_sound = pages_change with_blocks with_blocks_sound (page_at new) tags requests

-- A write.
use Rattle.std.proofs.Common.{◌≡◌, ℕ, ◌+◌, ◌/◌, ◌<◌, ◌≤◌, Bool, true, false, cond, not, eqb, eqb-true, eq-eqb, List, []}
use Rattle.std.proofs.Common.{length, get_or, refl, ap, sym, subst, ◌∙◌, arith, inl, inr, max}
use Rattle.std.specs.Prelude.{◌&&◌, ◌||◌, ◌⊎◌, Option, Some, None, is_some, option_map, unwrap_or}
use Rattle.std.specs.FinMap as finmap
use Rattle.pc_types.specs.Files.{cut, page_of, pwrite}
use Rattle.pc_types.specs.Spots.{Spot}
use Rattle.pc_types.proofs.FileLaws.{length-pwrite, length-cut}
use Rattle.pc_types.specs.declared.kind.Kind.TheVariants.{Fill}
use Rattle.machine.specs.State.{State, File, Page, file_at, page_at, spot_at, no_file, page_count}
use Rattle.machine.specs.State.{is_filling, has_block, touched, free_blocks, without_block}
use Rattle.machine.specs.Changes.{written_page, overlay}
use Rattle.machine.specs.Tests.{write_stop, must_fill, covers}
use Rattle.machine.proofs.changes.ChangeLaws.{WritesBytes, new_spot, taken_by, needs_block, takes_free, takes_apart}
use Rattle.machine.proofs.steps.Choices.{none_of, some_of, at_true, at_false, neither}
use Rattle.machine.proofs.changes.StateLaws.{get_or-set, free_of_spots, free_of_requests, touches}
use Rattle.runs.specs.Plain.{Plain, plain_file}
use Rattle.runs.specs.World.{World, block_bytes}
use Rattle.runs.proofs.views.View.{Flight, PageIs, Goes, put1, no_gone, dirty, writeback, towrite, settled, held_by}
use Rattle.runs.proofs.views.View.{held, is_valid}
use Rattle.runs.proofs.events.Coupled.{view, Coupled, After, with_core, put_plain, file_set, plain_changed}
use Rattle.runs.proofs.events.Tables.{Tables, flight_at, request_is}
use Rattle.runs.proofs.events.Fills.{alone}
use Rattle.runs.proofs.bytes.PageLaws.{overlay-page, untouched_page, length-page}
use Rattle.runs.proofs.bytes.CutLaws.{touched_in, overlay_covered}
use Rattle.machine.proofs.sound.Writes.{none_touched}
use Rattle.runs.proofs.views.Place.{IsSame, IsNew, IsPut, dropped_where}
use Rattle.runs.proofs.views.Places.{places}
use Rattle.runs.proofs.views.Grow.{page_count_more}
use Rattle.runs.proofs.events.Lookups.{size-set, failures-put}

max_left : (a b : ℕ) → a ≤ max a b
max_left a b = omega arith

max_right : (a b : ℕ) → b ≤ max a b
max_right a b = omega arith

module _ (w : World) (plain : Plain) (c : Coupled w plain) (f o : ℕ) (b : List ℕ) (here : f < length w.core.files)
    (full : 0 < length b) (new : State) (writes : WritesBytes w.core f o b new)
    (room : length (without_block w.core f (touched w.core.sizes.page o (length b))) ≤ length (free_blocks w.core))
    (stop : write_stop w.core f o (length b) ≡ None) where
  abbrev s : State
  s = w.core

  abbrev P : ℕ
  P = s.sizes.page

  abbrev pf : List ℕ
  pf = plain_file plain f

  abbrev after : Plain
  after = put_plain plain f (pwrite pf o b)

  abbrev touch : ℕ → Bool
  touch q = touches P o (length b) q

  there : f < length plain.files
  there = let a = c.count in omega arith

  abbrev content_now : ℕ → ℕ → List ℕ
  content_now g q = page_of P (plain_file after g) q

  abbrev file_after : File
  file_after = record (file_at s f) { size = max (file_at s f).size (o + length b); pages = (file_at new f).pages }

  file_now : (g : ℕ) → file_at new g ≡ cond (eqb g f) file_after (file_at s g)
  file_now g = ap (λ fs. get_or fs g no_file) writes.file ∙ get_or-set s.files f g file_after no_file here

  content_here : (q : ℕ) → content_now f q ≡ page_of P (pwrite pf o b) q
  content_here q =
      ap (λ x. page_of P x q) (file_set plain f (pwrite pf o b) there f ∙ at_true (eqb f f) _ _ (eq-eqb f f refl))

  abbrev Same : ℕ → ℕ → Type 0
  Same g q = IsSame (view w plain) (page_at new) (spot_at new) content_now g q

  abbrev Put : ℕ → ℕ → Type 0
  Put g q = IsPut (view w plain) (page_at new) (spot_at new) content_now g q

  abbrev New : ℕ → ℕ → Type 0
  New g q = IsNew (view w plain) (page_at new) (spot_at new) content_now g q

  elsewhere : (g q : ℕ) → eqb g f ≡ false → Same g q
  elsewhere g q e = record {
    on_page = ap (λ (x : File). finmap.get x.pages q) (file_now g ∙ at_false (eqb g f) _ _ e);
    on_spot = writes.spots g q ∙ at_false (eqb g f && needs_block s f o (length b) q) _ _
        (ap (λ k. k && needs_block s f o (length b) q) e);
    on_content = ap (λ x. page_of P x q) (file_set plain f (pwrite pf o b) there g ∙ at_false (eqb g f) _ _ e);
  }

  untouched : (q : ℕ) → touch q ≡ false → Same f q
  untouched q e = record {
    on_page = writes.pages q ∙ at_false (touch q) _ _ e;
    on_spot = writes.spots f q ∙ at_false (eqb f f && needs_block s f o (length b) q) _ _
        (λ i. eq-eqb f f refl i && (e i && not (has_block s f q)));
    on_content = content_here q ∙ untouched_page P o q b pf c.good.positive full e;
  }

  -- what does not stand in the way of the write
  passes : (q : ℕ) → touch q ≡ true → (is_filling s f q || (must_fill s f q && not (covers P o (length b) q))) ≡ false
  passes q t = none_touched (λ p. is_filling s f p || (must_fill s f p && not (covers P o (length b) p))) P o (length b)
      q stop t

  no_fill : (q : ℕ) → touch q ≡ true → (t : ℕ) (r : Flight) → flight_at s.requests w.writing t ≡ Some r
      → r.dropped ≡ false → r.kind ≡ Fill → r.file ≡ f → r.page ≡ q → ⊥
  no_fill q t u r e d k g p =
      let not_filling =
      (neither (is_filling s f q) (must_fill s f q && not (covers P o (length b) q)) (passes q t)).0 in
      alone w plain c f q not_filling u r e d k g p

  page_is : (q : ℕ) → PageIs (page_of P pf q) (held (view w plain) f q) (spot_at s f q) (page_at s f q)
  page_is q = c.good.pages f q

  -- an absent page is zeros, or wholly covered
  made_from_zeros : (q : ℕ) → touch q ≡ true → page_at s f q ≡ None
      → overlay P o b q (cut [] P) ≡ page_of P (pwrite pf o b) q
  made_from_zeros q t absent = go (spot_at s f q) refl (covers P o (length b) q) refl
    where
      go : (x : Option Spot) → spot_at s f q ≡ x → (v : Bool) → covers P o (length b) q ≡ v
          → overlay P o b q (cut [] P) ≡ page_of P (pwrite pf o b) q
      go x e true k = overlay_covered P o q b (cut [] P) (page_of P pf q) (length-cut [] P) (length-page P pf q) k
          ∙ overlay-page P o q b pf
      go None e false k =
          ap (overlay P o b q) (sym (ap (held_by (block_bytes w) P) e)
          ∙ (page_is q).clean (ap dirty absent) (ap writeback absent)) ∙ overlay-page P o q b pf
      go (Some x) e false k = absurd (
          let n = (neither (is_filling s f q) (must_fill s f q && not (covers P o (length b) q)) (passes q t)).1 in
          let m : must_fill s f q ≡ true = (λ i. not (is_some (absent i)) && is_valid (e i)) ∙ sym (ap settled e)
          ∙ (page_is q).clean_block (ap dirty absent) (ap writeback absent) in
          let a : (must_fill s f q && not (covers P o (length b) q)) ≡ true = (λ i. m i && not (k i)) in cc)

  takes : (g q : ℕ) → g ≡ f → needs_block s f o (length b) q ≡ true
      → spot_at new g q ≡ Some (new_spot (taken_by s f (o / P) q))
  takes g q e needs = writes.spots g q
      ∙ at_true (eqb g f && needs_block s f o (length b) q) _ _ (λ i. eq-eqb g f e i && needs i)

  block_now : (q : ℕ) → touch q ≡ true → ((spot_at new f q ≡ spot_at s f q) × (is_some (spot_at s f q) ≡ true))
      ⊎ New f q
  block_now q t =
      elim (has_block s f q) as (λ h. has_block s f q ≡ h
      → ((spot_at new f q ≡ spot_at s f q) × (is_some (spot_at s f q) ≡ true))
      ⊎ New f q) [
        | true ↦ λ h. inl (
          writes.spots f q
              ∙ at_false (eqb f f && needs_block s f o (length b) q) _ _ (λ i. eq-eqb f f refl i && (t i && not (h i))),
          h,
        )
        | false ↦ λ h. (let needs : needs_block s f o (length b) q ≡ true = (λ i. t i && not (h i)) in
            let x = takes_free s f o (length b) q room needs in inr (record {
              block = taken_by s f (o / P) q;
              is = takes f q refl needs;
              was = none_of (spot_at s f q) h;
              within = let a = x.on_device in let e = c.blocks in omega arith;
              free_spot = free_of_spots s (taken_by s f (o / P) q) x.free;
              free_request = λ t r e. let y = request_is s.requests w.writing t r e in
                  λ same. free_of_requests s (taken_by s f (o / P) q) x.free t y.0 y.1
                  (sym (ap (λ (v : Flight). v.block) y.2) ∙ same);
            }))
      ] refl

  put_here : (q : ℕ) → touch q ≡ true → Put f q
  put_here q t = go (page_at s f q) refl (writes.pages q ∙ at_true (touch q) _ _ t)
    where
      go : (x : Option Page) → page_at s f q ≡ x → page_at new f q ≡ Some (written_page P o b q (page_at s f q))
          → Put f q
      go None e is = record {
        new = written_page P o b q None;
        is = is ∙ ap (λ y. Some (written_page P o b q y)) e;
        bytes = made_from_zeros q t e ∙ sym (content_here q);
        dirty = refl;
        writeback = sym (ap writeback e);
        towrite = sym (ap towrite e);
        no_fill = no_fill q t;
        block = block_now q t;
      }
      go (Some x) e is = record {
        new = written_page P o b q (Some x);
        is = is ∙ ap (λ y. Some (written_page P o b q y)) e;
        bytes = ap (overlay P o b q) ((page_is q).bytes x e) ∙ overlay-page P o q b pf ∙ sym (content_here q);
        dirty = refl;
        writeback = sym (ap writeback e);
        towrite = sym (ap towrite e);
        no_fill = no_fill q t;
        block = block_now q t;
      }

  here_or : (q : ℕ) → Same f q ⊎ Put f q
  here_or q = elim (touch q) as (λ t. touch q ≡ t → Same f q ⊎ Put f q)
      [ true ↦ λ t. inr (put_here q t) | false ↦ λ t. inl (untouched q t) ] refl

  is_kept : (g q : ℕ) → Same g q ⊎ Put g q
  is_kept g q = elim (eqb g f) as (λ e. eqb g f ≡ e → Same g q ⊎ Put g q) [
    | true ↦ λ e. subst (λ k. Same k q ⊎ Put k q) (sym (eqb-true g f e)) (here_or q)
    | false ↦ λ e. inl (elsewhere g q e)
  ] refl

  -- a block that a page did not have was taken by a touched page of the file
  news_here : (g q : ℕ) (x : Spot) → spot_at s g q ≡ None → spot_at new g q ≡ Some x
      → (g ≡ f) × (touch q ≡ true) × (has_block s f q ≡ false)
  news_here g q x was is = elim (eqb g f) as (λ e. eqb g f ≡ e → (g ≡ f) × (touch q ≡ true) × (has_block s f q ≡ false)) [
    | true ↦ λ e. (let same = eqb-true g f e in
        elim (touch q) as (λ t. touch q ≡ t → (g ≡ f) × (t ≡ true) × (has_block s f q ≡ false)) [
          | true ↦ λ t. (same, refl, (λ i. is_some (spot_at s (sym same i) q)) ∙ ap is_some was)
          | false ↦ λ t. absurd (let a = (untouched q t).on_spot in let d : spot_at new g q ≡ spot_at s g q =
              (λ i. spot_at new (same i) q) ∙ a ∙ (λ i. spot_at s (sym same i) q) in cc)
        ] refl)
    | false ↦ λ e. absurd (let a = (elsewhere g q e).on_spot in cc)
  ] refl

  three : (p q : ℕ) → (p < q) ⊎ ((p ≡ q) ⊎ (q < p))
  three p q = grind arith

  -- of two pages that took a block the higher took a higher one
  news_apart : (g p h q : ℕ) (i : New g p) (j : New h q) → i.block ≡ j.block → (g ≡ h) × (p ≡ q)
  news_apart g p h q i j e =
      let a = news_here g p _ i.was i.is in
      let d = news_here h q _ j.was j.is in
      let needs_p : needs_block s f o (length b) p ≡ true = (λ k. a.1 k && not (a.2 k)) in
      let needs_q : needs_block s f o (length b) q ≡ true = (λ k. d.1 k && not (d.2 k)) in
      let same : taken_by s f (o / P) p ≡ taken_by s f (o / P) q = of_spot i.block _ (sym i.is ∙ takes g p a.0 needs_p)
      ∙ e ∙ sym (of_spot j.block _ (sym j.is ∙ takes h q d.0 needs_q)) in (
        a.0 ∙ sym d.0,
        elim (three p q) [
          | inl l ↦ absurd (let m = takes_apart s f o (length b) p q room needs_p needs_q l in omega arith)
          | inr m ↦ elim m [
            | inl k ↦ k
            | inr l ↦
                absurd (let m = takes_apart s f o (length b) q p room needs_q needs_p l in omega arith)
          ]
        ],
      )
    where
      of_spot : (x y : ℕ) → Some (new_spot x) ≡ Some (new_spot y) → y ≡ x
      of_spot x y k = sym (ap (λ (z : Option Spot). unwrap_or (option_map (λ (v : Spot). v.block) z) 0) k)

  size_now : (g : ℕ) → (file_at new g).size ≡ cond (eqb g f) (max (file_at s f).size (o + length b)) (file_at s g).size
  unfolding put1
  size_now g = ap (λ fs. (get_or fs g no_file).size) writes.file ∙ size-set s f file_after here g

  size_more : (g : ℕ) → (file_at s g).size ≤ (file_at new g).size
  size_more g =
      elim (eqb g f) as (λ e. eqb g f ≡ e
      → (file_at new g).size ≡ cond e (max (file_at s f).size (o + length b)) (file_at s g).size
      → (file_at s g).size ≤ (file_at new g).size) [
        | true ↦ λ e k. (let a : (file_at s g).size ≡ (file_at s f).size =
            ap (λ h. (file_at s h).size) (eqb-true g f e) in
            let m = max_left (file_at s f).size (o + length b) in omega arith)
        | false ↦ λ e k. omega arith
      ] refl (size_now g)

  size_here : o + length b ≤ (file_at new f).size
  size_here = let a = size_now f ∙ at_true (eqb f f) _ _ (eq-eqb f f refl) in
      let m = max_right (file_at s f).size (o + length b) in omega arith

  still_in : (g q : ℕ) → q < page_count P (file_at s g).size → q < page_count P (file_at new g).size
  still_in g q h = let m = page_count_more P (file_at s g).size (file_at new g).size c.good.positive (size_more g) in
      omega arith

  touched_here : (g q : ℕ) → g ≡ f → touch q ≡ true → q < page_count P (file_at new g).size
  touched_here g q e t = let a = touched_in P o (length b) q (file_at new f).size c.good.positive full size_here t in
      let d : page_count P (file_at new g).size ≡ page_count P (file_at new f).size =
      ap (λ h. page_count P (file_at new h).size) e in omega arith

  page_in : (g q : ℕ) → is_some (page_at new g q) ≡ true → q < page_count P (file_at new g).size
  page_in g q e = elim (eqb g f) as (λ k. eqb g f ≡ k → q < page_count P (file_at new g).size) [
    | true ↦ λ k. (let same = eqb-true g f k in
        elim (touch q) as (λ t. touch q ≡ t → q < page_count P (file_at new g).size) [
          | true ↦ λ t. touched_here g q same t
          | false ↦ λ t. still_in g q (c.good.page_in g q
              ((λ i. is_some (page_at s (same i) q)) ∙ sym (ap is_some (untouched q t).on_page)
              ∙ (λ i. is_some (page_at new (sym same i) q)) ∙ e))
        ] refl)
    | false ↦ λ k. still_in g q (c.good.page_in g q (sym (ap is_some (elsewhere g q k).on_page) ∙ e))
  ] refl

  spot_in : (g q : ℕ) → is_some (spot_at new g q) ≡ true → q < page_count P (file_at new g).size
  spot_in g q e = elim (spot_at s g q) as (λ x. spot_at s g q ≡ x → q < page_count P (file_at new g).size) [
    | None ↦ λ k. (let x = some_of (spot_at new g q) e in let n = news_here g q x.0 k x.1 in touched_here g q n.0 n.1)
    | Some y ↦ λ k. still_in g q (c.good.spot_in g q (ap is_some k))
  ] refl

  failures_now : (g : ℕ) → (file_at new g).failures ≡ (file_at s g).failures
  failures_now g = ap (λ fs. (get_or fs g no_file).failures) writes.file ∙ failures-put s f file_after here refl g

  same_sizes : new.sizes ≡ s.sizes
  same_sizes = ap (λ x. x.sizes) writes.rest

  undropped : (x : Option Flight) → option_map (dropped_where (λ g q. false)) x ≡ x
  undropped None = refl
  undropped (Some r) = refl

  written_view : view (with_core w new) after
      ≡ record (view w plain) {
        page = page_at new;
        spot = spot_at new;
        content = content_now;
        size = λ g. (file_at new g).size;
        request = λ u. option_map (dropped_where (λ g q. false)) (flight_at s.requests w.writing u);
      }
  written_view = λ i. record (view (with_core w new) after) {
    page_size = (same_sizes i).page;
    next = (writes.rest i).next;
    request =
        λ u. (ap (λ (x : State). flight_at x.requests w.writing u) writes.rest
        ∙ sym (undropped (flight_at s.requests w.writing u))) i;
    failures = λ g. failures_now g i;
    content = λ g q. page_of (same_sizes i).page (plain_file after g) q;
  }

  pub wrote : After w plain no_gone (with_core w new) after
  wrote = plain_changed w plain c no_gone new f file_after (pwrite pf o b) here
      (length-pwrite pf o b full ∙ ap (λ x. max x (o + length b)) (c.sizes f)) writes.file same_sizes
      (ap (λ x. x.handles) writes.rest)
      (subst (Goes no_gone (view w plain)) (sym written_view)
      (places (view w plain) c.good (page_at new) (spot_at new) content_now (λ g. (file_at new g).size) (λ g q. false)
      (λ g q e. absurd cc) (λ g q _. is_kept g q) news_apart page_in spot_in))
      (subst (λ (x : State). Tables x.requests w.outcomes w.writing) (sym writes.rest) c.tables)

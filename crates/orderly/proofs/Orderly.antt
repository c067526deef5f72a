-- Each step of the machine keeps a cache orderly, whatever bytes the device gives.
use Rattle.std.proofs.Common.{◌≡◌, ◌≢◌, ℕ, ◌+◌, ◌/◌, ◌<◌, ◌≤◌, Bool, true, false, cond, not, eqb, eqb-true, eq-eqb}
use Rattle.std.proofs.Common.{List, [], ◌∷◌, ◌++◌}
use Rattle.std.proofs.Common.{length, get_or, max, refl, ap, sym, subst, ◌∙◌, arith, inl, inr}
use Rattle.std.specs.Prelude.{◌&&◌, Option, Some, None, is_some, option_map, unwrap_or, nat_le, slice_set}
use Rattle.std.specs.FinMap as finmap
use Rattle.std.specs.FinMap.{get-empty}
use Rattle.std.specs.Ordering.{nat_cmp}
use Rattle.std.proofs.lemmas.List.{length-append, length-set, set_past}
use Rattle.pc_types.specs.Files.{cut}
use Rattle.pc_types.specs.Limits.{Sizes}
use Rattle.pc_types.specs.Tags.{no_tags}
use Rattle.pc_types.specs.Spots.{Spot, place_cmp}
use Rattle.pc_types.specs.declared.kind.Kind.TheVariants.{Fill, Flush}
use Rattle.machine.specs.Catalogs.{Catalog, IsCatalog, adopted, no_catalog}
use Rattle.machine.specs.History.{no_files}
use Rattle.machine.specs.Sound.{Sound}
use Rattle.machine.specs.State.{State, File, Page, Request, Sync, block_at, file_at, handle_file, has_block, is_open}
use Rattle.machine.specs.State.{no_file, page_at, page_count, spot_at}
use Rattle.machine.specs.State.{free_blocks, touched, without_block}
use Rattle.machine.specs.Changes.{filled}
use Rattle.machine.specs.Changes.{after_write, change_page, cut_page, cut_request, ended, flushed, put_file, put_page}
use Rattle.machine.specs.Changes.{put_pages, shrunk}
use Rattle.machine.specs.Changes.{new_sync, started, sync_begun, to_write, under_write, written, written_page}
use Rattle.machine.specs.Changes.{written_pages}
use Rattle.machine.proofs.steps.Cases.{Cases}
use Rattle.machine.proofs.steps.Choices.{and_true, below}
use Rattle.machine.proofs.changes.Adopted.{adopted_file, no_catalog_is, none_cached}
use Rattle.machine.proofs.changes.ChangeLaws.{cut_pages, get-cut_pages, get-written_pages, needs_block}
use Rattle.machine.proofs.changes.ChangeLaws.{shrunk_truncates, taken_by, written_writes}
use Rattle.machine.proofs.changes.StateLaws.{file_at-put, get_or-set, touches}
use Rattle.machine.proofs.sound.Changes.{writeback}
use Rattle.machine.proofs.sound.Lookups.{change_page_tells, page_at-create, page_at-same, put_file_tells}
use Rattle.machine.proofs.sound.Lookups.{put_page_tells, removed_tells}
use Rattle.maps.specs.Maps.{change_at, each_value}
use Rattle.maps.proofs.Maps.{get-each_value, get-remove_nat, get_inserted}
use Rattle.maps.proofs.MapLaws.{get-change_at, get-insert_place}
use Rattle.runs.proofs.bytes.CutLaws.{below_count, touched_in}
use Rattle.machine.proofs.sound.Lookups.{get_or-default}
use Rattle.runs.proofs.views.Grow.{page_count_more}
use Rattle.runs.specs.World.{World, Move, WorldStep}
use Rattle.runs.proofs.moments.CoreSteps.{core_cases}
use Rattle.orderly.specs.Orderly.{IsOrderly, IsUnderWrite, write_of}
use Rattle.orderly.proofs.FileSteps.{one_same, within}

abbrev size_in : List File → ℕ → ℕ
size_in fs f = (get_or fs f no_file).size

-- ---- requests

-- what is left after another one ends
stays_left : (s : State) (t u : ℕ) (x y : Request) → finmap.get s.requests t ≡ Some x → (x ≢ y)
    → finmap.get s.requests u ≡ Some y → finmap.get (finmap.remove s.requests t) u ≡ Some y
stays_left s t u x y is apart there =
    elim (eqb u t) as (λ b. eqb u t ≡ b
    → finmap.get (finmap.remove s.requests t) u ≡ cond b None (finmap.get s.requests u)
    → finmap.get (finmap.remove s.requests t) u ≡ Some y) [
      | true ↦ λ e k. absurd
          (apart (let same : Some x ≡ Some y = sym is ∙ ap (finmap.get s.requests) (sym (eqb-true u t e)) ∙ there in
          let it : x ≡ y = cc in it))
      | false ↦ λ e k. k ∙ there
    ] refl (get-remove_nat s.requests t u)

-- ---- a page whose write ended

no_writeback : (failed : Bool) (o : Option Page) → writeback (option_map (after_write failed) o) ≡ true → ⊥
no_writeback failed None e = absurd cc
no_writeback failed (Some x) e = absurd cc

same_to_write : (y : Sync) (q : ℕ) (o : Option Page) → writeback (option_map (to_write y q) o) ≡ writeback o
same_to_write y q None = refl
same_to_write y q (Some x) = refl

written_writeback : (P o : ℕ) (b : List ℕ) (q : ℕ) (page : Option Page)
    → writeback (Some (written_page P o b q page)) ≡ writeback page
written_writeback P o b q None = refl
written_writeback P o b q (Some x) = refl

cut_writeback : (P z : ℕ) (has : Bool) (o : Option Page) → writeback (option_map (cut_page P z has) o) ≡ writeback o
cut_writeback P z has None = refl
cut_writeback P z true (Some x) = refl
cut_writeback P z false (Some x) = refl

module _ (s : State) (ok : Sound s) (o : IsOrderly s) where
  -- ---- handles

  handles_put : (f : ℕ) (file : File) (h : ℕ) → is_open s h ≡ true → handle_file s h < length (slice_set s.files f file)
  handles_put f file h e = let a = o.handles h e in let b = length-set s.files f file in omega arith

  -- ---- pages with a block

  -- where no page takes a block, and no file gets shorter
  within_by : (new : State) → ((g q : ℕ) → has_block new g q ≡ true → has_block s g q ≡ true)
      → ((g : ℕ) → (file_at s g).size ≤ (file_at new g).size) → (g q : ℕ) → has_block new g q ≡ true
      → q < page_count s.sizes.page (file_at new g).size
  within_by new was more g q b =
      let a = o.within g q (was g q b) in
      let m = page_count_more s.sizes.page (file_at s g).size (file_at new g).size o.positive (more g) in omega arith

  -- a file whose size stays
  same_size : (f : ℕ) (file : File) → file.size ≡ (file_at s f).size → (g : ℕ)
      → (file_at s g).size ≤ size_in (slice_set s.files f file) g
  same_size f file same g = let e = one_same (λ (x : File). x.size) s.files f file same g in omega arith

  more_size : (f : ℕ) (file : File) → (file_at s f).size ≤ file.size → (g : ℕ)
      → (file_at s g).size ≤ size_in (slice_set s.files f file) g
  more_size f file more g = elim (within f (length s.files)) [
    | inl here ↦ subst (λ (x : File). (file_at s g).size ≤ x.size) (sym (get_or-set s.files f g file no_file here))
        (either (eqb g f) refl)
    | inr past ↦ subst (λ fs. (file_at s g).size ≤ size_in fs g) (sym (set_past s.files f file past)) (omega arith)
  ]
    where
      either : (b : Bool) → eqb g f ≡ b → (file_at s g).size ≤ (cond b file (file_at s g)).size
      either true e = subst (λ k. (file_at s k).size ≤ file.size) (sym (eqb-true g f e)) more
      either false e = omega arith

  -- ---- pages under WRITEBACK

  -- where no page gets under WRITEBACK, and the writes of those that are under it go on
  flush_by : (new : State) → ((g q : ℕ) → writeback (page_at new g q) ≡ true
      → (writeback (page_at s g q) ≡ true)
      × ((t k : ℕ) → finmap.get s.requests t ≡ Some (write_of g q k)
      → finmap.get new.requests t ≡ Some (write_of g q k)))
      → (g q : ℕ) → writeback (page_at new g q) ≡ true → IsUnderWrite new g q
  flush_by new was g q w = let a = was g q w in let b = o.flush g q a.0 in (b.0, b.1, a.1 b.0 b.1 b.2)

  -- where the requests are as they were
  flush_same : (new : State) → ((g q : ℕ) → writeback (page_at new g q) ≡ true → writeback (page_at s g q) ≡ true)
      → new.requests ≡ s.requests → (g q : ℕ) → writeback (page_at new g q) ≡ true → IsUnderWrite new g q
  flush_same new was same = flush_by new (λ g q w. (was g q w, λ t k is. ap (λ m. finmap.get m t) same ∙ is))

  -- one page is put that is not under WRITEBACK
  put_was : (t : State) (f p : ℕ) (page : Page) → page.tags.writeback ≡ false → (g q : ℕ)
      → writeback (page_at (put_page t f p page) g q) ≡ true
      → writeback (page_at t g q) ≡ true
  put_was t f p page clean g q w = elim (put_page_tells t f p page g q) [
    | inl a ↦ absurd (let x : page.tags.writeback ≡ true = sym (ap writeback a.2) ∙ w in cc)
    | inr a ↦ sym (ap writeback a.0) ∙ w
  ]

  -- ---- a request begins

  begun_stays : (x : Request) (t : ℕ) (y : Request) → finmap.get s.requests t ≡ Some y
      → finmap.get (finmap.insert s.requests s.next x) t ≡ Some y
  begun_stays x t y is = elim (get_inserted s.requests s.next x t) [
    | inl a ↦ absurd (let l = ok.serial t y is in let e = a.0 in omega arith)
    | inr a ↦ a.1 ∙ is
  ]

  begun_here : (x : Request) → finmap.get (finmap.insert s.requests s.next x) s.next ≡ Some x
  begun_here x = elim (get_inserted s.requests s.next x s.next) [ inl a ↦ a.1 | inr a ↦ absurd (a.0 refl) ]

  started_flush : (f p : ℕ) (g q : ℕ) → writeback (page_at (started s f p) g q) ≡ true
      → IsUnderWrite (started s f p) g q
  started_flush f p g q w = elim (change_page_tells s f p under_write g q) [
    | inl a ↦ (s.next, block, begun_here (write_of f p block) ∙ (λ i. Some (write_of (sym a.0 i) (sym a.1 i) block)))
    | inr a ↦ (let b = o.flush g q (sym (ap writeback a) ∙ w) in (b.0, b.1, begun_stays _ b.0 _ b.2))
  ]
    where
      block : ℕ
      block = unwrap_or (block_at (change_page s f p under_write) f p) 0

  -- ---- a request ends

  module _ (t : ℕ) (x : Request) (is : finmap.get s.requests t ≡ Some x) where
    -- one that is no write of a page, or of a page that was cut off
    quietly : ((g q k : ℕ) → x ≢ write_of g q k) → (new : State)
        → ((g q : ℕ) → writeback (page_at new g q) ≡ true → writeback (page_at s g q) ≡ true)
        → new.requests ≡ finmap.remove s.requests t → (g q : ℕ) → writeback (page_at new g q) ≡ true
        → IsUnderWrite new g q
    quietly apart new was same =
        flush_by new (λ g q w. (
          was g q w,
          λ u k there. ap (λ m. finmap.get m u) same
              ∙ stays_left s t u x (write_of g q k) is (apart g q k) there,
        ))

    -- a write of a page, whose WRITEBACK it clears
    ended_was : (failed : Bool) (file : File)
        → file.pages ≡ change_at x.page (after_write failed) (file_at s x.file).pages → (g q : ℕ)
        → writeback (page_at (put_file s x.file file) g q) ≡ true → (writeback (page_at s g q) ≡ true)
        × (g ≡ x.file → q ≡ x.page → ⊥)
    ended_was failed file pages g q w = elim (put_file_tells s x.file file g q) [
      | inl a ↦ here a.0 (eqb q x.page) refl
          (sym (get-change_at x.page (after_write failed) (file_at s x.file).pages q)
          ∙ sym (ap (λ m. finmap.get m q) pages) ∙ sym a.1)
      | inr a ↦ (
        sym (ap writeback a.0)
            ∙ w,
        λ e _. (let none = a.1 e in let y : writeback (page_at s g q) ≡ true = sym (ap writeback a.0)
            ∙ w in let z : writeback (page_at s g q) ≡ false = ap writeback none in absurd cc),
      )
    ]
      where
        here : g ≡ x.file → (b : Bool) → eqb q x.page ≡ b
            → cond b (option_map (after_write failed) (finmap.get (file_at s x.file).pages q))
            (finmap.get (file_at s x.file).pages q) ≡ page_at (put_file s x.file file) g q
            → (writeback (page_at s g q) ≡ true) × (g ≡ x.file → q ≡ x.page → ⊥)
        here e true k y = absurd (no_writeback failed (page_at s x.file q) (ap writeback y ∙ w))
        here e false k y = (
          ap (λ f. writeback (page_at s f q)) e ∙ ap writeback y
              ∙ w,
          λ _ same. absurd (let z = eq-eqb q x.page same in let n : false ≡ true = sym k ∙ z in cc),
        )

    ended_flush : (failed : Bool) (file : File)
        → file.pages ≡ change_at x.page (after_write failed) (file_at s x.file).pages
        → (g q : ℕ) → writeback (page_at (put_file (ended s t) x.file file) g q) ≡ true
        → IsUnderWrite (put_file (ended s t) x.file file) g q
    ended_flush failed file pages = flush_by (put_file (ended s t) x.file file) (λ g q w. (
      (ended_was failed file pages g q w).0,
      λ u k there. stays_left s t u x (write_of g q k) is
          (λ same. (ended_was failed file pages g q w).1 (sym (ap (λ (r : Request). r.file) same))
          (sym (ap (λ (r : Request). r.page) same))) there,
    ))

  -- ---- the events

  module _ (f : ℕ) (here : f < length s.files) where
    -- a write: the pages that it touches are below the file's new size
    written_within : (off : ℕ) (b : List ℕ) → 0 < length b
        → length (without_block s f (touched s.sizes.page off (length b))) ≤ length (free_blocks s)
        → (g q : ℕ) → has_block (written s f off b) g q ≡ true
        → q < page_count s.sizes.page (file_at (written s f off b) g).size
    written_within off b some room g q has =
        by (eqb g f) (needs_block s f off (length b) q) refl refl
        (sym (ap is_some ((written_writes s f off b here room).spots g q)) ∙ has)
      where
        file : File
        file = record (file_at s f) {
          size = max (file_at s f).size (off + length b);
          pages =
              written_pages s.sizes.page off b (file_at s f).pages;
        }

        size : g ≡ f → (file_at (written s f off b) g).size ≡ max (file_at s f).size (off + length b)
        size e = ap (λ (x : File). x.size)
            (file_at-put s f g file here ∙ ap (λ c. cond c file (file_at s g)) (eq-eqb g f e))

        more : (file_at s g).size ≤ (file_at (written s f off b) g).size
        more = more_size f file (omega arith) g

        by : (a c : Bool) → eqb g f ≡ a → needs_block s f off (length b) q ≡ c
            → is_some (cond (a && c) (Some (record { block = taken_by s f (off / s.sizes.page) q; valid = 0 }))
            (spot_at s g q)) ≡ true
            → q < page_count s.sizes.page (file_at (written s f off b) g).size
        by true true x y w =
            let e = size (eqb-true g f x) in
            touched_in s.sizes.page off (length b) q (file_at (written s f off b) g).size o.positive some (omega arith)
            (and_true (touches s.sizes.page off (length b) q) (not (has_block s f q)) y).0
        by true false x y w =
            (let a = o.within g q w in let m =
            page_count_more s.sizes.page (file_at s g).size (file_at (written s f off b) g).size o.positive more in
            omega arith)
        by false c x y w = (let a = o.within g q w in let m =
            page_count_more s.sizes.page (file_at s g).size (file_at (written s f off b) g).size o.positive more in
            omega arith)

    written_flush : (off : ℕ) (b : List ℕ) (g q : ℕ) → writeback (page_at (written s f off b) g q) ≡ true
        → IsUnderWrite (written s f off b) g q
    written_flush off b = flush_same (written s f off b) was refl
      where
        was : (g q : ℕ) → writeback (page_at (written s f off b) g q) ≡ true → writeback (page_at s g q) ≡ true
        was g q w = elim (put_file_tells s f
            (record (file_at s f) {
              size = max (file_at s f).size (off + length b);
              pages =
                  written_pages s.sizes.page off b (file_at s f).pages;
            }) g q) [
              | inl a ↦ either a.0 (touches s.sizes.page off (length b) q)
                  (sym (get-written_pages s.sizes.page off b (file_at s f).pages q) ∙ sym a.1)
              | inr a ↦ sym (ap writeback a.0) ∙ w
            ]
          where
            either : g ≡ f → (c : Bool)
                → cond c (Some (written_page s.sizes.page off b q (page_at s f q))) (page_at s f q) ≡ page_at
                (written s f off b) g q → writeback (page_at s g q) ≡ true
            either e true k = ap (λ x. writeback (page_at s x q)) e
                ∙ sym (written_writeback s.sizes.page off b q (page_at s f q)) ∙ ap writeback k ∙ w
            either e false k = ap (λ x. writeback (page_at s x q)) e ∙ ap writeback k ∙ w

    -- a truncation
    shrunk_within : (z : ℕ) (g q : ℕ) → has_block (shrunk s f z) g q ≡ true
        → q < page_count s.sizes.page (file_at (shrunk s f z) g).size
    shrunk_within z g q has =
        by (eqb g f) (nat_le (page_count s.sizes.page z) q) refl refl
        (sym (ap is_some ((shrunk_truncates s f z here).spots g q)) ∙ has)
      where
        size : (b : Bool) → eqb g f ≡ b → (file_at (shrunk s f z) g).size ≡ cond b z (file_at s g).size
        size true e = ap (λ (x : File). x.size) (file_at-put s f g _ here)
            ∙ ap (λ b. (cond b (record (file_at s f) { size = z; pages = cut_pages s f z }) (file_at s g)).size) e
        size false e = ap (λ (x : File). x.size) (file_at-put s f g _ here)
            ∙ ap (λ b. (cond b (record (file_at s f) { size = z; pages = cut_pages s f z }) (file_at s g)).size) e

        by : (a c : Bool) → eqb g f ≡ a → nat_le (page_count s.sizes.page z) q ≡ c
            → is_some (cond (a && c) None (spot_at s g q)) ≡ true
            → q < page_count s.sizes.page (file_at (shrunk s f z) g).size
        by true true x y w = absurd cc
        by true false x y w = subst (λ n. q < page_count s.sizes.page n) (sym (size true x)) (below q _ y)
        by false c x y w = subst (λ n. q < page_count s.sizes.page n) (sym (size false x)) (o.within g q w)

    shrunk_flush : (z : ℕ) (g q : ℕ) → writeback (page_at (shrunk s f z) g q) ≡ true → IsUnderWrite (shrunk s f z) g q
    shrunk_flush z = flush_by (shrunk s f z)
        (λ g q w. let x = was g q w in (
          x.0,
          λ t k is. get-each_value (λ _. cut_request f n) s.requests t ∙ ap (option_map (cut_request f n)) is
              ∙ ap (λ b. Some (cond b (record (write_of g q k) { dropped = true }) (write_of g q k))) x.1,
        ))
      where
        n : ℕ
        n = page_count s.sizes.page z

        was : (g q : ℕ) → writeback (page_at (shrunk s f z) g q) ≡ true → (writeback (page_at s g q) ≡ true)
            × ((eqb g f && nat_le n q) ≡ false)
        was g q w = elim (put_file_tells s f (record (file_at s f) { size = z; pages = cut_pages s f z }) g q) [
          | inl a ↦ here_by a.0 (nat_le n q) refl _ (sym (get-cut_pages s f z q) ∙ sym a.1)
          | inr a ↦ (let old : writeback (page_at s g q) ≡ true = sym (ap writeback a.0)
              ∙ w in (old, apart (eqb g f) refl old a.1))
        ]
          where
            apart : (b : Bool) → eqb g f ≡ b → writeback (page_at s g q) ≡ true → (g ≡ f → page_at s g q ≡ None)
                → (b && nat_le n q) ≡ false
            apart false e old none = refl
            apart true e old none =
                absurd (let a = none (eqb-true g f e) in let c : false ≡ true = sym (ap writeback a) ∙ old in cc)

            not_both : (a b : Bool) → b ≡ false → (a && b) ≡ false
            not_both true b e = e
            not_both false b e = refl

            here_by : g ≡ f → (past : Bool) → nat_le n q ≡ past → (cut : Bool)
                → cond past None (cond cut (option_map (cut_page s.sizes.page z (has_block s f q)) (page_at s f q))
                (page_at s f q)) ≡ page_at (shrunk s f z) g q
                → (writeback (page_at s g q) ≡ true) × ((eqb g f && nat_le n q) ≡ false)
            here_by e true y cut k = absurd (let c : false ≡ true = ap writeback k ∙ w in cc)
            here_by e false y true k = (
              ap (λ x. writeback (page_at s x q)) e
                  ∙ sym (cut_writeback s.sizes.page z (has_block s f q) (page_at s f q)) ∙ ap writeback k
                  ∙ w,
              not_both (eqb g f) (nat_le n q) y,
            )
            here_by e false y false k =
                (ap (λ x. writeback (page_at s x q)) e ∙ ap writeback k ∙ w, not_both (eqb g f) (nat_le n q) y)

  removed_was : (f p : ℕ) (g q : ℕ)
      → writeback (page_at (put_pages s f (finmap.remove (file_at s f).pages p)) g q) ≡ true
      → writeback (page_at s g q) ≡ true
  removed_was f p g q w = elim (removed_tells s f p g q) [
    | inl a ↦ absurd (let c : false ≡ true = sym (ap writeback a.2) ∙ w in cc)
    | inr a ↦ sym (ap writeback a) ∙ w
  ]

  begun_was : (f m : ℕ) (y : Sync) (g q : ℕ) → writeback (page_at (sync_begun s f m y) g q) ≡ true
      → writeback (page_at s g q) ≡ true
  begun_was f m y g q w =
      elim (put_file_tells s f (record (file_at s f) { pages = each_value (to_write y) (file_at s f).pages }) g q) [
        | inl a ↦ ap (λ x. writeback (page_at s x q)) a.0 ∙ sym (same_to_write y q (page_at s f q))
            ∙ ap writeback (sym (get-each_value (to_write y) (file_at s f).pages q) ∙ sym a.1) ∙ w
        | inr a ↦ sym (ap writeback a.0) ∙ w
      ]

  -- the block of a page that was written
  flushed_has : (t : ℕ) (x : Request) → finmap.get s.requests t ≡ Some x → x.dropped ≡ false → (g q : ℕ)
      → has_block (flushed (ended s t) x) g q ≡ true → has_block s g q ≡ true
  flushed_has t x is live g q has =
      by (eqb g x.file) (eqb q x.page) refl refl
      (sym (ap is_some (get-insert_place s.spots x.file x.page (record { block = x.block; valid = s.sizes.page }) g q)) ∙ has)
    where
      mapped : (o : Option Spot) → option_map (λ (y : Spot). y.block) o ≡ Some x.block → is_some o ≡ true
      mapped None e = absurd cc
      mapped (Some y) e = refl

      by : (a b : Bool) → eqb g x.file ≡ a → eqb q x.page ≡ b
          → is_some (cond (a && b) (Some (record { block = x.block; valid = s.sizes.page })) (spot_at s g q)) ≡ true
          → has_block s g q ≡ true
      by true true a b w = (λ i. is_some (spot_at s (eqb-true g x.file a i) (eqb-true q x.page b i)))
          ∙ mapped (spot_at s x.file x.page) (ok.mapped t x is live)
      by true false a b w = w
      by false b a c w = w

  -- a file changes that keeps its size, and no page takes a block
  file_orderly : (new : State) (f : ℕ) (file : File) → new.sizes ≡ s.sizes → new.handles ≡ s.handles
      → new.files ≡ slice_set s.files f file
      → file.size ≡ (file_at s f).size → ((g q : ℕ) → has_block new g q ≡ true → has_block s g q ≡ true)
      → ((g q : ℕ) → writeback (page_at new g q) ≡ true → IsUnderWrite new g q) → IsOrderly new
  file_orderly new f file sizes handles files size has flush = record {
    positive = subst (λ (z : Sizes). 0 < z.page) (sym sizes) o.positive;
    within = λ g q b. subst (λ (z : Sizes). q < page_count z.page (file_at new g).size) (sym sizes)
        (within_by new has (λ g. subst (λ fs. (file_at s g).size ≤ size_in fs g) (sym files) (same_size f file size g))
        g q b);
    flush = flush;
    handles = λ h opened. subst (λ fs. handle_file new h < length fs) (sym files)
        (subst (λ m. unwrap_or (finmap.get m h) 0 < length (slice_set s.files f file)) (sym handles)
        (handles_put f file h (ap (λ m. is_some (finmap.get m h)) (sym handles) ∙ opened)));
  }

  -- files, handles and blocks stay
  same_orderly : (new : State) → new.sizes ≡ s.sizes → new.handles ≡ s.handles → new.files ≡ s.files
      → new.spots ≡ s.spots
      → ((g q : ℕ) → writeback (page_at s g q) ≡ true → IsUnderWrite new g q) → IsOrderly new
  same_orderly new sizes handles files spots flush = record {
    positive = subst (λ (z : Sizes). 0 < z.page) (sym sizes) o.positive;
    within = λ g q b. subst (λ (z : Sizes). q < page_count z.page (file_at new g).size) (sym sizes)
        (subst (λ fs. q < page_count s.sizes.page (size_in fs g)) (sym files)
        (o.within g q (ap (λ m. is_some (finmap.get m (g, q))) (sym spots) ∙ b)));
    flush = λ g q w. flush g q (ap (λ fs. writeback (finmap.get (get_or fs g no_file).pages q)) (sym files) ∙ w);
    handles = λ h opened. subst (λ fs. handle_file new h < length fs) (sym files)
        (subst (λ m. unwrap_or (finmap.get m h) 0 < length s.files) (sym handles)
        (o.handles h (ap (λ m. is_some (finmap.get m h)) (sym handles) ∙ opened)));
  }

  pub orderly_cases : Cases s (λ e r t. IsOrderly t)
  orderly_cases = record {
    same = λ e r step quiet. o;
    writes_none = λ e h n is step. o;
    creates = λ f room is. record {
      positive = o.positive;
      within = λ g q b. subst (λ n. q < page_count s.sizes.page n)
          (sym (ap (λ (x : File). x.size) (get_or-default s.files no_file g))) (o.within g q b);
      flush = flush_same (record s { files = s.files ++ no_file ∷ [] })
          (λ g q w. sym (ap writeback (page_at-create s g q)) ∙ w) refl;
      handles = λ h e. (let a = o.handles h e in let b = length-append s.files (no_file ∷ []) in omega arith);
    };
    opens = λ f h here room low. record
        { positive = o.positive; within = o.within; flush = o.flush; handles = opened f.0 h.0 here };
    closes = λ h there free. record { positive = o.positive; within = o.within; flush = o.flush; handles = closed h.0 };
    writes = λ e h off b is may. record {
      positive = o.positive;
      within = written_within (handle_file s h.0) (o.handles h.0 may.opened) off b may.some may.blocks;
      flush = written_flush (handle_file s h.0) (o.handles h.0 may.opened) off b;
      handles = handles_put _ _;
    };
    shrinks = λ h z may less. record {
      positive = o.positive;
      within = shrunk_within (handle_file s h.0) (o.handles h.0 may.opened) z;
      flush = shrunk_flush (handle_file s h.0) (o.handles h.0 may.opened) z;
      handles = handles_put _ _;
    };
    grows = λ h z may more. record {
      positive = o.positive;
      within = within_by (put_file s (handle_file s h.0) (record (file_at s (handle_file s h.0)) { size = z }))
          (λ g q b. b) (more_size (handle_file s h.0) _ more);
      flush = flush_same (put_file s (handle_file s h.0) (record (file_at s (handle_file s h.0)) { size = z }))
          (λ g q w. sym (ap writeback
          (page_at-same s (handle_file s h.0) (record (file_at s (handle_file s h.0)) { size = z }) refl g q)) ∙ w)
          refl;
      handles = handles_put _ _;
    };
    makes_zeros = λ h p may unwritten. file_orderly _ (handle_file s h.0) _ refl refl refl refl (λ g q b. b)
        (flush_same (put_page s (handle_file s h.0) p.0 (record { bytes = cut [] s.sizes.page; tags = no_tags }))
        (put_was s (handle_file s h.0) p.0 _ refl) refl);
    evicts = λ f p page is idle. file_orderly _ f.0 _ refl refl refl refl (λ g q b. b)
        (flush_same (put_pages s f.0 (finmap.remove (file_at s f.0).pages p.0)) (removed_was f.0 p.0) refl);
    fills = λ h p t may written room next. same_orderly _ refl refl refl refl
        (λ g q w. let b = o.flush g q w in (b.0, b.1, begun_stays _ b.0 _ b.2));
    flushes = λ f p page t may next. file_orderly _ f.0 _ refl refl refl refl (λ g q b. b) (started_flush f.0 p);
    drops = λ kind end x may dropped. same_orderly _ refl refl refl refl
        (quietly end.serial.0 x may.is
        (λ g q k same. (let a : true ≡ false = sym dropped ∙ ap (λ (r : Request). r.dropped) same in cc))
        (ended s end.serial.0) (λ g q w. w) refl);
    fill_fails = λ end x code may live went. same_orderly _ refl refl refl refl
        (quietly end.serial.0 x may.is
        (λ g q k same. (let a : Fill ≡ Flush = sym may.kind_is ∙ ap (λ (r : Request). r.kind) same in cc))
        (ended s end.serial.0) (λ g q w. w) refl);
    fill_ends = λ end x b may live went. file_orderly _ x.file _ refl refl refl refl (λ g q b. b)
        (quietly end.serial.0 x may.is
        (λ g q k same. (let a : Fill ≡ Flush = sym may.kind_is ∙ ap (λ (r : Request). r.kind) same in cc))
        (filled (ended s end.serial.0) x b)
        (put_was (ended s end.serial.0) x.file x.page _ refl) refl);
    flush_fails = λ end x code may live went. file_orderly _ x.file _ refl refl refl refl (λ g q b. b)
        (ended_flush end.serial.0 x may.is true _ refl);
    flush_ends = λ end x may live went. file_orderly _ x.file _ refl refl refl refl
        (flushed_has end.serial.0 x may.is live) (ended_flush end.serial.0 x may.is false _ refl);
    begins = λ h first last m may low. file_orderly _ (handle_file s h.0) _ refl refl refl refl (λ g q b. b)
        (flush_same (sync_begun s (handle_file s h.0) m.0 (new_sync s h.0 first.0 last.0))
        (begun_was (handle_file s h.0) m.0 (new_sync s h.0 first.0 last.0)) refl);
    starts = λ m y p page t is may next. file_orderly _ (handle_file s y.handle) _ refl refl refl refl (λ g q b. b)
        (started_flush (handle_file s y.handle) p);
    waits = λ m y e p is pick first page. same_orderly _ refl refl refl refl o.flush;
    over = λ m y r is pick first verdict. same_orderly _ refl refl refl refl o.flush;
    sync_drops = λ m y is. same_orderly _ refl refl refl refl o.flush;
  }
    where
      opened : (f h : ℕ) → f < length s.files → (k : ℕ) → is_some (finmap.get (finmap.insert s.handles h f) k) ≡ true
          → unwrap_or (finmap.get (finmap.insert s.handles h f) k) 0 < length s.files
      opened f h here k e = elim (get_inserted s.handles h f k) [
        | inl a ↦ subst (λ x. unwrap_or x 0 < length s.files) (sym a.1) here
        | inr a ↦ subst (λ x. unwrap_or x 0 < length s.files) (sym a.1) (o.handles k (sym (ap is_some a.1) ∙ e))
      ]

      closed : (h k : ℕ) → is_some (finmap.get (finmap.remove s.handles h) k) ≡ true
          → unwrap_or (finmap.get (finmap.remove s.handles h) k) 0 < length s.files
      closed h k e = by (eqb k h) (get-remove_nat s.handles h k)
        where
          by : (b : Bool) → finmap.get (finmap.remove s.handles h) k ≡ cond b None (finmap.get s.handles k)
              → unwrap_or (finmap.get (finmap.remove s.handles h) k) 0 < length s.files
          by true a = absurd (let c : false ≡ true = sym (ap is_some a) ∙ e in cc)
          by false a = subst (λ x. unwrap_or x 0 < length s.files) (sym a) (o.handles k (sym (ap is_some a) ∙ e))

-- with no request in flight no page is under WRITEBACK
pub none_under : (s : State) → IsOrderly s → s.requests ≡ finmap.empty → (f p : ℕ) → writeback (page_at s f p) ≡ true
    → ⊥
none_under s o none f p w =
    let x = o.flush f p w in
    let gone : finmap.get s.requests x.0 ≡ None = ap (λ m. finmap.get m x.0) none ∙ get-empty nat_cmp x.0 in
    absurd (let y = sym gone ∙ x.2 in cc)

pub orderly_stays : (w new : World) (m : Move) → WorldStep w m new → Sound w.core → IsOrderly w.core
    → IsOrderly new.core
orderly_stays w new m step ok o = core_cases w new IsOrderly o (orderly_cases w.core ok o) m step

-- a cache whose files stand on the device
module _ (sizes : Sizes) (name : ℕ) (catalog : Catalog) (ok : IsCatalog sizes catalog) (some : 0 < sizes.page) where
  abbrev begin : State
  begin = adopted sizes name catalog

  stands_within : (f p : ℕ) (o : Option Spot) → finmap.get catalog.spots (f, p) ≡ o → is_some o ≡ true
      → p < page_count sizes.page (file_at begin f).size
  stands_within f p None e k = absurd cc
  stands_within f p (Some x) e k =
      let good = ok.spots f p x e in
      let size = ap (λ (file : File). file.size) (adopted_file sizes name catalog f) in
      below_count sizes.page (file_at begin f).size p some (omega (arith, good.some, good.in_file, size))

  pub adopted_orderly : IsOrderly begin
  adopted_orderly = record {
    positive = some;
    within = λ f p e. stands_within f p (finmap.get catalog.spots (f, p)) refl e;
    flush = λ f p e. absurd (let n = ap writeback (none_cached sizes name catalog f p) in cc);
    handles = λ h e. absurd (let n = ap is_some (get-empty {X = ℕ} nat_cmp h) in cc);
  }

pub first_orderly : (sizes : Sizes) (name : ℕ) → 0 < sizes.page → IsOrderly (no_files sizes name)
first_orderly sizes name some = adopted_orderly sizes name no_catalog (no_catalog_is sizes) some

-- A change of one page, and the begin or end of its request, keeps a state sound.
use Rattle.std.proofs.Common.{◌≡◌, ℕ, Bool, true, false, cond, not, eqb, eqb-true, eq-eqb, List, [], refl, ap, sym}
use Rattle.std.proofs.Common.{subst, ◌∙◌, inl, inr, ◌&&◌, ◌||◌, ◌⊎◌, Option, Some, None, is_some, option_map}
use Rattle.std.specs.Prelude.{nat_lt, unwrap_or}
use Rattle.std.specs.FinMap as finmap
use Rattle.pc_types.specs.Files.{cut}
use Rattle.pc_types.specs.Tags.{no_tags}
use Rattle.pc_types.specs.Kinds.{is_fill}
use Rattle.pc_types.specs.Spots.{Spot}
use Rattle.pc_types.specs.declared.kind.Kind.TheVariants.{Fill, Flush}
use Rattle.machine.specs.State.{State, File, Page, Request, file_at, is_cached, page_at, spot_at, fills, is_filling}
use Rattle.machine.specs.State.{is_idle, is_written, block_at}
use Rattle.machine.specs.Changes.{put_page, put_pages, put_file, change_page, ended, requested, started, under_write}
use Rattle.machine.specs.Changes.{after_write, flushed, flush_failed}
use Rattle.maps.specs.Maps.{change_at}
use Rattle.machine.specs.Sound.{Sound}
use Rattle.machine.proofs.steps.Choices.{and_true, not_true, none_of}
use Rattle.machine.proofs.changes.StateLaws.{filling_shows}
use Rattle.maps.proofs.MapLaws.{get-change_at}
use Rattle.machine.proofs.sound.Lookups.{change_here, put_page_tells, removed_tells, change_page_tells, put_file_tells}
use Rattle.machine.proofs.sound.Lookups.{block_is, block_valid}
use Rattle.machine.proofs.sound.Changes.{lookups, TagsFit, PageFits, IsOf, dirty, writeback, towrite, tags_fit}
use Rattle.machine.proofs.sound.Changes.{page_fits, pages_change, requests_end, request_begins, one_request}
use Rattle.machine.proofs.sound.Changes.{unheld_block, same_lookups}
use Rattle.maps.proofs.Maps.{get_inserted, get_left}

-- a page without a tag
untagged_fits : (block : Option ℕ) (bytes : List ℕ) → TagsFit block (Some (record { bytes = bytes; tags = no_tags }))
untagged_fits block bytes =
    record { dirty_block = λ e. absurd cc; writeback_block = λ e. absurd cc; towrite_dirty = λ e. absurd cc }

-- a page that is put, and a request of it
abbrev pub FitsRequests : State → ℕ → ℕ → Page → Type 0
FitsRequests s f p page = (t : ℕ) (r : Request) → finmap.get s.requests t ≡ Some r → IsOf r f p → PageFits r (Some page)

pub put_page_sound : (s : State) → Sound s → (f p : ℕ) (page : Page) → TagsFit (block_at s f p) (Some page)
    → FitsRequests s f p page → Sound (put_page s f p page)
put_page_sound s ok f p page fit requests = pages_change (lookups s) ok (page_at (put_page s f p page))
    (λ g q. elim (put_page_tells s f p page g q) [
      | inl e ↦ subst (TagsFit (block_at s g q)) (sym e.2)
          (subst (λ k. TagsFit (block_at s k q) (Some page)) (sym e.0)
          (subst (λ k. TagsFit (block_at s f k) (Some page)) (sym e.1) fit))
      | inr e ↦ subst (TagsFit (block_at s g q)) (sym e.0) (tags_fit (lookups s) ok g q)
    ])
    (λ t r is live. elim (put_page_tells s f p page r.file r.page) [
      | inl e ↦ subst (PageFits r) (sym e.2) (requests t r is (record { live = live; file = e.0; page = e.1 }))
      | inr e ↦ subst (PageFits r) (sym e.0) (page_fits (lookups s) ok t r is live)
    ])

-- an idle page is dropped
pub removed_sound : (s : State) → Sound s → (f p : ℕ) (page : Page) → page_at s f p ≡ Some page → is_idle page ≡ true
    → Sound (put_pages s f (finmap.remove (file_at s f).pages p))
removed_sound s ok f p page is idle =
    pages_change (lookups s) ok (page_at (put_pages s f (finmap.remove (file_at s f).pages p)))
    (λ g q. elim (removed_tells s f p g q) [
      | inl e ↦ subst (TagsFit (block_at s g q)) (sym e.2)
          (record { dirty_block = λ k. absurd cc; writeback_block = λ k. absurd cc; towrite_dirty = λ k. absurd cc })
      | inr e ↦ subst (TagsFit (block_at s g q)) (sym e) (tags_fit (lookups s) ok g q)
    ])
    (λ t r at live. elim (removed_tells s f p r.file r.page) [
      | inl e ↦ record {
        fill = λ _. e.2;
        flush = λ k. absurd (let set = ok.flush t r at live k in let here : page_at s r.file r.page ≡ Some page =
            (λ i. page_at s (e.0 i) (e.1 i)) ∙ is in let clear = not_writeback page idle in cc);
      }
      | inr e ↦ subst (PageFits r) (sym e) (page_fits (lookups s) ok t r at live)
    ])
  where
    not_writeback : (page : Page) → is_idle page ≡ true → page.tags.writeback ≡ false
    not_writeback page e =
        not_true page.tags.writeback (and_true (not page.tags.dirty) (not page.tags.writeback)
        (and_true (not page.tags.dirty && not page.tags.writeback) (not page.tags.towrite) e).0).1

module _ (s : State) (ok : Sound s) where
  -- ---- a request ends

  pub ended_sound : (t : ℕ) → Sound (ended s t)
  ended_sound t = requests_end (lookups s) ok (finmap.get (finmap.remove s.requests t))
      (λ u r e. (get_left s.requests t u r e).1)

  module _ (t : ℕ) (r : Request) (is : finmap.get s.requests t ≡ Some r) (live : r.dropped ≡ false) where
    has_block : is_some (block_at s r.file r.page) ≡ true
    has_block = ap is_some (ok.mapped t r is live)

    -- no other request is of its page
    alone : (page : Page) → FitsRequests (ended s t) r.file r.page page
    alone page u q e of =
        absurd (let left = get_left s.requests t u q e in
        left.0 (one_request (lookups s) ok u t q r left.1 is of.live live of.file of.page))

    put_sound : (page : Page) → TagsFit (block_at s r.file r.page) (Some page)
        → Sound (put_page (ended s t) r.file r.page page)
    put_sound page fit = put_page_sound (ended s t) (ended_sound t) r.file r.page page fit (alone page)

    pub filled_sound : (bytes : List ℕ)
        → Sound (put_page (ended s t) r.file r.page (record { bytes = bytes; tags = no_tags }))
    filled_sound bytes = put_sound _ (untagged_fits (block_at s r.file r.page) bytes)

    -- a page whose write ended
    written_fits : (failed : Bool) (page : Option Page) → page_at s r.file r.page ≡ page
        → TagsFit (block_at s r.file r.page) (option_map (after_write failed) page)
    written_fits failed page e = record {
      dirty_block = λ _. has_block;
      writeback_block = λ _. has_block;
      towrite_dirty = λ k. tags page k (λ j. sym (ap dirty e) ∙ ok.towrite_dirty r.file r.page (ap towrite e ∙ j));
    }
      where
        still : (a b : Bool) → a ≡ true → (a || b) ≡ true
        still true b e = refl
        still false b e = absurd cc

        tags : (page : Option Page) → towrite (option_map (after_write failed) page) ≡ true
            → (towrite page ≡ true → dirty page ≡ true) → dirty (option_map (after_write failed) page) ≡ true
        tags None k old = absurd cc
        tags (Some x) k old = still x.tags.dirty failed (old k)

    -- the page changes so, and the file's other numbers as they may
    ended_pages : (failed : Bool) (file : File)
        → file.pages ≡ change_at r.page (after_write failed) (file_at s r.file).pages
        → Sound (put_file (ended s t) r.file file)
    ended_pages failed file e = pages_change (lookups (ended s t)) (ended_sound t)
        (page_at (put_file (ended s t) r.file file))
        (λ g q. elim (now g q) [
          | inl k ↦ subst (TagsFit (block_at s g q)) (sym k.2)
              (subst (λ x. TagsFit (block_at s x q) (option_map (after_write failed) (page_at s x q))) (sym k.0)
              (subst (λ x. TagsFit (block_at s r.file x) (option_map (after_write failed) (page_at s r.file x)))
              (sym k.1) (written_fits failed (page_at s r.file r.page) refl)))
          | inr k ↦ subst (TagsFit (block_at s g q)) (sym k) (tags_fit (lookups s) ok g q)
        ])
        (λ u q at other. elim (now q.file q.page) [
          | inl k ↦ absurd (let left = get_left s.requests t u q at in
              left.0 (one_request (lookups s) ok u t q r left.1 is other live k.0 k.1))
          | inr k ↦ subst (PageFits q) (sym k) (page_fits (lookups s) ok u q (get_left s.requests t u q at).1 other)
        ])
      where
        now : (g q : ℕ) → ((g ≡ r.file) × (q ≡ r.page)
            × (page_at (put_file (ended s t) r.file file) g q ≡ option_map (after_write failed) (page_at s g q)))
            ⊎ (page_at (put_file (ended s t) r.file file) g q ≡ page_at s g q)
        now g q = elim (put_file_tells (ended s t) r.file file g q) [
          | inl h ↦ elim (eqb q r.page) as (λ b. eqb q r.page ≡ b
              → finmap.get (change_at r.page (after_write failed) (file_at s r.file).pages) q
              ≡ cond b (option_map (after_write failed) (page_at s r.file q)) (page_at s r.file q)
              → ((g ≡ r.file) × (q ≡ r.page)
              × (page_at (put_file (ended s t) r.file file) g q ≡ option_map (after_write failed) (page_at s g q)))
              ⊎ (page_at (put_file (ended s t) r.file file) g q ≡ page_at s g q)) [
                | true ↦ λ d k. inl (
                  h.0,
                  eqb-true q r.page d,
                  h.1 ∙ ap (λ m. finmap.get m q) e ∙ k
                      ∙ ap (λ x. option_map (after_write failed) (page_at s x q)) (sym h.0),
                )
                | false ↦ λ d k. inr (h.1 ∙ ap (λ m. finmap.get m q) e ∙ k ∙ ap (λ x. page_at s x q) (sym h.0))
              ] refl (get-change_at r.page (after_write failed) (file_at s r.file).pages q)
          | inr h ↦ inr h.0
        ]

    pub flush_failed_sound : (c : ℕ) → Sound (flush_failed (ended s t) r c)
    flush_failed_sound c = ended_pages true _ refl

    pub flushed_sound : Sound (flushed (ended s t) r)
    flushed_sound = same_lookups (lookups (change_page (ended s t) r.file r.page (after_write false)))
        (lookups (flushed (ended s t) r)) (λ g q. refl)
        (block_valid s.spots r.file r.page r.block s.sizes.page (ok.mapped t r is live)) (λ u. refl) refl
        (ended_pages false _ refl)

  -- ---- a request begins

  -- a request that begins, beside those that were there
  begun : (new : Request) (t : ℕ) (r : Request) → finmap.get (finmap.insert s.requests s.next new) t ≡ Some r
      → ((t ≡ s.next) × (r ≡ new)) ⊎ (finmap.get s.requests t ≡ Some r)
  begun new t r e = elim (get_inserted s.requests s.next new t) [
    | inl h ↦ inl (h.0, (let same : Some new ≡ Some r = sym h.1 ∙ e in let k : new ≡ r = cc in sym k))
    | inr h ↦ inr (sym h.1 ∙ e)
  ]

  -- no fill of a page is in flight that is not filling
  pub no_fill : (f p : ℕ) → is_filling s f p ≡ false → (t : ℕ) (r : Request) → finmap.get s.requests t ≡ Some r
      → IsOf r f p → r.kind ≡ Fill → ⊥
  no_fill f p idle t r e of k =
      let it : fills f p r ≡ true = (λ i. is_fill (k i) && not (of.live i) && (eqb (of.file i) f && eqb (of.page i) p))
      ∙ (λ i. true && true && (eq-eqb f f refl i && eq-eqb p p refl i)) in
      let shows = filling_shows s f p t r e it in cc

  module _ (f p : ℕ) (is_absent : is_cached s f p ≡ false) (idle : is_filling s f p ≡ false) where
    abbrev zeros : Page
    zeros = record { bytes = cut [] s.sizes.page; tags = no_tags }

    absent : page_at s f p ≡ None
    absent = none_of (page_at s f p) is_absent

    pub makes_zeros_sound : Sound (put_page s f p zeros)
    makes_zeros_sound = put_page_sound s ok f p zeros (untagged_fits (block_at s f p) _) (λ t r e of. record {
      fill = λ k. absurd (no_fill f p idle t r e of k);
      flush = λ k. absurd (let set = ok.flush t r e of.live k in let here : page_at s r.file r.page ≡ None =
          (λ i. page_at s (of.file i) (of.page i)) ∙ absent in cc);
    })

    pub filling_sound : is_written s f p ≡ true → Sound (requested s Fill f p)
    filling_sound written =
        let has : block_at s f p ≡ Some (unwrap_or (block_at s f p) 0) =
        block_is s f p (has_spot (spot_at s f p) written) in
        request_begins (lookups s) ok (record {
          kind = Fill;
          file = f;
          page = p;
          block = (unwrap_or (block_at s f p) 0);
          dropped = false;
        }) refl has (record { fill = λ _. absent; flush = λ k. absurd cc })
        (unheld_block (lookups s) ok f p ((unwrap_or (block_at s f p) 0)) has (no_fill f p idle) (ap writeback absent))
        _ (begun _)
      where
        has_spot : (x : Option Spot) → nat_lt 0 (unwrap_or (option_map (λ (y : Spot). y.valid) x) 0) ≡ true
            → is_some (option_map (λ (y : Spot). y.block) x) ≡ true
        has_spot None e = absurd cc
        has_spot (Some y) e = refl

  pub started_sound : (f p : ℕ) (page : Page) → page_at s f p ≡ Some page → page.tags.dirty ≡ true
      → page.tags.writeback ≡ false → Sound (started s f p)
  started_sound f p page is is_dirty idle = request_begins (lookups put) put_sound new refl has new_fits
      (unheld_block (lookups s) ok f p (unwrap_or (block_at s f p) 0) has no_fill_here (ap writeback is ∙ idle)) _
      (begun new)
    where
      put : State
      put = change_page s f p under_write

      new : Request
      new = record { kind = Flush; file = f; page = p; block = unwrap_or (block_at s f p) 0; dropped = false }

      has : block_at s f p ≡ Some (unwrap_or (block_at s f p) 0)
      has = block_is s f p (ok.dirty_block f p (ap dirty is ∙ is_dirty))

      no_fill_here : (t : ℕ) (r : Request) → finmap.get s.requests t ≡ Some r → IsOf r f p → r.kind ≡ Fill → ⊥
      no_fill_here t r e of k = let none = ok.fill t r e of.live k in let here : page_at s r.file r.page ≡ Some page =
          (λ i. page_at s (of.file i) (of.page i)) ∙ is in cc

      -- a page under WRITEBACK, where one is cached
      under_fits : (block : Option ℕ) (page : Option Page) → is_some block ≡ true
          → TagsFit block (option_map under_write page)
      under_fits block None h =
          record { dirty_block = λ k. absurd cc; writeback_block = λ k. h; towrite_dirty = λ k. absurd cc }
      under_fits block (Some x) h =
          record { dirty_block = λ k. absurd cc; writeback_block = λ k. h; towrite_dirty = λ k. absurd cc }

      here : page_at put f p ≡ Some (under_write page)
      here = elim (change_page_tells s f p under_write f p)
          [ inl e ↦ e.2 ∙ ap (option_map under_write) is | inr e ↦ stays e ]
        where
          stays : page_at put f p ≡ page_at s f p → page_at put f p ≡ Some (under_write page)
          stays e = change_here s f p under_write page is

      put_sound : Sound put
      put_sound = pages_change (lookups s) ok (page_at put)
          (λ g q. elim (change_page_tells s f p under_write g q) [
            | inl e ↦ subst (TagsFit (block_at s g q)) (sym e.2)
                (under_fits (block_at s g q) (page_at s g q)
                ((λ i. is_some (block_at s (e.0 i) (e.1 i))) ∙ ap is_some has))
            | inr e ↦ subst (TagsFit (block_at s g q)) (sym e) (tags_fit (lookups s) ok g q)
          ])
          (λ t r at live. elim (change_page_tells s f p under_write r.file r.page) [
            | inl e ↦ record {
              fill =
                  λ k. absurd (no_fill_here t r at (record { live = live; file = e.0; page = e.1 }) k);
              flush = λ _. ap writeback (e.2 ∙ ap (option_map under_write) ((λ i. page_at s (e.0 i) (e.1 i)) ∙ is));
            }
            | inr e ↦ subst (PageFits r) (sym e) (page_fits (lookups s) ok t r at live)
          ])

      new_fits : PageFits new (page_at put f p)
      new_fits = record { fill = λ k. absurd cc; flush = λ _. ap writeback here }

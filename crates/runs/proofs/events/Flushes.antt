-- A write of a page is started, and a sync begins.
use Rattle.std.proofs.Common.{[], ◌≡◌, ◌≢◌, ℕ, ◌+◌, ◌<◌, Bool, true, false, cond, eqb, eqb-true, eq-eqb, List, length}
use Rattle.std.proofs.Common.{get_or, refl, ap, sym, subst, ◌∙◌, ◌&&◌, ◌||◌, Option, Some, None, is_some, option_map}
use Rattle.std.proofs.Common.{nat_cmp}
use Rattle.std.specs.Prelude.{unwrap_or}
use Rattle.std.specs.FinMap as finmap
use Rattle.pc_types.specs.Files.{page_of}
use Rattle.pc_types.specs.declared.ids.Serial.{Serial}
use Rattle.pc_types.specs.declared.kind.Kind.TheVariants.{Flush}
use Rattle.machine.specs.declared.event.Reply.TheVariants as reply
use Rattle.machine.specs.State.{State, File, Page, Request, Sync, file_at, page_at, page_bytes, block_at, spot_at}
use Rattle.machine.specs.State.{no_file, in_range}
use Rattle.machine.specs.Changes.{put_page, requested, under_write, started, to_write}
use Rattle.maps.specs.Maps.{put_some}
use Rattle.machine.proofs.changes.ChangeLaws.{BeginsSync}
use Rattle.maps.proofs.Maps.{get-insert_nat}
use Rattle.machine.proofs.changes.StateLaws.{get_or-set}
use Rattle.runs.specs.Plain.{Plain, plain_file}
use Rattle.runs.specs.World.{World, noted}
use Rattle.runs.specs.World as world
use Rattle.runs.proofs.views.View.{no_gone, put1, put1_else, put2, put2_here, dirty, writeback, towrite, no_outcome}
use Rattle.runs.proofs.events.Tables.{Tables, flight, flight_at, flight_begun, begun_tables}
use Rattle.runs.proofs.events.Coupled.{view, Coupled, After, with_core, block_is, file_changed, put_view}
use Rattle.runs.proofs.bytes.PageLaws.{length-page}
use Rattle.runs.proofs.events.Lookups.{cached_within, page_at-put_page, change_page-is, size-put, failures-put}
use Rattle.runs.proofs.events.Lookups.{get-insert1}
use Rattle.runs.proofs.views.FlushBegin.{flush_begin}
use Rattle.runs.proofs.views.Retag.{retag}

-- ---- a write of a page is started

module _ (w : World) (plain : Plain) (c : Coupled w plain) (f p : ℕ) (page : Page)
    (cached : page_at w.core f p ≡ Some page) (is_dirty : page.tags.dirty ≡ true)
    (idle : page.tags.writeback ≡ false) where
  abbrev s : State
  s = w.core

  abbrev request : Request
  request = record { kind = Flush; file = f; page = p; block = unwrap_or (block_at s f p) 0; dropped = false }

  -- the state after it, with the page put
  abbrev begun : State
  begun = requested (put_page s f p (under_write page)) Flush f p

  is_begun : started s f p ≡ begun
  is_begun = ap (λ x. requested x Flush f p) (change_page-is s f p under_write page cached)

  abbrev writing : finmap.FinMap nat_cmp (List ℕ)
  writing = finmap.insert w.writing s.next page.bytes

  here : f < length s.files
  here = cached_within s f p (ap is_some cached)

  own_bytes : finmap.get writing s.next ≡ Some page.bytes
  own_bytes = get-insert_nat w.writing s.next page.bytes s.next
      ∙ ap (λ b. cond b (Some page.bytes) (finmap.get w.writing s.next)) (eq-eqb s.next s.next refl)

  others : (u : ℕ) → u ≢ s.next → finmap.get writing u ≡ finmap.get w.writing u
  others u n = get-insert1 w.writing s.next page.bytes u ∙ put1_else (finmap.get w.writing) s.next (Some page.bytes) u n

  started_view : view (record w { core = begun; writing = writing }) plain ≡ record (view w plain) {
    page = put2 (page_at s) f p (Some (under_write page));
    request = put1 (flight_at s.requests w.writing) s.next (Some (flight page.bytes request));
    next = s.next + 1;
  }
  started_view = λ i. record (put_view w plain f p (under_write page) here i) {
    next = s.next + 1;
    request = λ t. flight_begun s.requests w.writing writing s.next request page.bytes
        (ap (λ o. unwrap_or o []) own_bytes) others t i;
  }

  mapped : option_map (λ x. x.block) (spot_at s f p) ≡ Some (unwrap_or (block_at s f p) 0)
  mapped = block_is s f p ((c.good.pages f p).dirty_block (ap dirty cached ∙ is_dirty))

  size_of_page : length page.bytes ≡ s.sizes.page
  size_of_page = ap length ((c.good.pages f p).bytes page cached) ∙ length-page s.sizes.page (plain_file plain f) p

  begins : After w plain no_gone (record w { core = begun; writing = writing }) plain
  begins = file_changed w plain c (record w { core = begun; writing = writing }) f _ here refl refl refl refl refl
      started_view
      (flush_begin (view w plain) c.good f p (unwrap_or (block_at s f p) 0) page cached is_dirty idle mapped
      size_of_page)
      (begun_tables s.requests w.outcomes w.writing c.tables s.next request writing (no_outcome (view w plain) c.good)
      (ap is_some own_bytes) others)

  -- the bytes that are noted are the page's
  bytes_after : page_bytes begun f p ≡ page.bytes
  bytes_after = ap (λ (o : Option Page). unwrap_or (option_map (λ x. x.bytes) o) [])
      (page_at-put_page s f p (under_write page) here f p ∙ put2_here (page_at s) f p (Some (under_write page)))

  are_noted : (t : Serial) → t.0 ≡ s.next → noted w.writing (reply.Job t) begun ≡ writing
  are_noted t is = ap (λ o. put_some t.0 (world.to_write begun o) w.writing)
      (get-insert_nat s.requests s.next request t.0
      ∙ ap (λ b. cond b (Some request) (finmap.get s.requests t.0)) (eq-eqb t.0 s.next is))
      ∙ (λ i. finmap.insert w.writing (is i) (bytes_after i))

  -- and so are they where a table of syncs is put in
  pub starts_with : (syncs : finmap.FinMap nat_cmp Sync) (t : Serial) → t.0 ≡ s.next
      → let new = record (started s f p) { syncs = syncs } in
      After w plain no_gone (record w { core = new; writing = noted w.writing (reply.Job t) new }) plain
  starts_with syncs t is =
      subst (λ (x : State). After w plain no_gone
      (record w { core = record x { syncs = syncs }; writing = noted w.writing (reply.Job t) x }) plain) (sym is_begun)
      (subst (λ (x : finmap.FinMap nat_cmp (List ℕ)). After w plain no_gone
      (record w { core = record begun { syncs = syncs }; writing = x }) plain) (sym (are_noted t is))
      (assumption begins))

-- ---- a sync begins

module _ (w : World) (plain : Plain) (c : Coupled w plain) (f n : ℕ) (y : Sync) (new : State)
    (begins : BeginsSync w.core f n y new) (here : f < length w.core.files) where
  abbrev t : State
  t = w.core

  same_sizes : new.sizes ≡ t.sizes
  same_sizes = ap (λ x. x.sizes) begins.rest

  abbrev tagged_file : File
  tagged_file = record (file_at t f) { pages = (file_at new f).pages }

  file_now : (g : ℕ) → file_at new g ≡ cond (eqb g f) tagged_file (file_at t g)
  file_now g = ap (λ fs. get_or fs g no_file) begins.file ∙ get_or-set t.files f g tagged_file no_file here

  size_now : (g : ℕ) → (file_at new g).size ≡ (file_at t g).size
  size_now g = ap (λ fs. (get_or fs g no_file).size) begins.file ∙ size-put t f tagged_file here refl g

  failures_now : (g : ℕ) → (file_at new g).failures ≡ (file_at t g).failures
  failures_now g = ap (λ fs. (get_or fs g no_file).failures) begins.file ∙ failures-put t f tagged_file here refl g

  -- a page is as before, or gets TOWRITE where it is DIRTY
  abbrev now : Bool → ℕ → Option Page → Option Page
  now b q o = cond b (option_map (to_write y q) o) o

  page_now : (g q : ℕ) → page_at new g q ≡ now (eqb g f) q (page_at t g q)
  page_now g q = elim (eqb g f) as (λ b. eqb g f ≡ b → page_at new g q ≡ now b q (page_at t g q)) [
    | true ↦ λ e. (λ i. page_at new (eqb-true g f e i) q) ∙ begins.pages q
        ∙ (λ i. option_map (to_write y q) (page_at t (sym (eqb-true g f e) i) q))
    | false ↦ λ e. ap (λ (x : File). finmap.get x.pages q)
        (file_now g ∙ ap (λ b. cond b tagged_file (file_at t g)) e)
  ] refl

  some_now : (b : Bool) (q : ℕ) (o : Option Page) → is_some (now b q o) ≡ is_some o
  some_now false q o = refl
  some_now true q None = refl
  some_now true q (Some x) = refl

  dirty_now : (b : Bool) (q : ℕ) (o : Option Page) → dirty (now b q o) ≡ dirty o
  dirty_now false q o = refl
  dirty_now true q None = refl
  dirty_now true q (Some x) = refl

  writeback_now : (b : Bool) (q : ℕ) (o : Option Page) → writeback (now b q o) ≡ writeback o
  writeback_now false q o = refl
  writeback_now true q None = refl
  writeback_now true q (Some x) = refl

  bytes_now : (b : Bool) (q : ℕ) (o : Option Page) (x : Page) → now b q o ≡ Some x
      → (v : Page) × (o ≡ Some v) × (x.bytes ≡ v.bytes)
  bytes_now false q o x e = (x, e, refl)
  bytes_now true q None x e = absurd cc
  bytes_now true q (Some v) x e = (v, refl, (let a : to_write y q v ≡ x = cc in sym (ap (λ (z : Page). z.bytes) a)))

  tagged : (a b c : Bool) → (a ≡ true → b ≡ true) → (a || b && c) ≡ true → b ≡ true
  tagged true b c old e = old refl
  tagged false true c old e = refl
  tagged false false c old e = absurd cc

  towrite_now : (b : Bool) (q : ℕ) (o : Option Page) → (towrite o ≡ true → dirty o ≡ true)
      → towrite (now b q o) ≡ true → dirty o ≡ true
  towrite_now false q o old e = old e
  towrite_now true q None old e = absurd cc
  towrite_now true q (Some x) old e = tagged x.tags.towrite x.tags.dirty (in_range y q) old e

  towrite_more : (b : Bool) (q : ℕ) (o : Option Page) → towrite o ≡ true → towrite (now b q o) ≡ true
  towrite_more false q o e = e
  towrite_more true q None e = e
  towrite_more true q (Some x) e = ap (λ b. b || x.tags.dirty && in_range y q) e

  begun_view : view (with_core w new) plain ≡ record (view w plain) { page = page_at new }
  begun_view = λ i. record (view (with_core w new) plain) {
    page_size = (same_sizes i).page;
    next = (begins.rest i).next;
    spot = λ g q. spot_at (begins.rest i) g q;
    request = λ u. flight_at (begins.rest i).requests w.writing u;
    size = λ g. size_now g i;
    failures = λ g. failures_now g i;
    content = λ g q. page_of (same_sizes i).page (plain_file plain g) q;
  }

  pub begun_sync : After w plain no_gone (with_core w new) plain
  begun_sync = file_changed w plain c (with_core w new) f tagged_file here refl refl begins.file same_sizes
      (ap (λ x. x.handles) begins.rest) begun_view
      (retag (view w plain) c.good (page_at new)
      (λ g q. ap is_some (page_now g q) ∙ some_now (eqb g f) q (page_at t g q))
      (λ g q x k. bytes_now (eqb g f) q (page_at t g q) x (sym (page_now g q) ∙ k))
      (λ g q. ap dirty (page_now g q) ∙ dirty_now (eqb g f) q (page_at t g q))
      (λ g q. ap writeback (page_now g q) ∙ writeback_now (eqb g f) q (page_at t g q))
      (λ g q k. towrite_now (eqb g f) q (page_at t g q) (c.good.pages g q).towrite
      (sym (ap towrite (page_now g q)) ∙ k))
      (λ g q k. ap towrite (page_now g q) ∙ towrite_more (eqb g f) q (page_at t g q) k))
      (subst (λ (x : State). Tables x.requests w.outcomes w.writing) (sym begins.rest) c.tables)

-- Changes of what is looked up in a state that keep it sound: pages change, requests end or begin, pages take blocks or
-- are cut off.
use Rattle.std.proofs.Common.{◌≡◌, ℕ, ◌+◌, ◌≢◌, Bool, true, false, cond, refl, ap, sym, subst, ◌∙◌, arith, inl, inr}
use Rattle.std.specs.Prelude.{◌⊎◌, Option, Some, None, is_some, option_map}
use Rattle.pc_types.specs.declared.kind.Kind.TheVariants.{Fill, Flush}
use Rattle.std.specs.FinMap as finmap
use Rattle.machine.specs.State.{State, Page, Request, page_at, block_at, tags_of}
use Rattle.machine.specs.Sound.{IsSound}
use Rattle.machine.proofs.steps.Choices.{none_of}

-- what is looked up in a state
pub record Lookups : Type 0 where
  pub page : ℕ → ℕ → Option Page
  pub block : ℕ → ℕ → Option ℕ
  pub request : ℕ → Option Request
  pub next : ℕ

abbrev pub SoundBy : Lookups → Type 0
SoundBy v = IsSound v.page v.block v.request v.next

abbrev pub lookups : State → Lookups
lookups s = record { page = page_at s; block = block_at s; request = finmap.get s.requests; next = s.next }

abbrev pub dirty : Option Page → Bool
dirty page = (tags_of page).dirty

abbrev pub writeback : Option Page → Bool
writeback page = (tags_of page).writeback

abbrev pub towrite : Option Page → Bool
towrite page = (tags_of page).towrite

-- what is sound is sound by any look-ups that find the same
pub same_lookups : (v w : Lookups) → ((f p : ℕ) → w.page f p ≡ v.page f p) → ((f p : ℕ) → w.block f p ≡ v.block f p)
    → ((t : ℕ) → w.request t ≡ v.request t) → w.next ≡ v.next → SoundBy v → SoundBy w
same_lookups v w page block request next ok =
    subst SoundBy (λ i. record {
      page = λ f p. sym (page f p) i;
      block = λ f p. sym (block f p) i;
      request = λ t. sym (request t) i;
      next = sym next i;
    }) ok

-- ---- pages change

-- the tags of a page with this block
pub record TagsFit (block : Option ℕ) (page : Option Page) : Type 0 where
  pub dirty_block : dirty page ≡ true → is_some block ≡ true
  pub writeback_block : writeback page ≡ true → is_some block ≡ true
  pub towrite_dirty : towrite page ≡ true → dirty page ≡ true

pub tags_fit : (v : Lookups) → SoundBy v → (f p : ℕ) → TagsFit (v.block f p) (v.page f p)
tags_fit v ok f p =
    record {
      dirty_block = ok.dirty_block f p;
      writeback_block = ok.writeback_block f p;
      towrite_dirty = ok.towrite_dirty f p;
    }

-- a request in flight that is not dropped, and its page
pub record PageFits (r : Request) (page : Option Page) : Type 0 where
  pub fill : r.kind ≡ Fill → page ≡ None
  pub flush : r.kind ≡ Flush → writeback page ≡ true

pub page_fits : (v : Lookups) → SoundBy v → (t : ℕ) (r : Request) → v.request t ≡ Some r → r.dropped ≡ false
    → PageFits r (v.page r.file r.page)
page_fits v ok t r e d = record { fill = ok.fill t r e d; flush = ok.flush t r e d }

pub pages_change : (v : Lookups) → SoundBy v → (page : ℕ → ℕ → Option Page)
    → ((f p : ℕ) → TagsFit (v.block f p) (page f p))
    → ((t : ℕ) (r : Request) → v.request t ≡ Some r → r.dropped ≡ false → PageFits r (page r.file r.page))
    → SoundBy (record v { page = page })
pages_change v ok page tags requests = record {
  serial = ok.serial;
  mapped = ok.mapped;
  unmapped = ok.unmapped;
  requests_apart = ok.requests_apart;
  spots_apart = ok.spots_apart;
  fill = λ t r e d. (requests t r e d).fill;
  flush = λ t r e d. (requests t r e d).flush;
  dirty_block = λ f p. (tags f p).dirty_block;
  writeback_block = λ f p. (tags f p).writeback_block;
  towrite_dirty = λ f p. (tags f p).towrite_dirty;
}

-- a page whose tags change, but not WRITEBACK
pub record IsRetagged (block : Option ℕ) (old new : Option Page) : Type 0 where
  pub cached : is_some new ≡ is_some old
  pub writeback : writeback new ≡ writeback old
  pub towrite : towrite new ≡ true → dirty new ≡ true
  pub dirty : dirty new ≡ true → is_some block ≡ true

pub not_retagged : (block : Option ℕ) (old new : Option Page) → TagsFit block old → new ≡ old → IsRetagged block old new
not_retagged block old new h e = record {
  cached = ap is_some e;
  writeback = ap writeback e;
  towrite = λ k. ap dirty e ∙ h.towrite_dirty (sym (ap towrite e) ∙ k);
  dirty = λ k. h.dirty_block (sym (ap dirty e) ∙ k);
}

pub pages_retagged : (v : Lookups) → SoundBy v → (page : ℕ → ℕ → Option Page)
    → ((f p : ℕ) → IsRetagged (v.block f p) (v.page f p) (page f p)) → SoundBy (record v { page = page })
pages_retagged v ok page is = pages_change v ok page
    (λ f p. record {
      dirty_block = (is f p).dirty;
      writeback_block = λ e. ok.writeback_block f p (sym (is f p).writeback ∙ e);
      towrite_dirty = (is f p).towrite;
    })
    (λ t r e d. record {
      fill =
          λ k. none_of (page r.file r.page) ((is r.file r.page).cached ∙ ap is_some (ok.fill t r e d k));
      flush = λ k. (is r.file r.page).writeback ∙ ok.flush t r e d k;
    })

-- ---- requests end

pub requests_end : (v : Lookups) → SoundBy v → (request : ℕ → Option Request)
    → ((t : ℕ) (r : Request) → request t ≡ Some r → v.request t ≡ Some r) → SoundBy (record v { request = request })
requests_end v ok request was = record {
  serial = λ t r e. ok.serial t r (was t r e);
  mapped = λ t r e. ok.mapped t r (was t r e);
  unmapped = λ t r e. ok.unmapped t r (was t r e);
  requests_apart = λ t u r s e k. ok.requests_apart t u r s (was t r e) (was u s k);
  spots_apart = ok.spots_apart;
  fill = λ t r e. ok.fill t r (was t r e);
  flush = λ t r e. ok.flush t r (was t r e);
  dirty_block = ok.dirty_block;
  writeback_block = ok.writeback_block;
  towrite_dirty = ok.towrite_dirty;
}

-- ---- who has a block

-- at most one request in flight of a page is not dropped
pub one_request : (v : Lookups) → SoundBy v → (t u : ℕ) (r s : Request) → v.request t ≡ Some r → v.request u ≡ Some s
    → r.dropped ≡ false → s.dropped ≡ false → r.file ≡ s.file → r.page ≡ s.page → t ≡ u
one_request v ok t u r s e k d c f p =
    ok.requests_apart t u r s e k (let a = ok.mapped t r e d in let b = ok.mapped u s k c in
    let same : v.block r.file r.page ≡ v.block s.file s.page = (λ i. v.block (f i) (p i)) in cc)

-- a request that has the block of a page is of that page, and not dropped
pub record IsOf (r : Request) (f p : ℕ) : Type 0 where
  pub live : r.dropped ≡ false
  pub file : r.file ≡ f
  pub page : r.page ≡ p

pub has_page : (v : Lookups) → SoundBy v → (t : ℕ) (r : Request) (f p : ℕ) → v.request t ≡ Some r
    → v.block f p ≡ Some r.block → IsOf r f p
has_page v ok t r f p e b = elim r.dropped as (λ d. r.dropped ≡ d → IsOf r f p) [
  | true ↦ λ d. absurd (ok.unmapped t r e d f p b)
  | false ↦ λ d. (let same = ok.spots_apart r.file r.page f p r.block (ok.mapped t r e d) b in
      record { live = d; file = same.0; page = same.1 })
] refl

-- no request in flight has the block of a page that is not filling nor under WRITEBACK
pub unheld_block : (v : Lookups) → SoundBy v → (f p b : ℕ) → v.block f p ≡ Some b
    → ((t : ℕ) (r : Request) → v.request t ≡ Some r → IsOf r f p → r.kind ≡ Fill → ⊥) → writeback (v.page f p) ≡ false
    → (t : ℕ) (r : Request) → v.request t ≡ Some r → r.block ≢ b
unheld_block v ok f p b has no_fill idle t r e same =
    let of = has_page v ok t r f p e (has ∙ ap Some (sym same)) in
    elim r.kind as (λ k. r.kind ≡ k → ⊥) [
      | Fill ↦ no_fill t r e of
      | Flush ↦ λ k. let set = ok.flush t r e of.live k in
          let here : writeback (v.page r.file r.page) ≡ writeback (v.page f p) =
          (λ i. writeback (v.page (of.file i) (of.page i))) in cc
    ] refl

-- ---- a request begins

module _ (v : Lookups) (ok : SoundBy v) (new : Request) (live : new.dropped ≡ false)
    (has : v.block new.file new.page ≡ Some new.block) (fits : PageFits new (v.page new.file new.page))
    (free : (t : ℕ) (r : Request) → v.request t ≡ Some r → r.block ≢ new.block)
    (request : ℕ → Option Request) (was : (t : ℕ) (r : Request) → request t ≡ Some r → ((t ≡ v.next) × (r ≡ new))
    ⊎ (v.request t ≡ Some r)) where
  begun_apart : (t u : ℕ) (r s : Request) → request t ≡ Some r → request u ≡ Some s → r.block ≡ s.block → t ≡ u
  begun_apart t u r s e k b = elim (was t r e) [
    | inl h ↦ elim (was u s k) [
      | inl j ↦ h.0 ∙ sym j.0
      | inr j ↦ absurd (free u s j (sym b ∙ ap (λ (x : Request). x.block) h.1))
    ]
    | inr h ↦ elim (was u s k) [
      | inl j ↦ absurd (free t r h (b ∙ ap (λ (x : Request). x.block) j.1))
      | inr j ↦ ok.requests_apart t u r s h j b
    ]
  ]

  of_new : (P : Request → Type 0) (r : Request) → r ≡ new → P new → P r
  of_new P r e h = subst P (sym e) h

  pub request_begins : SoundBy (record v { request = request; next = v.next + 1 })
  request_begins = record {
    serial =
        λ t r e. elim (was t r e) [
          | inl h ↦ (let a = h.0 in omega arith)
          | inr h ↦ (let a = ok.serial t r h in omega arith)
        ];
    mapped = λ t r e d. elim (was t r e) [
      | inl h ↦ of_new (λ x. v.block x.file x.page ≡ Some x.block) r h.1 has
      | inr h ↦ ok.mapped t r h d
    ];
    unmapped = λ t r e d. elim (was t r e) [
      | inl h ↦ absurd (let a = ap (λ (x : Request). x.dropped) h.1 in cc)
      | inr h ↦ ok.unmapped t r h d
    ];
    requests_apart = begun_apart;
    spots_apart = ok.spots_apart;
    fill = λ t r e d. elim (was t r e) [
      | inl h ↦ (of_new (λ x. PageFits x (v.page x.file x.page)) r h.1 fits).fill
      | inr h ↦ ok.fill t r h d
    ];
    flush = λ t r e d. elim (was t r e) [
      | inl h ↦ (of_new (λ x. PageFits x (v.page x.file x.page)) r h.1 fits).flush
      | inr h ↦ ok.flush t r h d
    ];
    dirty_block = ok.dirty_block;
    writeback_block = ok.writeback_block;
    towrite_dirty = ok.towrite_dirty;
  }

-- ---- pages take blocks

-- the page had no block and takes one that was free
pub record Takes (v : Lookups) (f p b : ℕ) : Type 0 where
  pub none : v.block f p ≡ None
  pub no_page : (g q : ℕ) → v.block g q ≢ Some b
  pub no_request : (t : ℕ) (r : Request) → v.request t ≡ Some r → r.block ≢ b

module _ (v : Lookups) (ok : SoundBy v) (block : ℕ → ℕ → Option ℕ)
    (stays : (f p b : ℕ) → v.block f p ≡ Some b → block f p ≡ Some b)
    (was : (f p b : ℕ) → block f p ≡ Some b → (v.block f p ≡ Some b) ⊎ Takes v f p b)
    (takers_apart : (f p g q b : ℕ) → Takes v f p b → Takes v g q b → block f p ≡ Some b → block g q ≡ Some b
    → (f ≡ g) × (p ≡ q)) where
  still : (f p : ℕ) → is_some (v.block f p) ≡ true → is_some (block f p) ≡ true
  still f p e = go (v.block f p) refl e
    where
      go : (o : Option ℕ) → v.block f p ≡ o → is_some o ≡ true → is_some (block f p) ≡ true
      go None k e = absurd cc
      go (Some b) k e = ap is_some (stays f p b k)

  pub blocks_taken : SoundBy (record v { block = block })
  blocks_taken = record {
    serial = ok.serial;
    mapped = λ t r e d. stays r.file r.page r.block (ok.mapped t r e d);
    unmapped =
        λ t r e d f p k. elim (was f p r.block k)
        [ inl h ↦ ok.unmapped t r e d f p h | inr h ↦ h.no_request t r e refl ];
    requests_apart = ok.requests_apart;
    spots_apart = λ f p g q b e k. elim (was f p b e) [
      | inl h ↦ elim (was g q b k) [ inl j ↦ ok.spots_apart f p g q b h j | inr j ↦ absurd (j.no_page f p h) ]
      | inr h ↦ elim (was g q b k) [ inl j ↦ absurd (h.no_page g q j) | inr j ↦ takers_apart f p g q b h j e k ]
    ];
    fill = ok.fill;
    flush = ok.flush;
    dirty_block = λ f p e. still f p (ok.dirty_block f p e);
    writeback_block = λ f p e. still f p (ok.writeback_block f p e);
    towrite_dirty = ok.towrite_dirty;
  }

-- ---- pages are cut off

-- a request after the pages where `gone` holds are cut off
pub record IsAfterCut (gone : ℕ → ℕ → Bool) (old new : Request) : Type 0 where
  pub kind : new.kind ≡ old.kind
  pub file : new.file ≡ old.file
  pub page : new.page ≡ old.page
  pub block : new.block ≡ old.block
  pub dropped : gone old.file old.page ≡ true → new.dropped ≡ true
  pub as_was : gone old.file old.page ≡ false → new.dropped ≡ old.dropped

at_cut : {A : Type 0} (b : Bool) (o : Option A) (x : A) → cond b None o ≡ Some x → (b ≡ false) × (o ≡ Some x)
at_cut true o x e = absurd cc
at_cut false o x e = (refl, e)

not_cut : {A : Type 0} (b : Bool) (o : Option A) → b ≡ false → cond b None o ≡ o
not_cut true o e = absurd cc
not_cut false o e = refl

tag_at_cut : (tag : Option Page → Bool) (b : Bool) (o : Option Page) → tag None ≡ false → tag (cond b None o) ≡ true
    → (b ≡ false) × (tag o ≡ true)
tag_at_cut tag true o none e = absurd cc
tag_at_cut tag false o none e = (refl, e)

abbrev pub cut : Lookups → (ℕ → ℕ → Bool) → (Request → Request) → Lookups
cut v gone after =
    record {
      page = λ f p. cond (gone f p) None (v.page f p);
      block = λ f p. cond (gone f p) None (v.block f p);
      request = λ t. option_map after (v.request t);
      next = v.next;
    }

module _ (v : Lookups) (ok : SoundBy v) (gone : ℕ → ℕ → Bool) (after : Request → Request)
    (is : (r : Request) → IsAfterCut gone r (after r)) where
  abbrev left : Lookups
  left = cut v gone after

  request_was : (t : ℕ) (r : Request) → left.request t ≡ Some r
      → (old : Request) × (v.request t ≡ Some old) × (r ≡ after old)
  request_was t r e = go (v.request t) refl e
    where
      go : (o : Option Request) → v.request t ≡ o → option_map after o ≡ Some r
          → (old : Request) × (v.request t ≡ Some old) × (r ≡ after old)
      go None k e = absurd cc
      go (Some old) k e = (old, k, (let a : after old ≡ r = cc in sym a))

  -- a request that is not dropped is of a page that stays
  record Stays (t : ℕ) (r : Request) : Type 0 where
    pub old : Request
    pub was : v.request t ≡ Some old
    pub live : old.dropped ≡ false
    pub kept : gone r.file r.page ≡ false
    pub kind : r.kind ≡ old.kind
    pub file : r.file ≡ old.file
    pub page : r.page ≡ old.page
    pub block : r.block ≡ old.block

  request_stays : (t : ℕ) (r : Request) → left.request t ≡ Some r → r.dropped ≡ false → Stays t r
  request_stays t r e d =
      let w = request_was t r e in
      let h = is w.0 in
      let dropped : r.dropped ≡ (after w.0).dropped = ap (λ (x : Request). x.dropped) w.2 in
      let file : r.file ≡ w.0.file = ap (λ (x : Request). x.file) w.2 ∙ h.file in
      let page : r.page ≡ w.0.page = ap (λ (x : Request). x.page) w.2 ∙ h.page in
      elim (gone w.0.file w.0.page) as (λ b. gone w.0.file w.0.page ≡ b → Stays t r) [
        | true ↦ λ b. absurd (let a = h.dropped b in cc)
        | false ↦ λ b. record {
          old = w.0;
          was = w.1;
          live = sym (h.as_was b) ∙ sym dropped ∙ d;
          kept = (λ i. gone (file i) (page i)) ∙ b;
          kind = ap (λ (x : Request). x.kind) w.2 ∙ h.kind;
          file = file;
          page = page;
          block = ap (λ (x : Request). x.block) w.2 ∙ h.block;
        }
      ] refl

  block_was : (t : ℕ) (r : Request) → left.request t ≡ Some r
      → (old : Request) × (v.request t ≡ Some old) × (r.block ≡ old.block)
  block_was t r e = let w = request_was t r e in (w.0, w.1, ap (λ (x : Request). x.block) w.2 ∙ (is w.0).block)

  -- the block of a request that is dropped is no page's that stays
  cut_unmapped : (t : ℕ) (r : Request) → left.request t ≡ Some r → r.dropped ≡ true → (f p : ℕ)
      → left.block f p ≢ Some r.block
  cut_unmapped t r e d f p k =
      let w = request_was t r e in
      let h = is w.0 in
      let c = at_cut (gone f p) (v.block f p) r.block k in
      let of = has_page v ok t w.0 f p w.1 (c.1 ∙ ap (λ (x : Request). Some x.block) w.2 ∙ ap Some h.block) in
      let kept : gone w.0.file w.0.page ≡ false = (λ i. gone (of.file i) (of.page i)) ∙ c.0 in
      let a = h.as_was kept in
      let b : r.dropped ≡ (after w.0).dropped = ap (λ (x : Request). x.dropped) w.2 in
      let live = of.live in cc

  pub pages_cut : SoundBy (cut v gone after)
  pages_cut = record {
    serial = λ t r e. let w = request_was t r e in ok.serial t w.0 w.1;
    mapped = λ t r e d. let s = request_stays t r e d in not_cut (gone r.file r.page) _ s.kept
        ∙ (λ i. v.block (s.file i) (s.page i)) ∙ ok.mapped t s.old s.was s.live ∙ ap Some (sym s.block);
    unmapped = cut_unmapped;
    requests_apart = λ t u r s e k b. let i = block_was t r e in let j = block_was u s k in
        ok.requests_apart t u i.0 j.0 i.1 j.1 (sym i.2 ∙ b ∙ j.2);
    spots_apart = λ f p g q b e k. ok.spots_apart f p g q b (at_cut (gone f p) (v.block f p) b e).1
        (at_cut (gone g q) (v.block g q) b k).1;
    fill = λ t r e d k. let s = request_stays t r e d in not_cut (gone r.file r.page) _ s.kept
        ∙ (λ i. v.page (s.file i) (s.page i)) ∙ ok.fill t s.old s.was s.live (sym s.kind ∙ k);
    flush = λ t r e d k. let s = request_stays t r e d in
        ap writeback (not_cut (gone r.file r.page) _ s.kept ∙ (λ i. v.page (s.file i) (s.page i)))
        ∙ ok.flush t s.old s.was s.live (sym s.kind ∙ k);
    dirty_block = λ f p e. let c = tag_at_cut dirty (gone f p) (v.page f p) refl e in
        ap is_some (not_cut (gone f p) (v.block f p) c.0) ∙ ok.dirty_block f p c.1;
    writeback_block = λ f p e. let c = tag_at_cut writeback (gone f p) (v.page f p) refl e in
        ap is_some (not_cut (gone f p) (v.block f p) c.0) ∙ ok.writeback_block f p c.1;
    towrite_dirty = λ f p e. let c = tag_at_cut towrite (gone f p) (v.page f p) refl e in
        ap dirty (not_cut (gone f p) (v.page f p) c.0) ∙ ok.towrite_dirty f p c.1;
  }

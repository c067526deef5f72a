-- A world and its plain files, as look-ups alone, and what holds of them always.
use Rattle.std.proofs.Common.{◌≡◌, ℕ, ◌+◌, ◌<◌, ◌≤◌, ◌≢◌, Bool, true, false, cond, eqb, eqb-true, eq-eqb, List}
use Rattle.std.proofs.Common.{length, refl, ap, sym, ◌∙◌, arith, inl, inr, subst}
use Rattle.std.specs.Prelude.{◌&&◌, ◌⊎◌, Option, Some, None, is_some, option_map, unwrap_or, nat_lt}
use Rattle.std.proofs.lemmas.Bool.{false≢true}
use Rattle.machine.specs.State.{Page, page_count, tags_of}
use Rattle.pc_types.specs.Spots.{Spot, shown}
use Rattle.pc_types.specs.declared.kind.Kind.{Kind}
use Rattle.pc_types.specs.declared.kind.Kind.TheVariants.{Fill, Flush}
use Rattle.machine.specs.declared.event.Outcome.{Outcome}
use Rattle.machine.specs.declared.event.Outcome.TheVariants as outcome

-- a request in flight, with the bytes that it writes: those of its page as it began
pub record Flight : Type 0 where
  pub kind : Kind
  pub file : ℕ
  pub page : ℕ
  pub block : ℕ
  pub bytes : List ℕ
  pub dropped : Bool

pub record View : Type 0 where
  pub page_size : ℕ
  pub blocks : ℕ
  pub next : ℕ
  pub page : ℕ → ℕ → Option Page
  pub spot : ℕ → ℕ → Option Spot
  pub request : ℕ → Option Flight
  pub outcome : ℕ → Option Outcome
  pub block : ℕ → List ℕ
  pub size : ℕ → ℕ
  pub failures : ℕ → ℕ
  pub content : ℕ → ℕ → List ℕ

-- ---- one value changed

unfoldable pub put1 : {A : Type 0} → (ℕ → A) → ℕ → A → ℕ → A
put1 m t x u = cond (eqb u t) x (m u)

unfoldable pub put2 : {A : Type 0} → (ℕ → ℕ → A) → ℕ → ℕ → A → ℕ → ℕ → A
put2 m f p x g q = cond (eqb g f && eqb q p) x (m g q)

pub put1_tells : {A : Type 0} (m : ℕ → A) (t : ℕ) (x : A) (u : ℕ) → ((u ≡ t) × (put1 m t x u ≡ x))
    ⊎ ((u ≢ t) × (put1 m t x u ≡ m u))
unfolding put1
put1_tells m t x u =
    elim (eqb u t) as (λ b. eqb u t ≡ b → ((u ≡ t) × (cond b x (m u) ≡ x)) ⊎ ((u ≢ t) × (cond b x (m u) ≡ m u))) [
      | true ↦ λ e. inl (eqb-true u t e, refl)
      | false ↦ λ e. inr ((λ s. false≢true (sym e ∙ eq-eqb u t s)), refl)
    ] refl

pub put2_tells : {A : Type 0} (m : ℕ → ℕ → A) (f p : ℕ) (x : A) (g q : ℕ) → ((g ≡ f) × (q ≡ p) × (put2 m f p x g q ≡ x))
    ⊎ (((g ≡ f) → (q ≡ p) → ⊥) × (put2 m f p x g q ≡ m g q))
unfolding put2
put2_tells m f p x g q =
    elim (eqb g f) as (λ b. eqb g f ≡ b → ((g ≡ f) × (q ≡ p) × (cond (b && eqb q p) x (m g q) ≡ x))
    ⊎ (((g ≡ f) → (q ≡ p) → ⊥) × (cond (b && eqb q p) x (m g q) ≡ m g q))) [
      | true ↦ λ e. elim (eqb q p) as (λ c. eqb q p ≡ c → ((g ≡ f) × (q ≡ p) × (cond c x (m g q) ≡ x))
          ⊎ (((g ≡ f) → (q ≡ p) → ⊥) × (cond c x (m g q) ≡ m g q))) [
            | true ↦ λ k. inl (eqb-true g f e, eqb-true q p k, refl)
            | false ↦ λ k. inr ((λ _ s. false≢true (sym k ∙ eq-eqb q p s)), refl)
          ] refl
      | false ↦ λ e. inr ((λ s _. false≢true (sym e ∙ eq-eqb g f s)), refl)
    ] refl

-- ---- what is read off a page and a spot

abbrev pub dirty : Option Page → Bool
dirty page = (tags_of page).dirty

abbrev pub writeback : Option Page → Bool
writeback page = (tags_of page).writeback

abbrev pub towrite : Option Page → Bool
towrite page = (tags_of page).towrite

abbrev pub block_of : Option Spot → ℕ
block_of spot = unwrap_or (option_map (λ s. s.block) spot) 0

abbrev pub valid_of : Option Spot → ℕ
valid_of spot = unwrap_or (option_map (λ s. s.valid) spot) 0

abbrev pub is_valid : Option Spot → Bool
is_valid spot = nat_lt 0 (valid_of spot)

-- no block, or one with bytes of the page
abbrev pub settled : Option Spot → Bool
settled None = true
settled (Some spot) = nat_lt 0 spot.valid

abbrev pub held_by : (ℕ → List ℕ) → ℕ → Option Spot → List ℕ
held_by block P spot = shown P (valid_of spot) (block (block_of spot))

abbrev pub held : View → ℕ → ℕ → List ℕ
held v f p = held_by v.block v.page_size (v.spot f p)

-- the block shows these bytes, or a part of it is valid and they are all of it
abbrev pub HoldsBy : (ℕ → List ℕ) → ℕ → Option Spot → List ℕ → Type 0
HoldsBy block P spot bytes = (held_by block P spot ≡ bytes)
    ⊎ ((0 < valid_of spot) × (valid_of spot < P) × (block (block_of spot) ≡ bytes))

abbrev pub Holds : View → ℕ → ℕ → List ℕ → Type 0
Holds v f p bytes = HoldsBy v.block v.page_size (v.spot f p) bytes

-- ---- what holds always

pub record PageIs (content held : List ℕ) (spot : Option Spot) (page : Option Page) : Type 0 where
  pub bytes : (x : Page) → page ≡ Some x → x.bytes ≡ content
  pub towrite : towrite page ≡ true → dirty page ≡ true
  pub dirty_block : dirty page ≡ true → is_some spot ≡ true
  pub writeback_block : writeback page ≡ true → is_some spot ≡ true
  pub clean : dirty page ≡ false → writeback page ≡ false → held ≡ content
  pub clean_block : dirty page ≡ false → writeback page ≡ false → settled spot ≡ true

pub record FillIs (P : ℕ) (spot : Option Spot) (page : Option Page) (content : List ℕ) (out : Option Outcome)
    (r : Flight) : Type 0 where
  pub mapped : option_map (λ s. s.block) spot ≡ Some r.block
  pub valid : is_valid spot ≡ true
  pub absent : page ≡ None
  pub noted : (bytes : List ℕ) → out ≡ Some (outcome.Read bytes) → shown P (valid_of spot) bytes ≡ content

pub record FlushIs (spot : Option Spot) (page : Option Page) (content : List ℕ) (out : Option Outcome) (block : List ℕ)
    (r : Flight) : Type 0 where
  pub mapped : option_map (λ s. s.block) spot ≡ Some r.block
  pub writeback : writeback page ≡ true
  pub clean : dirty page ≡ false → r.bytes ≡ content
  pub noted : out ≡ Some outcome.Written → block ≡ r.bytes

pub record RequestIs (v : View) (t : ℕ) (r : Flight) : Type 0 where
  pub serial : t < v.next
  pub block : r.block < v.blocks
  pub bytes : r.kind ≡ Flush → length r.bytes ≡ v.page_size
  pub fill : r.dropped ≡ false → r.kind ≡ Fill
      → FillIs v.page_size (v.spot r.file r.page) (v.page r.file r.page) (v.content r.file r.page) (v.outcome t) r
  pub flush : r.dropped ≡ false → r.kind ≡ Flush
      → FlushIs (v.spot r.file r.page) (v.page r.file r.page) (v.content r.file r.page) (v.outcome t) (v.block r.block)
      r
  pub dead : r.dropped ≡ true → (g q : ℕ) (s : Spot) → v.spot g q ≡ Some s → s.block ≢ r.block

-- a write of the page is in flight
pub record HasFlush (v : View) (f p : ℕ) : Type 0 where
  pub serial : ℕ
  pub request : Flight
  pub is : v.request serial ≡ Some request
  pub kind : request.kind ≡ Flush
  pub live : request.dropped ≡ false
  pub file : request.file ≡ f
  pub page : request.page ≡ p

pub record Good (v : View) : Type 0 where
  pub positive : 0 < v.page_size
  pub pages : (f p : ℕ) → PageIs (v.content f p) (held v f p) (v.spot f p) (v.page f p)
  pub page_in : (f p : ℕ) → is_some (v.page f p) ≡ true → p < page_count v.page_size (v.size f)
  pub spot_in : (f p : ℕ) → is_some (v.spot f p) ≡ true → p < page_count v.page_size (v.size f)
  pub spot_block : (f p : ℕ) (s : Spot) → v.spot f p ≡ Some s → s.block < v.blocks
  pub spot_valid : (f p : ℕ) (s : Spot) → v.spot f p ≡ Some s → s.valid ≤ v.page_size
  pub spots_apart : (f p g q : ℕ) (s t : Spot) → v.spot f p ≡ Some s → v.spot g q ≡ Some t → s.block ≡ t.block
      → (f ≡ g) × (p ≡ q)
  pub requests : (t : ℕ) (r : Flight) → v.request t ≡ Some r → RequestIs v t r
  pub requests_apart : (t u : ℕ) (r s : Flight) → v.request t ≡ Some r → v.request u ≡ Some s → r.block ≡ s.block
      → t ≡ u
  pub flushes : (f p : ℕ) → writeback (v.page f p) ≡ true → HasFlush v f p
  pub outcomes : (t : ℕ) → is_some (v.outcome t) ≡ true → is_some (v.request t) ≡ true
  pub block_sizes : (b : ℕ) → b < v.blocks → length (v.block b) ≡ v.page_size

-- ---- what follows at once

pub put1_at : {A : Type 0} (m : ℕ → A) (t : ℕ) (x : A) (u : ℕ) → u ≡ t → put1 m t x u ≡ x
put1_at m t x u e = elim (put1_tells m t x u) [ inl h ↦ h.1 | inr h ↦ absurd (h.0 e) ]

pub put1_here : {A : Type 0} (m : ℕ → A) (t : ℕ) (x : A) → put1 m t x t ≡ x
put1_here m t x = put1_at m t x t refl

pub put2_here : {A : Type 0} (m : ℕ → ℕ → A) (f p : ℕ) (x : A) → put2 m f p x f p ≡ x
put2_here m f p x = elim (put2_tells m f p x f p) [ inl h ↦ h.2 | inr h ↦ absurd (h.0 refl refl) ]

pub put2_else : {A : Type 0} (m : ℕ → ℕ → A) (f p : ℕ) (x : A) (g q : ℕ) → ((g ≡ f) → (q ≡ p) → ⊥)
    → put2 m f p x g q ≡ m g q
put2_else m f p x g q n = elim (put2_tells m f p x g q) [ inl h ↦ absurd (n h.0 h.1) | inr h ↦ h.1 ]

pub put1_else : {A : Type 0} (m : ℕ → A) (t : ℕ) (x : A) (u : ℕ) → u ≢ t → put1 m t x u ≡ m u
put1_else m t x u n = elim (put1_tells m t x u) [ inl h ↦ absurd (n h.0) | inr h ↦ h.1 ]

pub spot_of : (o : Option Spot) (b : ℕ) → option_map (λ s. s.block) o ≡ Some b
    → (x : Spot) × (o ≡ Some x) × (x.block ≡ b)
spot_of None b e = absurd cc
spot_of (Some x) b e = (x, refl, cc)

module _ (v : View) (ok : Good v) where
  pub fresh : v.request v.next ≡ None
  fresh = elim (v.request v.next) as (λ o. v.request v.next ≡ o → o ≡ None)
      [ None ↦ λ _. refl | Some r ↦ λ e. absurd (let h = (ok.requests v.next r e).serial in omega arith) ] refl

  pub no_outcome : v.outcome v.next ≡ None
  no_outcome = let none = fresh in
      elim (v.outcome v.next) as (λ o. v.outcome v.next ≡ o → o ≡ None)
      [ None ↦ λ _. refl | Some x ↦ λ e. let some = ok.outcomes v.next (ap is_some e) in absurd cc ] refl

  pub live_spot : (t : ℕ) (r : Flight) → v.request t ≡ Some r → r.dropped ≡ false
      → option_map (λ s. s.block) (v.spot r.file r.page) ≡ Some r.block
  live_spot t r e d = elim r.kind as (λ k. r.kind ≡ k → option_map (λ s. s.block) (v.spot r.file r.page) ≡ Some r.block) [
    | Fill ↦ λ k. ((ok.requests t r e).fill d k).mapped
    | Flush ↦ λ k. ((ok.requests t r e).flush d k).mapped
  ] refl

  -- who has a page's block in flight has that page
  pub block_user : (t : ℕ) (r : Flight) (f p : ℕ) (x : Spot) → v.request t ≡ Some r → v.spot f p ≡ Some x
      → x.block ≡ r.block → (r.dropped ≡ false) × (f ≡ r.file) × (p ≡ r.page)
  block_user t r f p x e m b = elim r.dropped as (λ d. r.dropped ≡ d → (d ≡ false) × (f ≡ r.file) × (p ≡ r.page)) [
    | true ↦ λ d. absurd ((ok.requests t r e).dead d f p x m b)
    | false ↦ λ d. let s = spot_of _ _ (live_spot t r e d) in
        let same = ok.spots_apart f p r.file r.page x s.0 m s.1 (b ∙ sym s.2) in (refl, same.0, same.1)
  ] refl

  -- at most one request of a page that is not dropped
  pub one_request : (t u : ℕ) (r s : Flight) → v.request t ≡ Some r → v.request u ≡ Some s → r.dropped ≡ false
      → s.dropped ≡ false → r.file ≡ s.file → r.page ≡ s.page → t ≡ u
  one_request t u r s e k d c f p =
      ok.requests_apart t u r s e k (let a = live_spot t r e d in let b = live_spot u s k c in cc)

-- ---- what a step does to pages that a sync looks after

-- the device has the bytes of a write that was in flight
pub record WasFlushed (v w : View) (f p : ℕ) : Type 0 where
  pub serial : ℕ
  pub request : Flight
  pub is : v.request serial ≡ Some request
  pub kind : request.kind ≡ Flush
  pub live : request.dropped ≡ false
  pub file : request.file ≡ f
  pub page : request.page ≡ p
  pub bytes : Holds w f p request.bytes

-- a write of the page was started
pub record IsStarted (v w : View) (f p : ℕ) : Type 0 where
  pub serial : ℕ
  pub request : Flight
  pub fresh_serial : v.request serial ≡ None
  pub is : w.request serial ≡ Some request
  pub kind : request.kind ≡ Flush
  pub live : request.dropped ≡ false
  pub file : request.file ≡ f
  pub page : request.page ≡ p
  pub bytes : request.bytes ≡ v.content f p

-- a write of a DIRTY page begins, with its bytes
pub record Begins (v : View) (t : ℕ) (r : Flight) : Type 0 where
  pub fresh_serial : v.request t ≡ None
  pub was_dirty : dirty (v.page r.file r.page) ≡ true
  pub bytes : r.bytes ≡ v.content r.file r.page

pub record Evolves (gone : ℕ → ℕ → Bool) (v w : View) : Type 0 where
  pub on_device : (f p : ℕ) → gone f p ≡ false → (bytes : List ℕ) → Holds v f p bytes
      → Holds w f p bytes ⊎ WasFlushed v w f p
  pub from : (t : ℕ) (r : Flight) → w.request t ≡ Some r → r.kind ≡ Flush → r.dropped ≡ false → (v.request t ≡ Some r)
      ⊎ Begins v t r
  pub flush : (t : ℕ) (r : Flight) → v.request t ≡ Some r → r.kind ≡ Flush → r.dropped ≡ false
      → gone r.file r.page ≡ false → (w.request t ≡ Some r)
      ⊎ ((w.failures r.file ≡ v.failures r.file + 1) ⊎ ((w.request t ≡ None) × (held w r.file r.page ≡ r.bytes)))
  pub to_write : (f p : ℕ) → gone f p ≡ false → towrite (v.page f p) ≡ true → (towrite (w.page f p) ≡ true)
      ⊎ IsStarted v w f p
  pub failures : (f : ℕ) → v.failures f ≤ w.failures f
  pub same_size : w.page_size ≡ v.page_size

abbrev pub no_gone : ℕ → ℕ → Bool
no_gone f p = false

-- w keeps what holds always, and evolves from v
abbrev pub Goes : (ℕ → ℕ → Bool) → View → View → Type 0
Goes gone v w = Good w × Evolves gone v w

-- no write starts, ends or takes effect
pub quietly_evolves : (gone : ℕ → ℕ → Bool) (v w : View)
    → ((f p : ℕ) → gone f p ≡ false → (bytes : List ℕ) → Holds v f p bytes → Holds w f p bytes)
    → ((t : ℕ) (r : Flight) → w.request t ≡ Some r → r.kind ≡ Flush → r.dropped ≡ false → v.request t ≡ Some r)
    → ((t : ℕ) (r : Flight) → v.request t ≡ Some r → r.kind ≡ Flush → r.dropped ≡ false → gone r.file r.page ≡ false
    → w.request t ≡ Some r) → ((f p : ℕ) → gone f p ≡ false → towrite (v.page f p) ≡ true
    → towrite (w.page f p) ≡ true) → ((f : ℕ) → w.failures f ≡ v.failures f) → w.page_size ≡ v.page_size
    → Evolves gone v w
quietly_evolves gone v w same new old tags count size = record {
  on_device = λ f p g b h. inl (same f p g b h);
  from = λ t r e k d. inl (new t r e k d);
  flush = λ t r e k d g. inl (old t r e k d g);
  to_write = λ f p g e. inl (tags f p g e);
  failures = λ f. let a = count f in omega arith;
  same_size = size;
}

pub stays : (gone : ℕ → ℕ → Bool) (v : View) → Evolves gone v v
stays gone v = quietly_evolves gone v v (λ f p g b h. h) (λ t r e k d. e) (λ t r e k d g. e) (λ f p g e. e) (λ f. refl)
    refl

-- a write in flight whose request stays
pub still_flying : (v w : View) (f p : ℕ) (j : HasFlush v f p) → w.request j.serial ≡ v.request j.serial
    → HasFlush w f p
still_flying v w f p j e = search (e ∙ j.is)

-- a change of pages, of requests and of what is noted of them
abbrev pub changed : View → (ℕ → ℕ → Option Page) → (ℕ → Option Flight) → (ℕ → Option Outcome) → ℕ → (ℕ → ℕ) → View
changed v page request outcome next failures =
    record v { page = page; request = request; outcome = outcome; next = next; failures = failures }

-- a request in flight needs of its page and its outcome what it needed before
pub request_stays : (v : View) (page : ℕ → ℕ → Option Page) (request : ℕ → Option Flight) (outcome : ℕ → Option Outcome)
    (next : ℕ) (failures : ℕ → ℕ) (t : ℕ) (r : Flight) → RequestIs v t r → t < next → outcome t ≡ v.outcome t
    → (r.dropped ≡ false → r.kind ≡ Fill → page r.file r.page ≡ v.page r.file r.page)
    → (r.dropped ≡ false → r.kind ≡ Flush → page r.file r.page ≡ v.page r.file r.page)
    → RequestIs (changed v page request outcome next failures) t r
request_stays v page request outcome next failures t r old serial call fills flushes = record {
  serial = serial;
  block = old.block;
  bytes = old.bytes;
  fill = λ d k. let h = old.fill d k in
      record {
        mapped = h.mapped;
        valid = h.valid;
        absent = fills d k ∙ h.absent;
        noted = λ bytes o. h.noted bytes (sym call ∙ o);
      };
  flush = λ d k. let h = old.flush d k in let same = flushes d k in
      record {
        mapped = h.mapped;
        writeback = ap writeback same ∙ h.writeback;
        clean = λ c. h.clean (sym (ap dirty same) ∙ c);
        noted = λ o. h.noted (sym call ∙ o);
      };
  dead = old.dead;
}

-- what has to be shown of it
pub good_after : (v : View) → Good v
    → (page : ℕ → ℕ → Option Page) (request : ℕ → Option Flight) (outcome : ℕ → Option Outcome) (next : ℕ)
    (failures : ℕ → ℕ)
    → ((f p : ℕ) → PageIs (v.content f p) (held v f p) (v.spot f p) (page f p))
    → ((f p : ℕ) → is_some (page f p) ≡ true → p < page_count v.page_size (v.size f))
    → ((t : ℕ) (r : Flight) → request t ≡ Some r → RequestIs (changed v page request outcome next failures) t r)
    → ((t u : ℕ) (r s : Flight) → request t ≡ Some r → request u ≡ Some s → r.block ≡ s.block → t ≡ u)
    → ((f p : ℕ) → writeback (page f p) ≡ true → HasFlush (changed v page request outcome next failures) f p)
    → ((t : ℕ) → is_some (outcome t) ≡ true → is_some (request t) ≡ true)
    → Good (changed v page request outcome next failures)
good_after v ok page request outcome next failures pages page_in requests requests_apart flushes outcomes =
    assumption

-- one page changes
pub one_page : (v : View) → Good v → (f p : ℕ) (x : Option Page) → PageIs (v.content f p) (held v f p) (v.spot f p) x
    → (g q : ℕ) → PageIs (v.content g q) (held v g q) (v.spot g q) (put2 v.page f p x g q)
one_page v ok f p x is g q = elim (put2_tells v.page f p x g q) [
  | inl h ↦ subst (PageIs (v.content g q) (held v g q) (v.spot g q)) (sym h.2)
      (subst (λ k. PageIs (v.content k q) (held v k q) (v.spot k q) x) (sym h.0)
      (subst (λ k. PageIs (v.content f k) (held v f k) (v.spot f k) x) (sym h.1) is))
  | inr h ↦ subst (PageIs (v.content g q) (held v g q) (v.spot g q)) (sym h.1) (ok.pages g q)
]

-- one cached page changes, or an absent page that may be cached
pub one_page_in : (v : View) → Good v → (f p : ℕ) (x : Option Page)
    → (is_some x ≡ true → p < page_count v.page_size (v.size f)) → (g q : ℕ) → is_some (put2 v.page f p x g q) ≡ true
    → q < page_count v.page_size (v.size g)
one_page_in v ok f p x within g q e = elim (put2_tells v.page f p x g q) [
  | inl h ↦ subst (λ k. q < page_count v.page_size (v.size k)) (sym h.0)
      (subst (λ k. k < page_count v.page_size (v.size f)) (sym h.1) (within (sym (ap is_some h.2) ∙ e)))
  | inr h ↦ ok.page_in g q (sym (ap is_some h.1) ∙ e)
]

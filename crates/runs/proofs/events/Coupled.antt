-- A world and the plain files that belong to it.
use Rattle.std.proofs.Common.{[], arith, false, ◌≡◌, ℕ, ◌<◌, Bool, true, List, length, get_or, refl, ap, sym, subst}
use Rattle.std.proofs.Common.{◌∙◌, cond, eqb, slice_set, Option, Some, None, is_some, option_map, length-set}
use Rattle.pc_types.specs.Files.{page_of}
use Rattle.runs.proofs.views.View.{View, Good, Evolves, Goes, put1, put2, stays, held, no_gone}
use Rattle.std.specs.Prelude.{unwrap_or}
use Rattle.std.specs.FinMap as finmap
use Rattle.machine.specs.State.{State, File, Page, no_file, file_at, handle_file, is_open, page_at, spot_at, block_at}
use Rattle.machine.specs.Changes.{put_file, put_page}
use Rattle.machine.proofs.changes.StateLaws.{get_or-set}
use Rattle.pc_types.specs.Spots.{Spot}
use Rattle.runs.specs.Plain.{Plain, plain_file}
use Rattle.runs.specs.World.{World, block_bytes, on_device}
use Rattle.runs.proofs.events.Tables.{Tables, flight_at}
use Rattle.runs.proofs.events.Lookups.{page_at-put_page, size-put, size-set, failures-put}

-- the look-ups
abbrev pub view : World → Plain → View
view w plain = record {
  page_size = w.core.sizes.page;
  blocks = length w.device;
  next = w.core.next;
  page = λ f p. page_at w.core f p;
  spot = λ f p. spot_at w.core f p;
  request = λ t. flight_at w.core.requests w.writing t;
  outcome = λ t. finmap.get w.outcomes t;
  block = λ b. block_bytes w b;
  size = λ f. (file_at w.core f).size;
  failures = λ f. (file_at w.core f).failures;
  content = λ f p. page_of w.core.sizes.page (plain_file plain f) p;
}

-- what the device has of a page, by the view
pub held_is : (w : World) (plain : Plain) (f p : ℕ) → on_device w f p ≡ held (view w plain) f p
held_is w plain f p = refl

pub record Coupled (w : World) (plain : Plain) : Type 0 where
  pub good : Good (view w plain)
  pub tables : Tables w.core.requests w.outcomes w.writing
  pub blocks : length w.device ≡ w.core.sizes.blocks
  pub handles : plain.handles ≡ w.core.handles
  pub count : length plain.files ≡ length w.core.files
  pub valid : (h : ℕ) → is_open w.core h ≡ true → handle_file w.core h < length w.core.files
  pub sizes : (f : ℕ) → length (plain_file plain f) ≡ (file_at w.core f).size

-- a step leads on to a world that is coupled
pub record After (w : World) (plain : Plain) (gone : ℕ → ℕ → Bool) (new : World) (next : Plain) : Type 0 where
  pub good : Good (view new next)
  pub tables : Tables new.core.requests new.outcomes new.writing
  pub blocks : length new.device ≡ new.core.sizes.blocks
  pub handles : next.handles ≡ new.core.handles
  pub count : length next.files ≡ length new.core.files
  pub valid : (h : ℕ) → is_open new.core h ≡ true → handle_file new.core h < length new.core.files
  pub sizes : (f : ℕ) → length (plain_file next f) ≡ (file_at new.core f).size
  pub evolves : Evolves gone (view w plain) (view new next)

pub coupled : (w : World) (plain : Plain) (gone : ℕ → ℕ → Bool) (new : World) (next : Plain)
    → After w plain gone new next → Coupled new next
coupled w plain gone new next a = assumption

-- a world with another state of the cache
abbrev pub with_core : World → State → World
with_core w s = record w { core = s }

pub same_after : (gone : ℕ → ℕ → Bool) (w : World) (plain : Plain) → Coupled w plain → After w plain gone w plain
same_after gone w plain c = assumption (stays gone (view w plain))

still_valid : (w : World) (plain : Plain) → Coupled w plain → (new : State) → length new.files ≡ length w.core.files
    → new.handles ≡ w.core.handles → (h : ℕ) → is_open new h ≡ true → handle_file new h < length new.files
still_valid w plain c new len handles h o =
    let same_file : handle_file new h ≡ handle_file w.core h = ap (λ m. unwrap_or (finmap.get m h) 0) handles in
    let old = c.valid h (sym (ap (λ m. is_some (finmap.get m h)) handles) ∙ o) in omega arith

-- one file changes, and nothing else of files, handles and the device's size
pub file_changed : (w : World) (plain : Plain) (c : Coupled w plain) (new : World) (f : ℕ) (file : File)
    → f < length w.core.files → file.size ≡ (file_at w.core f).size → length new.device ≡ length w.device
    → new.core.files ≡ (put_file w.core f file).files → new.core.sizes ≡ w.core.sizes
    → new.core.handles ≡ w.core.handles → {v : View} → view new plain ≡ v → Goes no_gone (view w plain) v
    → Tables new.core.requests new.outcomes new.writing → After w plain no_gone new plain
file_changed w plain c new f file here size d e s h is goes tables =
    let len : length new.core.files ≡ length w.core.files = ap length e ∙ length-set w.core.files f file in
    let now = subst (Goes no_gone (view w plain)) (sym is) goes in
    record {
      good = now.0;
      tables = tables;
      blocks = d ∙ c.blocks ∙ sym (ap (λ x. x.blocks) s);
      handles = c.handles ∙ sym h;
      count = c.count ∙ sym len;
      valid = still_valid w plain c new.core len h;
      sizes = λ g. c.sizes g ∙ sym (ap (λ fs. (get_or fs g no_file).size) e ∙ size-put w.core f file here size g);
      evolves = now.1;
    }

-- the plain file f with these bytes
abbrev pub put_plain : Plain → ℕ → List ℕ → Plain
put_plain plain f bytes = record plain { files = slice_set plain.files f bytes }

pub file_set : (plain : Plain) (f : ℕ) (bytes : List ℕ) → f < length plain.files → (g : ℕ)
    → plain_file (put_plain plain f bytes) g ≡ cond (eqb g f) bytes (plain_file plain g)
file_set plain f bytes h g = get_or-set plain.files f g bytes [] h

-- one file changes, and its plain bytes
pub plain_changed : (w : World) (plain : Plain) (c : Coupled w plain) (gone : ℕ → ℕ → Bool) (new : State) (f : ℕ)
    (file : File) (bytes : List ℕ) → f < length w.core.files → length bytes ≡ file.size
    → new.files ≡ (put_file w.core f file).files → new.sizes ≡ w.core.sizes → new.handles ≡ w.core.handles
    → Goes gone (view w plain) (view (with_core w new) (put_plain plain f bytes))
    → Tables new.requests w.outcomes w.writing → After w plain gone (with_core w new) (put_plain plain f bytes)
unfolding put1
plain_changed w plain c gone new f file bytes here size e s h goes tables =
    let len : length new.files ≡ length w.core.files = ap length e ∙ length-set w.core.files f file in
    record {
      good = goes.0;
      tables = tables;
      blocks = c.blocks ∙ sym (ap (λ x. x.blocks) s);
      handles = c.handles ∙ sym h;
      count = length-set plain.files f bytes ∙ c.count ∙ sym len;
      valid = still_valid w plain c new len h;
      sizes = λ g. ap length (file_set plain f bytes (let a = c.count in omega arith) g)
          ∙ elim (eqb g f) as (λ b. length (cond b bytes (plain_file plain g)) ≡ cond b file.size (file_at w.core g).size)
          [ true ↦ size | false ↦ c.sizes g ]
          ∙ sym (ap (λ fs. (get_or fs g no_file).size) e ∙ size-set w.core f file here g);
      evolves = goes.1;
    }

-- a page is put
pub put_view : (w : World) (plain : Plain) (f p : ℕ) (page : Page) → f < length w.core.files
    → view (with_core w (put_page w.core f p page)) plain
    ≡ record (view w plain) { page = put2 (page_at w.core) f p (Some page) }
put_view w plain f p page here = λ i. record (view w plain) {
  page = λ g q. page_at-put_page w.core f p page here g q i;
  size = λ g. size-put w.core f file here refl g i;
  failures = λ g. failures-put w.core f file here refl g i;
}
  where
    file : File
    file = record (file_at w.core f) { pages = finmap.insert (file_at w.core f).pages p page }

pub block_is : (s : State) (f p : ℕ) → is_some (spot_at s f p) ≡ true
    → option_map (λ x. x.block) (spot_at s f p) ≡ Some (unwrap_or (block_at s f p) 0)
block_is s f p e = go (spot_at s f p) e
  where
    go : (o : Option Spot) → is_some o ≡ true
        → option_map (λ x. x.block) o ≡ Some (unwrap_or (option_map (λ x. x.block) o) 0)
    go None e = absurd cc
    go (Some x) e = refl

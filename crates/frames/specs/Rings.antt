-- Rings of links: each list runs from its head round to its head.
use Rattle.std.specs.Prelude.{◌≡◌, ◌≢◌, ℕ, zero, suc, ◌+◌, ◌≤◌, Bool, true, false, List, [], ◌∷◌, length, slice_index_or, count_by}
use Rattle.frames.specs.declared.link.Link.{Link}
use Rattle.frames.specs.declared.link.Place.{Place}
use Rattle.frames.specs.declared.link.Place.TheVariants.{Free, Active, Inactive}
use Rattle.frames.specs.Lists.{has, IsWithoutDoubles}

abbrev pub nowhere : Link
nowhere = record { prev = 0; next = 0 }

abbrev pub next_of : List Link → ℕ → ℕ
next_of links x = (slice_index_or links x nowhere).next

abbrev pub prev_of : List Link → ℕ → ℕ
prev_of links x = (slice_index_or links x nowhere).prev

-- a link's next, or its prev, is changed and nothing else
pub record SetsNext (old : List Link) (at to : ℕ) (new : List Link) : Type 0 where
  pub size : length new ≡ length old
  pub here : next_of new at ≡ to
  pub others : (x : ℕ) → x ≢ at → next_of new x ≡ next_of old x
  pub prevs : (x : ℕ) → prev_of new x ≡ prev_of old x

pub record SetsPrev (old : List Link) (at to : ℕ) (new : List Link) : Type 0 where
  pub size : length new ≡ length old
  pub here : prev_of new at ≡ to
  pub others : (x : ℕ) → x ≢ at → prev_of new x ≡ prev_of old x
  pub nexts : (x : ℕ) → next_of new x ≡ next_of old x

-- a frame is put right after another place of the ring
pub record Inserts (old : List Link) (at frame : ℕ) (new : List Link) : Type 0 where
  pub size : length new ≡ length old
  pub next_at : next_of new at ≡ frame
  pub next_frame : next_of new frame ≡ next_of old at
  pub next_others : (x : ℕ) → x ≢ at → x ≢ frame → next_of new x ≡ next_of old x
  pub prev_frame : prev_of new frame ≡ at
  pub prev_after : prev_of new (next_of old at) ≡ frame
  pub prev_others : (x : ℕ) → x ≢ next_of old at → x ≢ frame → prev_of new x ≡ prev_of old x

-- a frame is taken out of its ring: its neighbours become neighbours
pub record Unlinks (old : List Link) (frame : ℕ) (new : List Link) : Type 0 where
  pub size : length new ≡ length old
  pub next_before : next_of new (prev_of old frame) ≡ next_of old frame
  pub next_others : (x : ℕ) → x ≢ prev_of old frame → next_of new x ≡ next_of old x
  pub prev_after : prev_of new (next_of old frame) ≡ prev_of old frame
  pub prev_others : (x : ℕ) → x ≢ next_of old frame → prev_of new x ≡ prev_of old x

-- from a on, the links lead through the frames of the list, in order, to b, and back
abbrev pub Chain : List Link → ℕ → List ℕ → ℕ → Type 0
Chain links a [] b = (next_of links a ≡ b) × (prev_of links b ≡ a)
Chain links a (x ∷ xs) b = (next_of links a ≡ x) × (prev_of links x ≡ a) × Chain links x xs b

-- n places from `at` on, forward or back
abbrev pub walk : List Link → ℕ → ℕ → List ℕ
walk links zero at = []
walk links (suc n) at = at ∷ walk links n (next_of links at)

abbrev pub walk_back : List Link → ℕ → ℕ → List ℕ
walk_back links zero at = []
walk_back links (suc n) at = at ∷ walk_back links n (prev_of links at)

abbrev pub place_of : List Place → ℕ → Place
place_of places f = slice_index_or places f Free

abbrev pub is_active : Place → Bool
is_active Free = false
is_active Active = true
is_active Inactive = false

abbrev pub is_inactive : Place → Bool
is_inactive Free = false
is_inactive Active = false
is_inactive Inactive = true

-- the links and places of the two lists. Their heads stand past the last frame, first that of the active list
pub record IsListed (links : List Link) (places : List Place) (active_len inactive_len : ℕ) (active inactive : List ℕ) : Type 0 where
  pub heads : length links ≡ length places + 2
  pub bound : length places ≤ 65536
  pub actives : Chain links (length places) active (length places)
  pub inactives : Chain links (length places + 1) inactive (length places + 1)
  pub in_active : (f : ℕ) → has f active ≡ is_active (place_of places f)
  pub in_inactive : (f : ℕ) → has f inactive ≡ is_inactive (place_of places f)
  pub active_once : IsWithoutDoubles active
  pub inactive_once : IsWithoutDoubles inactive
  pub active_total : active_len ≡ length active
  pub inactive_total : inactive_len ≡ length inactive
  pub active_counted : length active ≡ count_by is_active places
  pub inactive_counted : length inactive ≡ count_by is_inactive places

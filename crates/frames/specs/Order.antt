-- The turns of frames, and which frames wait.
use Rattle.std.specs.Prelude.{◌≡◌, ◌≢◌, ℕ, ◌*◌, ◌<◌, ◌≤◌, Bool, true, false, not, ◌&&◌, List, [], ◌∷◌, length, map, replicate, slice_index, slice_index_or}
use Rattle.frames.specs.Lists.{Lists, has}
use Rattle.frames.specs.Sets.{is_in}

-- each frame's turn, and whether it waits in the one list and in the other
pub record Turns : Type 0 where
  pub turns : List ℕ
  pub active : List Bool
  pub inactive : List Bool

abbrev pub turn_of : List ℕ → ℕ → ℕ
turn_of turns f = slice_index turns f

abbrev pub NoneWaits : List Bool → Type 0
NoneWaits waits = (f : ℕ) → is_in waits f ≡ false

-- of the frames that wait, f has the first turn
pub record IsFirst (turns : List ℕ) (waits : List Bool) (f : ℕ) : Type 0 where
  pub here : is_in waits f ≡ true
  pub lower : (g : ℕ) → turn_of turns g < turn_of turns f → is_in waits g ≡ false

-- who comes before whom is as it was
pub record KeepsOrder (old new : List ℕ) : Type 0 where
  pub size : length new ≡ length old
  pub order : (f g : ℕ) → f < length old → g < length old → turn_of old f < turn_of old g → turn_of new f < turn_of new g

-- a frame comes after all others, whose order is as it was
pub record ComesLast (old : List ℕ) (frame : ℕ) (new : List ℕ) : Type 0 where
  pub size : length new ≡ length old
  pub last : (f : ℕ) → f < length old → f ≢ frame → turn_of new f < turn_of new frame
  pub order : (f g : ℕ) → f < length old → g < length old → f ≢ frame → g ≢ frame → turn_of old f < turn_of old g → turn_of new f < turn_of new g

-- a set of turns, frame by frame
abbrev pub by_frame : List Bool → List ℕ → List Bool
by_frame set turns = map (λ t. is_in set t) turns

-- each turn of the set is that of a frame
pub record IsOfFrames (turns frames : List ℕ) (set : List Bool) : Type 0 where
  pub size : length set ≡ length frames
  pub held : (t : ℕ) → is_in set t ≡ true → turn_of turns (slice_index frames t) ≡ t

-- each frame has a turn of its own before `next`
pub record IsNumbered (turns frames : List ℕ) (next : ℕ) (active inactive : List Bool) : Type 0 where
  pub few : length turns ≤ 65536
  pub room : length frames ≡ length turns * 4
  pub given : next ≤ length frames
  pub of_frame : (f : ℕ) → f < length turns → (turn_of turns f < next) × (slice_index frames (turn_of turns f) ≡ f)
  pub of_turn : (t : ℕ) → t < length frames → slice_index frames t < length turns
  pub actives : IsOfFrames turns frames active
  pub inactives : IsOfFrames turns frames inactive

-- no frame waits
pub record IsIdle (count : ℕ) (order : Turns) : Type 0 where
  pub size : length order.turns ≡ count
  pub active : order.active ≡ replicate count false
  pub inactive : order.inactive ≡ replicate count false

-- the turns of a list fall from its head to its tail
abbrev pub Falls : List ℕ → List ℕ → Type 0
Falls turns [] = Unit {0}
Falls turns (x ∷ xs) = ((f : ℕ) → has f xs ≡ true → turn_of turns f < turn_of turns x) × Falls turns xs

-- the frames of a list that wait are those not set aside
pub record IsLined (turns : List ℕ) (waits aside : List Bool) (xs : List ℕ) : Type 0 where
  pub size : length waits ≡ length turns
  pub falls : Falls turns xs
  pub each : (f : ℕ) → is_in waits f ≡ (has f xs && not (slice_index_or aside f false))

-- the two lists in the order of their turns
pub record IsInOrder (lists : Lists) (aside : List Bool) (order : Turns) : Type 0 where
  pub asides : length aside ≡ lists.count
  pub size : length order.turns ≡ lists.count
  pub actives : IsLined order.turns order.active aside lists.active
  pub inactives : IsLined order.turns order.inactive aside lists.inactive

-- A window of a device: some of its blocks, in a row, as a device of their own.
use Rattle.std.specs.Prelude.{◌≡◌, ℕ, ◌+◌, ◌<◌, ◌≤◌, ◌⊎◌, List, take, drop, option_map}
use Rattle.blockdev.specs.Device.{Told, Settles, told_at}

-- as many blocks from the first on
abbrev pub slice_of : ℕ → ℕ → List (List ℕ) → List (List ℕ)
slice_of first count blocks = take count (drop first blocks)

-- what a device tells, as the window tells it. Sizes, plans, calls, flushes and faults are those of the device
abbrev pub window_of : ℕ → ℕ → Told → Told
window_of first count d =
    record d { count = count; contents = option_map (slice_of first count) d.contents; durable = option_map (slice_of first count) d.durable }

-- a block of the device that the window does not have
abbrev pub IsOutside : ℕ → ℕ → ℕ → Type 0
IsOutside first count b = (b < first) ⊎ (first + count ≤ b)

-- the device before and after calls of the window: the blocks outside hold what they held, and of each what is durable is what
-- was, or what it holds
pub record Outside (first blocks : ℕ) (old new : Told) : Type 0 where
  pub size : new.size ≡ old.size
  pub count : new.count ≡ old.count
  pub contents : (b : ℕ) → IsOutside first blocks b → told_at new.contents b ≡ told_at old.contents b
  pub durable : (b : ℕ) → IsOutside first blocks b
      → (told_at new.durable b ≡ told_at old.durable b) ⊎ (told_at new.durable b ≡ told_at old.contents b)

-- ---- windows of one device

-- calls of a window, one after another, are as one: the blocks outside it stay as they were before the first
pub record OutsideGoesOn : Type 0 where
  pub none : (first count : ℕ) (d : Told) → Outside first count d d
  pub more : (first count : ℕ) (old between new : Told) → Outside first count old between → Outside first count between new
      → Outside first count old new

-- two windows that share no block
abbrev pub AreApart : ℕ → ℕ → ℕ → ℕ → Type 0
AreApart first count other n = (other + n ≤ first) ⊎ (first + count ≤ other)

-- a device that was not written to: of each block, what is durable is what was, or what it holds
pub record Unwritten (old new : Told) : Type 0 where
  pub size : new.size ≡ old.size
  pub count : new.count ≡ old.count
  pub contents : new.contents ≡ old.contents
  pub durable : Settles old new

-- what calls of one window are to the other
abbrev pub WindowsAreApart : Type 0
WindowsAreApart = (first count other n : ℕ) (old new : Told) → AreApart first count other n → Outside first count old new
    → Unwritten (window_of other n old) (window_of other n new)

-- What each event makes of a contiguous file. Of its bytes `Bytes` speaks.
--
-- f is the file, n and m are how many pages of it have blocks.
use Rattle.std.specs.Prelude.{◌≡◌, ℕ, ◌+◌, ◌-◌, ◌/◌, ◌<◌, ◌≤◌, ◌⊎◌, Bool, false, ◌==◌, nat_lt, if◌then◌else◌, not}
use Rattle.std.specs.Prelude.{List, [], ◌∷◌, ◌++◌, Some, None, option_map, min, max}
use Rattle.std.specs.FinMap as map
use Rattle.pc_types.specs.Limits.{Sizes}
use Rattle.pc_types.specs.declared.ids.HandleId.{HandleId}
use Rattle.machine.specs.declared.event.Event.{Event}
use Rattle.machine.specs.declared.event.Event.TheVariants as event
use Rattle.machine.specs.declared.event.Reply.{Reply}
use Rattle.machine.specs.declared.event.Reply.TheVariants as reply
use Rattle.machine.specs.Catalogs.{Catalog, IsCatalog, adopted}
use Rattle.machine.specs.History.{AfterFiles, no_files}
use Rattle.machine.specs.Sound.{Sound}
use Rattle.machine.specs.State.{State, file_at, handle_file, page_count}
use Rattle.machine.specs.Step.{Step}
use Rattle.contiguous.specs.Contiguous.{IsContiguous, IsHeld, IsOneExtent}

-- ---- a write, an append

-- the event writes to f, and leaves no page out: the first page that it touches is at most the one behind the last that has a block
abbrev pub LeavesNoneOut : State → ℕ → ℕ → Event → Type 0
LeavesNoneOut s f n (event.Write h o b) = (handle_file s h.0 ≡ f) × (o / s.sizes.page ≤ n)
LeavesNoneOut s f n (event.Append h b) = (handle_file s h.0 ≡ f) × ((file_at s f).size / s.sizes.page ≤ n)
LeavesNoneOut s f n e = ⊥

-- how many pages have blocks after count bytes, of which the last is before end: those up to its page, or as many as before
abbrev pub reached : ℕ → ℕ → ℕ → ℕ → ℕ
reached P n count end = if count == 0 then n else max n ((end - 1) / P + 1)

-- a write or an append: what goes behind the last page lands behind the last block
abbrev pub WritesStayContiguous : Type 0
WritesStayContiguous = (old new : State) (f n count end : ℕ) (e : Event)
    → Step old e (reply.Wrote count end) new → LeavesNoneOut old f n e → IsContiguous old f n
    → IsContiguous new f (reached old.sizes.page n count end)

-- and no other write of bytes leaves the file one extent, of however many pages
abbrev pub OnlySuchWrites : Type 0
OnlySuchWrites = (old new : State) (f n m count end : ℕ) (e : Event)
    → Step old e (reply.Wrote count end) new → 0 < count → 0 < old.sizes.page → IsContiguous old f n
    → IsOneExtent new f m → LeavesNoneOut old f n e

-- ---- a truncation, and every other event

-- the extent has m pages after a step that takes no block beside them. Other blocks may be held still, and only get fewer
pub record KeepsTheExtent (old new : State) (f m : ℕ) : Type 0 where
  pub extent : IsOneExtent new f m
  pub held : (b : ℕ) → IsHeld new b → IsHeld old b ⊎ (b < m)

-- how many pages have blocks after a truncation to z. The pages that it adds are holes
abbrev pub left : State → ℕ → ℕ → ℕ → ℕ
left s f n z = if nat_lt z (file_at s f).size then min n (page_count s.sizes.page z) else n

-- a truncation to any size
abbrev pub TruncationsKeepTheExtent : Type 0
TruncationsKeepTheExtent = (old new : State) (f n : ℕ) (h : HandleId) (z : ℕ)
    → Step old (event.Truncate h z) reply.Done new → handle_file old h.0 ≡ f → IsOneExtent old f n
    → KeepsTheExtent old new f (left old f n z)

-- it leaves the file contiguous where no request in flight holds a block that is cut off, and so where none is in flight
abbrev pub TruncationsStayContiguous : Type 0
TruncationsStayContiguous = (old new : State) (f n : ℕ) (h : HandleId) (z : ℕ)
    → Step old (event.Truncate h z) reply.Done new → handle_file old h.0 ≡ f → IsContiguous old f n
    → ((b : ℕ) → IsHeld old b → b < left old f n z) → IsContiguous new f (left old f n z)

-- whether the event wrote bytes to a file, or truncated f
abbrev pub changes_blocks : State → ℕ → Event → Reply → Bool
changes_blocks s f (event.Write h o b) (reply.Wrote count end) = not (count == 0)
changes_blocks s f (event.Append h b) (reply.Wrote count end) = not (count == 0)
changes_blocks s f (event.Truncate h z) reply.Done = handle_file s h.0 == f
changes_blocks s f e r = false

-- every other event, with any reply. Blocks that are held beside the extent after a truncation are given back as their requests end
abbrev pub OthersKeepTheExtent : Type 0
OthersKeepTheExtent = (old new : State) (f n : ℕ) (e : Event) (r : Reply)
    → Step old e r new → changes_blocks old f e r ≡ false → Sound old → IsOneExtent old f n
    → KeepsTheExtent old new f n

abbrev pub OthersStayContiguous : Type 0
OthersStayContiguous = (old new : State) (f n : ℕ) (e : Event) (r : Reply)
    → Step old e r new → changes_blocks old f e r ≡ false → Sound old → IsContiguous old f n → IsContiguous new f n

-- ---- what a cache begins with

-- one file on the device, whose first n pages stand on the first n blocks
abbrev pub CatalogsBeginContiguous : Type 0
CatalogsBeginContiguous = (sizes : Sizes) (name : ℕ) (catalog : Catalog) (z n : ℕ)
    → IsCatalog sizes catalog → catalog.sizes ≡ z ∷ []
    → ((p : ℕ) → option_map (λ spot. spot.block) (map.get catalog.spots (0, p)) ≡ (if nat_lt p n then Some p else None))
    → IsContiguous (adopted sizes name catalog) 0 n

-- no file: whichever is written first
abbrev pub EmptyBeginsContiguous : Type 0
EmptyBeginsContiguous = (sizes : Sizes) (name f : ℕ) → IsContiguous (no_files sizes name) f 0

-- ---- over a history

-- file f is contiguous, and each page of it has a block
abbrev pub IsWhole : State → ℕ → Type 0
IsWhole s f = IsContiguous s f (page_count s.sizes.page (file_at s f).size)

-- what may happen, so that f stays whole. Bytes are written to f alone, and no page is left out: a write may begin anywhere in the
-- file, and in the page behind it. A truncation of f adds no page, and cuts no block off that a request in flight holds
abbrev pub Fits : ℕ → State → Event → Reply → Type 0
Fits f s (event.Write h o b) (reply.Wrote count end) =
    0 < count → LeavesNoneOut s f (page_count s.sizes.page (file_at s f).size) (event.Write h o b)
Fits f s (event.Append h b) (reply.Wrote count end) = 0 < count → handle_file s h.0 ≡ f
Fits f s (event.Truncate h z) reply.Done = handle_file s h.0 ≡ f
    → (page_count s.sizes.page z ≤ page_count s.sizes.page (file_at s f).size)
    × ((b : ℕ) → IsHeld s b → b < page_count s.sizes.page z)
Fits f s e r = Unit {0}

-- after every legal history of such events, each in the state that it comes in
abbrev pub HistoriesStayContiguous : Type 0
HistoriesStayContiguous = (catalog : Catalog) (sizes : Sizes) (name f : ℕ) (es : List (Event × Reply)) (new : State)
    → 0 < sizes.page → IsCatalog sizes catalog → IsWhole (adopted sizes name catalog) f
    → AfterFiles catalog sizes name es new
    → ((before after : List (Event × Reply)) (e : Event × Reply) (s : State)
    → es ≡ before ++ e ∷ after → AfterFiles catalog sizes name before s → Fits f s e.0 e.1)
    → IsWhole new f

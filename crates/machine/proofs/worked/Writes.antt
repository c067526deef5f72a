-- Worked examples of writes.
use Rattle.std.proofs.Common.{◌≡◌, ℕ, [], ◌∷◌, ◌++◌, refl, Some, None, replicate, true, false}
use Rattle.pc_types.specs.declared.refusal.Refusal.TheVariants.{DirtyLimit, Memory, NoSpace, TooLarge, TooLong}
use Rattle.pc_types.specs.declared.kind.Kind.TheVariants.{Flush}
use Rattle.machine.specs.declared.event.Event.TheVariants as event
use Rattle.machine.specs.declared.event.Reply.TheVariants as reply
use Rattle.machine.specs.State.{State, Page}
use Rattle.pc_types.specs.Spots.{Spot}
use Rattle.machine.specs.Tests.{tests, refuse}
use Rattle.machine.specs.Step.{Step}
use Rattle.machine.proofs.worked.States.{Parts, opened, state_of, handle, D, handle_0, page_get, page_entries, page_len}
use Rattle.machine.proofs.worked.States.{spot_get, spot_entries, request_entries, happens, only}

-- ---- lengths and ends

too_long : tests (state_of opened) (event.Write (handle 0) 1 (replicate 256 171)) ≡ refuse TooLong
too_long = rw (handle_0 opened) refl

sixteen_pages_pass : tests (state_of opened) (event.Write (handle 0) 0 (replicate 256 171)) ≡ None
sixteen_pages_pass =
    simp (
      handle_0 opened,
      page_get opened tt,
      page_entries opened tt,
      page_len opened tt,
      spot_get opened tt,
      spot_entries opened tt,
      request_entries opened tt,
    ) refl

-- the last byte of the largest file, and one past it
abbrev largest : Parts
largest = record opened {
  size = 1099511627776;
  pages = (68719476735, record { bytes = replicate 15 0 ++ 255 ∷ []; tags = D }) ∷ [];
  spots = ((0, 68719476735), record { block = 0; valid = 0 }) ∷ [];
}

last_byte_passes : tests (state_of opened) (event.Write (handle 0) 1099511627775 (255 ∷ [])) ≡ None
last_byte_passes =
    simp (
      handle_0 opened,
      page_get opened tt,
      page_entries opened tt,
      page_len opened tt,
      spot_get opened tt,
      spot_entries opened tt,
      request_entries opened tt,
    ) refl

too_large : tests (state_of largest) (event.Write (handle 0) 1099511627776 (255 ∷ [])) ≡ refuse TooLarge
too_large = rw (handle_0 largest) refl

size_of_largest : tests (state_of largest) (event.Size (handle 0)) ≡ Some (reply.Size 1099511627776)
size_of_largest = rw (handle_0 largest) refl

-- too long comes before too large
long_before_large : tests (state_of opened) (event.Write (handle 0) 1099511627775 (replicate 300 171)) ≡ refuse TooLong
long_before_large = rw (handle_0 opened) refl

-- ---- an append to an empty file

append_passes : tests (state_of opened) (event.Append (handle 0) (170 ∷ [])) ≡ None
append_passes =
    simp (
      handle_0 opened,
      page_get opened tt,
      page_entries opened tt,
      page_len opened tt,
      spot_get opened tt,
      spot_entries opened tt,
      request_entries opened tt,
    ) refl

append_writes_one : (n end : ℕ) (new : State)
    → Step (state_of opened) (event.Append (handle 0) (170 ∷ [])) (reply.Wrote n end) new → (n ≡ 1) × (end ≡ 1)
append_writes_one n end new step =
    let h = happens (state_of opened) new (event.Append (handle 0) (170 ∷ [])) (reply.Wrote n end) append_passes step in
    let k = simp (handle_0 opened) at h in (k.0, k.1)

-- ---- the dirty limit: sixteen pages are dirty, and one more would be

abbrev dirty_page : ℕ → ℕ × Page
dirty_page p = (p, record { bytes = replicate 16 171; tags = D })

abbrev placed_page : ℕ → (ℕ × ℕ) × Spot
placed_page p = ((0, p), record { block = p; valid = 0 })

abbrev sixteen_dirty : Parts
sixteen_dirty = record opened {
  size = 256;
  pages = dirty_page 0 ∷ dirty_page 1 ∷ dirty_page 2 ∷ dirty_page 3 ∷ dirty_page 4 ∷ dirty_page 5 ∷ dirty_page 6
      ∷ dirty_page 7 ∷ dirty_page 8 ∷ dirty_page 9 ∷ dirty_page 10 ∷ dirty_page 11 ∷ dirty_page 12 ∷ dirty_page 13
      ∷ dirty_page 14 ∷ dirty_page 15 ∷ [];
  spots = placed_page 0 ∷ placed_page 1 ∷ placed_page 2 ∷ placed_page 3 ∷ placed_page 4 ∷ placed_page 5 ∷ placed_page 6
      ∷ placed_page 7 ∷ placed_page 8 ∷ placed_page 9 ∷ placed_page 10 ∷ placed_page 11 ∷ placed_page 12
      ∷ placed_page 13 ∷ placed_page 14 ∷ placed_page 15 ∷ [];
}

limit_is_reached : tests (state_of sixteen_dirty) (event.Write (handle 0) 256 (255 ∷ [])) ≡ refuse DirtyLimit
limit_is_reached =
    simp (
      handle_0 sixteen_dirty,
      page_get sixteen_dirty tt,
      page_entries sixteen_dirty tt,
      spot_get sixteen_dirty tt,
      request_entries sixteen_dirty tt,
    ) refl

-- so the write is not made
no_write_past_limit : (n end : ℕ) (new : State)
    → Step (state_of sixteen_dirty) (event.Write (handle 0) 256 (255 ∷ [])) (reply.Wrote n end) new → ⊥
no_write_past_limit n end new step =
    absurd (let e = only (state_of sixteen_dirty) new (event.Write (handle 0) 256 (255 ∷ [])) (reply.Wrote n end) _
    limit_is_reached step in cc)

-- pages that are dirty already count no more
dirty_again_passes : tests (state_of sixteen_dirty) (event.Write (handle 0) 0 (255 ∷ [])) ≡ None
dirty_again_passes =
    simp (
      handle_0 sixteen_dirty,
      page_get sixteen_dirty tt,
      page_entries sixteen_dirty tt,
      page_len sixteen_dirty tt,
      spot_get sixteen_dirty tt,
      spot_entries sixteen_dirty tt,
      request_entries sixteen_dirty tt,
    ) refl

-- they are cached and have blocks, so the write wants no memory
dirty_again_wants_no_memory : (new : State)
    → Step (state_of sixteen_dirty) (event.Write (handle 0) 0 (255 ∷ [])) (reply.Refused Memory) new → ⊥
dirty_again_wants_no_memory new step =
    absurd (let h = happens (state_of sixteen_dirty) new (event.Write (handle 0) 0 (255 ∷ [])) (reply.Refused Memory)
    dirty_again_passes step in
    let k = simp (handle_0 sixteen_dirty, page_get sixteen_dirty tt, spot_get sixteen_dirty tt) at h in
    let clash : false ≡ true = k in cc)

-- ---- a device of one block

-- the page that had it is cut off, and its write is in flight
abbrev cut_in_flight : Parts
cut_in_flight =
    record opened {
      blocks = 1;
      requests = (0, record { kind = Flush; file = 0; page = 0; block = 0; dropped = true })
          ∷ [];
      next = 1;
    }

block_is_held : tests (state_of cut_in_flight) (event.Write (handle 0) 0 (187 ∷ [])) ≡ refuse NoSpace
block_is_held =
    simp (
      handle_0 cut_in_flight,
      page_get cut_in_flight tt,
      page_entries cut_in_flight tt,
      page_len cut_in_flight tt,
      spot_get cut_in_flight tt,
      spot_entries cut_in_flight tt,
      request_entries cut_in_flight tt,
    ) refl

-- once the write has ended the block is free
abbrev cut_and_ended : Parts
cut_and_ended = record cut_in_flight { requests = [] }

block_is_free : tests (state_of cut_and_ended) (event.Write (handle 0) 0 (187 ∷ [])) ≡ None
block_is_free =
    simp (
      handle_0 cut_and_ended,
      page_get cut_and_ended tt,
      page_entries cut_and_ended tt,
      page_len cut_and_ended tt,
      spot_get cut_and_ended tt,
      spot_entries cut_and_ended tt,
      request_entries cut_and_ended tt,
    ) refl

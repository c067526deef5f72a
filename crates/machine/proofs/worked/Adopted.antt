-- Worked examples of files that stand on a device already.
use Rattle.std.proofs.Common.{◌≡◌, ℕ, List, [], ◌∷◌, ◌++◌, refl, sym, ap, subst, ◌∙◌, arith, Some, None, replicate, true, false}
use Rattle.std.specs.FinMap.{from_sorted, get-from_sorted}
use Rattle.pc_types.specs.Limits.{Sizes}
use Rattle.pc_types.specs.Spots.{Spot, place_cmp}
use Rattle.pc_types.specs.declared.kind.Kind.TheVariants.{Fill}
use Rattle.machine.specs.declared.event.End.{End}
use Rattle.machine.specs.declared.event.Event.{Event}
use Rattle.machine.specs.declared.event.Event.TheVariants as event
use Rattle.machine.specs.declared.event.Outcome.TheVariants as outcome
use Rattle.machine.specs.declared.event.Reply.{Reply}
use Rattle.machine.specs.declared.event.Reply.TheVariants as reply
use Rattle.machine.specs.Catalogs.{Catalog, IsCatalog, IsAdoptable}
use Rattle.machine.specs.Changes.{changed}
use Rattle.machine.specs.State.{State, page_bytes}
use Rattle.machine.specs.Step.{Step, AnswersOr}
use Rattle.machine.specs.Tests.{tests}
use Rattle.maps.proofs.Maps.{get-insert_nat}
use Rattle.machine.proofs.worked.States.{Parts, block, opened, state_of, handle, page, serial, handle_0, page_get}
use Rattle.machine.proofs.worked.States.{page_len, spot_get, request_get, request_entries, request_len, happens}

-- a file of 52 bytes: its first page on block 5, its second a hole, its third on block 3, and its last on 4 bytes of block 9
abbrev spots : List ((ℕ × ℕ) × Spot)
spots = ((0, 0), record { block = 5; valid = 16 }) ∷ ((0, 2), record { block = 3; valid = 16 })
    ∷ ((0, 3), record { block = 9; valid = 4 }) ∷ []

abbrev adopted_file : Parts
adopted_file = record opened { size = 52; spots = spots }

-- the hole is made from zeros at once
hole_passes : tests (state_of adopted_file) (event.FillBegin (handle 0) (page 1)) ≡ None
hole_passes =
    simp (
      handle_0 adopted_file,
      page_get adopted_file tt,
      page_len adopted_file tt,
      spot_get adopted_file tt,
      request_entries adopted_file tt,
    ) refl

hole_wants_no_job : (new : State) → Step (state_of adopted_file) (event.FillBegin (handle 0) (page 1)) (reply.Job (serial 0)) new
    → ⊥
hole_wants_no_job new step =
    absurd (let h = happens (state_of adopted_file) new (event.FillBegin (handle 0) (page 1)) (reply.Job (serial 0))
    hole_passes step in
    let k = simp (handle_0 adopted_file, spot_get adopted_file tt) at h in let clash : false ≡ true = k.0 in cc)

-- the last page has to be filled
last_wants_a_job : (new : State) → Step (state_of adopted_file) (event.FillBegin (handle 0) (page 3)) reply.Filled new → ⊥
last_wants_a_job new step =
    let passes : tests (state_of adopted_file) (event.FillBegin (handle 0) (page 3)) ≡ None =
    simp (
      handle_0 adopted_file,
      page_get adopted_file tt,
      page_len adopted_file tt,
      spot_get adopted_file tt,
      request_entries adopted_file tt,
      request_len adopted_file tt,
    ) refl in
    let unwritten = happens (state_of adopted_file) new (event.FillBegin (handle 0) (page 3)) reply.Filled passes step in
    absurd (let clash : true ≡ false = simp (handle_0 adopted_file, spot_get adopted_file tt) at unwritten in cc)

-- its fill is in flight
abbrev filling : Parts
filling = record adopted_file {
  requests = (0, record { kind = Fill; file = 0; page = 3; block = 9; dropped = false }) ∷ [];
  next = 1;
}

abbrev read : End
read = record { cache = 0; kind = Fill; serial = serial 0; block = block 9; outcome = outcome.Read (replicate 16 255) }

-- past the file's end the page has zeros, whatever the block has
past_the_end_is_zeros : page_bytes (changed (state_of filling) (event.End Fill read) reply.Filled) 0 3
    ≡ replicate 4 255 ++ replicate 12 0
past_the_end_is_zeros = simp (request_get filling tt, spot_get filling tt, get-insert_nat) refl

-- ---- what is no catalog

abbrev sizes : Sizes
sizes = record { page = 16; frames = 48; dirty_limit = 16; blocks = 64 }

abbrev twice : List ((ℕ × ℕ) × Spot)
twice = ((0, 0), record { block = 5; valid = 16 }) ∷ ((0, 1), record { block = 5; valid = 16 }) ∷ []

a_block_twice : IsCatalog sizes (record { sizes = 32 ∷ []; spots = from_sorted twice }) → ⊥
a_block_twice is =
    let same = is.apart 0 0 0 1 _ _ (get-from_sorted place_cmp twice (0, 0) tt)
    (get-from_sorted place_cmp twice (0, 1) tt) refl in let clash : 0 ≡ 1 = same.1 in cc

-- a byte past the file's end, no byte at all, and a block past the device's last
past_the_end : IsAdoptable sizes 20 1 (record { block = 5; valid = 5 }) → ⊥
past_the_end is = let a = is.in_file in omega arith

no_byte : IsAdoptable sizes 20 1 (record { block = 5; valid = 0 }) → ⊥
no_byte is = let a = is.some in omega arith

past_the_device : IsAdoptable sizes 20 1 (record { block = 64; valid = 4 }) → ⊥
past_the_device is = let a = is.on_device in omega arith

-- Worked examples of truncations.
use Rattle.machine.specs.declared.event.End.{End}
use Rattle.std.proofs.Common.{◌≡◌, ℕ, [], ◌∷◌, refl, Some, None, replicate, true, false}
use Rattle.pc_types.specs.declared.refusal.Refusal.TheVariants.{Stranger, TooLarge}
use Rattle.pc_types.specs.declared.kind.Kind.TheVariants.{Flush}
use Rattle.machine.specs.declared.event.Outcome.TheVariants as outcome
use Rattle.machine.specs.declared.event.Event.TheVariants as event
use Rattle.machine.specs.declared.event.Reply.TheVariants as reply
use Rattle.machine.specs.State.{State, Request}
use Rattle.machine.specs.Tests.{tests, refuse}
use Rattle.machine.specs.Step.{Step}
use Rattle.machine.specs.Changes.{cut_page, cut_request}
use Rattle.pc_types.specs.Files.{cut}
use Rattle.machine.proofs.worked.States.{Parts, block, opened, state_of, handle, page, serial, none, D, handle_0, page_get}
use Rattle.machine.proofs.worked.States.{spot_get, request_get, request_entries, happens, only}

-- sixteen bytes were written back, and their page was evicted
abbrev evicted : Parts
evicted = record opened { size = 16; spots = ((0, 0), record { block = 0; valid = 16 }) ∷ []; next = 1 }

-- the page that is cut into has to be there
boundary_misses : tests (state_of evicted) (event.Truncate (handle 0) 4) ≡ Some (reply.Miss (page 0))
boundary_misses = simp (handle_0 evicted, page_get evicted tt, spot_get evicted tt, request_entries evicted tt) refl

not_done_instead : (new : State) → Step (state_of evicted) (event.Truncate (handle 0) 4) reply.Done new → ⊥
not_done_instead new step =
    absurd (let e = only (state_of evicted) new (event.Truncate (handle 0) 4) reply.Done _ boundary_misses step in cc)

-- a cut at a page's start needs no page
whole_pages_pass : tests (state_of evicted) (event.Truncate (handle 0) 0) ≡ None
whole_pages_pass = simp (handle_0 evicted) refl

too_large : tests (state_of evicted) (event.Truncate (handle 0) 1099511627777) ≡ refuse TooLarge
too_large = rw (handle_0 evicted) refl

-- after the fill it is there
abbrev refilled : Parts
refilled = record evicted { pages = (0, record { bytes = replicate 16 17; tags = none }) ∷ []; next = 2 }

refilled_passes : tests (state_of refilled) (event.Truncate (handle 0) 4) ≡ None
refilled_passes = simp (handle_0 refilled, page_get refilled tt, request_entries refilled tt) refl

-- its tail becomes zeros, and it becomes DIRTY; where it has no block it stays
the_tail : cut_page 16 4 true (record { bytes = replicate 16 17; tags = none })
    ≡ record { bytes = 17 ∷ 17 ∷ 17 ∷ 17 ∷ replicate 12 0; tags = D }
the_tail = refl

no_block_no_change : cut_page 16 4 false (record { bytes = replicate 16 0; tags = none })
    ≡ record { bytes = replicate 16 0; tags = none }
no_block_no_change = refl

-- the size is 4, then 16, and what is added are zeros
size_now : (state_of (record refilled { size = 4 })).sizes.page ≡ 16
size_now = refl

plain_bytes : cut (cut (replicate 16 17) 4) 16 ≡ 17 ∷ 17 ∷ 17 ∷ 17 ∷ replicate 12 0
plain_bytes = refl

-- a request of a page that is cut off is dropped, and one of the page that is cut into is not
abbrev write_of : ℕ → Request
write_of p = record { kind = Flush; file = 0; page = p; block = p; dropped = false }

cut_off_is_dropped : (cut_request 0 1 (write_of 1)).dropped ≡ true
cut_off_is_dropped = refl

cut_into_is_not : (cut_request 0 1 (write_of 0)).dropped ≡ false
cut_into_is_not = refl

other_file_is_not : (cut_request 1 1 (write_of 1)).dropped ≡ false
other_file_is_not = refl

-- ---- a dropped write ends, and its end comes once

abbrev cut_in_flight : Parts
cut_in_flight =
    record opened {
      blocks = 1;
      requests = (0, record { kind = Flush; file = 0; page = 0; block = 0; dropped = true })
          ∷ [];
      next = 1;
    }

abbrev the_end : End
the_end = record { cache = 0; kind = Flush; serial = serial 0; block = block 0; outcome = outcome.Written }

end_passes : tests (state_of cut_in_flight) (event.End Flush the_end) ≡ None
end_passes = simp (request_get cut_in_flight tt) refl

-- it is answered Dropped, and not Written
not_written_instead : (new : State) → Step (state_of cut_in_flight) (event.End Flush the_end) reply.Written new → ⊥
not_written_instead new step =
    absurd (let h = happens (state_of cut_in_flight) new (event.End Flush the_end) reply.Written end_passes step in
    let k = simp (request_get cut_in_flight tt) at h in let clash : true ≡ false = k in cc)

second_end_refused : tests (state_of (record cut_in_flight { requests = [] })) (event.End Flush the_end)
    ≡ refuse Stranger
second_end_refused = simp (request_get (record cut_in_flight { requests = [] }) tt) refl

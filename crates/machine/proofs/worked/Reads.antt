-- Worked examples of reads and fills.
use Rattle.std.proofs.Common.{◌≡◌, ℕ, List, [], ◌∷◌, ◌++◌, refl, ◌∙◌, Some, None, replicate, true, false}
use Rattle.pc_types.specs.declared.kind.Kind.TheVariants.{Fill}
use Rattle.machine.specs.declared.event.Outcome.TheVariants as outcome
use Rattle.machine.specs.declared.event.Event.TheVariants as event
use Rattle.machine.specs.declared.event.Reply.TheVariants as reply
use Rattle.machine.specs.State.{State}
use Rattle.machine.specs.Tests.{tests}
use Rattle.machine.specs.Step.{Step}
use Rattle.machine.proofs.worked.States.{Parts, block, opened, state_of, handle, page, serial, none, D, handle_0, page_get}
use Rattle.machine.proofs.worked.States.{page_len, spot_get, request_get, request_entries, request_len, happens, only}

-- a read of an empty file answers no bytes, and its size is 0
read_at_end : tests (state_of opened) (event.Read (handle 0) 0 10) ≡ Some (reply.Bytes [])
read_at_end = rw (handle_0 opened) refl

size_of_empty : tests (state_of opened) (event.Size (handle 0)) ≡ Some (reply.Size 0)
size_of_empty = rw (handle_0 opened) refl

-- after a write of one byte at 20: page 1 is cached, the gap's page 0 is absent and has no block
abbrev gap : Parts
gap = record opened {
  size = 21;
  pages = (1, record { bytes = replicate 4 0 ++ 255 ∷ replicate 11 0; tags = D }) ∷ [];
  spots = ((0, 1), record { block = 0; valid = 0 }) ∷ [];
}

read_misses : tests (state_of gap) (event.Read (handle 0) 0 21) ≡ Some (reply.Miss (page 0))
read_misses = simp (handle_0 gap, page_get gap tt, request_entries gap tt) refl

-- so it answers no bytes
no_bytes_instead : (b : List ℕ) (new : State) → Step (state_of gap) (event.Read (handle 0) 0 21) (reply.Bytes b) new → ⊥
no_bytes_instead b new step =
    absurd (let e = only (state_of gap) new (event.Read (handle 0) 0 21) (reply.Bytes b) _ read_misses step in cc)

-- the gap's page is made at once, and a page past the end is none
fill_passes : tests (state_of gap) (event.FillBegin (handle 0) (page 0)) ≡ None
fill_passes = simp (handle_0 gap, page_get gap tt, page_len gap tt, spot_get gap tt, request_entries gap tt) refl

fill_past_end : tests (state_of gap) (event.FillBegin (handle 0) (page 2)) ≡ Some reply.Gone
fill_past_end = simp (handle_0 gap) refl

-- then the read answers twenty zeros and the byte
abbrev filled : Parts
filled = record gap { pages = (0, record { bytes = replicate 16 0; tags = none }) ∷ gap.pages }

read_passes : tests (state_of filled) (event.Read (handle 0) 0 21) ≡ None
read_passes = simp (handle_0 filled, page_get filled tt) refl

the_bytes : (b : List ℕ) (new : State) → Step (state_of filled) (event.Read (handle 0) 0 21) (reply.Bytes b) new
    → b ≡ replicate 20 0 ++ 255 ∷ []
the_bytes b new step = (happens (state_of filled) new (event.Read (handle 0) 0 21) (reply.Bytes b) read_passes step)
    ∙ simp (handle_0 filled, page_get filled tt) refl

-- a page that was written back and evicted is read from the device, and a read waits for it
abbrev evicted : Parts
evicted = record opened { size = 16; spots = ((0, 0), record { block = 0; valid = 16 }) ∷ []; next = 1 }

abbrev filling : Parts
filling = record evicted {
  requests = (1, record { kind = Fill; file = 0; page = 0; block = 0; dropped = false }) ∷ [];
  next = 2;
}

fill_needs_a_job : (new : State) → Step (state_of evicted) (event.FillBegin (handle 0) (page 0)) reply.Filled new → ⊥
fill_needs_a_job new step =
    let passes : tests (state_of evicted) (event.FillBegin (handle 0) (page 0)) ≡ None =
    simp (
      handle_0 evicted,
      page_get evicted tt,
      page_len evicted tt,
      spot_get evicted tt,
      request_entries evicted tt,
      request_len evicted tt,
    ) refl in
    let unwritten = (happens (state_of evicted) new (event.FillBegin (handle 0) (page 0)) reply.Filled passes step) in
    absurd (let clash : true ≡ false = simp (handle_0 evicted, spot_get evicted tt) at unwritten in cc)

read_waits : tests (state_of filling) (event.Read (handle 0) 0 1) ≡ Some (reply.Wait (page 0))
read_waits = simp (handle_0 filling, page_get filling tt, request_entries filling tt) refl

-- a fill that was dropped installs nothing
abbrev dropped : Parts
dropped = record filling {
  size = 1;
  pages = (0, record { bytes = 34 ∷ replicate 15 0; tags = D }) ∷ [];
  spots = ((0, 0), record { block = 1; valid = 0 }) ∷ [];
  requests = (1, record { kind = Fill; file = 0; page = 0; block = 0; dropped = true }) ∷ [];
}

dropped_fill_installs_nothing : (new : State)
    → Step (state_of dropped) (event.End Fill
    (record { cache = 0; kind = Fill; serial = serial 1; block = block 0; outcome = outcome.Read (replicate 16 17) })) reply.Filled new
    → ⊥
dropped_fill_installs_nothing new step =
    let passes : tests (state_of dropped)
    (event.End Fill (record {
      cache = 0;
      kind = Fill;
      serial = serial 1;
      block = block 0;
      outcome = outcome.Read (replicate 16 17);
    })) ≡ None = simp (request_get dropped tt) refl in
    let h = happens (state_of dropped) new
    (event.End Fill (record {
      cache = 0;
      kind = Fill;
      serial = serial 1;
      block = block 0;
      outcome = outcome.Read (replicate 16 17);
    })) reply.Filled passes step in
    absurd (let k = simp (request_get dropped tt) at h in let clash : true ≡ false = k in cc)

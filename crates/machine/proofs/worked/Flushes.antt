-- Worked examples of flushes and of eviction.
use Rattle.machine.specs.declared.event.End.{End}
use Rattle.machine.specs.declared.event.Outcome.{Outcome}
use Rattle.std.proofs.Common.{◌≡◌, ℕ, List, [], ◌∷◌, refl, Some, None, replicate, true, false, Bool}
use Rattle.pc_types.specs.declared.refusal.Refusal.TheVariants.{NoSuchFile, Stranger}
use Rattle.pc_types.specs.declared.kind.Kind.TheVariants.{Fill, Flush}
use Rattle.machine.specs.declared.event.Outcome.TheVariants as outcome
use Rattle.machine.specs.declared.event.Event.TheVariants as event
use Rattle.machine.specs.declared.event.Reply.TheVariants as reply
use Rattle.machine.specs.State.{State, Page}
use Rattle.machine.specs.Tests.{tests, refuse, fits}
use Rattle.machine.specs.Step.{Step}
use Rattle.machine.specs.Changes.{after_write}
use Rattle.machine.proofs.worked.States.{Parts, block, opened, state_of, page, file, serial, none, D, W, DW, page_get}
use Rattle.machine.proofs.worked.States.{page_entries, request_get, request_len, happens}

-- one dirty byte
abbrev one_dirty : Parts
one_dirty = record opened {
  size = 1;
  pages = (0, record { bytes = 170 ∷ replicate 15 0; tags = D }) ∷ [];
  spots = ((0, 0), record { block = 0; valid = 0 }) ∷ [];
}

flush_passes : tests (state_of one_dirty) (event.FlushBegin (file 0)) ≡ None
flush_passes = simp (page_entries one_dirty tt, request_len one_dirty tt) refl

-- its flush is request 0, and any other number is no reply
flush_is_request_0 : (t : ℕ) (new : State)
    → Step (state_of one_dirty) (event.FlushBegin (file 0)) (reply.Job (serial t)) new → t ≡ 0
flush_is_request_0 t new step = happens (state_of one_dirty) new (event.FlushBegin (file 0)) (reply.Job (serial t))
    flush_passes step

no_such_file : tests (state_of one_dirty) (event.FlushBegin (file 1)) ≡ refuse NoSuchFile
no_such_file = refl

-- a dirty page is not evicted
nothing_to_evict : tests (state_of one_dirty) event.Evict ≡ Some reply.NoneIdle
nothing_to_evict = simp (page_entries one_dirty tt) refl

-- the flush is in flight, and a write has changed the page meanwhile
abbrev changed_meanwhile : Parts
changed_meanwhile = record one_dirty {
  pages = (0, record { bytes = 187 ∷ replicate 15 0; tags = DW }) ∷ [];
  requests = (0, record { kind = Flush; file = 0; page = 0; block = 0; dropped = false }) ∷ [];
  next = 1;
}

-- no second flush of it begins
nothing_to_flush : tests (state_of changed_meanwhile) (event.FlushBegin (file 0)) ≡ Some reply.Nothing
nothing_to_flush = simp (page_entries changed_meanwhile tt) refl

abbrev ends_well : End
ends_well = record { cache = 0; kind = Flush; serial = serial 0; block = block 0; outcome = outcome.Written }

abbrev ends_badly : End
ends_badly = record { cache = 0; kind = Flush; serial = serial 0; block = block 0; outcome = outcome.Fault 5 }

flush_end_passes : (o : Outcome) → fits Flush o ≡ true
    → tests (state_of changed_meanwhile)
    (event.End Flush (record { cache = 0; kind = Flush; serial = serial 0; block = block 0; outcome = o })) ≡ None
flush_end_passes o e = simp (request_get changed_meanwhile tt, e) refl

-- a fill's bytes are not what comes of a write
bytes_do_not_fit : (b : List ℕ)
    → tests (state_of changed_meanwhile)
    (event.End Flush (record { cache = 0; kind = Flush; serial = serial 0; block = block 0; outcome = outcome.Read b }))
    ≡ refuse Stranger
bytes_do_not_fit b = simp (request_get changed_meanwhile tt) refl

-- the call was of another block than the request's
other_block_is_refused : tests (state_of changed_meanwhile) (event.End Flush (record ends_well { block = block 1 }))
    ≡ refuse Stranger
other_block_is_refused = simp (request_get changed_meanwhile tt) refl

-- the end of a flush is not one of a fill
other_kind_is_refused : tests (state_of changed_meanwhile) (event.End Fill ends_well) ≡ refuse Stranger
other_kind_is_refused = simp (request_get changed_meanwhile tt) refl

-- a fault is not answered as a success, nor a success as a failure
fault_is_told : (new : State) → Step (state_of changed_meanwhile) (event.End Flush ends_badly) reply.Written new → ⊥
fault_is_told new step =
    absurd (let h = happens (state_of changed_meanwhile) new (event.End Flush ends_badly) reply.Written
    (flush_end_passes (outcome.Fault 5) refl) step in simp (request_get changed_meanwhile tt) at h)

no_failure_invented : (c : ℕ) (new : State)
    → Step (state_of changed_meanwhile) (event.End Flush ends_well) (reply.Failed c) new → ⊥
no_failure_invented c new step =
    absurd (let h = happens (state_of changed_meanwhile) new (event.End Flush ends_well) (reply.Failed c)
    (flush_end_passes outcome.Written refl) step in simp (request_get changed_meanwhile tt) at h)

the_code : (c : ℕ) (new : State) → Step (state_of changed_meanwhile) (event.End Flush ends_badly) (reply.Failed c) new
    → c ≡ 5
the_code c new step =
    (let h = happens (state_of changed_meanwhile) new (event.End Flush ends_badly) (reply.Failed c)
    (flush_end_passes (outcome.Fault 5) refl) step in let k = simp (request_get changed_meanwhile tt) at h in k.1)

-- the page as it is after the flush has ended: DIRTY stays, and the newer byte with it
abbrev newer : Page
newer = record { bytes = 187 ∷ replicate 15 0; tags = D }

newer_dirty_stays : (failed : Bool) → after_write failed (record { bytes = 187 ∷ replicate 15 0; tags = DW }) ≡ newer
newer_dirty_stays failed = refl

-- a page that was not changed meanwhile is clean after a good end, and DIRTY again after a bad one
clean_after_good_end : (after_write false (record { bytes = 170 ∷ []; tags = W })).tags ≡ none
clean_after_good_end = refl

dirty_after_bad_end : (after_write true (record { bytes = 170 ∷ []; tags = W })).tags ≡ D
dirty_after_bad_end = refl

-- three clean pages: any of them may be evicted
abbrev three_clean : Parts
three_clean = record opened {
  size = 48;
  pages = (0, record { bytes = replicate 16 1; tags = none }) ∷ (1, record { bytes = replicate 16 1; tags = none })
      ∷ (2, record { bytes = replicate 16 1; tags = none }) ∷ [];
  spots = ((0, 0), record { block = 0; valid = 16 }) ∷ ((0, 1), record { block = 1; valid = 16 })
      ∷ ((0, 2), record { block = 2; valid = 16 }) ∷ [];
  next = 3;
}

evict_passes : tests (state_of three_clean) event.Evict ≡ None
evict_passes = simp (page_entries three_clean tt) refl

-- a page that is not cached is not evicted
only_cached_evicted : (new : State) → Step (state_of three_clean) event.Evict (reply.Evicted (file 0) (page 3)) new → ⊥
only_cached_evicted new step =
    absurd (let h = happens (state_of three_clean) new event.Evict (reply.Evicted (file 0) (page 3)) evict_passes
    step in let k = simp (page_get three_clean tt) at h in cc)

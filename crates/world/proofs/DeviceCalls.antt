-- A device call of a request, as a step of the world of the definitions.
use Rattle.std.proofs.Common.{◌≡◌, ℕ, ◌<◌, Bool, true, false, cond, not, List, [], refl, ap, sym, subst, ◌∙◌, inl, inr}
use Rattle.std.specs.Prelude.{◌&&◌, ◌||◌, Option, Some, None, IfSome, OnOk, OnErr, Result, Ok, Err, is_some, unwrap_or}
use Rattle.std.specs.Prelude.{slice_set, slice_index_or}
use Rattle.std.specs.FinMap as finmap
use Rattle.pc_types.specs.Kinds.{is_fill, is_flush}
use Rattle.pc_types.specs.declared.kind.Kind.{Kind}
use Rattle.pc_types.specs.declared.kind.Kind.TheVariants.{Fill, Flush}
use Rattle.blockdev.specs.declared.fault.FaultEffect.{FaultEffect}
use Rattle.blockdev.specs.declared.fault.FaultEffect.TheVariants.{Old, New}
use Rattle.blockdev.specs.Blocks.{block_at}
use Rattle.blockdev.specs.Device.{Outcome, Reads, with_block, kept, max_calls}
use Rattle.blockdev.specs.Jobs.{Task, Transfers}
use Rattle.cachecore.specs.Replies.{outcome_of}
use Rattle.machine.specs.State.{Request}
use Rattle.machine.specs.declared.event.Outcome.TheVariants as outcome
use Rattle.runs.specs.World.{World, Call, Calls, WorldStep, block_bytes, device_after}
use Rattle.runs.specs.World as runs
use Rattle.world.specs.Stepping.{WorldSeen, world_of, IsCalled, MovesByCall, failing}

set_shown : (c : Option (List (List ℕ))) (b : ℕ) (bytes : List ℕ)
    → unwrap_or (with_block c b bytes) [] ≡ slice_set (unwrap_or c []) b bytes
set_shown None b bytes = refl
set_shown (Some blocks) b bytes = refl

on_ok : {A E : Type 0} (r : Result A E) (x : A) (Q : Type 0) → r ≡ Ok x → OnOk r Q → Q
on_ok (Ok y) x Q e h = h
on_ok (Err y) x Q e h = absurd cc

on_err : {A E : Type 0} (r : Result A E) (x : E) (Q : Type 0) → r ≡ Err x → OnErr r Q → Q
on_err (Ok y) x Q e h = absurd cc
on_err (Err y) x Q e h = h

if_some : {A : Type 0} (o : Option A) (Q : A → Type 0) (x : A) → o ≡ Some x → IfSome o Q → Q x
if_some None Q x e h = absurd cc
if_some (Some y) Q x e h = subst Q (let i : y ≡ x = cc in i) h

module _ (old : WorldSeen) (t : ℕ) (new : WorldSeen) (c : IsCalled old t new)
    (none : finmap.get old.outcomes t ≡ None) where
  abbrev w : World
  w = world_of old

  abbrev x : Request
  x = c.asked.0

  kind : c.job.kind ≡ x.kind
  kind = ap (λ (j : Task). j.kind) c.asked.2

  block : c.job.block ≡ x.block
  block = ap (λ (j : Task). j.block) c.asked.2

  -- what a flush writes
  abbrev writes_these : List ℕ
  writes_these = unwrap_or (finmap.get old.writing t) []

  bytes : x.kind ≡ Flush → c.job.bytes ≡ writes_these
  bytes k = ap (λ (j : Task). j.bytes) c.asked.2 ∙ ap (λ q. cond (is_flush q) writes_these c.job.bytes) k

  -- the step, by the blocks and the outcome after it
  moves : (fault : Option ℕ) (effect : Bool) → unwrap_or new.device.contents [] ≡ device_after w t x fault effect
      → outcome_of c.job.kind c.done.outcome c.done.bytes ≡ runs.outcome_of w x fault
      → WorldStep w (Call t fault effect) (world_of new)
  moves fault effect d o =
      subst (λ q. Calls w t q (finmap.get old.outcomes t) fault effect (world_of new))
      (sym (ap (finmap.get old.core.requests) (sym c.serial) ∙ c.asked.1))
      (subst (λ q. Calls w t (Some x) q fault effect (world_of new)) (sym none)
      (ap world_of c.noted ∙ (λ i. record w { device = d i; outcomes = finmap.insert old.outcomes t (o i) })))

  -- a read
  module _ (k : x.kind ≡ Fill) where
    reads : Reads old.device c.job.block c.job.bytes c.done.outcome c.done.bytes new.device
    reads = subst (λ q. Transfers q old.device c.job.block c.job.bytes c.done.outcome c.done.bytes new.device)
        (kind ∙ k) c.performs.call

    same_device : (fault : Option ℕ) (effect : Bool)
        → unwrap_or new.device.contents [] ≡ device_after w t x fault effect
    same_device fault effect = ap (λ o. unwrap_or o []) reads.contents
        ∙ sym (ap (λ q. cond (is_flush q && (not (is_some fault) || effect))
        (slice_set w.device x.block writes_these) w.device) k)

    pub read_failed : (code : ℕ) (effect : Bool) → c.done.outcome ≡ Err code
        → WorldStep w (Call t (Some code) effect) (world_of new)
    read_failed code effect e = moves (Some code) effect (same_device (Some code) effect)
        (ap (λ o. outcome_of c.job.kind o c.done.bytes) e)

    read_well : (blocks : List (List ℕ)) → old.device.contents ≡ Some blocks → (out : Outcome) → c.done.outcome ≡ out
        → MovesByCall old t new
    read_well blocks is (Err code) e = (Some code, true, read_failed code true e)
    read_well blocks is (Ok u) e =
        let read : c.done.bytes ≡ block_at blocks c.job.block =
        if_some old.device.contents _ blocks is (on_ok c.done.outcome u _ e reads.bytes) in
        let same : c.done.bytes ≡ block_bytes w x.block =
        read ∙ (λ i. slice_index_or (unwrap_or (sym is i) []) (block i) []) in (
          None,
          true,
          moves None true (same_device None true)
              ((λ i. outcome_of ((kind ∙ k) i) (e i) c.done.bytes) ∙ ap outcome.Read same
              ∙ sym (ap (λ q. cond (is_fill q) (outcome.Read (block_bytes w x.block)) outcome.Written) k)),
        )

  -- a write
  module _ (k : x.kind ≡ Flush) where
    writes : Transfers Flush old.device c.job.block c.job.bytes c.done.outcome c.done.bytes new.device
    writes = subst (λ q. Transfers q old.device c.job.block c.job.bytes c.done.outcome c.done.bytes new.device)
        (kind ∙ k) c.performs.call

    written : unwrap_or (with_block old.device.contents c.job.block c.job.bytes) []
        ≡ slice_set w.device x.block writes_these
    written = set_shown old.device.contents c.job.block c.job.bytes
        ∙ (λ i. slice_set w.device (block i) (bytes k i))

    device_is : (fault : Option ℕ) (effect : Bool)
        → cond (not (is_some fault) || effect) (slice_set w.device x.block writes_these) w.device
        ≡ device_after w t x fault effect
    device_is fault effect = sym (ap (λ q. cond (is_flush q && (not (is_some fault) || effect))
        (slice_set w.device x.block writes_these) w.device) k)

    pub write_failed : (code : ℕ) (effect : Bool) (left : Option (List (List ℕ))) → c.done.outcome ≡ Err code
        → new.device.contents ≡ left
        → unwrap_or left [] ≡ cond effect (slice_set w.device x.block writes_these) w.device
        → WorldStep w (Call t (Some code) effect) (world_of new)
    write_failed code effect left e d is =
        moves (Some code) effect (ap (λ o. unwrap_or o []) d ∙ is ∙ device_is (Some code) effect)
        (ap (λ o. outcome_of c.job.kind o c.done.bytes) e)

    write_well : (out : Outcome) → c.done.outcome ≡ out → MovesByCall old t new
    write_well (Err code) e = elim (on_err c.done.outcome code _ e writes.0.whole) [
      | inl h ↦ (Some code, false, write_failed code false old.device.contents e h refl)
      | inr h ↦ (
        Some code,
        true,
        write_failed code true (with_block old.device.contents c.job.block c.job.bytes) e h written,
      )
    ]
    write_well (Ok u) e = (
      None,
      true,
      moves None true
          (ap (λ o. unwrap_or o []) (on_ok c.done.outcome u _ e writes.0.written) ∙ written ∙ device_is None true)
          ((λ i. outcome_of ((kind ∙ k) i) (e i) c.done.bytes)
          ∙ sym (ap (λ q. cond (is_fill q) (outcome.Read (block_bytes w x.block)) outcome.Written) k)),
    )

  pub calls_move : IfSome old.device.contents (λ _. MovesByCall old t new)
  calls_move = go old.device.contents refl
    where
      by_kind : (blocks : List (List ℕ)) → old.device.contents ≡ Some blocks → (q : Kind) → x.kind ≡ q
          → MovesByCall old t new
      by_kind blocks is Fill k = read_well k blocks is c.done.outcome refl
      by_kind blocks is Flush k = write_well k c.done.outcome refl

      go : (o : Option (List (List ℕ))) → old.device.contents ≡ o → IfSome o (λ _. MovesByCall old t new)
      go None is = tt
      go (Some blocks) is = by_kind blocks is x.kind refl

-- ---- a call that is made to fail: it fails with this code, and leaves the old or the new bytes

abbrev pub is_new : FaultEffect → Bool
is_new Old = false
is_new New = true

module _ (old : WorldSeen) (t : ℕ) (code : ℕ) (effect : FaultEffect) (new : WorldSeen)
    (c : IsCalled (failing old code effect) t new) (none : finmap.get old.outcomes t ≡ None)
    (counted : old.device.calls < max_calls) where
  abbrev f : WorldSeen
  f = failing old code effect

  abbrev over : Option (List (List ℕ))
  over = with_block old.device.contents c.job.block c.job.bytes

  left_kept : (e : FaultEffect) (a b : Option (List (List ℕ))) → kept e a b ≡ cond (is_new e) b a
  left_kept Old a b = refl
  left_kept New a b = refl

  shows : (e : Bool) (a b : Option (List (List ℕ)))
      → unwrap_or (cond e b a) [] ≡ cond e (unwrap_or b []) (unwrap_or a [])
  shows true a b = refl
  shows false a b = refl

  by_kind : (q : Kind) → c.asked.0.kind ≡ q
      → WorldStep (world_of old) (Call t (Some code) (is_new effect)) (world_of new)
  by_kind Fill k =
      read_failed f t new c none k code (is_new effect) ((reads f t new c none k).call.planned counted)
  by_kind Flush k =
      let w = (writes f t new c none k).0 in
      write_failed f t new c none k code (is_new effect) (kept effect old.device.contents over) (w.call.planned counted)
      (w.effect counted) (ap (λ o. unwrap_or o []) (left_kept effect old.device.contents over)
      ∙ shows (is_new effect) old.device.contents over
      ∙ ap (λ d. cond (is_new effect) d (unwrap_or old.device.contents [])) (written f t new c none k))

  pub fails_so : WorldStep (world_of old) (Call t (Some code) (is_new effect)) (world_of new)
  fails_so = by_kind c.asked.0.kind refl

-- A device call.
use Rattle.std.proofs.Common.{◌≡◌, ℕ, ◌<◌, Bool, true, false, cond, not, [], length, refl, ap, sym, subst, ◌∙◌, inl}
use Rattle.std.proofs.Common.{inr, ◌&&◌, ◌||◌, Option, Some, None, is_some, slice_set, length-set}
use Rattle.std.specs.FinMap as finmap
use Rattle.pc_types.specs.Kinds.{is_fill, is_flush}
use Rattle.pc_types.specs.declared.kind.Kind.{Kind}
use Rattle.pc_types.specs.declared.kind.Kind.TheVariants.{Fill, Flush}
use Rattle.machine.specs.declared.event.Outcome.{Outcome}
use Rattle.machine.specs.declared.event.Outcome.TheVariants as outcome
use Rattle.machine.specs.State.{State, Request}
use Rattle.machine.specs.Tests.{fits}
use Rattle.machine.proofs.changes.StateLaws.{get_or-set}
use Rattle.runs.specs.Plain.{Plain}
use Rattle.runs.specs.World.{World, block_bytes, Calls, outcome_of, device_after}
use Rattle.runs.proofs.views.View.{View, Flight, Evolves, Goes, no_gone, put1, put1_here}
use Rattle.runs.proofs.events.Coupled.{view, Coupled, After}
use Rattle.runs.proofs.events.Lookups.{get-insert1}
use Rattle.runs.proofs.events.Tables.{flight, flight_at, flight_is, bytes_of, called_tables}
use Rattle.runs.proofs.views.CallNoted.{WentWell, call_noted}
use Rattle.runs.proofs.views.BlockWritten.{block_written}

-- what is noted does not matter to pages that a sync looks after
noting_evolves : (v w : View) (outcome : ℕ → Option Outcome) → Evolves no_gone v w
    → Evolves no_gone v (record w { outcome = outcome })
noting_evolves v w outcome e =
    record {
      on_device =
          λ f p g b h. elim (e.on_device f p g b h) [
            | inl h ↦ inl h
            | inr h ↦ inr search
          ];
      from = e.from;
      flush = e.flush;
      to_write =
          λ f p g t. elim (e.to_write f p g t) [
            | inl h ↦ inl h
            | inr h ↦ inr search
          ];
      failures = e.failures;
      same_size = e.same_size;
    }

module _ (w : World) (plain : Plain) (c : Coupled w plain) (t : ℕ) (x : Request)
    (there : finmap.get w.core.requests t ≡ Some x) where
  -- the request with its bytes
  abbrev r : Flight
  r = flight (bytes_of w.writing t) x

  is : flight_at w.core.requests w.writing t ≡ Some r
  is = flight_is w.core.requests w.writing t x there

  abbrev s : State
  s = w.core

  -- the world with this outcome noted
  abbrev noted : Outcome → World
  noted o = record w { outcomes = finmap.insert w.outcomes t o }

  noted_view : (o : Outcome) → view (noted o) plain
      ≡ record (view w plain) { outcome = put1 (finmap.get w.outcomes) t (Some o) }
  noted_view o = λ i. record (view w plain) {
    outcome = λ u. get-insert1 w.outcomes t o u i;
  }

  notes : (o : Outcome) → fits x.kind o ≡ true → WentWell (view w plain) r o → After w plain no_gone (noted o) plain
  notes o fitting well =
      let now = subst (Goes no_gone (view w plain)) (sym (noted_view o))
      (call_noted (view w plain) c.good t r is o well) in
      assumption (called_tables s.requests w.outcomes w.writing c.tables t x o there fitting)

  read_well : x.kind ≡ Fill → After w plain no_gone (noted (outcome.Read (block_bytes w x.block))) plain
  read_well kind =
      notes (outcome.Read (block_bytes w x.block)) (ap (λ k. fits k (outcome.Read (block_bytes w x.block))) kind)
      (record {
        fill = λ bytes e _. (let a : outcome.Read (block_bytes w x.block) ≡ outcome.Read bytes = e in cc);
        flush = λ e k. absurd cc;
      })

  fails : (code : ℕ) → After w plain no_gone (noted (outcome.Fault code)) plain
  fails code =
      notes (outcome.Fault code) (fault_fits x.kind)
      (record { fill = λ bytes e _. absurd cc; flush = λ e k. absurd cc })
    where
      fault_fits : (k : Kind) → fits k (outcome.Fault code) ≡ true
      fault_fits Fill = refl
      fault_fits Flush = refl

  abbrev wrote : Outcome → World
  wrote o = record w { outcomes = finmap.insert w.outcomes t o; device = slice_set w.device r.block r.bytes }

  same_length : length (slice_set w.device r.block r.bytes) ≡ length w.device
  same_length = length-set w.device r.block r.bytes

  in_device : r.block < length w.device
  in_device = (c.good.requests t r is).block

  block_after : (b : ℕ) → block_bytes (record w { device = slice_set w.device r.block r.bytes }) b
      ≡ put1 (block_bytes w) r.block r.bytes b
  unfolding put1
  block_after b = get_or-set w.device r.block b r.bytes [] in_device

  wrote_view : (o : Outcome) → view (wrote o) plain
      ≡ record (view w plain) {
        outcome = put1 (finmap.get w.outcomes) t (Some o);
        block = put1 (block_bytes w) r.block r.bytes;
      }
  wrote_view o = λ i. record (view w plain) {
    blocks = same_length i;
    outcome = λ u. get-insert1 w.outcomes t o u i;
    block = λ b. block_after b i;
  }

  -- the block has the request's bytes, and then the outcome is noted
  wrote_all : x.kind ≡ Flush → (o : Outcome) → fits x.kind o ≡ true → After w plain no_gone (wrote o) plain
  wrote_all kind o fitting =
      let v = view w plain in
      let first = block_written v c.good t r is kind in
      let block_now = put1 v.block r.block r.bytes in
      let both : Goes no_gone v (record v { outcome = put1 v.outcome t (Some o); block = block_now }) = (
        (call_noted (record v { block = block_now }) first.0 t r is o
            (record {
              fill = λ bytes e k. absurd (let a = kind in cc);
              flush = λ _ _. put1_here v.block r.block r.bytes;
            })).0,
        noting_evolves v (record v { block = block_now }) (put1 v.outcome t (Some o)) first.1,
      ) in
      let now = subst (Goes no_gone v) (sym (wrote_view o)) both in
      assumption (called_tables s.requests w.outcomes w.writing c.tables t x o there fitting, same_length ∙ c.blocks)

  by_kind : (k : Kind) (fault : Option ℕ) (effect : Bool) (new : World) → x.kind ≡ k
      → new ≡ record w {
        device = cond (is_flush k && (not (is_some fault) || effect))
            (slice_set w.device x.block (bytes_of w.writing t)) w.device;
        outcomes =
            finmap.insert w.outcomes t (elim fault [
              | None ↦ cond (is_fill k) (outcome.Read (block_bytes w x.block)) outcome.Written
              | Some code ↦ outcome.Fault code
            ]);
      }
      → After w plain no_gone new plain
  by_kind Fill None effect new kind e = subst (λ x. After w plain no_gone x plain) (sym e) (read_well kind)
  by_kind Fill (Some code) effect new kind e = subst (λ x. After w plain no_gone x plain) (sym e) (fails code)
  by_kind Flush None effect new kind e = subst (λ x. After w plain no_gone x plain) (sym e)
      (wrote_all kind outcome.Written (ap (λ k. fits k outcome.Written) kind))
  by_kind Flush (Some code) true new kind e = subst (λ x. After w plain no_gone x plain) (sym e)
      (wrote_all kind (outcome.Fault code) (ap (λ k. fits k (outcome.Fault code)) kind))
  by_kind Flush (Some code) false new kind e = subst (λ x. After w plain no_gone x plain) (sym e) (fails code)

  outcome_is : (fault : Option ℕ)
      → outcome_of w x fault ≡ elim fault [
        | None ↦ cond (is_fill x.kind) (outcome.Read (block_bytes w x.block)) outcome.Written
        | Some code ↦ outcome.Fault code
      ]
  outcome_is None = refl
  outcome_is (Some code) = refl

  pub called : (fault : Option ℕ) (effect : Bool) (new : World)
      → new ≡ record w {
        device = device_after w t x fault effect;
        outcomes = finmap.insert w.outcomes t (outcome_of w x fault);
      } → After w plain no_gone new plain
  called fault effect new e =
      by_kind x.kind fault effect new refl
      (e ∙ ap (λ o. record w { device = device_after w t x fault effect; outcomes = finmap.insert w.outcomes t o })
      (outcome_is fault))

-- a device call
pub call_kept : (w : World) (plain : Plain) → Coupled w plain → (t : ℕ) (fault : Option ℕ) (effect : Bool) (new : World)
    → Calls w t (finmap.get w.core.requests t) (finmap.get w.outcomes t) fault effect new
    → After w plain no_gone new plain
call_kept w plain c t fault effect new h = go (finmap.get w.core.requests t) refl (finmap.get w.outcomes t) h
  where
    go : (q : Option Request) → finmap.get w.core.requests t ≡ q → (o : Option Outcome) → Calls w t q o fault effect new
        → After w plain no_gone new plain
    go (Some x) there None h = called w plain c t x there fault effect new h
    go (Some x) there (Some o) h = absurd h
    go None there o h = absurd h

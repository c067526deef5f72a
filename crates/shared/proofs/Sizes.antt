-- How far reads and writes go: no file is longer than the limit.
use Rattle.std.proofs.Common.{ℕ, ◌+◌, ◌≤◌, List, length, take, subst, ap, ◌∙◌}
use Rattle.std.specs.Prelude.{Ok, map}
use Rattle.std.proofs.lemmas.List.{length-take-le}
use Rattle.cachecore.specs.Replies.{wrote}
use Rattle.cachecore.specs.declared.answers.WriteAnswer.{WriteAnswer}
use Rattle.cachecore.specs.declared.answers.WriteAnswer.TheVariants as answer
use Rattle.orderly.proofs.Calls.{append_whole, read_small, write_whole}
use Rattle.orderly.proofs.FileSizes.{AreBounded}
use Rattle.orderly.proofs.Legal.{legal_bounded}
use Rattle.held.specs.declared.log.Slip.{Slip}
use Rattle.held.specs.Entered.{Made}
use Rattle.held.specs.Shown.{HeldSeen, SeatSeen}
use Rattle.machine.specs.Catalogs.{Catalog}
use Rattle.machine.specs.State.{handle_file}
use Rattle.machine.specs.declared.event.Event.TheVariants as event
use Rattle.machine.specs.declared.event.Reply.TheVariants as reply
use Rattle.pc_types.specs.declared.ids.HandleId.{HandleId}
use Rattle.pc_types.specs.declared.limits.TheConstants.{MAX_FILE_SIZE}
use Rattle.trail.specs.History.{After, seatless}
use Rattle.shared.specs.Changes.{IsWholeIn}
use Rattle.shared.specs.declared.writes.Change.TheVariants.{Append, Write}

-- no file is longer than the limit where the history is legal
bounded_after : (files : Catalog) (s : HeldSeen) → After files s.core.state.sizes s.core.state.name s.log.history s.core.state
    → AreBounded s.core.state
bounded_after files s h =
    legal_bounded files s.core.state.sizes s.core.state.name (map seatless s.log.history) s.core.state h.0 h.1

pub read_within : (files : Catalog) (h : HandleId) (o n : ℕ) (bytes : List ℕ) (old new : HeldSeen) (before after : SeatSeen) (slip : Slip)
    → After files old.core.state.sizes old.core.state.name old.log.history old.core.state
    → Made (event.Read h o n) (reply.Bytes bytes) old new before after slip → o ≤ MAX_FILE_SIZE
    → o + length bytes ≤ MAX_FILE_SIZE
read_within files h o n bytes old new before after slip legal m =
    read_small old.core.state new.core.state h o n bytes (bounded_after files old legal) m.step

pub read_counted : (files : Catalog) (h : HandleId) (o n count : ℕ) (out : List ℕ) (old new : HeldSeen) (before after : SeatSeen) (slip : Slip)
    → count ≤ length out → After files old.core.state.sizes old.core.state.name old.log.history old.core.state
    → Made (event.Read h o n) (reply.Bytes (take count out)) old new before after slip → o ≤ MAX_FILE_SIZE
    → o + count ≤ MAX_FILE_SIZE
read_counted files h o n count out old new before after slip within legal m small =
    subst (λ k. o + k ≤ MAX_FILE_SIZE) (length-take-le count out within)
    (read_within files h o n (take count out) old new before after slip legal m small)

pub whole_write : (h : HandleId) (at : ℕ) (bytes : List ℕ) (a : WriteAnswer) (old new : HeldSeen) (before after : SeatSeen)
    (slip : Slip) → Made (event.Write h at bytes) (wrote (Ok a)) old new before after slip
    → IsWholeIn (Write at) bytes a
whole_write h at bytes (answer.Wrote count end) old new before after slip m =
    let w = write_whole old.core.state new.core.state h at bytes count end m.step in
    (w.count, w.ends ∙ ap (λ n. at + n) w.count, w.small)
whole_write h at bytes (answer.Wait p) old new before after slip m = tt
whole_write h at bytes (answer.Miss p) old new before after slip m = tt

pub whole_append : (files : Catalog) (h : HandleId) (bytes : List ℕ) (a : WriteAnswer) (old new : HeldSeen) (before after : SeatSeen)
    (slip : Slip) → After files old.core.state.sizes old.core.state.name old.log.history old.core.state
    → Made (event.Append h bytes) (wrote (Ok a)) old new before after slip → IsWholeIn Append bytes a
whole_append files h bytes (answer.Wrote count end) old new before after slip legal m =
    let w = append_whole old.core.state new.core.state h bytes count end m.step in
    (w.count, w.small (bounded_after files old legal (handle_file old.core.state h.0)))
whole_append files h bytes (answer.Wait p) old new before after slip legal m = tt
whole_append files h bytes (answer.Miss p) old new before after slip legal m = tt

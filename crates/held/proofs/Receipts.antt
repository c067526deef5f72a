-- The receipts of failed writes.
use Rattle.std.proofs.Common.{◌≡◌, ◌<◌, ℕ, cond, eq-eqb, List, [], ◌∷◌, ◌++◌, length, refl, ap, sym, subst, ◌∙◌}
use Rattle.std.specs.Prelude.{Err, IfSome, Ok, Option, Result, Some, None}
use Rattle.cachecore.specs.Replies.{NamesFile}
use Rattle.cachecore.specs.declared.answers.Ended.{Ended}
use Rattle.cachecore.specs.declared.answers.Ended.TheVariants as ended
use Rattle.cachecore.specs.declared.answers.RefusedEnd.{RefusedEnd}
use Rattle.machine.specs.State.{State}
use Rattle.pc_types.specs.declared.kind.Kind.{Kind}
use Rattle.errboard.specs.Shown.{ReceiptSeen, RecorderSeen}
use Rattle.errboard.specs.Steps.{with_recording}
use Rattle.errboard.specs.Views.{recorded_of}
use Rattle.errseq.specs.declared.recording.Recording.{Recording}
use Rattle.machine.proofs.changes.StateLaws.{get_or-set}
use Rattle.atomic_table.specs.Seated.{TableId}
use Rattle.held.specs.Ends.{HasFailure, IsOnBoard, IsRecorded}
use Rattle.held.specs.Keeps.{AreTold}

-- a receipt is of the board that it was recorded on
pub own_receipt : (board : TableId) (old new : RecorderSeen) (a : Ended) (receipt : Option ReceiptSeen)
    → old.board ≡ board → IsRecorded old (Ok a) receipt new → IfSome receipt (λ r. r.board ≡ board)
own_receipt board old new a None e h = tt
own_receipt board old new (ended.Failed file code b) (Some receipt) e h = h.2 ∙ e
own_receipt board old new (ended.Dropped b) (Some receipt) e h = absurd h
own_receipt board old new (ended.Done b) (Some receipt) e h = absurd h

-- a request that failed is of one of the board's files
pub on_board : (s : State) (k : Kind) (t : ℕ) (a : Result Ended RefusedEnd) → NamesFile s k t a → IsOnBoard a
on_board s k t (Ok (ended.Failed file code b)) h = h.4
on_board s k t (Ok (ended.Dropped b)) h = tt
on_board s k t (Ok (ended.Done b)) h = tt
on_board s k t (Err e) h = tt

-- ---- its failure

recorded_push : (all : List (List Recording)) (f : ℕ) (x : Recording) → f < length all
    → recorded_of (with_recording all f x) f ≡ recorded_of all f ++ x ∷ []
recorded_push all f x here =
    let more = recorded_of all f ++ x ∷ [] in
    get_or-set all f f more [] here ∙ ap (λ b. cond b more (recorded_of all f)) (eq-eqb f f refl)

-- as many were recorded before as writes of the file had failed
pub has_failure : (s : State) (old new : RecorderSeen) (a : Ended) (receipt : Option ReceiptSeen) → AreTold s old
    → IsRecorded old (Ok a) receipt new → HasFailure s a receipt
has_failure s old new (ended.Failed file code b) (Some receipt) told h = (
  recorded_of old.all file.0,
  h.1.2.0,
  h.4 ∙ ap (λ l. recorded_of l file.0) h.1.2.3
      ∙ recorded_push old.all file.0 h.1.2.0 (subst (λ n. file.0 < n) (sym told.lists) h.0),
  told.counted file.0,
  h.1.2.1,
)
has_failure s old new (ended.Failed file code b) None told h = tt
has_failure s old new (ended.Dropped b) receipt told h = tt
has_failure s old new (ended.Done b) receipt told h = tt

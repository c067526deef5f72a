-- The size that an open file answers.
use Rattle.std.proofs.Common.{◌≡◌, ℕ, Bool, true, false, cond}
use Rattle.std.specs.Prelude.{Result, Ok, Err, Some}
use Rattle.pc_types.specs.declared.refusal.Refusal.{Refusal}
use Rattle.pc_types.specs.declared.refusal.Refusal.TheVariants.{BadHandle}
use Rattle.pc_types.specs.declared.ids.HandleId.{HandleId}
use Rattle.machine.specs.declared.event.Event.TheVariants as event
use Rattle.machine.specs.declared.event.Reply.TheVariants as reply
use Rattle.cachecore.specs.Replies.{sized}
use Rattle.machine.specs.State.{State, file_at, handle_file, is_open}
use Rattle.machine.specs.Step.{AnswersOr, Step}
use Rattle.machine.specs.Tests.{refuse}

pub sized_is : (s new : State) (h : HandleId) (r : Result ℕ Refusal) → Step s (event.Size h) (sized r) new → is_open s h.0 ≡ true → r ≡ Ok (file_at s (handle_file s h.0)).size
sized_is s new h r a o = by (is_open s h.0) o r a
  where
    size : ℕ
    size = (file_at s (handle_file s h.0)).size

    by : (b : Bool) → b ≡ true → (r : Result ℕ Refusal) → AnswersOr (cond b (Some (reply.Size size)) (refuse BadHandle)) s (event.Size h) (sized r) new → r ≡ Ok size
    by true e (Ok n) a = (let x = a.0 in cc)
    by true e (Err why) a = absurd (let x = a.0 in cc)
    by false e r a = absurd cc

-- Where no room could be made a write failed, or there is room for any one call.
use Rattle.std.proofs.Common.{◌≡◌, ℕ, false, inl, inr}
use Rattle.std.specs.Prelude.{Some, ◌⊎◌}
use Rattle.atomic_table.specs.Seated.{TableId}
use Rattle.machine.specs.declared.event.Event.TheVariants as event
use Rattle.machine.specs.declared.event.Reply.TheVariants as reply
use Rattle.machine.specs.Tests.{tests}
use Rattle.orderly.proofs.Enough.{clean_enough, enough, some_free}
use Rattle.filesvc.specs.Rests.{IsServing}
use Rattle.filesvc.specs.Rooms.{FailsFlush, FlushesOne, IsClean, Suffices}
use Rattle.filesvc.specs.Seen.{SoloSeen}

-- where no room could be made for a frame
pub full_refused : (s new : SoloSeen) (name : ℕ) (table : TableId) → IsServing name s.world table s.errors
    → tests s.world.core event.Evict ≡ Some reply.NoneIdle → FlushesOne s false new → FailsFlush s new ⊎ Suffices s
full_refused s new name table i idle (inl x) = inr (
  some_free s.world.core i.sound i.orderly i.rests.requests x.1 idle i.frames,
  λ h o n. enough s.world.core i.sound i.orderly i.rests.requests x.1 idle i.frames h o n,
)
full_refused s new name table i idle (inr x) = inl x

-- and where none could be made for a dirty page
pub dirty_refused : (s new : SoloSeen) (name : ℕ) (table : TableId) → IsServing name s.world table s.errors
    → FlushesOne s false new → FailsFlush s new ⊎ IsClean s
dirty_refused s new name table i (inl x) =
    inr (λ h o n. clean_enough s.world.core i.sound i.orderly i.rests.requests x.1 i.dirty h o n)
dirty_refused s new name table i (inr x) = inl x

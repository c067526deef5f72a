-- How a call is made of steps of the world: of attempts, each of which is a step of the call's own and then steps that
-- help it.
use Rattle.std.specs.Prelude.{◌≡◌, ℕ, zero, suc, ◌+◌, ◌==◌, ◌&&◌, Bool, true, false, List, [], ◌∷◌, All, Option, Some, None, option_map, unwrap_or}
use Rattle.std.specs.Prelude.{if◌then◌else◌}
use Rattle.pc_types.specs.declared.ids.HandleId.{HandleId}
use Rattle.pc_types.specs.declared.ids.PageIndex.{PageIndex}
use Rattle.pc_types.specs.declared.ids.Serial.{Serial}
use Rattle.pc_types.specs.declared.ids.SyncId.{SyncId}
use Rattle.pc_types.specs.declared.refusal.Refusal.TheVariants.{Io, Memory}
use Rattle.machine.specs.declared.event.Reply.{Reply}
use Rattle.machine.specs.declared.event.Reply.TheVariants as reply
use Rattle.world.specs.declared.step.Step.{Step}
use Rattle.world.specs.declared.step.Step.TheVariants as step
use Rattle.world.specs.Stepping.{WorldSeen, IsMade, Plays, Steps}
use Rattle.filesvc.specs.Seen.{HandleSeen, SoloSeen}
use Rattle.filesvc.specs.Service.{is_settled}

-- the world went on by steps, one after the other, each of which is of this kind
pub record Moves (is_kind : Step → Bool) (old new : WorldSeen) : Type 0 where
  pub steps : List Step
  pub replies : List Reply
  pub plays : Plays old steps replies new
  pub each : All (λ s. is_kind s ≡ true) steps

-- the page that a reply asks for
abbrev pub asked : Reply → Option PageIndex
asked (reply.Miss p) = Some p
asked (reply.Wait p) = Some p
asked r = None

-- what helps a read, a write or a truncation by this handle, where its own step asked for this page: that page is filled by it, and pages
-- evicted and written back
abbrev pub is_help : ℕ → Option PageIndex → Step → Bool
is_help k page (step.FillBegin h p) = h.0 == k && unwrap_or (option_map (λ q. q.0 == p.0) page) false
is_help k page (step.FlushBegin f) = true
is_help k page step.Evict = true
is_help k page step.Age = true
is_help k page (step.Call t) = true
is_help k page (step.End t) = true
is_help k page _ = false

-- what an fsync is made of
abbrev pub is_for_sync : Step → Bool
is_for_sync (step.SyncBeginRange h first last) = true
is_for_sync (step.SyncStep m) = true
is_for_sync (step.SyncDrop m) = true
is_for_sync (step.Call t) = true
is_for_sync (step.End t) = true
is_for_sync _ = false

-- what a sync writes by: its own steps, and the device call and the end of each write
abbrev pub is_sync_write : Step → Bool
is_sync_write (step.SyncStep m) = true
is_sync_write (step.Call t) = true
is_sync_write (step.End t) = true
is_sync_write _ = false

-- sync n of these pages was begun, and made its writes
pub record Writes (h : HandleId) (first last : PageIndex) (n : SyncId) (old new : WorldSeen) : Type 0 where
  pub begun : WorldSeen
  pub begins : Steps old (step.SyncBeginRange h first last) (reply.Sync n) begun
  pub writes : Moves is_sync_write begun new

-- a sync of these pages was begun, made its writes, and was over by this reply
pub record Syncs (h : HandleId) (first last : PageIndex) (old : WorldSeen) (r : Reply) (new : WorldSeen) : Type 0 where
  pub sync : SyncId
  pub written : WorldSeen
  pub writes : Writes h first last sync old written
  pub ends : Steps written (step.SyncStep sync) r new

-- the handle of a call's own step
abbrev pub own_handle : Step → ℕ
own_handle (step.Read h o n) = h.0
own_handle (step.Write h o b) = h.0
own_handle (step.Append h b) = h.0
own_handle (step.Truncate h z) = h.0
own_handle _ = 0

-- after steps that help, this page was filled by the handle, and the device call failed with this code
abbrev pub FailsFill : WorldSeen → ℕ → PageIndex → ℕ → WorldSeen → Type 0
FailsFill old h p code new =
    (mid : WorldSeen) × Moves (is_help h (Some p)) old mid × (t : Serial)
    × Plays mid (step.FillBegin (record { 0 = h }) p ∷ step.Call t ∷ step.End t ∷ [])
    (reply.Job t ∷ reply.Done ∷ reply.Failed code ∷ []) new

-- after steps that help, this page was to be filled by the handle, and memory for it was refused
abbrev pub WantsMemory : WorldSeen → ℕ → PageIndex → WorldSeen → Type 0
WantsMemory old h p new =
    (mid : WorldSeen) × Moves (is_help h (Some p)) old mid × IsMade mid (step.FillBegin (record { 0 = h }) p) (reply.Refused Memory) new

-- one attempt of a call: its own step, whose reply is the answer; but where that asks for a page or for room, steps that
-- help, and no answer yet, or a refusal. If that is for a failed device call or for want of memory, the step asked for a page, and the last
-- help was the fill of that page: the refusal has its code
pub record Try (own : Step) (old : WorldSeen) (over : Option Reply) (new : WorldSeen) : Type 0 where
  pub got : Reply
  pub after : WorldSeen
  pub step : IsMade old own got after
  pub settled : is_settled (Some got) ≡ true → (over ≡ Some got) × (new ≡ after)
  pub helped : is_settled (Some got) ≡ false → Moves (is_help (own_handle own) (asked got)) after new
  pub failed : is_settled (Some got) ≡ false → (code : ℕ) → over ≡ Some (reply.Refused (Io code))
      → (p : PageIndex) × (asked got ≡ Some p) × FailsFill after (own_handle own) p code new
  pub wanting : is_settled (Some got) ≡ false → over ≡ Some (reply.Refused Memory)
      → (p : PageIndex) × (asked got ≡ Some p) × WantsMemory after (own_handle own) p new

-- so many attempts, none of which was answered
abbrev pub Tries : Step → WorldSeen → ℕ → WorldSeen → Type 0
Tries own old zero new = new ≡ old
Tries own old (suc n) new = (mid : WorldSeen) × Tries own old n mid × Try own mid None new

-- a call is made of its attempts, the last of which is answered so
abbrev pub IsMadeOf : Step → SoloSeen → Reply → SoloSeen → Type 0
IsMadeOf own old r new =
    (n : ℕ) × (mid : WorldSeen) × Tries own old.world n mid × Try own mid (Some r) new.world × (new.attempts ≡ n + 1)

-- the step of a write at the cursor, or at the end of the file by an appending handle
abbrev pub write_step : HandleSeen → List ℕ → Step
write_step h bytes =
    if h.append then step.Append (record { 0 = h.number }) bytes else step.Write (record { 0 = h.number }) h.cursor bytes

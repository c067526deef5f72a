-- Inside this crate: the steps of a sync that are carried out at once, and what its end answers.
use Rattle.std.specs.Prelude.{◌≡◌, ℕ, Bool, true, false, [], ◌∷◌, Option, Some, None, Result, Ok, Err}
use Rattle.pc_types.specs.declared.ids.Serial.{Serial}
use Rattle.pc_types.specs.declared.ids.SyncId.{SyncId}
use Rattle.pc_types.specs.declared.refusal.Refusal.{Refusal}
use Rattle.pc_types.specs.declared.refusal.Refusal.TheVariants.{Busy}
use Rattle.machine.specs.declared.event.Reply.{Reply}
use Rattle.machine.specs.declared.event.Reply.TheVariants as reply
use Rattle.cachecore.specs.Replies.{is_job, sync_dropped}
use Rattle.errboard.specs.Shown.{RecorderSeen}
use Rattle.world.specs.declared.step.Step.TheVariants as step
use Rattle.world.specs.Stepping.{WorldSeen, IsMade, Plays}
use Rattle.filesvc.specs.Seen.{SoloSeen}

-- a page was written out, with whatever end; or the sync's step gave this reply
abbrev pub SyncTurn : WorldSeen → SyncId → Option Reply → WorldSeen → Type 0
SyncTurn old n None new = (t : Serial) × (r : Reply) × Plays old (step.SyncStep n ∷ step.Call t ∷ step.End t ∷ []) (reply.Job t ∷ reply.Done ∷ r ∷ []) new
SyncTurn old n (Some r) new = (is_job r ≡ false) × IsMade old (step.SyncStep n) r new

-- the sync was given up, where it was there
abbrev pub Drops : WorldSeen → SyncId → WorldSeen → Type 0
Drops old n new = (r : Result Unit Refusal) × IsMade old (step.SyncDrop n) (sync_dropped r) new

-- the service of a world, with what was recorded
abbrev pub service_of : WorldSeen → RecorderSeen → SoloSeen
service_of w errors = record { world = w; errors = errors; attempts = 0 }

-- whether it is over by this reply
abbrev pub is_sync_end : Reply → Bool
is_sync_end reply.Clean = true
is_sync_end (reply.Failed code) = true
is_sync_end (reply.Refused why) = true
is_sync_end _ = false

-- how a sync ended by its last reply: the code of a failed write, where there is one. A sync that can't go on is refused
abbrev pub sync_end_of : Reply → Result (Option ℕ) Refusal
sync_end_of reply.Clean = Ok None
sync_end_of (reply.Failed code) = Ok (Some code)
sync_end_of (reply.Refused why) = Err why
sync_end_of _ = Err Busy

-- the reply that ends a sync so
abbrev pub clean_or : Option ℕ → Reply
clean_or None = reply.Clean
clean_or (Some code) = reply.Failed code

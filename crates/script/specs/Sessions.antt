-- A session: a world, and beside it what was recorded of failed writes, and what each open handle was told of.
use Rattle.std.specs.Prelude.{◌≡◌, ℕ, ◌-◌, ◌<◌, ◌≤◌, Bool, true, false, List, [], ◌∷◌, length, drop, replicate, if◌then◌else◌, Option, Some, None, Result, Ok, Err}
use Rattle.std.specs.Ordering.{nat_cmp}
use Rattle.std.specs.FinMap as finmap
use Rattle.errseq.specs.declared.recording.Recording.{Recording}
use Rattle.errseq.specs.Recorded.{last_code, raised}
use Rattle.errseq.specs.Word.{IsWithinTurn}
use Rattle.errboard.specs.Views.{files, recorded_of}
use Rattle.errboard.specs.Steps.{with_recording}
use Rattle.pc_types.specs.declared.ids.HandleId.{HandleId}
use Rattle.pc_types.specs.declared.ids.PageIndex.{PageIndex}
use Rattle.pc_types.specs.declared.ids.Serial.{Serial}
use Rattle.pc_types.specs.declared.ids.SyncId.{SyncId}
use Rattle.pc_types.specs.declared.refusal.Refusal.{Refusal}
use Rattle.pc_types.specs.declared.refusal.Refusal.TheVariants.{BadHandle, Io}
use Rattle.machine.specs.declared.event.Reply.{Reply}
use Rattle.machine.specs.declared.event.Reply.TheVariants as reply
use Rattle.cachecore.specs.Flushing.{flush_of}
use Rattle.machine.specs.State.{handle_file, is_open}
use Rattle.world.specs.declared.step.Step.{Step}
use Rattle.world.specs.declared.step.Step.TheVariants as step
use Rattle.world.specs.Stepping.{WorldSeen, Steps}
use Rattle.script.specs.Commands.{sync_begin}

-- a session as its owner has it: the world, the codes of each file's failed writes in the order in which they were recorded, and
-- for each open handle how many of its file's it was told of
pub record SessionSeen : Type 0 where
  pub world : WorldSeen
  pub recorded : List (List Recording)
  pub told : finmap.FinMap nat_cmp ℕ

-- a session whose world begins: nothing is recorded, and no handle is open
abbrev pub first_session : WorldSeen → SessionSeen
first_session w = record { world = w; recorded = replicate files []; told = finmap.empty }

-- what is recorded of the handle's file
abbrev pub log_of : SessionSeen → ℕ → List Recording
log_of s h = recorded_of s.recorded (handle_file s.world.core h)

-- ---- one step

-- one more code is recorded of the file, where there is one
abbrev pub Records : List (List Recording) → Option ℕ → ℕ → List (List Recording) → Type 0
Records old None code new = new ≡ old
Records old (Some f) code new = (x : Recording) × (x.code ≡ code) × (new ≡ with_recording old f x)

-- a new handle counts as told of all recordings of its file, or of all but the last: the latter where no handle was told of that
-- one yet, which is the board's to know
abbrev pub BeginsTold : List Recording → ℕ → Type 0
BeginsTold log n = (all : Bool) × (n ≡ (if all then length log else length log - 1))

-- what a step leaves beside the world: a flush that failed leaves its code, and a handle is told of codes from its opening to its
-- closing
abbrev pub Notes : SessionSeen → Step → Reply → SessionSeen → Type 0
Notes old (step.Open f) (reply.Handle h) new = (new.recorded ≡ old.recorded) × (n : ℕ) × BeginsTold (recorded_of old.recorded f.0) n × (new.told ≡ finmap.insert old.told h.0 n)
Notes old (step.Close h) reply.Closed new = (new.recorded ≡ old.recorded) × (new.told ≡ finmap.remove old.told h.0)
Notes old (step.End t) (reply.Failed code) new = Records old.recorded (flush_of old.world.core t.0) code new.recorded × (new.told ≡ old.told)
Notes old s r new = (new.recorded ≡ old.recorded) × (new.told ≡ old.told)

-- the world makes the step, and what it leaves beside it is noted
abbrev pub Makes : SessionSeen → Step → Reply → SessionSeen → Type 0
Makes old s r new = Steps old.world s r new.world × Notes old s r new

-- ---- a poll

-- what is answered to one who was told of the first n recordings: the last code where there are more, and nothing where there are
-- none
abbrev pub Tells : List Recording → ℕ → Option ℕ → Type 0
Tells log n None = IsWithinTurn (raised (drop n log)) → length log ≤ n
Tells log n (Some code) = (n < length log) × (code ≡ last_code log)

-- an open handle is told of what was recorded of its file since it was told last
abbrev pub Polls : SessionSeen → ℕ → Result (Option ℕ) Refusal → SessionSeen → Type 0
Polls old h (Ok answer) new =
    (is_open old.world.core h ≡ true) × (n : ℕ) × (finmap.get old.told h ≡ Some n) × Tells (log_of old h) n answer × (new ≡ record old { told = finmap.insert old.told h (length (log_of old h)) })
Polls old h (Err refusal) new = (refusal ≡ BadHandle) × (is_open old.world.core h ≡ false) × (new ≡ old)

-- ---- a sync from its beginning to its end

-- the sync starts these writes, one after the other. The device call and the end of each are made at once
abbrev pub Writes : SessionSeen → SyncId → List Serial → SessionSeen → Type 0
Writes old n [] new = new ≡ old
Writes old n (t ∷ ts) new =
    (begun : SessionSeen) × (called : SessionSeen) × (ended : SessionSeen) × (call : Reply) × (end : Reply)
    × Makes old (step.SyncStep n) (reply.Job t) begun × Makes begun (step.Call t) call called × Makes called (step.End t) end ended × Writes ended n ts new

-- what a sync that is over answers, by the code that its handle is told and the sync's own
abbrev pub over : Option ℕ → Option ℕ → Reply
over (Some code) own = reply.Refused (Io code)
over None (Some own) = reply.Refused (Io own)
over None None = reply.Done

-- once the sync starts no write any more, its handle is polled where it is over, and else it is dropped
abbrev pub Concludes : SessionSeen → HandleId → SyncId → Reply → Reply → SessionSeen → Type 0
Concludes old h n (reply.Job t) answer new = ⊥
Concludes old h n reply.Clean answer new = (told : Option ℕ) × Polls old h.0 (Ok told) new × (answer ≡ over told None)
Concludes old h n (reply.Failed code) answer new = (told : Option ℕ) × Polls old h.0 (Ok told) new × (answer ≡ over told (Some code))
Concludes old h n r answer new = (dropped : Reply) × Makes old (step.SyncDrop n) dropped new × (answer ≡ r)

-- the sync is begun, unless it is refused
abbrev pub GoesOn : SessionSeen → HandleId → Reply → Reply → SessionSeen → Type 0
GoesOn begun h (reply.Sync n) answer new =
    (ts : List Serial) × (written : SessionSeen) × (stopped : SessionSeen) × (r : Reply)
    × Writes begun n ts written × Makes written (step.SyncStep n) r stopped × Concludes stopped h n r answer new
GoesOn begun h first answer new = (answer ≡ first) × (new ≡ begun)

abbrev pub Fsyncs : SessionSeen → HandleId → Option (PageIndex × PageIndex) → Reply → SessionSeen → Type 0
Fsyncs old h range answer new =
    (first : Reply) × (begun : SessionSeen) × Makes old (sync_begin h range) first begun × GoesOn begun h first answer new

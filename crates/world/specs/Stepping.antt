-- Steps that a caller asks for: what each of them does to the world, and what a list of them does.
use Rattle.std.specs.Prelude.{Bool, true, ◌==◌, ◌&&◌, ◌||◌, ◌≡◌, ◌≢◌, ℕ, ◌+◌, ◌≤◌, ◌⊎◌, List, [], ◌∷◌}
use Rattle.std.specs.Prelude.{Option, Some, None, unwrap_or, IfSome, Result, Ok, Err, if◌then◌else◌}
use Rattle.std.specs.Ordering.{nat_cmp}
use Rattle.std.specs.FinMap as finmap
use Rattle.blockdev.specs.declared.fault.FaultEffect.{FaultEffect}
use Rattle.blockdev.specs.Device.{Told}
use Rattle.blockdev.specs.Jobs.{Task, FinishedTask, Performs}
use Rattle.pc_types.specs.Kinds.{is_flush}
use Rattle.pc_types.specs.Limits.{Sizes}
use Rattle.pc_types.specs.declared.limits.TheConstants.{LAST_PAGE, MAX_FILE_SIZE}
use Rattle.pc_types.specs.declared.refusal.Refusal.{Refusal}
use Rattle.pc_types.specs.declared.refusal.Refusal.TheVariants.{Memory, Stranger}
use Rattle.machine.specs.declared.event.Event.TheVariants as event
use Rattle.machine.specs.declared.event.Outcome.{Outcome}
use Rattle.machine.specs.declared.event.Reply.{Reply}
use Rattle.machine.specs.declared.event.Reply.TheVariants as reply
use Rattle.machine.specs.State.{State, Request, page_count}
use Rattle.machine.specs.Catalogs.{Catalog, adopted, no_catalog}
use Rattle.runs.specs.World.{World, Move, Act, Call, Finish, WorldStep}
use Rattle.cachecore.specs.Replies.{IsJobOf, outcome_of}
use Rattle.world.specs.declared.step.Step.{Step}
use Rattle.world.specs.declared.step.Step.TheVariants as step

-- a world as its owner has it: the cache, what the device tells of itself, whether anything was written to it since it
-- was last flushed well, of each request whose device call was made how it went, and of each flush in flight the bytes
-- that it writes
pub record WorldSeen : Type 0 where
  pub core : State
  pub device : Told
  pub unflushed : Bool
  pub outcomes : finmap.FinMap nat_cmp Outcome
  pub writing : finmap.FinMap nat_cmp (List ℕ)

-- the world of the definitions. A device that tells no contents is seen as one without blocks
abbrev pub world_of : WorldSeen → World
world_of w =
    record { core = w.core; device = unwrap_or w.device.contents []; outcomes = w.outcomes; writing = w.writing }

-- whether the device has the geometry's blocks
abbrev pub fits : Sizes → Told → Bool
fits g d = d.size == g.page && d.count == g.blocks

-- a cache over a catalog's files. What was written to the device before is not known to be flushed
abbrev pub adopted_world : Sizes → ℕ → Catalog → Told → WorldSeen
adopted_world g name catalog d =
    record { core = adopted g name catalog; device = d; unflushed = true; outcomes = finmap.empty; writing = finmap.empty }

-- a cache without files
abbrev pub first_world : Sizes → ℕ → Told → WorldSeen
first_world g name d = adopted_world g name no_catalog d

-- the range of a sync that begins on a file has all its pages
abbrev pub HasAllPages : ℕ → Type 0
HasAllPages P = (z : ℕ) → z ≤ MAX_FILE_SIZE → page_count P z ≤ LAST_PAGE + 1

-- what a step that is made does, with its reply: an event, a device call or an end. A call has its fault, if it had one,
-- and whether a flush that failed left its bytes on the block
abbrev pub move_of : Step → Reply → Option ℕ → Bool → Move
move_of step.Create r fault effect = Act event.Create r
move_of (step.Open f) r fault effect = Act (event.Open f) r
move_of (step.Close h) r fault effect = Act (event.Close h) r
move_of (step.Size h) r fault effect = Act (event.Size h) r
move_of (step.Read h o n) r fault effect = Act (event.Read h o n) r
move_of (step.Write h o b) r fault effect = Act (event.Write h o b) r
move_of (step.Append h b) r fault effect = Act (event.Append h b) r
move_of (step.Truncate h z) r fault effect = Act (event.Truncate h z) r
move_of (step.FillBegin h p) r fault effect = Act (event.FillBegin h p) r
move_of (step.FlushBegin f) r fault effect = Act (event.FlushBegin f) r
move_of step.Evict r fault effect = Act event.Evict r
move_of step.Age r fault effect = Act event.Age r
move_of (step.SyncBegin h) r fault effect = Act (event.SyncBegin h (record { 0 = 0 }) (record { 0 = LAST_PAGE })) r
move_of (step.SyncBeginRange h first last) r fault effect = Act (event.SyncBegin h first last) r
move_of (step.SyncStep n) r fault effect = Act (event.SyncStep n) r
move_of (step.SyncDrop n) r fault effect = Act (event.SyncDrop n) r
move_of (step.Call t) r fault effect = Call t.0 fault effect
move_of (step.End t) r fault effect = Finish t.0 r

-- ---- one step

-- the event or the end is made, and the device is left alone
abbrev pub IsMade : WorldSeen → Step → Reply → WorldSeen → Type 0
IsMade old s r new =
    WorldStep (world_of old) (move_of s r None true) (world_of new) × (new.device ≡ old.device)
    × (new.unflushed ≡ old.unflushed)

-- nothing is made
abbrev pub IsNotMade : WorldSeen → Refusal → Reply → WorldSeen → Type 0
IsNotMade old why r new = (r ≡ reply.Refused why) × (new ≡ old)

-- one device call for request t, by its job, and the outcome is noted, and that something was written where it was a
-- write, however it went. Beside that a flush has the bytes that it writes, the job's buffer is of no matter
pub record IsCalled (old : WorldSeen) (t : ℕ) (new : WorldSeen) : Type 0 where
  pub job : Task
  pub done : FinishedTask
  pub serial : job.serial ≡ t
  pub asked : IsJobOf old.core job
      (λ x. if is_flush x.kind then unwrap_or (finmap.get old.writing t) [] else job.bytes)
  pub performs : Performs old.device job done new.device
  pub noted : new ≡ record old {
    device = new.device;
    unflushed = is_flush job.kind || old.unflushed;
    outcomes = finmap.insert old.outcomes t (outcome_of job.kind done.outcome done.bytes);
  }

-- the world of the definitions makes the call, with some fault or none
abbrev pub MovesByCall : WorldSeen → ℕ → WorldSeen → Type 0
MovesByCall old t new =
    (fault : Option ℕ) × (effect : Bool) × WorldStep (world_of old) (Call t fault effect) (world_of new)

-- the call of a request in flight is made where none was made yet
abbrev pub CallReply : WorldSeen → ℕ → Option Request → Option Outcome → Reply → WorldSeen → Type 0
CallReply old t (Some x) None answer new =
    (answer ≡ reply.Done) × IsCalled old t new × IfSome old.device.contents (λ _. MovesByCall old t new)
CallReply old t _ _ answer new = IsNotMade old Stranger answer new

-- a request ends where its call was made, and then its end is not refused
abbrev pub EndReply : WorldSeen → Step → Option Outcome → Reply → WorldSeen → Type 0
EndReply old s (Some o) answer new = IsMade old s answer new × (answer ≢ reply.Refused Stranger)
EndReply old s None answer new = IsNotMade old Stranger answer new

-- a read is handed a place for its bytes, and what may begin a request a buffer: where memory for it is refused no event
-- is made. The other events are handed nothing
abbrev pub Steps : WorldSeen → Step → Reply → WorldSeen → Type 0
Steps old (step.Read h o n) r new = IsMade old (step.Read h o n) r new ⊎ IsNotMade old Memory r new
Steps old (step.FillBegin h p) r new = IsMade old (step.FillBegin h p) r new ⊎ IsNotMade old Memory r new
Steps old (step.FlushBegin f) r new = IsMade old (step.FlushBegin f) r new ⊎ IsNotMade old Memory r new
Steps old (step.SyncStep n) r new = IsMade old (step.SyncStep n) r new ⊎ IsNotMade old Memory r new
Steps old (step.Call t) r new = CallReply old t.0 (finmap.get old.core.requests t.0) (finmap.get old.outcomes t.0) r new
Steps old (step.End t) r new = EndReply old (step.End t) (finmap.get old.outcomes t.0) r new
Steps old s r new = IsMade old s r new

-- one step after the other, each with its reply
abbrev pub Plays : WorldSeen → List Step → List Reply → WorldSeen → Type 0
Plays old [] [] new = new ≡ old
Plays old (s ∷ ss) (r ∷ rs) new = (mid : WorldSeen) × Steps old s r mid × Plays mid ss rs new
Plays old _ _ new = ⊥

-- ---- a device call that is made to fail

-- the world where the device's next call fails so
abbrev pub failing : WorldSeen → ℕ → FaultEffect → WorldSeen
failing w code effect =
    record w { device = record w.device { plan = Some (Some (record { code = code; effect = effect }) ∷ []) } }

-- the device's next call is made to fail, and then the call of request t is made, as a step of its own. Where that is
-- refused no fault is planned
abbrev pub Fails : WorldSeen → ℕ → ℕ → FaultEffect → Result Unit Refusal → WorldSeen → Type 0
Fails old t code effect (Ok _) new = Steps (failing old code effect) (step.Call (record { 0 = t })) reply.Done new
Fails old t code effect (Err why) new = Steps old (step.Call (record { 0 = t })) (reply.Refused why) new

-- A history that is played again over a device: honest ones, with what they leave on it.
use Rattle.std.specs.Prelude.{◌≡◌, ℕ, ◌<◌, Bool, true, false, List, [], ◌∷◌, filter, length, take, Option, Some, None}
use Rattle.std.specs.Prelude.{◌^◌, IfSome, is_some, unwrap_or}
use Rattle.std.specs.FinMap as finmap
use Rattle.blockdev.specs.Blocks.{block_at}
use Rattle.blockdev.specs.Device.{Told}
use Rattle.pc_types.specs.Limits.{Sizes}
use Rattle.pc_types.specs.declared.kind.Kind.{Kind}
use Rattle.pc_types.specs.declared.refusal.Refusal.TheVariants.{Memory, Stranger}
use Rattle.machine.specs.Catalogs.{no_catalog}
use Rattle.machine.specs.declared.event.End.{End}
use Rattle.machine.specs.declared.event.Event.{Event}
use Rattle.machine.specs.declared.event.Event.TheVariants as event
use Rattle.machine.specs.declared.event.Reply.{Reply}
use Rattle.machine.specs.declared.event.Reply.TheVariants as reply
use Rattle.machine.specs.State.{Request}
use Rattle.machine.specs.Tests.{refuse, tests}
use Rattle.runs.specs.World.{World, Act, WorldStep}
use Rattle.trail.specs.declared.entry.Entry.{Entry}
use Rattle.trail.specs.Entries.{end_with}
use Rattle.trail.specs.Honest.{Fate, Honest, EndTells, IsTold, end_made, world_over}
use Rattle.world.specs.declared.step.Step.{Step}
use Rattle.world.specs.declared.step.Step.TheVariants as step
use Rattle.world.specs.Stepping.{WorldSeen, MovesByCall, move_of, world_of}
use Rattle.playback.specs.declared.play.Playback.{Playback}
use Rattle.playback.specs.declared.play.Playback.TheVariants.{Agrees, Odd}
use Rattle.playback.specs.declared.verdict.Copies.{Copies}
use Rattle.playback.specs.declared.verdict.Verdict.{Verdict}
use Rattle.playback.specs.declared.verdict.Verdict.TheVariants.{AllAlike, Unlike, OddEntry}

-- ---- the history without the entries that are refused for want of memory, which changed nothing

abbrev pub wants_no_memory : Reply → Bool
wants_no_memory (reply.Refused Memory) = false
wants_no_memory r = true

abbrev pub played : List Entry → List Entry
played history = filter (λ e. wants_no_memory e.reply) history

-- ---- an honest history, and the world that it leads to

-- the entries go honestly from the one world, and this is the world after them
abbrev pub LeadsTo : (ℕ → Fate) → World → List Entry → World → Type 0
LeadsTo fates w [] last = last ≡ w
LeadsTo fates w (e ∷ es) last =
    (new : World) × IsTold fates w e (end_made e.event e.reply) new × LeadsTo fates new es last

-- the history is honest over a device that has these blocks first, and those after it
pub record IsHonestOver (sizes : Sizes) (name : ℕ) (history : List Entry) (blocks after : List (List ℕ)) : Type 0 where
  pub honest : Honest no_catalog sizes name history
  pub from : honest.device ≡ blocks
  pub last : World
  pub leads : LeadsTo honest.fates (world_over no_catalog sizes name blocks) history last
  pub left : last.device ≡ after

abbrev pub blocks_of : Told → List (List ℕ)
blocks_of d = unwrap_or d.contents []

-- the whole history is honest over the device, which it leaves so; or the entries before this place are
abbrev pub Plays : Sizes → ℕ → List Entry → Told → Playback → Type 0
Plays sizes name history device (Agrees left) =
    IsHonestOver sizes name (played history) (blocks_of device) (blocks_of left) × (is_some left.contents ≡ true)
Plays sizes name history device (Odd place) =
    (place < length history) × Honest no_catalog sizes name (played (take place history))

-- ---- whether a device was honest

-- a block of a device that tells its contents is as in both others, where these agree on it
abbrev pub IsAlike : Told → Told → Told → ℕ → Type 0
IsAlike d one other b =
    block_at (blocks_of one) b ≡ block_at (blocks_of other) b
    → IfSome d.contents (λ blocks. block_at blocks b ≡ block_at (blocks_of one) b)

-- all blocks are, or those before this one. A block is named by 32 bits
abbrev pub AreAlike : Told → Told → Told → Option ℕ → Type 0
AreAlike d one other None = (b : ℕ) → b < d.count → b < 2 ^ 32 → IsAlike d one other b
AreAlike d one other (Some first) = (b : ℕ) → b < first → IsAlike d one other b

-- what is said of a device beside two others
abbrev pub Compares : Told → Told → Told → Verdict → Type 0
Compares d one other AllAlike = AreAlike d one other None
Compares d one other (Unlike first) = AreAlike d one other (Some first)
Compares d one other (OddEntry place) = ⊥

-- by what a history says of its device: the history is honest, by both of what a write that failed leaves, and the device
-- is as it leaves it; or the blocks before this one are; or the entries before this place are honest
abbrev pub Judges : Sizes → ℕ → List Entry → Copies → Told → Verdict → Type 0
Judges sizes name history copies device (OddEntry place) =
    (place < length history) × Honest no_catalog sizes name (played (take place history))
Judges sizes name history copies device verdict =
    (one : Told) × (other : Told) × Plays sizes name history copies.one (Agrees one)
    × Plays sizes name history copies.other (Agrees other) × Compares device one other verdict

-- ---- inside this crate

-- a world between two entries: no call is made whose request has not ended, and the device tells its contents
pub record IsReady (own : ℕ) (w : WorldSeen) : Type 0 where
  pub name : w.core.name ≡ own
  pub outcomes : w.outcomes ≡ finmap.empty
  pub contents : is_some w.device.contents ≡ true

-- the call of request t was made, with some fault or none
abbrev pub IsCalled : WorldSeen → ℕ → WorldSeen → Type 0
IsCalled old t new = MovesByCall old t new × (is_some new.device.contents ≡ true)

-- an event with its reply
abbrev pub entry : Event → Reply → Entry
entry e r = record { seat = 0; event = e; reply = r }

-- an entry agrees: the world goes on as it tells
abbrev pub IsAgreed : ℕ → WorldSeen → Entry → WorldSeen → Type 0
IsAgreed name old e new =
    ((fate : Fate) × IsTold (λ _. fate) (world_of old) e (end_made e.event e.reply) (world_of new)) × IsReady name new

-- the entries lead from the first world to this one, and so they do by other fates of what has not ended
pub record Went (first : World) (history : List Entry) (w : World) : Type 0 where
  pub fates : ℕ → Fate
  pub leads : (other : ℕ → Fate)
      → ((t : ℕ) → t < w.core.next → finmap.get w.core.requests t ≡ None → other t ≡ fates t)
      → LeadsTo other first history w
  pub given : (t : ℕ) (x : Request) → finmap.get w.core.requests t ≡ Some x → t < w.core.next

-- so do the entries before this place
abbrev pub Stands : World → List Entry → ℕ → Type 0
Stands first history place =
    (place < length history) × (w : World) × Went first (played (take place history)) w

-- or is passed over
abbrev pub IsPlayed : ℕ → WorldSeen → Entry → WorldSeen → Type 0
IsPlayed name old e new =
    (wants_no_memory e.reply ≡ true → IsAgreed name old e new) × (wants_no_memory e.reply ≡ false → new ≡ old)

-- the end is refused, whatever it tells, and nothing is made
abbrev pub RefusesEnd : WorldSeen → End → WorldSeen → Type 0
RefusesEnd old end new =
    ((kind : Kind) (bytes : List ℕ) → tests old.core (event.End kind (end_with end bytes)) ≡ refuse Stranger)
    × (new ≡ old)

-- the request ends, whose call was made in this world
abbrev pub Finishes : WorldSeen → Kind → End → List ℕ → Reply → WorldSeen → Type 0
Finishes mid kind end bytes r new =
    (name : ℕ) (old : WorldSeen) → IsReady name old → IsCalled old end.serial.0 mid → end.cache ≡ name
    → end.kind ≡ kind → IsAgreed name old (entry (event.End kind (end_with end bytes)) r) new

abbrev pub is_ending : Event → Bool
is_ending (event.End kind end) = true
is_ending e = false

-- the event is made with this reply, unless that is want of memory
abbrev pub IsActed : WorldSeen → Event → Reply → WorldSeen → Type 0
IsActed old e r new =
    wants_no_memory r ≡ true → WorldStep (world_of old) (Act e r) (world_of new) × (new.device ≡ old.device)

abbrev pub is_plain : Step → Bool
is_plain (step.Call t) = false
is_plain (step.End t) = false
is_plain s = true

-- the step makes an event that carries no bytes
abbrev pub IsStepOf : Event → Step → Type 0
IsStepOf (event.End kind end) s = Unit {0}
IsStepOf (event.Write h o b) s = Unit {0}
IsStepOf (event.Append h b) s = Unit {0}
IsStepOf e s = (is_plain s ≡ true) × ((r : Reply) → move_of s r None true ≡ Act e r)

-- the device has the blocks of another
abbrev pub IsCopy : Told → Told → Type 0
IsCopy d copy = (copy.size ≡ d.size) × (copy.count ≡ d.count) × (is_some copy.contents ≡ true)

abbrev pub AreCopies : Told → Copies → Type 0
AreCopies d copies = IsCopy d copies.one × IsCopy d copies.other

-- it has as many blocks as before, of the same size
abbrev pub IsSameSize : Told → Told → Type 0
IsSameSize old new = (new.size ≡ old.size) × (new.count ≡ old.count)

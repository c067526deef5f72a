-- How many bytes the entries have that the calls add.
use Rattle.std.proofs.Common.{◌≡◌, ℕ, ◌+◌, Bool, true, false, List, [], length, take, refl, ap, sym, ◌∙◌, arith}
use Rattle.std.specs.Prelude.{Result, Ok, Err, if◌then◌else◌}
use Rattle.pc_types.specs.declared.ids.HandleId.{HandleId}
use Rattle.pc_types.specs.declared.refusal.Refusal.{Refusal}
use Rattle.pc_types.specs.declared.kind.Kind.{Kind}
use Rattle.pc_types.specs.declared.kind.Kind.TheVariants.{Fill, Flush}
use Rattle.machine.specs.Tests.{fits}
use Rattle.blockdev.specs.Device as device
use Rattle.blockdev.specs.Jobs.{FinishedTask}
use Rattle.cachecore.specs.declared.answers.Ended.{Ended}
use Rattle.cachecore.specs.declared.answers.Ended.TheVariants as ended
use Rattle.cachecore.specs.declared.answers.ReadAnswer.{ReadAnswer}
use Rattle.cachecore.specs.declared.answers.ReadAnswer.TheVariants as read
use Rattle.cachecore.specs.declared.answers.RefusedEnd.{RefusedEnd}
use Rattle.cachecore.specs.declared.answers.WriteAnswer.{WriteAnswer}
use Rattle.cachecore.specs.declared.answers.WriteAnswer.TheVariants as write
use Rattle.machine.specs.declared.event.Event.{Event}
use Rattle.machine.specs.declared.event.Event.TheVariants as event
use Rattle.machine.specs.declared.event.Outcome.{Outcome}
use Rattle.machine.specs.declared.event.Outcome.TheVariants as outcome
use Rattle.machine.specs.declared.event.Reply.{Reply}
use Rattle.machine.specs.declared.event.Reply.TheVariants as reply
use Rattle.cachecore.specs.Replies.{EndGivesBack, bytes_read, end_of, fill_ended, outcome_of, was_read, wrote}
use Rattle.trail.specs.declared.entry.Entry.{Entry}
use Rattle.trail.specs.Entries.{bytes_in, entry_of, entry_with, event_bytes, event_with, noted, outcome_bytes}
use Rattle.trail.specs.Entries.{outcome_with, reply_bytes, reply_with}
use Rattle.held.specs.Ends.{bytes_read_in, went_well}

-- ---- none

no_outcome : (o : Outcome) → outcome_bytes (outcome_with o []) ≡ []
no_outcome (outcome.Read bytes) = refl
no_outcome outcome.Written = refl
no_outcome (outcome.Fault c) = refl

no_event : (e : Event) → event_bytes (event_with e []) ≡ []
no_event (event.Write h o b) = refl
no_event (event.Append h b) = refl
no_event (event.End kind e) = no_outcome e.outcome
no_event event.Create = refl
no_event (event.Open f) = refl
no_event (event.Close h) = refl
no_event (event.Size h) = refl
no_event (event.Read h o n) = refl
no_event (event.Truncate h z) = refl
no_event (event.FillBegin h p) = refl
no_event (event.FlushBegin f) = refl
no_event event.Evict = refl
no_event event.Age = refl
no_event (event.SyncBegin h first last) = refl
no_event (event.SyncStep n) = refl
no_event (event.SyncDrop n) = refl

no_reply : (r : Reply) → reply_bytes (reply_with r []) ≡ []
no_reply (reply.Bytes b) = refl
no_reply (reply.Refused why) = refl
no_reply (reply.File f) = refl
no_reply (reply.Handle h) = refl
no_reply reply.Closed = refl
no_reply (reply.Size n) = refl
no_reply (reply.Wait p) = refl
no_reply (reply.Miss p) = refl
no_reply (reply.Wrote n end) = refl
no_reply reply.Done = refl
no_reply reply.Gone = refl
no_reply reply.Present = refl
no_reply reply.Filled = refl
no_reply (reply.Job t) = refl
no_reply reply.Dropped = refl
no_reply (reply.Failed c) = refl
no_reply reply.Nothing = refl
no_reply reply.Written = refl
no_reply (reply.Evicted f p) = refl
no_reply reply.NoneIdle = refl
no_reply (reply.Aged n) = refl
no_reply (reply.Sync n) = refl
no_reply reply.Clean = refl

-- an entry that is added without bytes has none
pub none_in : (x entry : Entry) → entry_with x [] ≡ entry → 0 ≡ bytes_in entry
none_in x entry is = sym (λ j. length (no_event x.event j) + length (no_reply x.reply j)) ∙ ap bytes_in is

-- ---- those written

wrote_none : (a : Result WriteAnswer Refusal) → reply_bytes (wrote a) ≡ []
wrote_none (Ok (write.Wrote n end)) = refl
wrote_none (Ok (write.Wait p)) = refl
wrote_none (Ok (write.Miss p)) = refl
wrote_none (Err r) = refl

and_none : (b none : List ℕ) → none ≡ [] → length b ≡ length b + length none
and_none b none e = let n : length none ≡ 0 = ap length e in omega arith

pub write_in : (seat : ℕ) (h : HandleId) (o : ℕ) (b : List ℕ) (a : Result WriteAnswer Refusal)
    → length b ≡ bytes_in (entry_of seat (event.Write h o b) (wrote a))
write_in seat h o b a = and_none b (reply_bytes (wrote a)) (wrote_none a)

pub append_in : (seat : ℕ) (h : HandleId) (b : List ℕ) (a : Result WriteAnswer Refusal)
    → length b ≡ bytes_in (entry_of seat (event.Append h b) (wrote a))
append_in seat h b a = and_none b (reply_bytes (wrote a)) (wrote_none a)

-- ---- those read

pub read_bytes : (a : Result ReadAnswer Refusal) (out : List ℕ) → take (bytes_read a) out ≡ reply_bytes (was_read a out)
read_bytes (Ok (read.Bytes n)) out = refl
read_bytes (Ok (read.Wait p)) out = refl
read_bytes (Ok (read.Miss p)) out = refl
read_bytes (Err r) out = refl

pub read_in : (seat : ℕ) (h : HandleId) (o n : ℕ) (bytes : List ℕ) (r : Reply) → bytes ≡ reply_bytes r
    → length bytes ≡ bytes_in (entry_of seat (event.Read h o n) r)
read_in seat h o n bytes r e = let k : length bytes ≡ length (reply_bytes r) = ap length e in omega arith

-- ---- those that a fill read

outcome_read : (k : Kind) (o : device.Outcome) (bytes b : List ℕ) (read : Bool) → b ≡ bytes → read ≡ went_well o
    → fits Fill (outcome_of k o bytes) ≡ true → (if read then b else []) ≡ outcome_bytes (outcome_of k o bytes)
outcome_read Fill (Ok u) bytes b true e k fit = e
outcome_read Fill (Ok u) bytes b false e k fit = absurd cc
outcome_read Fill (Err c) bytes b true e k fit = absurd cc
outcome_read Fill (Err c) bytes b false e k fit = refl
outcome_read Flush (Ok u) bytes b read e k fit = absurd cc
outcome_read Flush (Err c) bytes b true e k fit = absurd cc
outcome_read Flush (Err c) bytes b false e k fit = refl

-- the outcome of an answer that is no refusal fits
abbrev pub Fitting : FinishedTask → Result Ended RefusedEnd → Type 0
Fitting f a = (b : Ended) → a ≡ Ok b → fits Fill (outcome_of f.kind f.outcome f.bytes) ≡ true

fill_bytes : (f : FinishedTask) (a : Result Ended RefusedEnd) (read : Bool) → EndGivesBack f a
    → read ≡ went_well f.outcome → Fitting f a
    → bytes_read_in a read ≡ event_bytes (noted (event.End Fill (end_of f)) (fill_ended a))
fill_bytes f (Ok (ended.Dropped b)) read back is fit =
    outcome_read f.kind f.outcome f.bytes b read back is (fit (ended.Dropped b) refl)
fill_bytes f (Ok (ended.Failed file code b)) read back is fit =
    outcome_read f.kind f.outcome f.bytes b read back is (fit (ended.Failed file code b) refl)
fill_bytes f (Ok (ended.Done b)) read back is fit =
    outcome_read f.kind f.outcome f.bytes b read back is (fit (ended.Done b) refl)
fill_bytes f (Err x) true back is fit = sym (no_outcome (outcome_of f.kind f.outcome f.bytes))
fill_bytes f (Err x) false back is fit = sym (no_outcome (outcome_of f.kind f.outcome f.bytes))

fill_none : (a : Result Ended RefusedEnd) → reply_bytes (fill_ended a) ≡ []
fill_none (Ok (ended.Dropped b)) = refl
fill_none (Ok (ended.Failed file code b)) = refl
fill_none (Ok (ended.Done b)) = refl
fill_none (Err x) = refl

pub fill_in : (seat : ℕ) (f : FinishedTask) (a : Result Ended RefusedEnd) (read : Bool) (bytes : List ℕ)
    → bytes ≡ bytes_read_in a read → EndGivesBack f a → read ≡ went_well f.outcome → Fitting f a
    → length bytes ≡ bytes_in (entry_of seat (event.End Fill (end_of f)) (fill_ended a))
fill_in seat f a read bytes got back is fit =
    let e : length bytes ≡ length (event_bytes (noted (event.End Fill (end_of f)) (fill_ended a))) =
    ap length (got ∙ fill_bytes f a read back is fit) in
    let n : length (reply_bytes (fill_ended a)) ≡ 0 = ap length (fill_none a) in omega arith

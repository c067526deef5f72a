-- What the ends of jobs and the turns of workers say of a seat.
use Rattle.std.proofs.Common.{◌≡◌, ℕ, zero, suc, List, [], ◌∷◌, ◌++◌, ap, arith, refl, sym, subst, ◌∙◌}
use Rattle.std.specs.Prelude.{All, Bool, false, true, IfErr, IfNone, IfSome, Ok, Option, Result, Some, None, is_none, is_some, length, option_map, take}
use Rattle.std.proofs.lemmas.List.{append_assoc, append-nil, length_push, take-append-le, take_all}
use Rattle.std.proofs.lemmas.List.Elements.{All-append, All-nil, All-weaker}
use Rattle.std.proofs.lemmas.Result.{IfErr-weaker}
use Rattle.atomic_table.specs.Seated.{TableId}
use Rattle.blockdev.specs.Jobs.{FinishedTask, Task}
use Rattle.crossbeam_queue.specs.Fifo.{Held}
use Rattle.crossbeam_queue.specs.Passes.{view}
use Rattle.ring.specs.Order.{Stands}
use Rattle.cachecore.proofs.EndNames.{flush_named}
use Rattle.cachecore.specs.Replies.{EndGivesBack, IsFlushJob, NamesFile, end_of, fill_ended, flush_ended}
use Rattle.cachecore.specs.declared.answers.Ended.{Ended}
use Rattle.cachecore.specs.declared.answers.Ended.TheVariants as ended
use Rattle.cachecore.specs.declared.answers.FlushBegun.TheVariants as flush
use mathlib.Core.List.{IsPrefix}
use Rattle.errboard.specs.Shown.{ReceiptSeen, RecorderSeen}
use Rattle.errseq.proofs.Prefixes.{prefix_self, prefix_trans}
use Rattle.machine.specs.declared.event.Event.{Event}
use Rattle.machine.specs.declared.event.Event.TheVariants as event
use Rattle.machine.specs.declared.event.Reply.{Reply}
use Rattle.machine.specs.declared.event.Reply.TheVariants as reply
use Rattle.machine.specs.State.{file_at}
use Rattle.pc_types.specs.declared.ids.FileId.{FileId}
use Rattle.pc_types.specs.declared.kind.Kind.{Kind}
use Rattle.pc_types.specs.declared.kind.Kind.TheVariants.{Fill, Flush}
use Rattle.pc_types.specs.declared.refusal.Refusal.{Refusal}
use Rattle.pc_types.specs.Limits.{Sizes}
use Rattle.machine.specs.Catalogs.{Catalog}
use Rattle.trail.specs.declared.entry.Entry.{Entry}
use Rattle.trail.specs.Entries.{entry_of}
use Rattle.trail.specs.History.{After}
use Rattle.trail.specs.Room.{Room}
use Rattle.held.specs.Ends.{HasFailure, IsRecorded, IsRecordedOf, ended_as}
use Rattle.held.specs.Entered.{Made}
use Rattle.held.specs.declared.log.Slip.{Slip}
use Rattle.held.specs.Shown.{HeldSeen, SeatSeen}
use Rattle.held.specs.Called.{Goes}
use Rattle.held.specs.Denials as under
use Rattle.held.specs.Firsts.{IsFirstDenied, Writes}
use Rattle.held.specs.declared.denied.Denied.{Denied}
use Rattle.shared.specs.Called.{Makes}
use Rattle.shared.specs.Denials.{IsDenied, MadeOne}
use Rattle.shared.specs.Seen.{FailedSeen}
use Rattle.shared.specs.Workers.{AllEnded, Begins, Ends, IsEndReply, IsFlushBegin, IsOfRequest, IsOwnFailure, RefusesFirst, fails_write, popped_by}
use Rattle.shared.specs.declared.ends.Done.{Done}
use Rattle.shared.specs.declared.worker.Worker.{Worker}
use Rattle.cachecore.specs.Replies.{buffer_of}
use Rattle.shared.proofs.Making.{denied_by, denied_one, first_refused, makes_on, makes_then}

-- ---- one event

module _ (files : Catalog) (sizes : Sizes) (name : ℕ) (whole : Room) where
  -- what is refused is one event or none
  pub event_once : {A : Type 0} (result : Result A Denied) (e : Event) (old new : HeldSeen) (before after : SeatSeen)
      → IfErr result (under.IsDenied files sizes name whole e old new before after) → IfErr result (λ d. MadeOne d.slip before after)
  event_once result e old new before after q =
      IfErr-weaker result (under.IsDenied files sizes name whole e old new before after) (λ d. MadeOne d.slip before after)
      (λ d k. denied_one files sizes name whole e old new before after d k) q

-- ---- ends

-- the end of what came of a job is the job's
pub ends_by : (job : Task) (done : FinishedTask) (before after : SeatSeen) (slip : Slip) (told : Bool)
    → done.serial ≡ job.serial → done.kind ≡ job.kind → done.cache ≡ job.cache → done.block ≡ job.block
    → (r : Reply) × Makes before after slip (event.End done.kind (end_of done)) r × IsEndReply r
    × (told ≡ fails_write done.kind r)
    → Ends job before after slip told
ends_by job done before after slip told serial kind cache block p = record {
  event = event.End done.kind (end_of done);
  reply = p.0;
  is_end = (kind, serial, cache, block);
  ended = p.2;
  made = p.1;
  failed = subst (λ k. told ≡ fails_write k p.0) kind p.3;
}

-- an end of this kind
pub made_as : (kind : Kind) (done : FinishedTask) (a : Ended) (old new : HeldSeen) (before after : SeatSeen) (slip : Slip)
    → done.kind ≡ kind → Made (event.End done.kind (end_of done)) (ended_as done.kind (Ok a)) old new before after slip
    → Made (event.End kind (end_of done)) (ended_as kind (Ok a)) old new before after slip
made_as kind done a old new before after slip is m =
    subst (λ k. Made (event.End k (end_of done)) (ended_as k (Ok a)) old new before after slip) is m

fill_replies : (a : Ended) → IsEndReply (fill_ended (Ok a))
fill_replies (ended.Dropped b) = tt
fill_replies (ended.Failed file code b) = tt
fill_replies (ended.Done b) = tt

flush_replies : (a : Ended) → IsEndReply (flush_ended (Ok a))
flush_replies (ended.Dropped b) = tt
flush_replies (ended.Failed file code b) = tt
flush_replies (ended.Done b) = tt

pub replies : (k : Kind) (a : Ended) → IsEndReply (ended_as k (Ok a))
replies Fill a = fill_replies a
replies Flush a = flush_replies a

flush_told : (old new : RecorderSeen) (a : Ended) (receipt : Option ReceiptSeen)
    → IsRecorded old (Ok a) receipt new → is_some receipt ≡ fails_write Flush (flush_ended (Ok a))
flush_told old new (ended.Failed file code b) (Some receipt) h = refl
flush_told old new (ended.Failed file code b) None h = absurd h
flush_told old new (ended.Dropped b) None h = refl
flush_told old new (ended.Dropped b) (Some receipt) h = absurd h
flush_told old new (ended.Done b) None h = refl
flush_told old new (ended.Done b) (Some receipt) h = absurd h

pub ends_told : (k : Kind) (old new : RecorderSeen) (a : Ended) (receipt : Option ReceiptSeen)
    → IsRecordedOf k old a receipt new → is_some receipt ≡ fails_write k (ended_as k (Ok a))
ends_told Fill old new a receipt h = ap is_some h.0
ends_told Flush old new a receipt h = flush_told old new a receipt h

-- ---- whose receipt it is

module _ (files : Catalog) (sizes : Sizes) (name serial : ℕ) (e : Event) (old new : HeldSeen) (before after : SeatSeen) (slip : Slip)
    (legal : After files sizes name old.log.history old.core.state) where
  -- of a write that failed: of its file, with its failure as the last
  of_failure : (file : FileId) (code : ℕ) (b : List ℕ) (receipt : ReceiptSeen) → Made e (reply.Failed code) old new before after slip
      → receipt.file ≡ file.0 → NamesFile old.core.state Flush serial (Ok (ended.Failed file code b))
      → HasFailure old.core.state (ended.Failed file code b) (Some receipt) → IsOfRequest files sizes name serial after slip receipt
  of_failure file code b receipt m at names has = record {
    state = old.core.state;
    seen = omega (arith, ap length there, length_push old.log.history entry, m.entered.placed.1);
    leaves = subst (λ l. After files sizes name l old.core.state) (sym until) legal;
    file = flush_named old.core.state serial file code b names ∙ ap Some (sym at);
    earlier = has.0;
    own = has.1;
    recorded = has.2;
    counted = has.3 ∙ ap (λ n. (file_at old.core.state n).failures) (sym at);
    event = e;
    entered = subst (λ l. IsPrefix l after.list)
        (there ∙ ap (λ l. l ++ entry ∷ []) (sym until) ∙ ap (λ x. take slip.place after.list ++ x ∷ []) same) (prefix_self after.list);
  }
    where
      entry : Entry
      entry = entry_of before.number e (reply.Failed code)

      there : after.list ≡ old.log.history ++ entry ∷ []
      there = m.entered.sees ∙ m.entered.history

      until : take slip.place after.list ≡ old.log.history
      until =
          let at = m.entered.placed.1 in
          ap (take slip.place) there ∙ take-append-le slip.place old.log.history (entry ∷ []) (omega (arith, at))
          ∙ take_all slip.place old.log.history (omega (arith, at))

      same : entry ≡ entry_of after.number e (reply.Failed has.1.code)
      same = ap (λ n. entry_of n e (reply.Failed code)) (sym m.entered.seat.2)
          ∙ ap (λ n. entry_of after.number e (reply.Failed n)) (sym has.4)

  -- the receipt of an end is of the request that was in flight
  pub of_request : (k : Kind) (a : Ended) (receipt : Option ReceiptSeen) → Made e (ended_as k (Ok a)) old new before after slip
      → IsRecordedOf k old.errors a receipt new.errors → NamesFile old.core.state k serial (Ok a) → HasFailure old.core.state a receipt
      → IfSome receipt (IsOfRequest files sizes name serial after slip)
  of_request Fill a receipt m h names has = subst (λ o. IfSome o (IsOfRequest files sizes name serial after slip)) (sym h.0) tt
  of_request Flush (ended.Failed file code b) (Some receipt) m h names has = of_failure file code b receipt m h.3 names has
  of_request Flush (ended.Failed file code b) None m h names has = tt
  of_request Flush (ended.Dropped b) None m h names has = tt
  of_request Flush (ended.Dropped b) (Some receipt) m h names has = absurd h
  of_request Flush (ended.Done b) None m h names has = tt
  of_request Flush (ended.Done b) (Some receipt) m h names has = absurd h

-- so is the failed write that it comes with
pub failed_of_request : (files : Catalog) (sizes : Sizes) (name called serial given : ℕ) (seat : SeatSeen) (slip : Slip) (receipt : Option ReceiptSeen)
    (failed : Option FailedSeen) → failed ≡ option_map (λ r. record { cache = called; receipt = r }) receipt → given ≡ serial
    → IfSome receipt (IsOfRequest files sizes name serial seat slip)
    → IfSome failed (λ w. IsOfRequest files sizes name given seat slip w.receipt)
failed_of_request files sizes name called serial given seat slip receipt failed is same p =
    subst (λ o. IfSome o (λ (w : FailedSeen). IsOfRequest files sizes name given seat slip w.receipt)) (sym is) (go receipt p)
  where
    go : (o : Option ReceiptSeen) → IfSome o (IsOfRequest files sizes name serial seat slip)
        → IfSome (option_map (λ r. let w : FailedSeen = record { cache = called; receipt = r } in w) o)
        (λ w. IsOfRequest files sizes name given seat slip w.receipt)
    go None p = tt
    go (Some r) p = subst (λ n. IsOfRequest files sizes name n seat slip r) (sym same) p

-- a buffer that comes back is as long as it was
pub back_sized : (a : Ended) (f : FinishedTask) (n : ℕ) → EndGivesBack f (Ok a) → length f.bytes ≡ n → length (buffer_of a) ≡ n
back_sized (ended.Dropped buffer) f n back size = ap length back ∙ size
back_sized (ended.Failed file code buffer) f n back size = ap length back ∙ size
back_sized (ended.Done buffer) f n back size = ap length back ∙ size

pub ends_on : (job : Task) (a b c : SeatSeen) (slip : Slip) (told : Bool) → Goes a b
    → Ends job b c slip told → Ends job a c slip told
ends_on job a b c slip told p q = record {
  event = q.event;
  reply = q.reply;
  is_end = q.is_end;
  ended = q.ended;
  made = makes_on a b c slip q.event q.reply p q.made;
  failed = q.failed;
}

pub ends_then : (job : Task) (a b c : SeatSeen) (slip : Slip) (told : Bool) → Ends job a b slip told
    → Goes b c → Ends job a c slip told
ends_then job a b c slip told p q = record {
  event = p.event;
  reply = p.reply;
  is_end = p.is_end;
  ended = p.ended;
  made = makes_then a b c slip p.event p.reply p.made q;
  failed = p.failed;
}

-- ---- a flusher's turn

pub begins_first : (files : Catalog) (sizes : Sizes) (name : ℕ) (job : Task) (slip : Slip) (old new : HeldSeen) (before after : SeatSeen)
    → After files sizes name old.log.history old.core.state → Writes job slip old new before after
    → IsFlushJob new.core.state (Ok (flush.Job job)) → Begins files sizes name job before after slip
begins_first files sizes name job slip old new before after legal w own = record {
  file = w.file;
  made = record {
    earlier = old.log.history;
    saw = w.made.entered.saw;
    entered =
        subst (IsPrefix (old.log.history ++ entry_of before.number (event.FlushBegin w.file) (reply.Job (record { 0 = job.serial })) ∷ []))
        (sym (w.made.entered.sees ∙ w.made.entered.history)) (prefix_self _);
    placed = w.made.entered.placed;
  };
  old = old.core.state;
  new = new.core.state;
  leaves = legal;
  first = w.first;
  step = w.made.step;
  own = own;
}

pub refuses_first : (files : Catalog) (sizes : Sizes) (name : ℕ) (whole : Room) (old new : HeldSeen) (before after : SeatSeen) (d : Denied)
    → After files sizes name old.log.history old.core.state → IsFirstDenied files sizes name whole old new before after d
    → IfSome d.slip (RefusesFirst files sizes name d.refusal before after)
refuses_first files sizes name whole old new before after d legal q = go d.refusal d.slip q.denied
  where
    go : (r : Refusal) (o : Option Slip) → under.DeniedBy files sizes name whole (event.FlushBegin q.file) old new before after r o
        → IfSome o (RefusesFirst files sizes name r before after)
    go r None h = tt
    go r (Some slip) h = record {
      file = q.file;
      made = record {
        earlier = old.log.history;
        saw = h.entered.saw;
        entered = subst (IsPrefix (old.log.history ++ entry_of before.number (event.FlushBegin q.file) (reply.Refused r) ∷ []))
            (sym (h.entered.sees ∙ h.entered.history)) (prefix_self _);
        placed = h.entered.placed;
      };
      old = old.core.state;
      leaves = legal;
      first = q.first;
    }

pub begins_then : (files : Catalog) (sizes : Sizes) (name : ℕ) (job : Task) (a b c : SeatSeen) (slip : Slip) → Begins files sizes name job a b slip → Goes b c
    → Begins files sizes name job a c slip
begins_then files sizes name job a b c slip p q = record {
  file = p.file;
  made = record {
    earlier = p.made.earlier;
    saw = p.made.saw;
    entered = prefix_trans _ b.list c.list p.made.entered q.grows;
    placed = p.made.placed;
  };
  old = p.old;
  new = p.new;
  leaves = p.leaves;
  first = p.first;
  step = p.step;
  own = p.own;
}

module _ (files : Catalog) (sizes : Sizes) (name : ℕ) (whole : Room) where
  pub denied_begun : (old new : HeldSeen) (before after : SeatSeen) (d : Denied) → IsFirstDenied files sizes name whole old new before after d
      → IsDenied files sizes name whole IsFlushBegin before after d
  denied_begun old new before after d q =
      denied_by files sizes name whole IsFlushBegin (event.FlushBegin q.file) old new before after d tt
      (λ why slip m. first_refused old.core.state new.core.state q.file why q.first.0 m.step) q.denied

  pub unbegun : (old new : HeldSeen) (before after : SeatSeen) (d : Denied) → IsFirstDenied files sizes name whole old new before after d
      → MadeOne d.slip before after
  unbegun old new before after d q = denied_one files sizes name whole (event.FlushBegin q.file) old new before after d q.denied

pub begun_one : (job : Task) (slip : Slip) (old new : HeldSeen) (before after : SeatSeen)
    → Writes job slip old new before after → MadeOne (Some slip) before after
begun_one job slip old new before after w = w.made.entered.count

-- ---- all jobs that a worker took

-- this seat ended the job
abbrev Ended_by : SeatSeen → SeatSeen → Task → Type 0
Ended_by before after job = (slip : Slip) × (told : Bool) × Ends job before after slip told

pub none_ended : (w : Worker) → AllEnded w w
none_ended w = ([], sym (append-nil (popped_by w)), All-nil (Ended_by w.seat w.seat))

-- as far as the seat saw then
pub still_ended : (a b c : Worker) → AllEnded a b → popped_by c ≡ popped_by b → Goes b.seat c.seat → AllEnded a c
still_ended a b c p same goes = (
  p.0,
  same ∙ p.1,
  All-weaker (Ended_by a.seat b.seat) (Ended_by a.seat c.seat)
      (λ job q. (q.0, q.1, ends_then job a.seat b.seat c.seat q.0 q.1 q.2 goes)) p.0 p.2,
)

one_ended : (before after : SeatSeen) (job : Task) → Ended_by before after job → All (Ended_by before after) (job ∷ [])
one_ended before after job p zero d less = p
one_ended before after job p (suc k) d less = absurd (omega arith)

pub one_more_ended : (a b c : Worker) (job : Task) (slip : Slip) (told : Bool) → AllEnded a b
    → popped_by c ≡ popped_by b ++ job ∷ [] → Goes a.seat b.seat → Goes b.seat c.seat → Ends job b.seat c.seat slip told
    → AllEnded a c
one_more_ended a b c job slip told p popped before goes end = (
  p.0 ++ job ∷ [],
  popped ∙ ap (λ jobs. jobs ++ job ∷ []) p.1 ∙ append_assoc (popped_by a) p.0 (job ∷ []),
  All-append (Ended_by a.seat c.seat) p.0 (job ∷ [])
      (All-weaker (Ended_by a.seat b.seat) (Ended_by a.seat c.seat)
      (λ j q. (q.0, q.1, ends_then j a.seat b.seat c.seat q.0 q.1 q.2 goes)) p.0 p.2)
      (one_ended a.seat c.seat job (slip, told, ends_on job a.seat b.seat c.seat slip told before end)),
)

-- a turn took no job, or ended the one that it took
pub turn_ended : (a b c : Worker) (turn : Option Done) (name : ℕ) (board : TableId) → AllEnded a b → Goes a.seat b.seat
    → Goes b.seat c.seat → IfNone turn ((c.seat ≡ b.seat) × (popped_by c ≡ popped_by b))
    → IfSome turn (λ d. (job : Task) × (popped_by c ≡ popped_by b ++ job ∷ []) × (d.serial.0 ≡ job.serial)
    × Ends job b.seat c.seat d.slip (is_some d.failed) × IfSome d.failed (IsOwnFailure name board))
    → AllEnded a c
turn_ended a b c None name board p before goes idle end = still_ended a b c p idle.1 goes
turn_ended a b c (Some d) name board p before goes idle end =
    one_more_ended a b c end.0 d.slip (is_some d.failed) p end.1 before goes end.3

-- a turn that took no job found the ring empty
pub was_idle : (turn : Option Done) (w : Worker) → is_none turn ≡ true → IfNone turn (Held 0 (Stands (view w.pass)))
    → Held 0 (Stands (view w.pass))
was_idle None w e p = p
was_idle (Some d) w e p = absurd (let x : false ≡ true = e in cc)

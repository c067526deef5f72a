-- Making room ends: an eviction takes a cached page away, and a page that was written back is DIRTY no more.
use Rattle.std.proofs.Common.{◌≡◌, ℕ, ◌+◌, ◌<◌, ◌≤◌, refl, ap, ◌∙◌, arith, inl, inr}
use Rattle.std.specs.Prelude.{Option, Some, None}
use Rattle.std.specs.FinMap as map
use Rattle.errboard.specs.Shown.{RecorderSeen}
use Rattle.pc_types.specs.declared.ids.FileId.{FileId}
use Rattle.pc_types.specs.declared.refusal.Refusal.{Refusal}
use Rattle.pc_types.specs.declared.refusal.Refusal.TheVariants.{DirtyLimit, NoFrame}
use Rattle.machine.specs.declared.event.Event.TheVariants as event
use Rattle.machine.specs.declared.event.Outcome.{Outcome}
use Rattle.machine.specs.declared.event.Reply.TheVariants as reply
use Rattle.pc_types.specs.Limits.{Sizes}
use Rattle.machine.specs.State.{State, Request, cached_total, free_frames, is_cached}
use Rattle.machine.specs.Step.{Step}
use Rattle.machine.proofs.steps.Cases.{happened}
use Rattle.runs.specs.World.{Ends, Finish, WorldStep}
use Rattle.world.specs.declared.step.Step.TheVariants as step
use Rattle.world.specs.Stepping.{WorldSeen, world_of}
use Rattle.filesvc.specs.Rooms.{MakesRoom, StaysAbsent, WritesBack, load}
use Rattle.filesvc.specs.Seen.{SoloSeen}
use Rattle.filesvc.proofs.Lightens.{Lighter, NoHeavier, begin_less, end_most, evict_less}
use Rattle.filesvc.proofs.Needs.{none_filling}
use Rattle.filesvc.proofs.WorldLaws.{Carried, Once, Quiet, Whole, flush_begins, once}

-- the end of a flush that went well
flush_end_most : (w new : WorldSeen) (t : ℕ) → WorldStep (world_of w) (Finish t reply.Written) (world_of new) → NoHeavier w.core new.core
flush_end_most w new t m = by (map.get w.core.requests t) (map.get w.outcomes t) m
  where
    by : (q : Option Request) (o : Option Outcome) → Ends (world_of w) t q o reply.Written (world_of new) → NoHeavier w.core new.core
    by (Some x) (Some call) h = end_most w.core new.core x.kind (record { cache = w.core.name; kind = x.kind; serial = record { 0 = t }; block = record { 0 = x.block }; outcome = call }) h.0
    by (Some x) None h = absurd h
    by None o h = absurd h

carried_less : (old new : WorldSeen) (errors after : RecorderSeen) (f : FileId) → Carried old errors (event.FlushBegin f) reply.Written new after → Lighter old.core new.core
carried_less old new errors after f c =
    let first = begin_less old.core c.begun.core f c.serial c.begin.0.1.0 in
    let core : c.called.core ≡ c.begun.core = ap (λ (x : WorldSeen). x.core) c.call.noted in
    let same : load c.called.core ≡ load c.begun.core = ap load core in
    let last = flush_end_most c.called new c.serial.0 c.end.0 in
    record {
      less = (let a = first.less in let z = last.most in omega arith);
      absent = λ g q none. last.absent g q (ap (λ x. is_cached x g q) core ∙ first.absent g q none);
      cached = (let a = first.cached in let b = ap cached_total core in let c = last.cached in omega arith);
    }

never_written : (s new : State) (f : FileId) → Step s (event.FlushBegin f) reply.Written new → ⊥
never_written s new f step = (happened s (event.FlushBegin f) reply.Written new step refl (λ n o k. cc)).may

once_less : (old new : WorldSeen) (errors after : RecorderSeen) (f : FileId) → Once old errors (event.FlushBegin f) reply.Written new after → Lighter old.core new.core
once_less old new errors after f (Quiet j m none) = absurd (never_written old.core new.core f m.0.1.0)
once_less old new errors after f (Whole c) = carried_less old new errors after f c

pub written_less : (s new : SoloSeen) (f : FileId) → WritesBack s f new → Lighter s.world.core new.world.core
written_less s new f a = once_less s.world new.world s.errors new.errors f (once s.world new.world s.errors new.errors (step.FlushBegin f) (event.FlushBegin f) reply.Written (flush_begins f) a)

made_lighter : (s new : SoloSeen) (r : Refusal) → MakesRoom s r new → Lighter s.world.core new.world.core
made_lighter s new NoFrame (inl e) = evict_less s.world.core new.world.core e.0 e.1 e.2
made_lighter s new NoFrame (inr e) = written_less s new e.1.0 e.1.2
made_lighter s new DirtyLimit e = written_less s new e.0 e.2
made_lighter s new r e = absurd e

pub room_less : (s new : SoloSeen) (r : Refusal) → MakesRoom s r new → load new.world.core < load s.world.core
room_less s new r e = (made_lighter s new r e).less

-- one frame at most becomes free, where no request is in flight
pub room_frees : (s new : SoloSeen) (r : Refusal) → s.world.core.requests ≡ map.empty → new.world.core.sizes ≡ s.world.core.sizes → MakesRoom s r new
    → free_frames new.world.core ≤ free_frames s.world.core + 1
room_frees s new r rests sizes e =
    let a = (made_lighter s new r e).cached in
    let b = none_filling s.world.core rests in
    let c : new.world.core.sizes.frames ≡ s.world.core.sizes.frames = ap (λ (z : Sizes). z.frames) sizes in omega arith

pub room_absent : (s new : SoloSeen) (r : Refusal) → MakesRoom s r new → StaysAbsent s.world.core new.world.core
room_absent s new r e = (made_lighter s new r e).absent

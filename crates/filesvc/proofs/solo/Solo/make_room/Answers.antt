use Rattle.std.proofs.Common.{◌≡◌, true, false, None, refl, sym, subst, ◌∙◌}
use Rattle.std.specs.FinMap as finmap
use Rattle.pc_types.specs.declared.refusal.Refusal.TheVariants.{DirtyLimit, NoFrame}
use Rattle.filesvc.proofs.Enough.{dirty_refused, full_refused}
use Rattle.filesvc.specs.Rooms.{FlushesOne}
use Rattle.filesvc.specs.Seen.{SoloSeen}
use Rattle.filesvc.proofs.Laws.{helps_refl, helps_trans}
use Rattle.filesvc.proofs.Load.{room_frees}
use Rattle.filesvc.proofs.RoomLaws.{evicted_for_frame, evicted_helps, evicted_service, flushed_for_frame, stuck_for_frame}
use Rattle.filesvc.proofs.WorldLaws.{service_sound}
use Rattle.filesvc.proofs.solo.Solo.make_room.Goals as goal
use Rattle.filesvc.proofs.solo.Solo.make_room.Goals.{in-NoFrame+else-is_some, in-DirtyLimit}

pub invariant_of-self : goal.invariant_of-self
invariant_of-self g c =
    let s : SoloSeen = record { world = c.self.inside.world; errors = c.self.inside.recorder; attempts = 0 } in
    evicted_service s _ _ c.age.result c.evict.result c.age.ensures c.evict.ensures _ _ c.self.invariant

pub returns-in_default : goal.returns-in_default
returns-in_default g c = record {
  helps = λ k page. helps_refl c.args.self.now;
  attempts = refl;
  made = tt;
  few = tt;
  refused = refl;
  frames = λ e. absurd (c.in_default.not-NoFrame e);
  clean = λ e. absurd (c.in_default.not-DirtyLimit e);
}

pub returns-then-is_some-clause-helps : goal.returns-then-is_some-clause-helps
returns-then-is_some-clause-helps g c = rw (← c.self.view_is) (λ k page. evicted_helps _ _ _ c.age.result c.evict.result c.age.ensures c.evict.ensures (service_sound _ _ _ _ c.self.invariant.serving))

pub returns-then-flush_one-clause-helps : goal.returns-then-flush_one-clause-helps
returns-then-flush_one-clause-helps g c = elim c.match-refusal.branch [
  | in-NoFrame+else-is_some w ↦ rw (← c.self.view_is) (λ k page. helps_trans _ _ _ (evicted_helps _ _ _ w.age.result w.evict.result w.age.ensures w.evict.ensures (service_sound _ _ _ _ c.self.invariant.serving)) ((rw w.self-is at c.flush_one.ensures.helps) k page))
  | in-DirtyLimit w ↦ rw w.self-is at c.flush_one.ensures.helps
]

pub returns-then-flush_one-clause-made : goal.returns-then-flush_one-clause-made
returns-then-flush_one-clause-made g c =
    let s : SoloSeen = record { world = c.self.inside.world; errors = c.self.inside.recorder; attempts = c.self.inside.attempts } in
    let f : FlushesOne c.match-refusal.self true c.flush_one.new.self = rw c.if-flush_one.true at c.flush_one.ensures.flushes in
    elim c.match-refusal.branch [
      | in-NoFrame+else-is_some w ↦ rw (w.in-NoFrame.is, ← c.self.view_is) (flushed_for_frame s c.flush_one.new.self _ _ w.age.result w.evict.result w.age.ensures w.evict.ensures (sym w.is_some.ensures ∙ w.if-is_some.false) (rw w.self-is at f))
      | in-DirtyLimit w ↦ rw w.in-DirtyLimit.is (rw w.self-is at f)
    ]

pub returns-then-is_some-clause-few : goal.returns-then-is_some-clause-few
returns-then-is_some-clause-few g c =
    let s : SoloSeen = record { world = c.self.inside.world; errors = c.self.inside.recorder; attempts = c.self.inside.attempts } in
    rw (← c.self.view_is) (room_frees s (record s { world = c.evict.new.self }) NoFrame c.self.invariant.serving.rests.requests
    (evicted_helps s _ _ c.age.result c.evict.result c.age.ensures c.evict.ensures {k = 0} {page = None} (service_sound _ _ _ _ c.self.invariant.serving)).serves.keeps.sizes
    (evicted_for_frame s _ _ c.age.result c.evict.result c.age.ensures c.evict.ensures (sym c.is_some.ensures ∙ c.if-is_some.true)))

pub returns-then-flush_one-clause-few : goal.returns-then-flush_one-clause-few
returns-then-flush_one-clause-few g c =
    room_frees c.args.self.now c.flush_one.new.self c.args.refusal
    (subst (λ (s : SoloSeen). s.world.core.requests ≡ finmap.empty) c.self.view_is c.self.invariant.serving.rests.requests)
    (returns-then-flush_one-clause-helps g c 0 None).serves.keeps.sizes (returns-then-flush_one-clause-made g c)

pub returns-else-flush_one-clause-frames : goal.returns-else-flush_one-clause-frames
returns-else-flush_one-clause-frames g c =
    let s : SoloSeen = record { world = c.self.inside.world; errors = c.self.inside.recorder; attempts = c.self.inside.attempts } in
    let f : FlushesOne c.match-refusal.self false c.flush_one.new.self = rw c.if-flush_one.false at c.flush_one.ensures.flushes in
    elim c.match-refusal.branch [
      | in-NoFrame+else-is_some w ↦ rw (← c.self.view_is)
          (λ _ _. (let k = stuck_for_frame s c.flush_one.new.self _ _ w.age.result w.evict.result w.age.ensures
          w.evict.ensures (sym w.is_some.ensures ∙ w.if-is_some.false) (rw w.self-is at f) in
          full_refused s c.flush_one.new.self _ _ c.self.invariant.serving k.0 k.1))
      | in-DirtyLimit w ↦ λ no _. absurd (let e : DirtyLimit ≡ NoFrame = sym w.in-DirtyLimit.is ∙ no in cc)
    ]

pub returns-else-flush_one-clause-clean : goal.returns-else-flush_one-clause-clean
returns-else-flush_one-clause-clean g c =
    let s : SoloSeen = record { world = c.self.inside.world; errors = c.self.inside.recorder; attempts = c.self.inside.attempts } in
    let f : FlushesOne c.match-refusal.self false c.flush_one.new.self = rw c.if-flush_one.false at c.flush_one.ensures.flushes in
    elim c.match-refusal.branch [
      | in-NoFrame+else-is_some w ↦ λ no _. absurd (let e : NoFrame ≡ DirtyLimit = sym w.in-NoFrame.is ∙ no in cc)
      | in-DirtyLimit w ↦ rw (← c.self.view_is)
          (λ _ _. dirty_refused s c.flush_one.new.self _ _ c.self.invariant.serving
          (rw (w.self-is, ← c.self.view_is) at f))
    ]

pub returns-else-flush_one-clause-helps : goal.returns-else-flush_one-clause-helps
returns-else-flush_one-clause-helps g c = elim c.match-refusal.branch [
  | in-NoFrame+else-is_some w ↦ rw (← c.self.view_is) (λ k page. helps_trans _ _ _ (evicted_helps _ _ _ w.age.result w.evict.result w.age.ensures w.evict.ensures (service_sound _ _ _ _ c.self.invariant.serving)) ((rw w.self-is at c.flush_one.ensures.helps) k page))
  | in-DirtyLimit w ↦ rw w.self-is at c.flush_one.ensures.helps
]

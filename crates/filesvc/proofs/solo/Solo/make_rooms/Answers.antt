use Rattle.std.proofs.Common.{◌≡◌, ℕ, suc, ◌<◌, ◌+◌, Some, None, refl, subst, ◌∙◌, arith}
use Rattle.std.proofs.lemmas.Result.{err_from_is_err_and}
use Rattle.cachecore.specs.declared.answers.Demand.{Demand}
use Rattle.cachecore.specs.Wants.{demanded, frames_short}
use Rattle.filesvc.specs.Rooms.{MakesRoom, MakesRooms, wanted}
use Rattle.filesvc.specs.Seen.{SoloSeen}
use Rattle.pc_types.specs.declared.refusal.Refusal.TheVariants.{NoFrame}
use Rattle.filesvc.proofs.Demands.{short_after_for, short_wants, way_refused_for}
use Rattle.filesvc.proofs.Laws.{helps_refl, helps_trans}
use Rattle.filesvc.proofs.Load.{room_absent, room_less}
use Rattle.filesvc.proofs.solo.Solo.make_rooms.Goals as goal

one_more : (d : Demand) (times : ℕ) (old mid new : SoloSeen) → MakesRooms d times old mid → wanted mid.world.core d ≡ Some NoFrame → MakesRoom mid NoFrame new
    → MakesRooms d (times + 1) old new
unfolding MakesRooms
one_more d times old mid new before wants room = subst (λ t. MakesRooms d t old new) next (mid, before, wants, room)
  where
    next : suc times ≡ times + 1
    next = omega arith

pub frames-init : goal.frames-init
unfolding MakesRooms
frames-init g c =
    let d = c.args.demand in
    let short : c.args.short ≡ frames_short c.args.self.now.world.core d.handle.0 d.offset (demanded c.args.self.now.world.core d) = c.requires in
    record {
      helps = λ page. helps_refl c.args.self.now;
      attempts = refl;
      rooms = refl;
      less = omega arith;
      absent = λ f p e. e;
      short = omega arith;
    }

pub frames-preserved : goal.frames-preserved
frames-preserved g c =
    let d = c.args.demand in
    let i = c.frames.invariant in
    let e = c.in_ok-make_room.ensures in
    let absent = room_absent c.frames.self c.make_room.new.self NoFrame e.made in
    let less = room_less c.frames.self c.make_room.new.self NoFrame e.made in
    let after = short_after_for c.frames.self c.make_room.new.self d (c.make_room.ensures.helps 0 None).serves absent e.few in
    let before = i.less in
    let few = e.few in
    let short = i.short in
    let more = c.frames-test.true in
    let some : 0 < frames_short c.frames.self.world.core d.handle.0 d.offset (demanded c.frames.self.world.core d) = omega arith in
    record {
      helps = λ page. helps_trans _ _ _ (i.helps page) (c.make_room.ensures.helps d.handle.0 page);
      attempts = c.make_room.ensures.attempts ∙ i.attempts;
      rooms = one_more d c.frames.counter c.args.self.now c.frames.self c.make_room.new.self i.rooms (short_wants c.frames.self.world.core d some) e.made;
      less = omega arith;
      absent = λ f p none. absent f p (i.absent f p none);
      short = omega arith;
    }

pub returns-in_err-make_room-clause-helps : goal.returns-in_err-make_room-clause-helps
returns-in_err-make_room-clause-helps g c = λ page. helps_trans _ _ _ (c.frames.invariant.helps page) (c.make_room.ensures.helps c.args.demand.handle.0 page)

-- frames are short still, so the call wants them
pub returns-in_err-make_room-clause-refused : goal.returns-in_err-make_room-clause-refused
returns-in_err-make_room-clause-refused g c =
    let d = c.args.demand in
    let p = err_from_is_err_and c.from_residual.result c.from_residual.ensures.1 in
    let left = c.frames.invariant.short in
    let more = c.frames-test.true in
    let some : 0 < frames_short c.frames.self.world.core d.handle.0 d.offset (demanded c.frames.self.world.core d) = omega arith in
    rw (p.1, p.2) (way_refused_for c.args.self.now c.frames.self c.make_room.new.self d (c.frames.invariant.helps None).serves
    (c.make_room.ensures.helps 0 None).serves NoFrame c.in_err-make_room.field-0.0 (short_wants c.frames.self.world.core d some)
    c.in_err-make_room.ensures.refused c.in_err-make_room.ensures.frames c.in_err-make_room.ensures.clean)

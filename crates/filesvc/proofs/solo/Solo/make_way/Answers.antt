use Rattle.std.proofs.Common.{◌≡◌, Some, None, refl, ap, sym, ◌∙◌}
use Rattle.std.proofs.lemmas.Result.{err_from_is_err_and}
use Rattle.pc_types.specs.declared.refusal.Refusal.TheVariants.{DirtyLimit, NoFrame}
use Rattle.cachecore.specs.declared.answers.Want.{Want}
use Rattle.filesvc.specs.Rooms.{refusal_of, wanted}
use Rattle.filesvc.specs.Seen.{SoloSeen}
use Rattle.filesvc.proofs.Demands.{way_refused_for}
use Rattle.filesvc.proofs.Laws.{helps_refl, helps_trans}
use Rattle.filesvc.proofs.Load.{room_absent, room_less}
use Rattle.filesvc.proofs.RoomLaws.{way_refusal_before}
use Rattle.filesvc.proofs.solo.Solo.make_way.Goals as goal

pub turns-init : goal.turns-init
turns-init g c = record { helps = λ page. helps_refl c.args.self.now; attempts = refl; absent = λ f p e. e; kept = λ _. refl }

-- ---- frames are short

pub turns-preserved-in-Continue-1 : goal.turns-preserved-in-Continue-1
turns-preserved-in-Continue-1 g c =
    let way : wanted c.turns.self.world.core c.args.demand ≡ Some NoFrame = sym c.in-Some.ensures.wanted ∙ ap (λ (w : Want). refusal_of (Some w)) c.in-Frames.is in
    record {
      helps = λ page. helps_trans _ _ _ (c.turns.invariant.helps page) (c.make_rooms.ensures.helps page);
      attempts = c.make_rooms.ensures.attempts ∙ c.turns.invariant.attempts;
      absent = λ f p none. c.in_ok-make_rooms-in-Frames.ensures.absent f p (c.turns.invariant.absent f p none);
      kept = λ none. absurd (let e : None ≡ Some NoFrame = sym (ap (λ (s : SoloSeen). wanted s.world.core c.args.demand) (c.turns.invariant.kept none) ∙ none) ∙ way in cc);
    }

pub returns-in_err-make_rooms-in-Frames-clause-helps : goal.returns-in_err-make_rooms-in-Frames-clause-helps
returns-in_err-make_rooms-in-Frames-clause-helps g c = λ page. helps_trans _ _ _ (c.turns.invariant.helps page) (c.make_rooms.ensures.helps page)

pub returns-in_err-make_rooms-in-Frames-clause-refused : goal.returns-in_err-make_rooms-in-Frames-clause-refused
returns-in_err-make_rooms-in-Frames-clause-refused g c =
    let p = err_from_is_err_and c.from_residual.result c.from_residual.ensures.1 in
    rw (p.1, p.2) (way_refusal_before c.args.self.now c.turns.self c.make_rooms.new.self _ c.in_err-make_rooms-in-Frames.field-0.0
    (c.turns.invariant.helps None).serves c.in_err-make_rooms-in-Frames.ensures.refused)

-- ---- too many pages would be dirty

pub turns-smaller : goal.turns-smaller
turns-smaller g c = room_less c.turns.self c.make_room.new.self DirtyLimit c.in_ok-make_room-in-Clean.ensures.made

pub turns-preserved : goal.turns-preserved
turns-preserved g c =
    let way : wanted c.turns.self.world.core c.args.demand ≡ Some DirtyLimit = sym c.in-Some.ensures.wanted ∙ ap (λ (w : Want). refusal_of (Some w)) c.in-Clean.is in
    record {
      helps = λ page. helps_trans _ _ _ (c.turns.invariant.helps page) (c.make_room.ensures.helps c.args.demand.handle.0 page);
      attempts = c.make_room.ensures.attempts ∙ c.turns.invariant.attempts;
      absent = λ f p none. room_absent c.turns.self c.make_room.new.self DirtyLimit c.in_ok-make_room-in-Clean.ensures.made f p (c.turns.invariant.absent f p none);
      kept = λ none. absurd (let e : None ≡ Some DirtyLimit = sym (ap (λ (s : SoloSeen). wanted s.world.core c.args.demand) (c.turns.invariant.kept none) ∙ none) ∙ way in cc);
    }

pub returns-in_err-make_room-in-Clean-clause-helps : goal.returns-in_err-make_room-in-Clean-clause-helps
returns-in_err-make_room-in-Clean-clause-helps g c = λ page. helps_trans _ _ _ (c.turns.invariant.helps page) (c.make_room.ensures.helps c.args.demand.handle.0 page)

pub returns-in_err-make_room-in-Clean-clause-refused : goal.returns-in_err-make_room-in-Clean-clause-refused
returns-in_err-make_room-in-Clean-clause-refused g c =
    let p = err_from_is_err_and c.from_residual-in_err-make_room-in-Clean.result c.from_residual-in_err-make_room-in-Clean.ensures.1 in
    let way : wanted c.turns.self.world.core c.args.demand ≡ Some DirtyLimit = sym c.in-Some.ensures.wanted ∙ ap (λ (w : Want). refusal_of (Some w)) c.in-Clean.is in
    rw (p.1, p.2) (way_refused_for c.args.self.now c.turns.self c.make_room.new.self c.args.demand (c.turns.invariant.helps None).serves
    (c.make_room.ensures.helps 0 None).serves DirtyLimit c.in_err-make_room-in-Clean.field-0.0 way
    c.in_err-make_room-in-Clean.ensures.refused c.in_err-make_room-in-Clean.ensures.frames c.in_err-make_room-in-Clean.ensures.clean)

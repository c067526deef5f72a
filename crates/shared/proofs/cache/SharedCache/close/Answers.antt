use Rattle.std.proofs.Common.{◌≡◌, ◌≢◌, ◌+◌, ◌<◌, true, false, ap, inl, inr, refl, subst, sym, ◌∙◌}
use Rattle.std.specs.Prelude.{Any, Some, is_err, vec_len}
use Rattle.cachecore.specs.Core.{Core}
use Rattle.pc_types.specs.Limits.{Sizes}
use Rattle.held.specs.declared.log.Seat.{Seat}
use Rattle.deeds.specs.Rules.{Knows}
use Rattle.deeds.specs.Shown.{bytes_of, calls_of}
use Rattle.tied.proofs.Kept.{kept_calls}
use Rattle.tied.proofs.Tied.{tied_at, tied_busy, tied_honest}
use Rattle.held.specs.Shown.{SeatSeen}
use Rattle.shared.specs.Workers.{AllEnded, AllOver, company_of, pushed_by}
use Rattle.shared.specs.declared.worker.Worker.{Worker}
use Rattle.shared.proofs.CallCounts.{called_for}
use Rattle.shared.proofs.Closing.{not_by_its_own}
use Rattle.shared.proofs.cache.SharedCache.close.Goals as goal

pub close-requires-clause-came : goal.close-requires-clause-came
close-requires-clause-came g c = λ k d less own. c.requires.came k d less (own ∙ sym c.args.self.named)

pub returns-in-Err-clause-refused : goal.returns-in-Err-clause-refused
returns-in-Err-clause-refused g c = (
  λ _. not_by_its_own (λ (s : Seat). s.name) c.args.seats.items (vec_len c.args.seats + 1 ≢ g.B.Naming.seats)
      c.args.self.name g.B.Naming.name c.drain.new.own.seat.name c.args.self.named c.drain.ensures.worker.named
      (c.close.ensures.refused.0 (ap is_err c.in-Err.is)),
  λ _. refl,
)

pub returns-in-Ok-clause-refused : goal.returns-in-Ok-clause-refused
returns-in-Ok-clause-refused g c = (
  λ e. absurd (let k : false ≡ true = e in cc),
  λ bad. sym (ap is_err c.in-Ok.is) ∙ c.close.ensures.refused.1 (elim bad [
    | inl a ↦ inl a
    | inr a ↦ inr (inl (subst (λ n. Any (λ (s : Seat). s.name ≢ n) c.args.seats.items) c.args.self.named a))
  ]),
)

-- the core that comes back is the one that the ring was emptied into
pub returns-in-Ok-clause-closed : goal.returns-in-Ok-clause-closed
returns-in-Ok-clause-closed g c = (
  c.drain.new.state.log.history,
  c.in-Ok.ensures.trail.0,
  c.in-Ok.ensures.cache ∙ ap Some (sym c.args.self.named),
  c.in-Ok.ensures.trail.2,
  record {
    at = c.drain.new.own;
    ended = c.drain.ensures.ended;
    over = subst (λ (k : Core). AllOver c.args.own c.drain.new.own k.state) (sym c.in-Ok.ensures.trail.1) c.drain.ensures.over;
    only = c.drain.ensures.only;
    pushed = c.drain.ensures.same.0;
    alone = c.drain.ensures.same.1;
    emptied = c.drain.ensures.emptied;
    seen = c.in-Ok.ensures.own.0;
    counted = c.in-Ok.ensures.own.1;
  },
  c.in-Ok.ensures.seats,
  λ tells. let t = c.in-Ok.ensures.tied tells in record {
    world = t.world;
    honest = tied_honest _ _ _ _ _ _ _ t;
    core_is = t.core_is;
    left = bytes_of c.into_parts-device.result.1;
    told = c.into_parts-device.ensures.contents tells;
    each = λ k low free. tied_at _ _ _ _ _ _ _ t g.B.NamesDeeds.told c.in-Ok.ensures.desk c.into_parts-device.result.1 c.close-in-Ok.ensures.knows k
        (subst (λ (s : Sizes). k < s.blocks) (sym c.in-Ok.ensures.core.1) low) free;
    busy = λ u x there. tied_busy _ _ _ _ _ _ _ t c.in-Ok.ensures.desk c.into_parts-device.result.1
        (subst (λ b. Knows b c.into_parts-device.result.1 c.in-Ok.desk) tells c.close-in-Ok.ensures.knows) u x there;
  },
  called_for g.B.Naming.calls (calls_of c.into_parts-device.result.1) c.drain.new.state.log.history c.in-Ok.core.state
      (g.D.BlockDevice.told c.into_parts-device.result.0) c.into_parts-device.ensures.made
      (kept_calls g.B.NamesDeeds.told c.drain.new.state.log.history c.in-Ok.core.state c.in-Ok.desk
      c.into_parts-device.result.1 c.in-Ok.ensures.desk c.in-Ok.ensures.counted c.close-in-Ok.ensures.knows),
  c.in-Ok.ensures.others,
)

-- the jobs that it took were ended all the same
pub returns-in-Err-clause-ended : goal.returns-in-Err-clause-ended
returns-in-Err-clause-ended g c =
    let with : SeatSeen → Worker = λ s. record { seat = s; pass = c.drain.new.own.pass } in
    subst (λ (s : SeatSeen). AllEnded c.args.own (with s) × (pushed_by (with s) ≡ pushed_by c.args.own)
    × (company_of (with s) ≡ company_of c.args.own)) (sym c.in-Err.ensures.err.3)
    (c.drain.ensures.ended, c.drain.ensures.same.0, c.drain.ensures.same.1)

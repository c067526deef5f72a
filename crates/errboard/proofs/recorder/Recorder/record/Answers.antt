use Rattle.std.proofs.Common.{rules, ap}
use Rattle.errboard.proofs.Cuts.{gives_receipt_as}
use Rattle.errboard.proofs.Recordings.{recorder_kept}
use Rattle.errboard.proofs.recorder.Recorder.record.Goals as goal

pub split_seat-seat-requires : goal.split_seat-seat-requires
split_seat-seat-requires c = (search rules, search rules, gives_receipt_as _ _ _ _ _ _ _ (ap (λ m. m.0) c.record_at.ensures.recorded.3))

pub invariant_of-self : goal.invariant_of-self
invariant_of-self c =
    let r = c.record_at.ensures.recorded in
    let i = c.self.invariant in
    let s = c.split_seat-seat.ensures in
    let k = recorder_kept _ _ _ _ _ _ _ _ r.3 s.2 i.3 c.requires r.4 r.5 i.4 in
    (search rules, search rules, k.0, k.1, k.2)

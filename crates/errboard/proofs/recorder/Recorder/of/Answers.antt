use Rattle.errboard.proofs.Openings.{recorder_begins, are_opening}
use Rattle.errboard.proofs.recorder.Recorder.of.Goals as goal

pub invariant_of-result : goal.invariant_of-result
invariant_of-result c =
    let r = recorder_begins _ _ _ (are_opening _ c.told-opening c.fits-opening c.requires.carried) c.requires.seat c.words_of.ensures in
    (c.requires.table.0, c.requires.table.1, r.0, r.1, r.2)

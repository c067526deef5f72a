use Rattle.std.proofs.Common.{rules, ◌<◌, length}
use Rattle.std.proofs.Output.{has_written_append, has_written_of_eq}
use Rattle.storm_text.proofs.Counting.{counted_more}
use Rattle.storm_text.proofs.findings.RefusedDisplay.fmt.Goals as goal

pub loop-place-preserved : goal.loop-place-preserved
loop-place-preserved g c = λ plain.
    let below : c.loop-place.place < length c.args.self.now.times = search rules in
    has_written_of_eq _ _ _ _ _ (counted_more c.args.self.now.times c.loop-place.place 0 below)
    (has_written_append _ _ _ _ _ _ (c.loop-place.invariant plain) (search rules))

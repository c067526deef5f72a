use Rattle.storm_text.proofs.Adding.{AddedBefore}
use Rattle.storm_text.proofs.findings.Refused.add.Given as goal

abbrev pub invariant-loop-place : goal.invariant-loop-place
invariant-loop-place l = AddedBefore l.place l.fn.self.times l.other.times l.self.times

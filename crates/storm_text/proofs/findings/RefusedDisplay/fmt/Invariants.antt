use Rattle.std.proofs.Common.{take}
use Rattle.std.specs.Fmt.{HasWritten, IsPlainFormatter}
use Rattle.storm_text.specs.Told.{counted_from}
use Rattle.storm_text.proofs.findings.RefusedDisplay.fmt.Given as goal

-- the numbers before this one are written
abbrev pub invariant-loop-place : goal.invariant-loop-place
invariant-loop-place g l =
    IsPlainFormatter l.initial.f
    → HasWritten g.W.Write.write_str_gives l.initial.f (counted_from 1 (take l.place l.self.times)) l.f

use Rattle.std.proofs.Common.{length, ◌-◌, ◌≡◌, ◌≤◌, map, take}
use Rattle.trail.specs.Replay.{files_of, plain_of}
use Rattle.trail.proofs.plain.PlainFiles.over.Given as goal

abbrev pub invariant-loop-count : goal.invariant-loop-count
invariant-loop-count l = (l.count ≤ length l.files) × (plain_of l.plain ≡ files_of (map (λ v. v.items) (take l.count l.files)))

abbrev pub decreases-loop-count : goal.decreases-loop-count
decreases-loop-count l = length l.files - l.count

use Rattle.std.proofs.Common.{◌+◌, ◌-◌, ◌^◌}
use Rattle.catalog.specs.Rows.{IsRow}
use Rattle.catalog.proofs.catalog.Catalog.row.Given as goal

abbrev pub invariant-loop-rest : goal.invariant-loop-rest
invariant-loop-rest l = IsRow l.self.page l.self.files.spots l.file.0 l.first.0 l.block l.whole l.rest

abbrev pub decreases-loop-rest : goal.decreases-loop-rest
decreases-loop-rest l = 2 ^ 36 - (l.first.0 + l.whole)

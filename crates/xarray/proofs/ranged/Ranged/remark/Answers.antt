use Rattle.std.proofs.Common.{sym}
use Rattle.xarray.proofs.CallLemmas.{first_ranged, first_set}
use Rattle.xarray.proofs.ranged.Ranged.remark.Goals as goal

pub invariant_of-self : goal.invariant_of-self
invariant_of-self c =
    let slot = rw (sym c.self.view_is) at c.requires.there in
    first_ranged c.self.inside.nodes c.self.invariant c.args.first c.args.level slot slot.range slot.there c.set_bit.new.self c.number-number.result 1 c.args.mark c.number-number.ensures c.set_bit.ensures.puts

pub invariant_of-self-else-is_set : goal.invariant_of-self-else-is_set
invariant_of-self-else-is_set c =
    let slot = rw (sym c.self.view_is) at c.requires.there in
    first_ranged c.self.inside.nodes c.self.invariant c.args.first c.args.level slot slot.range slot.there c.clear_bit.new.self c.number-number.result 0 c.args.mark c.number-number.ensures c.clear_bit.ensures.puts

pub returns-then-is_set-clause-marks : goal.returns-then-is_set-clause-marks
returns-then-is_set-clause-marks c = λ r there.
    first_set c.self.inside.nodes c.self.invariant c.args.self.now c.self.view_is c.args.first c.args.level c.requires.there r there c.set_bit.new.self c.number-number.result 1 c.args.mark c.args.is_set c.number-number.ensures c.set_bit.ensures.puts c.if-is_set.true

pub returns-else-is_set-clause-marks : goal.returns-else-is_set-clause-marks
returns-else-is_set-clause-marks c = λ r there.
    first_set c.self.inside.nodes c.self.invariant c.args.self.now c.self.view_is c.args.first c.args.level c.requires.there r there c.clear_bit.new.self c.number-number.result 0 c.args.mark c.args.is_set c.number-number.ensures c.clear_bit.ensures.puts c.if-is_set.false

use Rattle.std.proofs.Common.{◌∙◌, ap, true, List, Bool, slice_set}
use Rattle.frames.proofs.SetLemmas.{one_more}
use Rattle.frames.proofs.bit_set.BitSet.all.Goals as goal

pub loop-number-preserved : goal.loop-number-preserved
loop-number-preserved c =
    c.put.ensures
    ∙ ap (λ (free : List Bool). slice_set free c.loop-number.number true) c.loop-number.invariant
    ∙ one_more c.args.count c.loop-number.number c.loop-number-test.true

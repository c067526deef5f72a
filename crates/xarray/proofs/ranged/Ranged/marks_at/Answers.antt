use Rattle.std.proofs.Common.{sym}
use Rattle.xarray.proofs.CallLemmas.{first_marks}
use Rattle.xarray.proofs.ranged.Ranged.marks_at.Goals as goal

pub returns : goal.returns
returns c = λ r there. first_marks c.self.inside.nodes c.self.invariant c.args.first c.args.level (rw (sym c.self.view_is) at c.requires.there) r (rw (sym c.self.view_is) at there) c.get_bit.result c.get_bit-2.result c.get_bit-3.result c.get_bit.ensures c.get_bit-2.ensures c.get_bit-3.ensures

use Rattle.std.proofs.Common.{option_map}
use Rattle.xarray.specs.MarkedArray.{entry_at, erased, marked_of}
use Rattle.xarray.proofs.ArrayLemmas.{changed-is, told}
use Rattle.xarray.proofs.array.XArray.take.Goals as goal

pub returns-clause-before : goal.returns-clause-before
returns-clause-before c = told c.self.inside.ranged c.self.inside.ready c.args.self.now c.self.view_is (λ m. option_map marked_of (entry_at m c.args.index)) c.take.result c.take.ensures.before

pub returns-clause-takes : goal.returns-clause-takes
returns-clause-takes c = changed-is c.self.inside.ranged c.self.inside.ready c.args.self.now c.self.view_is (λ m. erased m c.args.index) c.take.new.self c.take.ensures.takes

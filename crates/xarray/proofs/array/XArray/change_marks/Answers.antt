use Rattle.std.proofs.Common.{option_map}
use Rattle.xarray.specs.MarkedArray.{changed, entry_at, marked_of}
use Rattle.xarray.proofs.ArrayLemmas.{changed-is, told}
use Rattle.xarray.proofs.array.XArray.change_marks.Goals as goal

pub returns-clause-before : goal.returns-clause-before
returns-clause-before c = told c.self.inside.ranged c.self.inside.ready c.args.self.now c.self.view_is (λ m. option_map marked_of (entry_at m c.args.index)) c.change_marks.result c.change_marks.ensures.before

pub returns-clause-changes : goal.returns-clause-changes
returns-clause-changes c = changed-is c.self.inside.ranged c.self.inside.ready c.args.self.now c.self.view_is (λ m. changed m c.args.index c.args.clear c.args.set) c.change_marks.new.self c.change_marks.ensures.changes

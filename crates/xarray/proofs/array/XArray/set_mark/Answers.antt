use Rattle.std.proofs.Common.{true}
use Rattle.xarray.specs.MarkedArray.{entry_at, remarked}
use Rattle.xarray.proofs.ArrayLemmas.{set-free, set-held, set-is}
use Rattle.xarray.proofs.array.XArray.set_mark.Goals as goal

pub returns-then-not-set_mark-clause-held : goal.returns-then-not-set_mark-clause-held
returns-then-not-set_mark-clause-held c = λ some. absurd (set-held c.self.inside.ranged c.self.inside.ready c.args.self.now c.self.view_is (λ m. entry_at m c.args.index) c.set_mark.new.self (λ m. remarked m c.args.index c.args.mark true) c.set_mark.result c.if-not-set_mark.true c.set_mark.ensures some)

pub returns-clause-free : goal.returns-clause-free
returns-clause-free c = λ none. absurd (set-free c.self.inside.ranged c.self.inside.ready c.args.self.now c.self.view_is (λ m. entry_at m c.args.index) c.set_mark.new.self (λ m. remarked m c.args.index c.args.mark true) c.set_mark.result c.if-not-set_mark.false c.set_mark.ensures none)

pub returns-clause-sets : goal.returns-clause-sets
returns-clause-sets c = set-is c.self.inside.ranged c.self.inside.ready c.args.self.now c.self.view_is (λ m. entry_at m c.args.index) c.set_mark.new.self (λ m. remarked m c.args.index c.args.mark true) c.set_mark.result c.if-not-set_mark.false c.set_mark.ensures

use Rattle.std.proofs.Common.{option_map, ap, ◌∙◌}
use Rattle.std.proofs.lemmas.Result.{on_ok_weaker, on_err_weaker, IfOk-weaker}
use Rattle.xarray.specs.MarkedArray.{Array, entry_at, stored}
use Rattle.xarray.proofs.ArrayLemmas.{changed-is, held, kept, refused-all, told}
use Rattle.xarray.proofs.array.XArray.store.Goals as goal

pub returns-clause-before : goal.returns-clause-before
returns-clause-before c = IfOk-weaker c.store.result _ _ (λ before e. told c.self.inside.ranged c.self.inside.ready c.args.self.now c.self.view_is (λ m. option_map (λ e. e.1.value) (entry_at m c.args.index)) before e) c.store.ensures.before

pub returns-clause-stores : goal.returns-clause-stores
returns-clause-stores c = on_ok_weaker c.store.result (λ p. changed-is c.self.inside.ranged c.self.inside.ready c.args.self.now c.self.view_is (λ m. stored m c.args.index c.args.value) c.store.new.self p) c.store.ensures.stores

pub returns-clause-over : goal.returns-clause-over
returns-clause-over c = λ small some. c.store.ensures.over (held c.self.inside.ranged c.self.inside.ready c.args.self.now c.self.view_is (λ m. entry_at m c.args.index) some)

pub returns-clause-refused : goal.returns-clause-refused
returns-clause-refused c = refused-all c.self.inside.ranged c.self.inside.ready c.args.self.now c.self.view_is c.store.result c.store.new.self c.store.ensures.same c.store.ensures.err

pub returns-clause-kept : goal.returns-clause-kept
returns-clause-kept c = on_err_weaker c.store.result (λ p. kept c.self.inside.ranged c.self.inside.ready c.args.self.now c.self.view_is c.store.new.self p) c.store.ensures.same

pub returns-clause-room : goal.returns-clause-room
returns-clause-room c = λ small ready. c.store.ensures.room (c.self.invariant.room c.args.index 0 (ap (λ (z : Array). z.ready) c.self.view_is ∙ ready))

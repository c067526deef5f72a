use Rattle.std.proofs.Common.{◌+◌, ◌-◌, ◌^◌}
use Rattle.std.specs.FinMap as map
use Rattle.xarray.specs.MarkedArray.{is_any, lowest, unmarked}
use Rattle.xarray.proofs.ArrayLemmas.{busy-held, kept, put-free, put-is, refused, refused-free}
use Rattle.xarray.proofs.array.XArray.insert_order.Goals as goal

pub returns-in-Ok-true-clause-inserts : goal.returns-in-Ok-true-clause-inserts
returns-in-Ok-true-clause-inserts c = put-is c.self.inside.ranged c.self.inside.ready c.args.self.now c.self.view_is (λ m. lowest is_any m c.args.index (c.args.index + 2 ^ c.args.order - 1)) c.insert_order.new.self (λ m. map.insert m c.args.index (unmarked c.args.order c.args.value)) c.in-Ok-true.field-0 c.in-Ok-true.field-0-test c.in-Ok-true.ensures.free

pub returns-in-Ok-true-clause-busy : goal.returns-in-Ok-true-clause-busy
returns-in-Ok-true-clause-busy c = λ small low even some. absurd (put-free c.self.inside.ranged c.self.inside.ready c.args.self.now c.self.view_is (λ m. lowest is_any m c.args.index (c.args.index + 2 ^ c.args.order - 1)) c.insert_order.new.self (λ m. map.insert m c.args.index (unmarked c.args.order c.args.value)) c.in-Ok-true.field-0 c.in-Ok-true.field-0-test c.in-Ok-true.ensures.free some)

pub returns-in-Ok-false-clause-memory : goal.returns-in-Ok-false-clause-memory
returns-in-Ok-false-clause-memory c = λ small low even none. absurd (busy-held c.self.inside.ranged c.self.inside.ready c.args.self.now c.self.view_is (λ m. lowest is_any m c.args.index (c.args.index + 2 ^ c.args.order - 1)) c.insert_order.new.self (λ m. map.insert m c.args.index (unmarked c.args.order c.args.value)) c.in-Ok-false.field-0 c.in-Ok-false.field-0-test c.in-Ok-false.ensures.free none)

pub returns-in-Ok-false-clause-room : goal.returns-in-Ok-false-clause-room
returns-in-Ok-false-clause-room c = λ small low even none room. absurd (busy-held c.self.inside.ranged c.self.inside.ready c.args.self.now c.self.view_is (λ m. lowest is_any m c.args.index (c.args.index + 2 ^ c.args.order - 1)) c.insert_order.new.self (λ m. map.insert m c.args.index (unmarked c.args.order c.args.value)) c.in-Ok-false.field-0 c.in-Ok-false.field-0-test c.in-Ok-false.ensures.free none)

pub returns-in-Err-clause-busy : goal.returns-in-Err-clause-busy
returns-in-Err-clause-busy c = λ small low even some. absurd (refused-free c.self.inside.ranged c.self.inside.ready c.args.self.now c.self.view_is (λ m. lowest is_any m c.args.index (c.args.index + 2 ^ c.args.order - 1)) c.in-Err.ensures.same.0 some)

pub returns-in-Err-clause-refused : goal.returns-in-Err-clause-refused
returns-in-Err-clause-refused c = refused c.self.inside.ranged c.self.inside.ready c.args.self.now c.self.view_is c.insert_order.new.self c.in-Err.ensures.same.1 c.in-Err.refusal c.in-Err.ensures.err

pub returns-in-Err-clause-kept : goal.returns-in-Err-clause-kept
returns-in-Err-clause-kept c = kept c.self.inside.ranged c.self.inside.ready c.args.self.now c.self.view_is c.insert_order.new.self c.in-Err.ensures.same.1

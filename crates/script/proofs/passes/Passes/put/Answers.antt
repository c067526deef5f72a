use Rattle.std.proofs.Common.{ap, ◌∙◌, arith}
use Rattle.std.specs.Ordering.{nat_cmp}
use Rattle.std.specs.FinMap as map
use Rattle.errboard.specs.Shown.{PassSeen}
use Rattle.script.proofs.PassTable.{len_table, put_once, put_inserts}
use Rattle.script.proofs.passes.Passes.put.Goals as goal

pub push_reserved-requires : goal.push_reserved-requires
push_reserved-requires c =
    let l = len_table c.self.inside.entries.items c.self.invariant.0 ∙ ap (λ (t : map.FinMap nat_cmp PassSeen). map.len t) c.self.view_is in
    omega (arith, l, c.self.invariant.2, c.requires.room)

pub invariant_of-self : goal.invariant_of-self
invariant_of-self c =
    let l = len_table c.self.inside.entries.items c.self.invariant.0 ∙ ap (λ (t : map.FinMap nat_cmp PassSeen). map.len t) c.self.view_is in
    let absent = ap (λ (t : map.FinMap nat_cmp PassSeen). map.get t c.args.handle.0) c.self.view_is ∙ c.requires.apart in
    (put_once c.self.inside.entries.items c.push_reserved.new.self.items (record { handle = c.args.handle; pass = c.args.pass }) c.push_reserved.ensures.items c.self.invariant.0 absent, omega (arith, l, c.requires.room, c.push_reserved.ensures.len), omega (arith, c.push_reserved.ensures.capacity, c.self.invariant.2))

pub returns : goal.returns
returns c =
    let absent = ap (λ (t : map.FinMap nat_cmp PassSeen). map.get t c.args.handle.0) c.self.view_is ∙ c.requires.apart in
    put_inserts c.self.inside.entries.items c.push_reserved.new.self.items (record { handle = c.args.handle; pass = c.args.pass }) c.push_reserved.ensures.items absent ∙ ap (λ (t : map.FinMap nat_cmp PassSeen). map.insert t c.args.handle.0 c.args.pass) c.self.view_is

use Rattle.std.proofs.Common.{◌≡◌, ap, sym, ◌∙◌, eqb, Some, arith}
use Rattle.std.specs.Prelude.{position, None}
use Rattle.std.specs.Ordering.{nat_cmp}
use Rattle.std.specs.FinMap as map
use Rattle.errboard.specs.Shown.{PassSeen}
use Rattle.script.specs.declared.passes.Entry.{Entry}
use Rattle.script.proofs.PassTable.{absent_get, absent_removes, found_at, found_get, len_table, take_once, take_removes}
use Rattle.script.proofs.passes.Passes.take.Goals as goal

pub returns-in_err-at-clause-pass : goal.returns-in_err-at-clause-pass
returns-in_err-at-clause-pass c =
    let none : position (λ (x : Entry). eqb x.handle.0 c.args.handle.0) c.self.inside.entries.items ≡ None = sym (c.position_of.ensures ∙ ap (position (λ (x : Entry). eqb x.handle.0 c.args.handle.0)) c.deref.ensures.value) ∙ c.in_err-at.was in
    c.from_residual.ensures ∙ sym (absent_get c.self.inside.entries.items c.args.handle.0 none) ∙ ap (λ (t : map.FinMap nat_cmp PassSeen). map.get t c.args.handle.0) c.self.view_is

pub returns-in_err-at-clause-rest : goal.returns-in_err-at-clause-rest
returns-in_err-at-clause-rest c =
    let none : position (λ (x : Entry). eqb x.handle.0 c.args.handle.0) c.self.inside.entries.items ≡ None = sym (c.position_of.ensures ∙ ap (position (λ (x : Entry). eqb x.handle.0 c.args.handle.0)) c.deref.ensures.value) ∙ c.in_err-at.was in
    sym c.self.view_is ∙ absent_removes c.self.inside.entries.items c.args.handle.0 none ∙ ap (λ (t : map.FinMap nat_cmp PassSeen). map.remove t c.args.handle.0) c.self.view_is

pub invariant_of-self : goal.invariant_of-self
invariant_of-self c =
    let at : position (λ (x : Entry). eqb x.handle.0 c.args.handle.0) c.self.inside.entries.items ≡ Some c.in_ok-at.at = sym (c.position_of.ensures ∙ ap (position (λ (x : Entry). eqb x.handle.0 c.args.handle.0)) c.deref.ensures.value) ∙ c.in_ok-at.was in
    let found = found_at c.self.inside.entries.items c.args.handle.0 c.in_ok-at.at c.remove-pass.result at c.remove-pass.ensures.value in
    (take_once c.self.inside.entries.items c.args.handle.0 c.in_ok-at.at c.remove-pass.result found c.self.invariant.0 c.remove-pass.new.self.items c.remove-pass.ensures.items, omega (arith, c.remove-pass.ensures.len, c.self.invariant.1), omega (arith, c.remove-pass.ensures.capacity, c.self.invariant.2))

pub returns-clause-pass : goal.returns-clause-pass
returns-clause-pass c =
    let at : position (λ (x : Entry). eqb x.handle.0 c.args.handle.0) c.self.inside.entries.items ≡ Some c.in_ok-at.at = sym (c.position_of.ensures ∙ ap (position (λ (x : Entry). eqb x.handle.0 c.args.handle.0)) c.deref.ensures.value) ∙ c.in_ok-at.was in
    let found = found_at c.self.inside.entries.items c.args.handle.0 c.in_ok-at.at c.remove-pass.result at c.remove-pass.ensures.value in
    found_get c.self.inside.entries.items c.args.handle.0 c.in_ok-at.at c.remove-pass.result found c.self.invariant.0 ∙ ap (λ (t : map.FinMap nat_cmp PassSeen). map.get t c.args.handle.0) c.self.view_is

pub returns-clause-rest : goal.returns-clause-rest
returns-clause-rest c =
    let at : position (λ (x : Entry). eqb x.handle.0 c.args.handle.0) c.self.inside.entries.items ≡ Some c.in_ok-at.at = sym (c.position_of.ensures ∙ ap (position (λ (x : Entry). eqb x.handle.0 c.args.handle.0)) c.deref.ensures.value) ∙ c.in_ok-at.was in
    let found = found_at c.self.inside.entries.items c.args.handle.0 c.in_ok-at.at c.remove-pass.result at c.remove-pass.ensures.value in
    take_removes c.self.inside.entries.items c.args.handle.0 c.in_ok-at.at c.remove-pass.result found c.self.invariant.0 c.remove-pass.new.self.items c.remove-pass.ensures.items ∙ ap (λ (t : map.FinMap nat_cmp PassSeen). map.remove t c.args.handle.0) c.self.view_is

pub returns-clause-room : goal.returns-clause-room
returns-clause-room c =
    let at : position (λ (x : Entry). eqb x.handle.0 c.args.handle.0) c.self.inside.entries.items ≡ Some c.in_ok-at.at = sym (c.position_of.ensures ∙ ap (position (λ (x : Entry). eqb x.handle.0 c.args.handle.0)) c.deref.ensures.value) ∙ c.in_ok-at.was in
    let found = found_at c.self.inside.entries.items c.args.handle.0 c.in_ok-at.at c.remove-pass.result at c.remove-pass.ensures.value in
    let once = take_once c.self.inside.entries.items c.args.handle.0 c.in_ok-at.at c.remove-pass.result found c.self.invariant.0 c.remove-pass.new.self.items c.remove-pass.ensures.items in
    omega (arith, len_table c.remove-pass.new.self.items once, c.remove-pass.ensures.len, c.self.invariant.1)

use Rattle.std.proofs.Common.{sym, ap, subst, ◌∙◌, ◌+◌, Some, arith, w64}
use Rattle.std.proofs.Math.Facts.{Fits-of_lt}
use Rattle.std.specs.FinSet as set
use Rattle.std.specs.Ordering.{nat_cmp}
use Rattle.std.specs.FinMap as map
use Rattle.blockmap.specs.Balance.{IsBalanced}
use Rattle.blockmap.proofs.BlockLemmas.{Held, balanced-keep, balanced-release, free_small}
use Rattle.blockmap.proofs.block_map.BlockMap.release.Goals as goal

pub invariant_of-self : goal.invariant_of-self
invariant_of-self c =
    let s = c.self.inside in
    subst (λ (h : Held). IsBalanced s.count s.free s.spots s.used.used h) (sym c.remove.ensures)
    (balanced-keep s.count s.free s.spots s.used.used s.held c.self.invariant c.args.block.0 (sym c.in-Some.ensures ∙ ap Some c.if-not-was_cut.true))

pub overflow_add-self : goal.overflow_add-self
overflow_add-self c =
    let s = c.self.inside in
    let small = free_small s.count s.free s.spots s.used.used s.held c.self.invariant in
    Fits-of_lt {w = w64} (omega (arith, small))

pub invariant_of-self-2 : goal.invariant_of-self-2
invariant_of-self-2 c =
    let s = c.self.inside in
    subst (λ (h : Held). IsBalanced s.count (s.free + 1) s.spots c.give_back.new.used.used h) (sym c.remove.ensures)
    (subst (λ (u : set.FinSet nat_cmp). IsBalanced s.count (s.free + 1) s.spots u (map.remove s.held c.args.block.0)) (sym c.give_back.ensures)
    (balanced-release s.count s.free s.spots s.used.used s.held c.self.invariant c.args.block.0 (sym c.in-Some.ensures ∙ ap Some c.if-not-was_cut.false)))

use Rattle.std.proofs.Common.{ℕ, sym, ap, subst, ◌∙◌, ◌≡◌, ◌+◌, None, Option, arith, w64}
use Rattle.std.proofs.Math.Facts.{Fits-of_lt}
use Rattle.std.specs.Prelude.{IfSome}
use Rattle.std.specs.FinSet as set
use Rattle.std.specs.Ordering.{nat_cmp}
use Rattle.std.specs.FinMap as map
use Rattle.pc_types.specs.Spots.{Spot}
use Rattle.blockmap.specs.declared.spots.Placed.{Placed}
use Rattle.blockmap.specs.Balance.{IsBalanced}
use Rattle.blockmap.specs.Blocks.{Blocks, Spots}
use Rattle.blockmap.proofs.BlockLemmas.{balanced-free, free_small, spot_used, told_spot}
use Rattle.blockmap.proofs.block_map.BlockMap.unassign.Goals as goal

pub give_back-requires : goal.give_back-requires
give_back-requires c =
    let s = c.self.inside in
    let p : ℕ × ℕ = (c.args.file.0, c.args.page.0) in
    let t = told_spot (map.get s.spots p) c.in-Some.placed c.in-Some.ensures in
    ap (set.contains s.used.used) (sym (ap (λ (x : Placed). x.block.0) t.2)) ∙ spot_used s.count s.free s.spots s.used.used s.held c.self.invariant p t.0 t.1

pub overflow_add-self : goal.overflow_add-self
overflow_add-self c =
    let s = c.self.inside in
    let small = free_small s.count s.free s.spots s.used.used s.held c.self.invariant in
    Fits-of_lt {w = w64} (omega (arith, small))

pub invariant_of-self : goal.invariant_of-self
invariant_of-self c =
    let s = c.self.inside in
    let p : ℕ × ℕ = (c.args.file.0, c.args.page.0) in
    let t = told_spot (map.get s.spots p) c.in-Some.placed c.in-Some.ensures in
    let block = ap (λ (x : Placed). x.block.0) t.2 in
    let not_held = subst (λ (b : Blocks). IfSome (map.get b.spots p) (λ spot. map.get b.held spot.block ≡ None)) (sym c.self.view_is) c.requires.not_held in
    let idle = subst (λ (o : Option Spot). IfSome o (λ spot. map.get s.held spot.block ≡ None)) t.1 not_held in
    subst (λ (m : Spots). IsBalanced s.count (s.free + 1) m c.give_back.new.used.used s.held) (sym c.remove.ensures.gone)
    (subst (λ (u : set.FinSet nat_cmp). IsBalanced s.count (s.free + 1) (map.remove s.spots p) u s.held) (sym (c.give_back.ensures ∙ ap (set.remove s.used.used) (sym block)))
    (balanced-free s.count s.free s.spots s.used.used s.held c.self.invariant p t.0 t.1 idle))

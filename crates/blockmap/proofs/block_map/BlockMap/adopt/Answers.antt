use Rattle.std.proofs.Common.{ℕ, sym, ap, subst, ◌∙◌, ◌-◌, ◌<◌, arith}
use Rattle.std.specs.FinSet as set
use Rattle.std.specs.Ordering.{nat_cmp}
use Rattle.std.specs.FinMap as map
use Rattle.blockmap.specs.Balance.{IsBalanced}
use Rattle.blockmap.specs.Blocks.{Blocks, Spots}
use Rattle.blockmap.proofs.BlockLemmas.{balanced-assign, free_some}
use Rattle.blockmap.proofs.CountLemmas.{undone, used_now}
use Rattle.blockmap.proofs.block_map.BlockMap.adopt.Goals as goal

pub place-requires-clause-taken : goal.place-requires-clause-taken
place-requires-clause-taken c =
    let b = c.args.block.0 in
    ap (λ (u : set.FinSet nat_cmp). set.contains u b) c.in_ok-use_block.ensures.taken ∙ used_now c.self.inside.used.used b

pub invariant_of-self-in_err-place : goal.invariant_of-self-in_err-place
invariant_of-self-in_err-place c =
    let s = c.self.inside in
    let b = c.args.block.0 in
    let back = c.in_err-place.ensures.free ∙ ap (λ (u : set.FinSet nat_cmp). set.remove u b) c.in_ok-use_block.ensures.taken ∙ undone s.used.used b c.in_ok-use_block.ensures.unused in
    subst (λ (m : Spots). IsBalanced s.count s.free m c.place.new.used.used s.held) (sym c.in_err-place.ensures.refused)
    (subst (λ (u : set.FinSet nat_cmp). IsBalanced s.count s.free s.spots u s.held) (sym back) c.self.invariant)

pub overflow_sub-self : goal.overflow_sub-self
overflow_sub-self c =
    let s = c.self.inside in
    let b = c.args.block.0 in
    let least : 0 < s.free = free_some s.count s.free s.spots s.used.used s.held c.self.invariant b c.in_ok-use_block.ensures.within c.in_ok-use_block.ensures.unused in
    omega arith

pub invariant_of-self-2 : goal.invariant_of-self-2
invariant_of-self-2 c =
    let s = c.self.inside in
    let b = c.args.block.0 in
    let p : ℕ × ℕ = (c.args.file.0, c.args.page.0) in
    let bare = ap (λ (m : Blocks). map.get m.spots p) c.self.view_is ∙ c.requires.bare in
    let used = c.in_ok-place.ensures.used ∙ c.in_ok-use_block.ensures.taken in
    subst (λ (m : Spots). IsBalanced s.count (s.free - 1) m c.place.new.used.used s.held) (sym c.in_ok-place.ensures.spots)
    (subst (λ (u : set.FinSet nat_cmp). IsBalanced s.count (s.free - 1) (map.insert s.spots p (record { block = b; valid = c.args.valid })) u s.held) (sym used)
    (balanced-assign s.count s.free s.spots s.used.used s.held c.self.invariant p b c.args.valid bare c.in_ok-use_block.ensures.within c.in_ok-use_block.ensures.unused))

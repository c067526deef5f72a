use Rattle.std.proofs.Common.{ℕ, sym, ap, subst, ◌∙◌, ◌+◌, arith, w64, true}
use Rattle.std.proofs.Math.Facts.{Fits-of_lt}
use Rattle.std.specs.Prelude.{is_some}
use Rattle.std.specs.FinSet as set
use Rattle.std.specs.Ordering.{nat_cmp}
use Rattle.std.specs.FinMap as map
use Rattle.blockmap.specs.declared.spots.Placed.{Placed}
use Rattle.blockmap.specs.Balance.{IsBalanced}
use Rattle.blockmap.specs.Blocks.{Blocks, Spots, cut_one}
use Rattle.blockmap.proofs.BlockLemmas.{Held, balanced-cut, balanced-free, free_small, none_held, some_held, spot_used, told_none, told_spot}
use Rattle.blockmap.proofs.CutLemmas.{cut_here, cut_idle}
use Rattle.blockmap.proofs.MapLemmas.{gone_same}
use Rattle.blockmap.proofs.block_map.BlockMap.cut_page.Goals as goal

pub give_back-requires : goal.give_back-requires
give_back-requires c =
    let s = c.self.inside in
    let p : ℕ × ℕ = (c.args.file, c.args.page) in
    let t = told_spot (map.get s.spots p) c.in-Some.placed c.in-Some.ensures.had in
    let block = ap (λ (x : Placed). x.block.0) t.2 in
    ap (set.contains s.used.used) (sym block) ∙ spot_used s.count s.free s.spots s.used.used s.held c.self.invariant p t.0 t.1

pub overflow_add-self : goal.overflow_add-self
overflow_add-self c =
    let s = c.self.inside in
    let small = free_small s.count s.free s.spots s.used.used s.held c.self.invariant in
    Fits-of_lt {w = w64} (omega (arith, small))

pub invariant_of-self : goal.invariant_of-self
invariant_of-self c =
    let s = c.self.inside in
    let p : ℕ × ℕ = (c.args.file, c.args.page) in
    let none = told_none (map.get s.spots p) c.in_default.ensures.had in
    subst (λ (m : Spots). IsBalanced s.count s.free m s.used.used s.held) (sym (c.remove.ensures.gone ∙ gone_same s.spots p none)) c.self.invariant

pub returns-in_default-clause-had : goal.returns-in_default-clause-had
returns-in_default-clause-had c =
    let p : ℕ × ℕ = (c.args.file, c.args.page) in
    sym (ap is_some (told_none (map.get c.self.inside.spots p) c.in_default.ensures.had)) ∙ ap (λ (b : Blocks). is_some (map.get b.spots p)) c.self.view_is

pub returns-in_default-clause-same : goal.returns-in_default-clause-same
returns-in_default-clause-same c = λ _.
    let s = c.self.inside in
    let p : ℕ × ℕ = (c.args.file, c.args.page) in
    let none = told_none (map.get s.spots p) c.in_default.ensures.had in
    (λ i. record { count = s.count; spots = (c.remove.ensures.gone ∙ gone_same s.spots p none) i; held = s.held }) ∙ c.self.view_is

pub invariant_of-self-then-is_some : goal.invariant_of-self-then-is_some
invariant_of-self-then-is_some c =
    let s = c.self.inside in
    let p : ℕ × ℕ = (c.args.file, c.args.page) in
    let t = told_spot (map.get s.spots p) c.in-Some.placed c.in-Some.ensures.had in
    let block = ap (λ (x : Placed). x.block.0) t.2 in
    let seen = ap (λ k. is_some (map.get s.held k)) block ∙ sym (ap is_some c.get.ensures) ∙ sym c.is_some.ensures ∙ c.if-is_some.true in
    let w = some_held (map.get s.held t.0.block) seen in
    subst (λ (m : Spots). IsBalanced s.count s.free m s.used.used c.cut.new.self) (sym c.remove.ensures.gone)
    (subst (λ (h : Held). IsBalanced s.count s.free (map.remove s.spots p) s.used.used h) (sym (c.cut.ensures ∙ ap (λ k. map.insert s.held k true) (sym block)))
    (balanced-cut s.count s.free s.spots s.used.used s.held c.self.invariant p t.0 w.0 t.1 w.1))

pub invariant_of-self-2 : goal.invariant_of-self-2
invariant_of-self-2 c =
    let s = c.self.inside in
    let p : ℕ × ℕ = (c.args.file, c.args.page) in
    let t = told_spot (map.get s.spots p) c.in-Some.placed c.in-Some.ensures.had in
    let block = ap (λ (x : Placed). x.block.0) t.2 in
    let seen = ap (λ k. is_some (map.get s.held k)) block ∙ sym (ap is_some c.get.ensures) ∙ sym c.is_some.ensures ∙ c.if-is_some.false in
    subst (λ (m : Spots). IsBalanced s.count (s.free + 1) m c.give_back.new.used.used s.held) (sym c.remove.ensures.gone)
    (subst (λ (u : set.FinSet nat_cmp). IsBalanced s.count (s.free + 1) (map.remove s.spots p) u s.held) (sym (c.give_back.ensures ∙ ap (set.remove s.used.used) (sym block)))
    (balanced-free s.count s.free s.spots s.used.used s.held c.self.invariant p t.0 t.1 (none_held (map.get s.held t.0.block) seen)))

pub returns-then-is_some-clause-cut : goal.returns-then-is_some-clause-cut
returns-then-is_some-clause-cut c = λ _.
    let s = c.self.inside in
    let p : ℕ × ℕ = (c.args.file, c.args.page) in
    let t = told_spot (map.get s.spots p) c.in-Some.placed c.in-Some.ensures.had in
    let block = ap (λ (x : Placed). x.block.0) t.2 in
    let seen = ap (λ k. is_some (map.get s.held k)) block ∙ sym (ap is_some c.get.ensures) ∙ sym c.is_some.ensures ∙ c.if-is_some.true in
    let same = c.cut.ensures ∙ ap (λ k. map.insert s.held k true) (sym block) ∙ sym (cut_here s.spots s.held p t.0 t.1 seen) in
    (λ i. record { count = s.count; spots = c.remove.ensures.gone i; held = same i }) ∙ ap (λ (b : Blocks). cut_one b p) c.self.view_is

pub returns-clause-cut : goal.returns-clause-cut
returns-clause-cut c = λ _.
    let s = c.self.inside in
    let p : ℕ × ℕ = (c.args.file, c.args.page) in
    let t = told_spot (map.get s.spots p) c.in-Some.placed c.in-Some.ensures.had in
    let block = ap (λ (x : Placed). x.block.0) t.2 in
    let seen = ap (λ k. is_some (map.get s.held k)) block ∙ sym (ap is_some c.get.ensures) ∙ sym c.is_some.ensures ∙ c.if-is_some.false in
    let same = sym (cut_idle s.spots s.held p t.0 t.1 seen) in
    (λ i. record { count = s.count; spots = c.remove.ensures.gone i; held = same i }) ∙ ap (λ (b : Blocks). cut_one b p) c.self.view_is

pub returns-then-is_some-clause-had : goal.returns-then-is_some-clause-had
returns-then-is_some-clause-had c =
    let p : ℕ × ℕ = (c.args.file, c.args.page) in
    let t = told_spot (map.get c.self.inside.spots p) c.in-Some.placed c.in-Some.ensures.had in
    sym (ap is_some t.1) ∙ ap (λ (b : Blocks). is_some (map.get b.spots p)) c.self.view_is

pub returns-clause-had : goal.returns-clause-had
returns-clause-had c =
    let p : ℕ × ℕ = (c.args.file, c.args.page) in
    let t = told_spot (map.get c.self.inside.spots p) c.in-Some.placed c.in-Some.ensures.had in
    sym (ap is_some t.1) ∙ ap (λ (b : Blocks). is_some (map.get b.spots p)) c.self.view_is

use Rattle.std.proofs.Common.{◌≡◌, ◌∙◌, ℕ, sym, ap, subst}
use Rattle.std.specs.Prelude.{is_some}
use Rattle.std.specs.FinMap as map
use Rattle.blockmap.specs.declared.spots.Placed.{Placed}
use Rattle.blockmap.specs.Balance.{IsBalanced}
use Rattle.blockmap.specs.Blocks.{Blocks, Spots, with_valid}
use Rattle.blockmap.proofs.BlockLemmas.{balanced-valid, told_spot}
use Rattle.blockmap.proofs.MapLemmas.{valid_same}
use Rattle.blockmap.proofs.block_map.BlockMap.set_valid.Goals as goal

pub set-requires-clause-some : goal.set-requires-clause-some
set-requires-clause-some c =
    let t = told_spot (map.get c.self.inside.spots (c.args.file.0, c.args.page.0)) c.in-Some.placed c.in-Some.ensures in
    ap is_some t.1

pub invariant_of-self : goal.invariant_of-self
invariant_of-self c =
    let s = c.self.inside in
    let p : ℕ × ℕ = (c.args.file.0, c.args.page.0) in
    let t = told_spot (map.get s.spots p) c.in-Some.placed c.in-Some.ensures in
    let same = sym (ap (λ (x : Placed). x.block.0) t.2) in
    subst (λ (m : Spots). IsBalanced s.count s.free m s.used.used s.held) (sym c.set.ensures)
    (balanced-valid s.count s.free s.spots s.used.used s.held c.self.invariant p t.0 (record { block = c.in-Some.placed.block.0; valid = c.args.valid }) t.1 same)

pub returns-then-placed-valid : goal.returns-then-placed-valid
returns-then-placed-valid c =
    let s = c.self.inside in
    let p : ℕ × ℕ = (c.args.file.0, c.args.page.0) in
    let t = told_spot (map.get s.spots p) c.in-Some.placed c.in-Some.ensures in
    let is : t.0.valid ≡ c.args.valid = ap (λ (x : Placed). x.valid) t.2 ∙ c.if-placed-valid.true in
    sym c.self.view_is
    ∙ (λ i. record { count = s.count; spots = sym (valid_same s.spots p t.0 c.args.valid t.1 is) i; held = s.held })
    ∙ ap (λ (b : Blocks). let n : Blocks = record b { spots = with_valid c.args.valid (map.get b.spots p) p b.spots } in n) c.self.view_is

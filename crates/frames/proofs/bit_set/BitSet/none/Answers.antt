use Rattle.std.proofs.Common.{◌≡◌, ◌∙◌, sym, ap, ℕ, List, replicate, subst, rules, arith}
use Rattle.frames.specs.Sets.{IsLeveled, flags}
use Rattle.frames.proofs.SetLemmas.{leveled_none, flags_zeros}
use Rattle.frames.proofs.bit_set.BitSet.none.Goals as goal

pub invariant_of-result : goal.invariant_of-result
invariant_of-result c =
    let words = c.div_ceil-words.result in
    let tops = c.div_ceil.result in
    let low_is : c.in_ok-low.low.items ≡ replicate words 0 = search rules in
    let mid_is : c.in_ok-mid.mid.items ≡ replicate tops 0 = search rules in
    let Low : List ℕ → Type 0 = λ (low : List ℕ). IsLeveled c.args.count low c.in_ok-mid.mid.items 0 0 in
    let Mid : List ℕ → Type 0 = λ (mid : List ℕ). IsLeveled c.args.count (replicate words 0) mid 0 0 in
    let counts = leveled_none c.args.count words tops (omega (arith, c.div_ceil-words.ensures)) (omega (arith, c.div_ceil.ensures)) (omega (arith, c.div_ceil-words.ensures, c.div_ceil.ensures)) in
    subst Low (sym low_is) (subst Mid (sym mid_is) counts)

pub returns-clause-none : goal.returns-clause-none
returns-clause-none c =
    let low_is : c.in_ok-low.low.items ≡ replicate c.div_ceil-words.result 0 = search rules in
    ap (flags c.args.count) low_is ∙ flags_zeros c.args.count c.div_ceil-words.result

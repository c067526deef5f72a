use Rattle.std.proofs.Common.{◌∙◌, sym, ap, ℕ, ◌/◌, ◌%◌, ◌<◌, Bool, false, eqb, List, length, arith}
use Rattle.std.specs.Int.{bit_at}
use Rattle.std.proofs.lemmas.List.{get_or_read}
use Rattle.frames.specs.Sets.{is_in}
use Rattle.frames.proofs.SetLemmas.{length-flags, get_or-flags}
use Rattle.frames.proofs.bit_set.BitSet.has.Goals as goal

pub index-requires : goal.index-requires
index-requires c =
    omega (arith, c.self.invariant.numbers, ap (λ (free : List Bool). length free) c.self.view_is, length-flags c.self.inside.count c.self.inside.low.items, c.self.inside.low.ok.0)

pub returns : goal.returns
returns c =
    let i = c.self.inside in
    let k = c.args.number in
    let within : k < i.count = omega (arith, ap (λ (free : List Bool). length free) c.self.view_is, length-flags i.count i.low.items, c.requires) in
    let word : k / 64 < length i.low.items = omega (arith, c.self.invariant.numbers) in
    let low_is = get_or_read i.low.items (k / 64) c.index.result.now word c.index.ensures 0 in
    c.has_bit.ensures
    ∙ ap (λ (w : ℕ). eqb (bit_at w (k % 64)) 1) low_is
    ∙ sym (get_or-flags i.count i.low.items k false within)
    ∙ ap (λ (free : List Bool). is_in free k) c.self.view_is

use Rattle.std.proofs.Common.{◌≡◌, subst, ℕ, ◌+◌, ◌*◌, Bool, List}
use Rattle.std.proofs.lemmas.List.{get_or_read}
use Rattle.frames.specs.Bits.{IsLowest}
use Rattle.frames.specs.Sets.{IsLeast, members}
use Rattle.frames.proofs.SetLemmas.{none_of, least_of, mid_within, low_within}
use Rattle.frames.proofs.bit_set.BitSet.lowest.Goals as goal

pub returns-then-self-eq0 : goal.returns-then-self-eq0
returns-then-self-eq0 c =
    let i = c.self.inside in
    let none = none_of i.count i.low.items i.mid.items i.top i.size c.self.invariant c.if-self-eq0.true in
    let P : List Bool → Type 0 = λ (free : List Bool). members free ≡ 0 in
    subst P c.self.view_is none

pub returns : goal.returns
returns c =
    let i = c.self.inside in
    let first = c.lowest_bit-word.result in
    let second = c.lowest_bit.result in
    let third = c.lowest_bit-2.result in
    let in_mid = mid_within i.count i.low.items i.mid.items i.top i.size c.self.invariant first c.lowest_bit-word.ensures.within c.lowest_bit-word.ensures.set in
    let mid_is = get_or_read i.mid.items first c.index.result.now in_mid c.index.ensures 0 in
    let Mid : ℕ → Type 0 = λ (word : ℕ). IsLowest word second in
    let mid_low = subst Mid mid_is c.lowest_bit.ensures in
    let in_low = low_within i.count i.low.items i.mid.items i.top i.size c.self.invariant first second mid_low.within mid_low.set in
    let low_is = get_or_read i.low.items (first * 64 + second) c.index-2.result.now in_low c.index-2.ensures 0 in
    let Low : ℕ → Type 0 = λ (word : ℕ). IsLowest word third in
    let P : List Bool → Type 0 = λ (free : List Bool). IsLeast free ((first * 64 + second) * 64 + third) in
    subst P c.self.view_is (least_of i.count i.low.items i.mid.items i.top i.size c.self.invariant first second third c.lowest_bit-word.ensures mid_low (subst Low low_is c.lowest_bit-2.ensures))

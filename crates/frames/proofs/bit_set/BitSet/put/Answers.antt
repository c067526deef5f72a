use Rattle.std.proofs.Common.{◌≡◌, ◌∙◌, ap, subst, ℕ, ◌+◌, ◌-◌, ◌/◌, ◌%◌, ◌<◌, Bool, cond, not, List, length, slice_set, arith}
use Rattle.std.proofs.lemmas.List.{get_or_read}
use Rattle.std.proofs.lemmas.List.Sums.{count_by-le-length}
use Rattle.frames.specs.Bits.{ChangesBit}
use Rattle.frames.specs.Sets.{flags, is_in}
use Rattle.frames.proofs.SetLemmas.{leveled_put, flags_set, length-flags, total_more, total_less, some_member}
use Rattle.frames.proofs.bit_set.BitSet.put.Goals as goal

pub index_mut-requires : goal.index_mut-requires
index_mut-requires c =
    omega (arith, c.self.invariant.numbers, ap (λ (free : List Bool). length free) c.self.view_is, length-flags c.self.inside.count c.self.inside.low.items, c.self.inside.low.ok.0)

pub index_mut-requires-2 : goal.index_mut-requires-2
index_mut-requires-2 c =
    omega (arith, c.self.invariant.numbers, c.self.invariant.words, ap (λ (free : List Bool). length free) c.self.view_is, length-flags c.self.inside.count c.self.inside.low.items, c.self.inside.mid.ok.0)

pub put_bit-requires : goal.put_bit-requires
put_bit-requires c =
    omega (arith, c.self.invariant.numbers, c.self.invariant.words, c.self.invariant.tops, ap (λ (free : List Bool). length free) c.self.view_is, length-flags c.self.inside.count c.self.inside.low.items)

pub overflow_add-self : goal.overflow_add-self
overflow_add-self c =
    let i = c.self.inside in
    omega (arith, c.self.invariant.counted, c.self.invariant.numbers, c.self.invariant.words, c.self.invariant.tops, count_by-le-length (λ (b : Bool). b) (flags i.count i.low.items), length-flags i.count i.low.items)

pub invariant_of-self : goal.invariant_of-self
invariant_of-self c =
    let i = c.self.inside in
    let number = c.args.number in
    let size = ap (λ (free : List Bool). length free) c.self.view_is in
    let within : number < i.count = omega (arith, size, length-flags i.count i.low.items, c.requires.within) in
    let word : number / 64 < length i.low.items = omega (arith, c.self.invariant.numbers) in
    let word_above : number / 64 / 64 < length i.mid.items = omega (arith, c.self.invariant.words) in
    let low_is = get_or_read i.low.items (number / 64) c.index_mut.result.now word c.index_mut.ensures.value 0 in
    let mid_is = get_or_read i.mid.items (number / 64 / 64) c.index_mut-2.result.now word_above c.index_mut-2.ensures.value 0 in
    let Low : ℕ → Type 0 = λ (x : ℕ). ChangesBit x c.put_bit-any.new.word (number % 64) (cond c.args.present 1 0) in
    let Mid : ℕ → Type 0 = λ (x : ℕ). ChangesBit x c.put_bit-any-2.new.word (number / 64 % 64) (cond c.put_bit-any.result 1 0) in
    let was : is_in (flags i.count i.low.items) number ≡ not c.args.present = ap (λ (free : List Bool). is_in free number) c.self.view_is ∙ c.requires.other in
    leveled_put i.count number i.low.items c.put_bit-any.new.word c.args.present within word (subst Low low_is c.put_bit-any.ensures.bit)
    i.mid.items i.top i.size c.put_bit-any-2.new.word c.put_bit.new.word (i.size + 1) c.put_bit-any.result c.put_bit-any-2.result
    c.self.invariant was c.put_bit-any.ensures.any (subst Mid mid_is c.put_bit-any-2.ensures.bit) c.put_bit-any-2.ensures.any c.put_bit.ensures.bit
    (total_more i.size c.args.present c.if-present.true)

pub invariant_of-self-else-present : goal.invariant_of-self-else-present
invariant_of-self-else-present c =
    let i = c.self.inside in
    let number = c.args.number in
    let size = ap (λ (free : List Bool). length free) c.self.view_is in
    let within : number < i.count = omega (arith, size, length-flags i.count i.low.items, c.requires.within) in
    let word : number / 64 < length i.low.items = omega (arith, c.self.invariant.numbers) in
    let word_above : number / 64 / 64 < length i.mid.items = omega (arith, c.self.invariant.words) in
    let low_is = get_or_read i.low.items (number / 64) c.index_mut.result.now word c.index_mut.ensures.value 0 in
    let mid_is = get_or_read i.mid.items (number / 64 / 64) c.index_mut-2.result.now word_above c.index_mut-2.ensures.value 0 in
    let Low : ℕ → Type 0 = λ (x : ℕ). ChangesBit x c.put_bit-any.new.word (number % 64) (cond c.args.present 1 0) in
    let Mid : ℕ → Type 0 = λ (x : ℕ). ChangesBit x c.put_bit-any-2.new.word (number / 64 % 64) (cond c.put_bit-any.result 1 0) in
    let was : is_in (flags i.count i.low.items) number ≡ not c.args.present = ap (λ (free : List Bool). is_in free number) c.self.view_is ∙ c.requires.other in
    let free = some_member (flags i.count i.low.items) number (omega (arith, length-flags i.count i.low.items)) (was ∙ ap not c.if-present.false) in
    leveled_put i.count number i.low.items c.put_bit-any.new.word c.args.present within word (subst Low low_is c.put_bit-any.ensures.bit)
    i.mid.items i.top i.size c.put_bit-any-2.new.word c.put_bit.new.word (i.size - 1) c.put_bit-any.result c.put_bit-any-2.result
    c.self.invariant was c.put_bit-any.ensures.any (subst Mid mid_is c.put_bit-any-2.ensures.bit) c.put_bit-any-2.ensures.any c.put_bit.ensures.bit
    (total_less i.size c.args.present c.if-present.false (omega (arith, free, c.self.invariant.counted)))

pub returns-then-present : goal.returns-then-present
returns-then-present c =
    let i = c.self.inside in
    let number = c.args.number in
    let size = ap (λ (free : List Bool). length free) c.self.view_is in
    let within : number < i.count = omega (arith, size, length-flags i.count i.low.items, c.requires.within) in
    let word : number / 64 < length i.low.items = omega (arith, c.self.invariant.numbers) in
    let low_is = get_or_read i.low.items (number / 64) c.index_mut.result.now word c.index_mut.ensures.value 0 in
    let Low : ℕ → Type 0 = λ (x : ℕ). ChangesBit x c.put_bit-any.new.word (number % 64) (cond c.args.present 1 0) in
    flags_set i.count number i.low.items c.put_bit-any.new.word c.args.present within word (subst Low low_is c.put_bit-any.ensures.bit)
    ∙ ap (λ (free : List Bool). slice_set free number c.args.present) c.self.view_is

pub returns-else-present : goal.returns-else-present
returns-else-present c =
    let i = c.self.inside in
    let number = c.args.number in
    let size = ap (λ (free : List Bool). length free) c.self.view_is in
    let within : number < i.count = omega (arith, size, length-flags i.count i.low.items, c.requires.within) in
    let word : number / 64 < length i.low.items = omega (arith, c.self.invariant.numbers) in
    let low_is = get_or_read i.low.items (number / 64) c.index_mut.result.now word c.index_mut.ensures.value 0 in
    let Low : ℕ → Type 0 = λ (x : ℕ). ChangesBit x c.put_bit-any.new.word (number % 64) (cond c.args.present 1 0) in
    flags_set i.count number i.low.items c.put_bit-any.new.word c.args.present within word (subst Low low_is c.put_bit-any.ensures.bit)
    ∙ ap (λ (free : List Bool). slice_set free number c.args.present) c.self.view_is

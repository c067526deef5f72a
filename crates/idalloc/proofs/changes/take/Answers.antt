use Rattle.std.proofs.Common.{sym, ap, subst, ◌∙◌, ◌/◌, ◌%◌, None, arith}
use Rattle.std.proofs.lemmas.Result.{on_ok_weaker}
use Rattle.std.proofs.lemmas.Option.{none-some, same_Some}
use Rattle.idalloc.specs.Bitmaps.{Bitmaps, IsTidy, full, has_number}
use Rattle.idalloc.specs.Bits.{ChangesBit}
use Rattle.idalloc.proofs.BitLemmas.{one_bit, some_set}
use Rattle.idalloc.proofs.NumberLemmas.{numbers-used}
use Rattle.idalloc.proofs.TidyLemmas.{changed, fresh_set, taken_set, has_room}
use Rattle.idalloc.proofs.changes.take.Goals as goal

pub insert-requires-clause-room : goal.insert-requires-clause-room
insert-requires-clause-room c = one_bit c.with_bit.result (c.args.unused.number % 32) (omega arith) c.with_bit.ensures

pub returns-in_default-clause-taken : goal.returns-in_default-clause-taken
returns-in_default-clause-taken c =
    let m = c.args.bitmaps.now in
    let n = c.args.unused.number in
    let bits = c.with_bit.result in
    let absent = sym c.requires.bitmap ∙ c.in_default.is in
    let room = one_bit bits (n % 32) (omega arith) c.with_bit.ensures in
    let some = some_set bits (n % 32) (omega arith) 0 c.with_bit.ensures in
    let tidy = changed m (n / 32) bits None c.requires.tidy room (λ empty. absurd (some empty)) (λ was_full. absurd (none-some full (sym absent ∙ was_full))) in
    on_ok_weaker c.insert.result
    (λ e. (subst (λ (b : Bitmaps). IsTidy b None) (sym e) tidy, numbers-used m c.insert.new.self n (λ q. ap (λ (b : Bitmaps). has_number b q) e ∙ fresh_set m n bits absent c.with_bit.ensures q)))
    c.insert.ensures.ok

pub returns-then-bits-clause-taken : goal.returns-then-bits-clause-taken
returns-then-bits-clause-taken c =
    let there = sym c.requires.bitmap ∙ c.in-Some.is in
    let full_now = subst (λ b. ChangesBit c.in-Some.before b (c.args.unused.number % 32) 1) c.if-bits.true c.with_bit-bits.ensures in
    on_ok_weaker c.fill.result (λ h. (h.0, numbers-used c.args.bitmaps.now c.fill.new.bitmaps c.args.unused.number (λ q. h.1 q ∙ taken_set c.args.bitmaps.now c.args.unused.number c.in-Some.before full there full_now q))) c.fill.ensures.filled

pub returns-clause-taken : goal.returns-clause-taken
returns-clause-taken c =
    let m = c.args.bitmaps.now in
    let n = c.args.unused.number in
    let bits = c.with_bit-bits.result in
    let there = sym c.requires.bitmap ∙ c.in-Some.is in
    let some = some_set bits (n % 32) (omega arith) c.in-Some.before c.with_bit-bits.ensures in
    let was_open = has_room m n c.in-Some.before there c.requires.clear in
    let tidy = changed m (n / 32) bits None c.requires.tidy c.if-bits.false (λ empty. absurd (some empty)) (λ was_full. absurd (was_open (same_Some c.in-Some.before full (sym there ∙ was_full)))) in
    (subst (λ (b : Bitmaps). IsTidy b None) (sym c.replace.ensures) tidy, numbers-used m c.replace.new.self n (λ q. ap (λ (b : Bitmaps). has_number b q) c.replace.ensures ∙ taken_set m n c.in-Some.before bits there c.with_bit-bits.ensures q))

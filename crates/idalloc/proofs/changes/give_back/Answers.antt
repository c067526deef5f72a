use Rattle.std.proofs.Common.{sym, subst, ◌∙◌, ◌%◌, arith}
use Rattle.idalloc.specs.Bits.{ChangesBit}
use Rattle.idalloc.proofs.BitLemmas.{not_full, some_left}
use Rattle.idalloc.proofs.NumberLemmas.{numbers-unused}
use Rattle.idalloc.proofs.TidyLemmas.{given_back}
use Rattle.idalloc.proofs.changes.give_back.Goals as goal

pub shrink-requires-clause-room : goal.shrink-requires-clause-room
shrink-requires-clause-room c = not_full c.without_bit.result (c.args.number % 32) (omega arith) c.in-Some.before c.without_bit.ensures

pub shrink-requires-clause-some : goal.shrink-requires-clause-some
shrink-requires-clause-some c = λ is_full. some_left c.without_bit.result (c.args.number % 32) (omega arith) (subst (λ b. ChangesBit b c.without_bit.result (c.args.number % 32) 0) is_full c.without_bit.ensures)

pub returns-clause-freed : goal.returns-clause-freed
returns-clause-freed c = (c.shrink.ensures.tidy, numbers-unused c.args.bitmaps.now c.shrink.new.bitmaps c.args.number (λ q. c.shrink.ensures.same q ∙ given_back c.args.bitmaps.now c.args.number c.in-Some.before c.without_bit.result (sym c.in-Some.ensures) c.without_bit.ensures q))

use Rattle.std.proofs.Common.{sym}
use Rattle.textline.proofs.WordLemmas.{none_with_prefix, number_of_parse}
use Rattle.textline.proofs.words.number.Goals as goal

pub returns-then-has_sign_or_leading_zero-clause-none : goal.returns-then-has_sign_or_leading_zero-clause-none
returns-then-has_sign_or_leading_zero-clause-none c = λ n. none_with_prefix c.args.word.now n (sym c.if-has_sign_or_leading_zero.ensures)

pub returns-clause-value : goal.returns-clause-value
returns-clause-value c =
    (number_of_parse c.args.word.now c.parsed.result (sym c.if-has_sign_or_leading_zero.ensures) c.parsed.ensures.some c.parsed.ensures.none).0

pub returns-clause-none : goal.returns-clause-none
returns-clause-none c =
    (number_of_parse c.args.word.now c.parsed.result (sym c.if-has_sign_or_leading_zero.ensures) c.parsed.ensures.some c.parsed.ensures.none).1

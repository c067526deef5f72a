use Rattle.std.proofs.Common.{◌≡◌}
use Rattle.tests_errors.proofs.board_tests.poll_all.Given as goal

abbrev pub invariant-loop-round : goal.invariant-loop-round
invariant-loop-round l = l.pass.board ≡ l.board

use Rattle.std.proofs.Common.{◌≡◌}
use Rattle.tests_errors.proofs.board_tests.record_all.Given as goal

abbrev pub invariant-loop-number : goal.invariant-loop-number
invariant-loop-number l = (l.recorder.board ≡ l.fn.recorder.board) × (l.last.board ≡ l.fn.recorder.board)

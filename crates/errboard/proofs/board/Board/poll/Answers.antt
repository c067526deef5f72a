use Rattle.std.proofs.Common.{◌≡◌, ◌<◌, length, subst}
use Rattle.std.specs.Prelude.{IfSome}
use Rattle.errseq.specs.Recorded.{last_code}
use Rattle.errboard.specs.Shown.{PassSeen, known_of}
use Rattle.errboard.proofs.Polls.{polled_is_code, polled_code}
use Rattle.errboard.proofs.board.Board.poll.Goals as goal

pub answer-code-requires : goal.answer-code-requires
answer-code-requires c = polled_is_code _ _ _ _ _ _ _ _ c.compare-found.ensures.polled

pub returns-clause-code : goal.returns-clause-code
returns-clause-code c =
    let known = known_of c.compare-found.new.seat.me.0 in
    subst (λ (p : PassSeen). IfSome c.answer-code.result (λ x. (p.done < length known) × (x ≡ last_code known))) c.pass.view_is
    (polled_code _ _ _ _ _ _ _ _ _ c.answer-code.ensures c.compare-found.ensures.polled)

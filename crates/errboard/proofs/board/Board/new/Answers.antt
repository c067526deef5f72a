use Rattle.errboard.proofs.Openings.{none_carried}
use Rattle.errboard.proofs.board.Board.new.Goals as goal

pub over-requires : goal.over-requires
over-requires c = none_carried _ c.no_words.ensures

use Rattle.errboard.proofs.Openings.{begins, are_opening}
use Rattle.errboard.proofs.board.opened.Goals as goal

pub of_words-requires : goal.of_words-requires
of_words-requires c = begins _ (are_opening _ c.told-opening c.fits-opening c.requires)

use Rattle.deeds.proofs.Keeps.{begins}
use Rattle.deeds.proofs.steps.open.Goals as goal

pub of_words-requires : goal.of_words-requires
of_words-requires g c = begins

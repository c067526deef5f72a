use Rattle.held.proofs.Numbering.{numbers_stay}
use Rattle.held.proofs.numbers.sync_numbers_stay.Goals as goal

pub returns : goal.returns
returns c = numbers_stay

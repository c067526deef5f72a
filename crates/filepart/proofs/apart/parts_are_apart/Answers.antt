use Rattle.filepart.proofs.TwoParts.{outside_goes_on, parts_are_apart}
use Rattle.filepart.proofs.apart.parts_are_apart.Goals as goal

pub returns-clause-goes_on : goal.returns-clause-goes_on
returns-clause-goes_on c = outside_goes_on

pub returns-clause-apart : goal.returns-clause-apart
returns-clause-apart c = parts_are_apart

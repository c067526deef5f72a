use Rattle.window.proofs.TwoWindows.{outside_goes_on, windows_are_apart}
use Rattle.window.proofs.apart.windows_are_apart.Goals as goal

pub returns-clause-goes_on : goal.returns-clause-goes_on
returns-clause-goes_on c = outside_goes_on

pub returns-clause-apart : goal.returns-clause-apart
returns-clause-apart c = windows_are_apart

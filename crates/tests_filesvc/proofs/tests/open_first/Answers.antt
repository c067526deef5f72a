use Rattle.filesvc.proofs.Callers.{opens}
use Rattle.tests_filesvc.proofs.tests.open_first.Goals as goal

pub returns : goal.returns
returns c = opens _ _ _ _ _ c.«open».ensures.none c.«open».ensures.opened c.«open».ensures.errors

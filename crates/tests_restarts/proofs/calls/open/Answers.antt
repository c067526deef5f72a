use Rattle.filesvc.proofs.Callers.{opens}
use Rattle.tests_restarts.proofs.calls.open.Goals as goal

pub returns : goal.returns
returns g c = opens _ _ _ _ _ c.«open».ensures.none c.«open».ensures.opened c.«open».ensures.errors

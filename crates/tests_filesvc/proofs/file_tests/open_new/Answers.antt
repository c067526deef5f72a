use Rattle.filesvc.proofs.Callers.{opens}
use Rattle.tests_filesvc.proofs.file_tests.open_new.Goals as goal

pub returns : goal.returns
returns c = opens _ _ _ _ _ c.«open».ensures.none c.«open».ensures.opened c.«open».ensures.errors

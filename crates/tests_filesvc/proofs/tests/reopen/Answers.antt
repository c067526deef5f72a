use Rattle.std.proofs.Common.{false}
use Rattle.filesvc.proofs.Callers.{opens}
use Rattle.tests_filesvc.proofs.tests.reopen.Goals as goal

pub returns : goal.returns
returns c = opens c.close.new.self c.«open».new.self _ false c.«open».result c.«open».ensures.none c.«open».ensures.opened c.«open».ensures.errors

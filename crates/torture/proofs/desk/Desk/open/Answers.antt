use Rattle.std.specs.Result.{is_ok}
use Rattle.torture.proofs.Handles.{desk_opened, desk_pushed}
use Rattle.torture.proofs.desk.Desk.open.Goals as goal

pub invariant_of-self : goal.invariant_of-self
invariant_of-self g c =
    desk_opened c.self.inside.solo c.«open».new.self c.args.file c.args.append c.«open».result c.self.inside.handles.items c.self.inside.stray
    c.«open».ensures.none c.«open».ensures.opened c.«open».ensures.errors c.self.invariant

pub invariant_of-self-2 : goal.invariant_of-self-2
invariant_of-self-2 g c =
    desk_pushed c.self.inside.solo c.«open».new.self c.args.file c.args.append (is_ok c.push.result) c.«open».result c.in_ok-handle.handle
    c.self.inside.handles.items c.push.new.self.items c.self.inside.stray c.in_ok-handle.was
    c.«open».ensures.none c.«open».ensures.opened c.«open».ensures.errors c.push.ensures.items c.self.invariant

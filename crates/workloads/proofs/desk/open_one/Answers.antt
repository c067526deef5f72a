use Rattle.std.proofs.Common.{false}
use Rattle.std.specs.Result.{is_ok}
use Rattle.filesvc.proofs.Callers.{opened_by}
use Rattle.workloads.proofs.Opened.{all_beside, all_pushed}
use Rattle.workloads.proofs.desk.open_one.Goals as goal

pub returns : goal.returns
returns g c =
    let now = c.«open».new.self in
    let those = all_beside c.args.solo.now now c.args.file.0 false c.«open».result c.args.handles.now.items
    (c.«open».ensures.opened c.requires.file) c.«open».ensures.errors c.requires.before in
    let this = opened_by c.args.solo.now now c.args.file.0 false c.«open».result c.in_ok-handle.handle c.in_ok-handle.was
    c.«open».ensures.none c.«open».ensures.opened c.«open».ensures.errors in
    all_pushed now (is_ok c.push.result) c.args.handles.now.items c.push.new.self.items c.in_ok-handle.handle
    c.push.ensures.items those this

use mathlib.Core.Bool.{false}
use Rattle.desk.proofs.Tables.{no_places, opens_by, stays_refused, table_opened, table_reserved, table_stays}
use Rattle.desk.proofs.desk.Desk.open.Goals as goal

pub invariant_of-self-in_err-handle : goal.invariant_of-self-in_err-handle
invariant_of-self-in_err-handle g c = (
  table_stays c.self.inside.solo c.«open».new.self _ (stays_refused _ _ c.args.file.0 false c.«open».result _ c.in_err-handle.was c.«open».ensures.none c.«open».ensures.opened c.«open».ensures.errors) (table_reserved c.self.inside.solo c.self.inside.handles c.reserve.new.self c.reserve.ensures.rest_kept c.self.invariant.0),
  no_places c.«open».new.self _ c.forget.ensures,
)

pub invariant_of-self-2 : goal.invariant_of-self-2
invariant_of-self-2 g c =
    let opens = opens_by _ _ c.args.file.0 false c.«open».result c.in_ok-handle.handle c.in_ok-handle.was c.«open».ensures.none c.«open».ensures.opened in
    (table_opened _ _ c.args.file.0 false c.in_ok-handle.handle opens c.«open».ensures.errors _ _ _ (table_reserved c.self.inside.solo c.self.inside.handles c.reserve.new.self c.reserve.ensures.rest_kept c.self.invariant.0) c.insert_reserved.ensures.updates.changed c.insert_reserved.ensures.updates.others, no_places c.«open».new.self _ c.forget.ensures)

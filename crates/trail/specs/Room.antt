-- How much room a history needs: entries, and bytes of entries. An event is made only where the trail has room for its
-- entry and for all that it may begin, beside what is in flight. So whatever has begun can end.
use Rattle.std.specs.Prelude.{◌≡◌, ℕ, ◌+◌, ◌-◌, ◌*◌, ◌≤◌, Bool, true, ◌&&◌, nat_le, if◌then◌else◌, length}
use Rattle.std.specs.Prelude.{Option, Some, None, is_some, option_map, count_by}
use Rattle.std.specs.FinMap as map
use Rattle.pc_types.specs.Kinds.{is_fill, is_flush}
use Rattle.pc_types.specs.declared.kind.Kind.{Kind}
use Rattle.pc_types.specs.declared.kind.Kind.TheVariants.{Fill, Flush}
use Rattle.pc_types.specs.declared.ids.SyncId.{SyncId}
use Rattle.machine.specs.declared.event.End.{End}
use Rattle.machine.specs.declared.event.Event.{Event}
use Rattle.machine.specs.declared.event.Event.TheVariants as event
use Rattle.machine.specs.declared.event.Reply.{Reply}
use Rattle.machine.specs.declared.event.Reply.TheVariants as reply
use Rattle.machine.specs.Sound.{Sound}
use Rattle.machine.specs.State.{State}
use Rattle.machine.specs.Step.{Step}
use Rattle.machine.specs.Tests.{tests}
use Rattle.trail.specs.declared.reserve.Reserve.{Reserve}

-- how many more entries a trail has room for, and how many more of their bytes; None: any number of bytes
pub record Room : Type 0 where
  pub events : ℕ
  pub bytes : Option ℕ

abbrev pub fits_bytes : Option ℕ → ℕ → Bool
fits_bytes None b = true
fits_bytes (Some room) b = nat_le b room

-- whether e entries with b bytes together fit
abbrev pub fits : Room → ℕ → ℕ → Bool
fits room e b = nat_le e room.events && fits_bytes room.bytes b

-- the room after one more entry, of b bytes
abbrev pub less : Room → ℕ → Room
less room b = record { events = room.events - 1; bytes = option_map (λ n. n - b) room.bytes }

-- ---- what is reserved while it is in flight: an entry for the end of each request and of each sync in progress, and a
-- page of bytes for the end of each fill

-- by the requests in flight and the syncs in progress of a state
abbrev pub reserved : State → Reserve
reserved s =
    record {
      fills = count_by (λ x. is_fill x.kind) (map.values s.requests);
      others = count_by (λ x. is_flush x.kind) (map.values s.requests) + map.len s.syncs;
    }

abbrev pub nothing_reserved : Reserve
nothing_reserved = record { fills = 0; others = 0 }

abbrev pub one_reserved : Reserve → Reserve
one_reserved v = record v { others = v.others + 1 }

abbrev pub fill_reserved : Reserve → Reserve
fill_reserved v = record v { fills = v.fills + 1 }

abbrev pub one_used : Reserve → Reserve
one_used v = record v { others = v.others - 1 }

abbrev pub fill_used : Reserve → Reserve
fill_used v = record v { fills = v.fills - 1 }

-- after the end of a request of this kind
abbrev pub end_used : Kind → Reserve → Reserve
end_used Fill v = fill_used v
end_used Flush v = one_used v

-- what is reserved after an event and its reply
abbrev pub reserved_after : Event → Reply → Reserve → Reserve
reserved_after (event.FillBegin h p) (reply.Job t) v = fill_reserved v
reserved_after (event.FlushBegin f) (reply.Job t) v = one_reserved v
reserved_after (event.End kind end) reply.Filled v = end_used kind v
reserved_after (event.End kind end) reply.Written v = end_used kind v
reserved_after (event.End kind end) (reply.Failed c) v = end_used kind v
reserved_after (event.End kind end) reply.Dropped v = end_used kind v
reserved_after (event.SyncBegin h first last) (reply.Sync m) v = one_reserved v
reserved_after (event.SyncStep m) (reply.Job t) v = one_reserved v
reserved_after (event.SyncStep m) reply.Clean v = one_used v
reserved_after (event.SyncStep m) (reply.Failed c) v = one_used v
reserved_after (event.SyncDrop m) reply.Dropped v = one_used v
reserved_after e r v = v

-- ---- what an event needs beside that. An end for which room is reserved needs none

abbrev pub need_of_end : Option Reply → ℕ
need_of_end refused = if is_some refused then 1 else 0

abbrev pub event_need : State → Event → ℕ
event_need s (event.FillBegin h p) = 2
event_need s (event.FlushBegin f) = 2
event_need s (event.SyncBegin h first last) = 2
event_need s (event.SyncStep m) = 2
event_need s (event.End kind end) = need_of_end (tests s (event.End kind end))
event_need s (event.SyncDrop m) = need_of_end (tests s (event.SyncDrop m))
event_need s _ = 1

abbrev pub byte_need : State → Event → ℕ
byte_need s (event.Read h o n) = n
byte_need s (event.Write h o b) = length b
byte_need s (event.Append h b) = length b
byte_need s (event.FillBegin h p) = s.sizes.page
byte_need s _ = 0

-- the most bytes that an event's entry may have: those that are read or written, and a page for the end of a fill that
-- is not refused
abbrev pub entry_room : State → Event → ℕ
entry_room s (event.Read h o n) = n
entry_room s (event.Write h o b) = length b
entry_room s (event.Append h b) = length b
entry_room s (event.End Fill end) = if is_some (tests s (event.End Fill end)) then 0 else s.sizes.page
entry_room s _ = 0

-- whether there is room for so much more than what is reserved
abbrev pub fits_beside : Room → ℕ → Reserve → ℕ → ℕ → Bool
fits_beside room page v events bytes = fits room (v.fills + v.others + events) (page * v.fills + bytes)

-- whether an event may be made
abbrev pub has_room : Room → Reserve → State → Event → Bool
has_room room v s e = fits_beside room s.sizes.page v (event_need s e) (byte_need s e)

-- what was reserved still fits
abbrev pub keeps_room : Room → ℕ → Reserve → Bool
keeps_room room page v = fits_beside room page v 0 0

-- ---- that it is enough

pub record RoomSuffices : Type 0 where
  -- what is reserved changes as the event and its reply say
  pub counts : (s new : State) (e : Event) (r : Reply) → Sound s → Step s e r new
      → reserved new ≡ reserved_after e r (reserved s)
  -- where there is room for an event beside what is reserved, its entry fits, and after it what is reserved then
  pub kept : (room : Room) (s new : State) (e : Event) (r : Reply) → has_room room (reserved s) s e ≡ true
      → Step s e r new → (b : ℕ) → b ≤ entry_room s e
      → (fits room 1 b ≡ true) × (keeps_room (less room b) new.sizes.page (reserved new) ≡ true)
  -- where what is reserved fits, there is room for the end of each request in flight, and the drop of each sync
  pub ends : (room : Room) (s : State) (kind : Kind) (end : End) → keeps_room room s.sizes.page (reserved s) ≡ true
      → tests s (event.End kind end) ≡ None → has_room room (reserved s) s (event.End kind end) ≡ true
  pub drops : (room : Room) (s : State) (m : SyncId) → keeps_room room s.sizes.page (reserved s) ≡ true
      → tests s (event.SyncDrop m) ≡ None → has_room room (reserved s) s (event.SyncDrop m) ≡ true

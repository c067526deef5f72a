-- Where there was room for an event, its entry fits, and so does, after it, what is reserved.
use Rattle.std.proofs.Common.{◌≡◌, ℕ, ◌+◌, ◌-◌, ◌*◌, ◌≤◌, Bool, true, false, cond, eqb, List, [], ◌∷◌, length, map}
use Rattle.std.proofs.Common.{refl, ap}
use Rattle.std.proofs.Common.{sym, ◌∙◌, arith, inl, inr}
use Rattle.std.specs.Prelude.{◌&&◌, Option, Some, None, is_some, count_by, nat_le}
use Rattle.std.specs.FinMap as finmap
use Rattle.std.specs.FinMap.{len-entries}
use Rattle.std.proofs.lemmas.Bool.Decides.{nat_tests}
use Rattle.std.proofs.lemmas.List.{length-map}
use Rattle.std.proofs.lemmas.List.Sums.{sum_by-cons}
use Rattle.std.proofs.lemmas.Nat.{mul-le}
use Rattle.pc_types.specs.Kinds.{is_fill, is_flush}
use Rattle.pc_types.specs.declared.ids.HandleId.{HandleId}
use Rattle.pc_types.specs.declared.ids.PageIndex.{PageIndex}
use Rattle.pc_types.specs.declared.ids.Serial.{Serial}
use Rattle.pc_types.specs.declared.ids.SyncId.{SyncId}
use Rattle.pc_types.specs.declared.kind.Kind.{Kind}
use Rattle.pc_types.specs.declared.kind.Kind.TheVariants.{Fill, Flush}
use Rattle.machine.specs.declared.event.End.{End}
use Rattle.machine.specs.declared.event.Event.{Event}
use Rattle.machine.specs.declared.event.Event.TheVariants as event
use Rattle.machine.specs.declared.event.Reply.{Reply}
use Rattle.machine.specs.declared.event.Reply.TheVariants as reply
use Rattle.machine.specs.State.{State, Request, page_count, bound_of}
use Rattle.machine.specs.Changes.{cut_request, shrunk, new_sync}
use Rattle.machine.specs.Step.{Step, MayReply}
use Rattle.machine.specs.Tests.{tests}
use Rattle.machine.proofs.steps.Answered.{is_quiet, IsWrite}
use Rattle.machine.proofs.steps.Cases.{Cases, by_cases, answered}
use Rattle.machine.proofs.steps.Ends.{end_loud}
use Rattle.machine.proofs.steps.Choices.{and_true}
use Rattle.machine.proofs.steps.Passed.{MayEnd}
use Rattle.maps.proofs.Count.{count_of, passing}
use Rattle.maps.proofs.Lengths.{len_put, len_put_there, len_gone, len_one_gone, count_put, count_gone, count_one_gone}
use Rattle.maps.proofs.Lengths.{count_each}
use Rattle.maps.proofs.MapLaws.{len-each_value}
use Rattle.trail.specs.Room.{Room, fits, fits_bytes, less, reserved, event_need, byte_need, entry_room}
use Rattle.trail.specs.Room.{has_room, keeps_room, need_of_end}

-- ---- what is reserved, by what is in flight

abbrev fills : Request → Bool
fills x = is_fill x.kind

abbrev pub in_flight : State → ℕ
in_flight s = finmap.len s.requests + finmap.len s.syncs

abbrev pub fill_count : State → ℕ
fill_count s = count_of fills s.requests

values_pass : (es : List (ℕ × Request)) → count_by fills (map (λ (e : ℕ × Request). e.1) es) ≡ passing fills es
values_pass [] = refl
values_pass (e ∷ es) =
    let a = sum_by-cons (λ (x : Request). cond {A = ℕ} (fills x) 1 0) e.1 (map (λ (e : ℕ × Request). e.1) es) in
    let b = sum_by-cons (λ (x : ℕ × Request). cond {A = ℕ} (fills x.1) 1 0) e es in
    let c = values_pass es in omega arith

-- each request is a fill or a flush
of_two_kinds : (xs : List Request)
    → count_by (λ (x : Request). is_fill x.kind) xs + count_by (λ (x : Request). is_flush x.kind) xs ≡ length xs
of_two_kinds [] = refl
of_two_kinds (x ∷ xs) =
    let a = sum_by-cons (λ (x : Request). cond {A = ℕ} (is_fill x.kind) 1 0) x xs in
    let b = sum_by-cons (λ (x : Request). cond {A = ℕ} (is_flush x.kind) 1 0) x xs in
    let c = of_two_kinds xs in
    let d = of_one x.kind in omega arith
  where
    of_one : (k : Kind) → cond {A = ℕ} (is_fill k) 1 0 + cond {A = ℕ} (is_flush k) 1 0 ≡ 1
    of_one Fill = refl
    of_one Flush = refl

pub fills_are : (s : State) → (reserved s).fills ≡ fill_count s
fills_are s = values_pass (finmap.entries s.requests)

pub events_are : (s : State) → (reserved s).fills + (reserved s).others ≡ in_flight s
events_are s =
    let a = of_two_kinds (finmap.values s.requests) in
    let b = length-map (finmap.entries s.requests) (λ (e : ℕ × Request). e.1) in
    let c = len-entries s.requests in omega arith

-- ---- after an event what is reserved and the event's entry take no more than what was reserved and the event's need

pub record Law (s : State) (e : Event) (r : Reply) (new : State) : Type 0 where
  pub events : in_flight new + 1 ≤ in_flight s + event_need s e
  pub page : new.sizes.page ≡ s.sizes.page
  pub bytes : (b : ℕ) → b ≤ entry_room s e
      → s.sizes.page * fill_count new + b ≤ s.sizes.page * fill_count s + byte_need s e

-- so many fills end, and so many begin
bytes_by : (P fewer more new old room need b : ℕ) → new + fewer ≤ old + more → room + P * more ≤ need + P * fewer
    → b ≤ room → P * new + b ≤ P * old + need
bytes_by P fewer more new old room need b fills bytes h =
    let m = mul-le P (new + fewer) P (old + more) (omega arith) fills in
    let x : P * (new + fewer) ≡ P * new + P * fewer = grind arith in
    let y : P * (old + more) ≡ P * old + P * more = grind arith in omega arith

one_choice : (b : Bool) (P : ℕ) → cond b 0 P ≤ P
one_choice true P = omega arith
one_choice false P = omega arith

-- an end, or the drop of a sync, that a test answers needs an entry
end_tested : (s : State) (kind : Kind) (end : End) (r : Reply) → Step s (event.End kind end) r s → is_quiet r ≡ true
    → tests s (event.End kind end) ≡ Some r
end_tested s kind end r step q = elim (answered (tests s (event.End kind end)) s (event.End kind end) r s step) [
  | inl a ↦ a.0
  | inr a ↦ absurd
      (let k : true ≡ false = sym q ∙ end_loud (finmap.get s.requests end.serial.0) end.outcome r a.1 in cc)
]

drop_tested : (s : State) (m : SyncId) (r : Reply) → Step s (event.SyncDrop m) r s → is_quiet r ≡ true
    → tests s (event.SyncDrop m) ≡ Some r
drop_tested s m r step q = elim (answered (tests s (event.SyncDrop m)) s (event.SyncDrop m) r s step) [
  | inl a ↦ a.0
  | inr a ↦ absurd (never r a.1 q)
]
  where
    never : (r : Reply) → MayReply s (event.SyncDrop m) r → is_quiet r ≡ true → ⊥
    never reply.Dropped h q = absurd cc
    never _ h q = h

quiet_need : (s : State) (e : Event) (r : Reply) → Step s e r s → is_quiet r ≡ true → 1 ≤ event_need s e
quiet_need s (event.End kind end) r step q = let a = ap need_of_end (end_tested s kind end r step q) in omega arith
quiet_need s (event.SyncDrop m) r step q = let a = ap need_of_end (drop_tested s m r step q) in omega arith
quiet_need s (event.FillBegin h p) r step q = omega arith
quiet_need s (event.FlushBegin f) r step q = omega arith
quiet_need s (event.SyncBegin h first last) r step q = omega arith
quiet_need s (event.SyncStep m) r step q = omega arith
quiet_need s e r step q = omega arith

quiet_room : (s : State) (e : Event) (r : Reply) → Step s e r s → is_quiet r ≡ true → entry_room s e ≤ byte_need s e
quiet_room s (event.End Fill end) r step q =
    let a = ap (λ o. cond (is_some o) 0 s.sizes.page) (end_tested s Fill end r step q) in omega arith
quiet_room s (event.End Flush end) r step q = omega arith
quiet_room s (event.Read h o n) r step q = omega arith
quiet_room s (event.Write h o b) r step q = omega arith
quiet_room s (event.Append h b) r step q = omega arith
quiet_room s e r step q = omega arith

write_need : (s : State) (e : Event) (h : HandleId) (o : ℕ) (b : List ℕ) → IsWrite s e h o b
    → (event_need s e ≡ 1) × (entry_room s e ≡ byte_need s e)
write_need s e h o b is = elim is [
  | inl a ↦ (ap (event_need s) a, ap (entry_room s) a ∙ sym (ap (byte_need s) a))
  | inr a ↦ (ap (event_need s) a.0, ap (entry_room s) a.0 ∙ sym (ap (byte_need s) a.0))
]

module _ (s : State) where
  -- by how many fills end and begin
  law : (e : Event) (r : Reply) (new : State) (fewer more : ℕ) → in_flight new + 1 ≤ in_flight s + event_need s e
      → new.sizes.page ≡ s.sizes.page → fill_count new + fewer ≤ fill_count s + more
      → entry_room s e + s.sizes.page * more ≤ byte_need s e + s.sizes.page * fewer → Law s e r new
  law e r new fewer more events page fills bytes = record {
    events = events;
    page = page;
    bytes = λ b h. bytes_by s.sizes.page fewer more (fill_count new) (fill_count s) (entry_room s e) (byte_need s e) b
        fills bytes h;
  }

  -- none does
  still : (e : Event) (r : Reply) (new : State) → in_flight new + 1 ≤ in_flight s + event_need s e
      → new.sizes.page ≡ s.sizes.page → fill_count new ≤ fill_count s → entry_room s e ≤ byte_need s e → Law s e r new
  still e r new events page fills bytes = law e r new 0 0 events page (omega arith) (omega arith)

  quiet : (e : Event) (r : Reply) → Step s e r s → is_quiet r ≡ true → Law s e r s
  quiet e r step q = let a = quiet_need s e r step q in
      still e r s (omega arith) refl (omega arith) (quiet_room s e r step q)

  wrote : (e : Event) (r : Reply) (new : State) (h : HandleId) (o : ℕ) (b : List ℕ) → IsWrite s e h o b
      → in_flight new ≡ in_flight s → new.sizes.page ≡ s.sizes.page → fill_count new ≡ fill_count s → Law s e r new
  wrote e r new h o b is events page fills = let a = write_need s e h o b is in
      still e r new (let x = a.0 in omega arith) page (omega arith) (let x = a.1 in omega arith)

  cut_fills : (f n : ℕ) (x : Request) → fills (cut_request f n x) ≡ true → fills x ≡ true
  cut_fills f n x e =
      elim (eqb x.file f && nat_le n x.page) as (λ c. fills (cond c (record x { dropped = true }) x) ≡ true
      → fills x ≡ true) [ true ↦ λ k. k | false ↦ λ k. k ] e

  cut : (h : HandleId) (z f : ℕ) → Law s (event.Truncate h z) reply.Done (shrunk s f z)
  cut h z f =
      let n = page_count s.sizes.page z in
      let a = len-each_value (λ _. cut_request f n) s.requests in
      let b = count_each fills fills (cut_request f n) s.requests (cut_fills f n) in
      still (event.Truncate h z) reply.Done (shrunk s f z) (omega arith) refl b (omega arith)

  -- a request ends
  ends : (kind : Kind) (end : End) (r : Reply) (new : State) (x : Request) → MayEnd s kind end x
      → new.requests ≡ finmap.remove s.requests end.serial.0 → new.syncs ≡ s.syncs → new.sizes ≡ s.sizes
      → Law s (event.End kind end) r new
  ends Fill end r new x may gone syncs sizes =
      let a = len_one_gone s.requests end.serial.0 x may.is in
      let b = count_one_gone fills s.requests end.serial.0 x may.is (ap is_fill may.kind_is) in
      let c = ap finmap.len gone in
      let d = ap finmap.len syncs in
      let e = ap (count_of fills) gone in
      let g = one_choice (is_some (tests s (event.End Fill end))) s.sizes.page in
      law (event.End Fill end) r new 1 0 (omega arith) (ap (λ z. z.page) sizes) (omega arith) (omega arith)
  ends Flush end r new x may gone syncs sizes =
      let a = len_one_gone s.requests end.serial.0 x may.is in
      let b = count_gone fills s.requests end.serial.0 in
      let c = ap finmap.len gone in
      let d = ap finmap.len syncs in
      let e = ap (count_of fills) gone in
      still (event.End Flush end) r new (omega arith) (ap (λ z. z.page) sizes) (omega arith) (omega arith)

  -- a fill begins
  begun_fill : (h : HandleId) (p : PageIndex) (t : Serial) (new : State) (x : Request) → x.kind ≡ Fill
      → new ≡ record s { next = s.next + 1; requests = finmap.insert s.requests s.next x } → new.sizes ≡ s.sizes
      → Law s (event.FillBegin h p) (reply.Job t) new
  begun_fill h p t new x kind is sizes =
      let a = len_put s.requests s.next x in
      let b = count_put fills s.requests s.next x in
      let c = ap in_flight is in
      let d = ap fill_count is in
      let g = ap (λ k. cond {A = ℕ} (is_fill k) 1 0) kind in
      law (event.FillBegin h p) (reply.Job t) new 0 1 (omega arith) (ap (λ z. z.page) sizes) (omega arith) (omega arith)

  -- a write begins
  flushes : (e : Event) (r : Reply) (new : State) (x : Request) → event_need s e ≡ 2 → entry_room s e ≡ 0
      → x.kind ≡ Flush → new.requests ≡ finmap.insert s.requests s.next x → finmap.len new.syncs ≡ finmap.len s.syncs
      → new.sizes ≡ s.sizes → Law s e r new
  flushes e r new x need room kind requests syncs sizes =
      let a = len_put s.requests s.next x in
      let b = count_put fills s.requests s.next x in
      let c = ap finmap.len requests in
      let d = ap (count_of fills) requests in
      let g = ap (λ k. cond {A = ℕ} (is_fill k) 1 0) kind in
      still e r new (omega arith) (ap (λ z. z.page) sizes) (omega arith) (omega arith)

  cases : Cases s (Law s)
  cases = record {
    same = λ e r step q. quiet e r step q;
    writes_none = λ e h o is step. wrote e (reply.Wrote 0 o) s h o [] is refl refl refl;
    creates = λ f room is. still event.Create _ _ (omega arith) refl (omega arith) (omega arith);
    opens = λ f h known room low. still (event.Open f) _ _ (omega arith) refl (omega arith) (omega arith);
    closes = λ h is none. still (event.Close h) _ _ (omega arith) refl (omega arith) (omega arith);
    writes = λ e h o b is may. wrote e _ _ h o b is refl refl refl;
    shrinks = λ h z may less. cut h z _;
    grows = λ h z may more. still (event.Truncate h z) _ _ (omega arith) refl (omega arith) (omega arith);
    makes_zeros = λ h p may un. still (event.FillBegin h p) _ _ (omega arith) refl (omega arith) (omega arith);
    evicts = λ f p page is idle. still event.Evict _ _ (omega arith) refl (omega arith) (omega arith);
    fills = λ h p t may is room serial. begun_fill h p t _ _ refl refl refl;
    flushes = λ f p page t may serial. flushes (event.FlushBegin f) (reply.Job t) _ _ refl refl refl refl refl refl;
    drops = λ kind end x may d. ends kind end _ _ x may refl refl refl;
    fill_fails = λ end x c may d is. ends Fill end _ _ x may refl refl refl;
    fill_ends = λ end x b may d is. ends Fill end _ _ x may refl refl refl;
    flush_fails = λ end x c may d is. ends Flush end _ _ x may refl refl refl;
    flush_ends = λ end x may d is. ends Flush end _ _ x may refl refl refl;
    begins = λ h first last m may low. (let a = len_put s.syncs m.0 (new_sync s h.0 first.0 last.0) in
        still (event.SyncBegin h first last) (reply.Sync m) _ (omega arith) refl (omega arith) (omega arith));
    starts = λ m y p page t is may serial. flushes (event.SyncStep m) (reply.Job t) _ _ refl refl refl refl
        (len_put_there s.syncs m.0 (record y { started = Some p }) y is) refl;
    waits = λ m y e p is pick first at.
        (let a = len_put_there s.syncs m.0 (record y { bound = Some (bound_of s y) }) y is
        in still (event.SyncStep m) (reply.Wait p) _ (omega arith) refl (omega arith) (omega arith));
    over = λ m y r is pick first v. (let a = len_gone s.syncs m.0 in
        still (event.SyncStep m) r _ (omega arith) refl (omega arith) (omega arith));
    sync_drops = λ m y is. (let a = len_one_gone s.syncs m.0 y is in
        still (event.SyncDrop m) reply.Dropped _ (omega arith) refl (omega arith) (omega arith));
  }

  pub room_law : (e : Event) (r : Reply) (new : State) → Step s e r new → Law s e r new
  room_law e r new step = by_cases s (Law s) cases e r new step

-- ---- in a trail

within : (a b : ℕ) → nat_le a b ≡ true → a ≤ b
within a b h = grind (arith, nat_tests)

is_within : (a b : ℕ) → a ≤ b → nat_le a b ≡ true
is_within a b h = grind (arith, nat_tests)

both : (a b : Bool) → a ≡ true → b ≡ true → (a && b) ≡ true
both true b h k = k
both false b h k = h

abbrev FitsBytes : Option ℕ → ℕ → Type 0
FitsBytes room b = fits_bytes room b ≡ true

bytes_left : (room : Option ℕ) (before after b : ℕ) → after + b ≤ before → FitsBytes room before
    → FitsBytes room b × FitsBytes (less (record { events = 0; bytes = room }) b).bytes after
bytes_left None before after b h f = (refl, refl)
bytes_left (Some n) before after b h f = let k = within before n f in
    (is_within b n (omega arith), is_within after (n - b) (omega arith))

-- where there is room for an event beside what is in flight, its entry fits, and after it what is reserved fits
pub room_kept : (room : Room) (s new : State) (e : Event) (r : Reply) → has_room room (reserved s) s e ≡ true
    → Step s e r new → (b : ℕ) → b ≤ entry_room s e
    → (fits room 1 b ≡ true) × (keeps_room (less room b) new.sizes.page (reserved new) ≡ true)
room_kept room s new e r has step b hb =
    let law = room_law s e r new step in
    let v = reserved s in
    let w = reserved new in
    let old_bytes = s.sizes.page * v.fills + byte_need s e in
    let new_bytes = new.sizes.page * w.fills + 0 in
    let parts = and_true (nat_le (v.fills + v.others + event_need s e) room.events) (fits_bytes room.bytes old_bytes)
    has in
    let events = within (v.fills + v.others + event_need s e) room.events parts.0 in
    let a = events_are s in
    let d = events_are new in
    let taken : new_bytes ≡ s.sizes.page * fill_count new + 0 = (λ i. law.page i * fills_are new i + 0) in
    let was : old_bytes ≡ s.sizes.page * fill_count s + byte_need s e =
    ap (λ n. s.sizes.page * n + byte_need s e) (fills_are s) in
    let bytes = bytes_left room.bytes old_bytes new_bytes b (let l = law.bytes b hb in omega arith) parts.1 in (
      both (nat_le 1 room.events) (fits_bytes room.bytes b)
          (is_within 1 room.events (let l = law.events in omega arith)) bytes.0,
      both (nat_le (w.fills + w.others + 0) (room.events - 1)) (fits_bytes (less room b).bytes new_bytes)
          (is_within (w.fills + w.others + 0) (room.events - 1) (let l = law.events in omega arith)) bytes.1,
    )

-- where an event needs no room of its own, what is reserved is enough
pub reserved_has_room : (room : Room) (s : State) (e : Event) → keeps_room room s.sizes.page (reserved s) ≡ true
    → event_need s e ≡ 0 → byte_need s e ≡ 0 → has_room room (reserved s) s e ≡ true
reserved_has_room room s e keeps none empty =
    (λ i. fits room ((reserved s).fills + (reserved s).others + none i) (s.sizes.page * (reserved s).fills + empty i))
    ∙ keeps

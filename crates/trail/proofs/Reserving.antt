-- What is reserved after an event is what the event and its reply say of what was reserved before.
use Rattle.std.proofs.Common.{◌≡◌, ℕ, ◌+◌, ◌-◌, ◌≤◌, Bool, true, false, cond, eqb, List, [], ◌∷◌, length}
use Rattle.std.proofs.Common.{refl, ap}
use Rattle.std.proofs.Common.{sym, ◌∙◌, arith, inl, inr}
use Rattle.std.specs.Prelude.{◌&&◌, Option, Some, None, nat_le}
use Rattle.std.specs.FinMap as finmap
use Rattle.std.specs.FinMap.{len-entries}
use Rattle.std.proofs.lemmas.List.Sums.{sum_by-cons}
use Rattle.pc_types.specs.Kinds.{is_fill, is_flush}
use Rattle.pc_types.specs.declared.ids.HandleId.{HandleId}
use Rattle.pc_types.specs.declared.ids.SyncId.{SyncId}
use Rattle.pc_types.specs.declared.kind.Kind.{Kind}
use Rattle.pc_types.specs.declared.kind.Kind.TheVariants.{Fill, Flush}
use Rattle.machine.specs.declared.event.End.{End}
use Rattle.machine.specs.declared.event.Event.{Event}
use Rattle.machine.specs.declared.event.Event.TheVariants as event
use Rattle.machine.specs.declared.event.Reply.{Reply}
use Rattle.machine.specs.declared.event.Reply.TheVariants as reply
use Rattle.machine.specs.State.{State, Request, Sync, page_count, bound_of}
use Rattle.machine.specs.Changes.{cut_request, shrunk, new_sync, drop_sync}
use Rattle.machine.specs.Sound.{Sound}
use Rattle.machine.specs.Step.{Step}
use Rattle.machine.proofs.steps.Answered.{is_quiet, IsWrite}
use Rattle.machine.proofs.steps.Cases.{Cases, IsVerdict, by_cases}
use Rattle.machine.proofs.steps.Choices.{none_of}
use Rattle.machine.proofs.steps.Passed.{MayEnd}
use Rattle.maps.proofs.Count.{count_of, passing}
use Rattle.maps.proofs.Lengths.{len_put_there, len_put_new, len_one_gone, count_put, count_gone, count_one_gone}
use Rattle.maps.proofs.Lengths.{count_each}
use Rattle.maps.proofs.MapLaws.{len-each_value}
use Rattle.trail.specs.declared.reserve.Reserve.{Reserve}
use Rattle.trail.specs.Room.{RoomSuffices, need_of_end, reserved, reserved_after, end_used, fill_reserved}
use Rattle.trail.specs.Room.{one_reserved, one_used}
use Rattle.trail.proofs.RoomLaws.{fill_count, fills_are, events_are, reserved_has_room, room_kept}

abbrev fills : Request → Bool
fills x = is_fill x.kind

abbrev flushes : Request → Bool
flushes x = is_flush x.kind

abbrev flush_count : State → ℕ
flush_count s = count_of flushes s.requests

of_one : (k : Kind) → cond {A = ℕ} (is_fill k) 1 0 + cond {A = ℕ} (is_flush k) 1 0 ≡ 1
of_one Fill = refl
of_one Flush = refl

two_kinds : (es : List (ℕ × Request)) → passing fills es + passing flushes es ≡ length es
two_kinds [] = refl
two_kinds (e ∷ es) =
    let x = sum_by-cons (λ (x : ℕ × Request). cond {A = ℕ} (fills x.1) 1 0) e es in
    let y = sum_by-cons (λ (x : ℕ × Request). cond {A = ℕ} (flushes x.1) 1 0) e es in
    let z = two_kinds es in let one = of_one e.1.kind in omega arith

all_counted : (s : State) → fill_count s + flush_count s ≡ finmap.len s.requests
all_counted s = two_kinds (finmap.entries s.requests) ∙ sym (len-entries s.requests)

-- what is reserved, in counts
abbrev counted : State → Reserve
counted s = record { fills = fill_count s; others = flush_count s + finmap.len s.syncs }

reserved_is : (s : State) → reserved s ≡ counted s
reserved_is s =
    let a = all_counted s in
    let b = events_are s in
    let c = fills_are s in
    let d : (reserved s).others ≡ flush_count s + finmap.len s.syncs = omega arith in
    λ i. record { fills = c i; others = d i }

-- counts that are at most these, which together are all, are these
exactly : (s : State) (f l : ℕ) → fill_count s ≤ f → flush_count s ≤ l → f + l ≤ finmap.len s.requests
    → (fill_count s ≡ f) × (flush_count s ≡ l)
exactly s f l a b c = let d = all_counted s in (omega arith, omega arith)

-- a reply that comes with no change reserves nothing
quiet_after : (e : Event) (r : Reply) (v : Reserve) → is_quiet r ≡ true → reserved_after e r v ≡ v
quiet_after (event.FillBegin h p) (reply.Job t) v q = absurd cc
quiet_after (event.FlushBegin f) (reply.Job t) v q = absurd cc
quiet_after (event.End kind end) reply.Filled v q = absurd cc
quiet_after (event.End kind end) reply.Written v q = absurd cc
quiet_after (event.End kind end) (reply.Failed c) v q = absurd cc
quiet_after (event.End kind end) reply.Dropped v q = absurd cc
quiet_after (event.SyncBegin h first last) (reply.Sync m) v q = absurd cc
quiet_after (event.SyncStep m) (reply.Job t) v q = absurd cc
quiet_after (event.SyncStep m) reply.Clean v q = absurd cc
quiet_after (event.SyncStep m) (reply.Failed c) v q = absurd cc
quiet_after (event.SyncDrop m) reply.Dropped v q = absurd cc
quiet_after e r v q = refl

module _ (s : State) (sound : Sound s) where
  pub record Follows (e : Event) (r : Reply) (new : State) : Type 0 where
    pub is : reserved new ≡ reserved_after e r (reserved s)

  -- by how many fills, flushes and syncs there are
  by_counts : (e : Event) (r : Reply) (new : State) (f l : ℕ) → fill_count new ≡ f
      → flush_count new + finmap.len new.syncs ≡ l
      → reserved_after e r (counted s) ≡ record { fills = f; others = l } → Follows e r new
  by_counts e r new f l a b is = record {
    is = reserved_is new ∙ (λ i. record { fills = a i; others = b i }) ∙ sym is
        ∙ ap (reserved_after e r) (sym (reserved_is s));
  }

  -- neither requests nor syncs are more or fewer
  still : (e : Event) (r : Reply) (new : State) → fill_count new ≡ fill_count s → flush_count new ≡ flush_count s
      → finmap.len new.syncs ≡ finmap.len s.syncs → reserved_after e r (counted s) ≡ counted s → Follows e r new
  still e r new a b c is =
      by_counts e r new (fill_count s) (flush_count s + finmap.len s.syncs) a (λ i. b i + c i) is

  fresh : finmap.get s.requests s.next ≡ None
  fresh = go (finmap.get s.requests s.next) refl
    where
      go : (o : Option Request) → finmap.get s.requests s.next ≡ o → o ≡ None
      go None e = refl
      go (Some x) e = absurd (let a = sound.serial s.next x e in omega arith)

  wrote : (e : Event) (h : HandleId) (o : ℕ) (b : List ℕ) (n end : ℕ) → IsWrite s e h o b
      → reserved_after e (reply.Wrote n end) (counted s) ≡ counted s
  wrote e h o b n end is = elim is [
    | inl a ↦ ap (λ x. reserved_after x (reply.Wrote n end) (counted s)) a
    | inr a ↦ ap (λ x. reserved_after x (reply.Wrote n end) (counted s)) a.0
  ]

  cut : (h : HandleId) (z f : ℕ) → Follows (event.Truncate h z) reply.Done (shrunk s f z)
  cut h z f =
      let n = page_count s.sizes.page z in
      let same = len-each_value (λ _. cut_request f n) s.requests in
      let a = count_each fills fills (cut_request f n) s.requests (cut_keeps is_fill) in
      let b = count_each flushes flushes (cut_request f n) s.requests (cut_keeps is_flush) in
      let all = all_counted s in
      let both = exactly (shrunk s f z) (fill_count s) (flush_count s) a b (omega arith) in
      still (event.Truncate h z) reply.Done (shrunk s f z) both.0 both.1 refl refl
    where
      cut_keeps : (test : Kind → Bool) (x : Request) → test (cut_request f (page_count s.sizes.page z) x).kind ≡ true
          → test x.kind ≡ true
      cut_keeps test x e =
          elim (eqb x.file f && nat_le (page_count s.sizes.page z) x.page) as (λ c.
          test (cond c (record x { dropped = true }) x).kind ≡ true → test x.kind ≡ true)
          [ true ↦ λ k. k | false ↦ λ k. k ] e

  -- a request begins
  begun : (new : State) (x : Request) → new.requests ≡ finmap.insert s.requests s.next x
      → (fill_count new ≡ fill_count s + cond (is_fill x.kind) 1 0)
      × (flush_count new ≡ flush_count s + cond (is_flush x.kind) 1 0)
  begun new x is =
      let a = ap (count_of fills) is in
      let b = ap (count_of flushes) is in
      let c = ap finmap.len is in
      let d = count_put fills s.requests s.next x in
      let e = count_put flushes s.requests s.next x in
      let g = len_put_new s.requests s.next x fresh in
      let all = all_counted s in
      let one = of_one x.kind in
      exactly new _ _ (omega arith) (omega arith) (omega arith)

  fill_begins : (e : Event) (r : Reply) (new : State) (x : Request) → x.kind ≡ Fill
      → new.requests ≡ finmap.insert s.requests s.next x → finmap.len new.syncs ≡ finmap.len s.syncs
      → reserved_after e r (counted s) ≡ fill_reserved (counted s) → Follows e r new
  fill_begins e r new x kind is syncs after =
      let b = begun new x is in
      let f : fill_count new ≡ fill_count s + 1 = b.0 ∙ ap (λ k. fill_count s + cond (is_fill k) 1 0) kind in
      let l = b.1 ∙ ap (λ k. flush_count s + cond (is_flush k) 1 0) kind in
      by_counts e r new (fill_count s + 1) (flush_count s + finmap.len s.syncs) f (omega arith) after

  flush_begins : (e : Event) (r : Reply) (new : State) (x : Request) → x.kind ≡ Flush
      → new.requests ≡ finmap.insert s.requests s.next x → finmap.len new.syncs ≡ finmap.len s.syncs
      → reserved_after e r (counted s) ≡ one_reserved (counted s) → Follows e r new
  flush_begins e r new x kind is syncs after =
      let b = begun new x is in
      let f = b.0 ∙ ap (λ k. fill_count s + cond (is_fill k) 1 0) kind in
      let l = b.1 ∙ ap (λ k. flush_count s + cond (is_flush k) 1 0) kind in
      by_counts e r new (fill_count s) (flush_count s + finmap.len s.syncs + 1) (omega arith) (omega arith) after

  -- a request ends
  ends : (kind : Kind) (end : End) (r : Reply) (new : State) (x : Request) → MayEnd s kind end x
      → new.requests ≡ finmap.remove s.requests end.serial.0 → new.syncs ≡ s.syncs
      → reserved_after (event.End kind end) r (counted s) ≡ end_used kind (counted s)
      → Follows (event.End kind end) r new
  ends Fill end r new x may is syncs after =
      let t = end.serial.0 in
      let a = ap (count_of fills) is in
      let b = ap (count_of flushes) is in
      let c = ap finmap.len is in
      let d = count_one_gone fills s.requests t x may.is (ap is_fill may.kind_is) in
      let e = count_gone flushes s.requests t in
      let g = len_one_gone s.requests t x may.is in
      let all = all_counted s in
      let both = exactly new (fill_count s - 1) (flush_count s) (omega arith) (omega arith) (omega arith) in
      by_counts (event.End Fill end) r new (fill_count s - 1) (flush_count s + finmap.len s.syncs) both.0
      (λ i. both.1 i + finmap.len (syncs i)) after
  ends Flush end r new x may is syncs after =
      let t = end.serial.0 in
      let a = ap (count_of fills) is in
      let b = ap (count_of flushes) is in
      let c = ap finmap.len is in
      let d = count_gone fills s.requests t in
      let e = count_one_gone flushes s.requests t x may.is (ap is_flush may.kind_is) in
      let g = len_one_gone s.requests t x may.is in
      let all = all_counted s in
      let both = exactly new (fill_count s) (flush_count s - 1) (omega arith) (omega arith) (omega arith) in
      let other = both.1 in
      let same = ap finmap.len syncs in
      by_counts (event.End Flush end) r new (fill_count s) (flush_count s + finmap.len s.syncs - 1) both.0
      (omega arith) after

  -- a sync is over
  over : (e : Event) (r : Reply) (m : ℕ) (y : Sync) → finmap.get s.syncs m ≡ Some y
      → reserved_after e r (counted s) ≡ one_used (counted s) → Follows e r (drop_sync s m)
  over e r m y is after = let g = len_one_gone s.syncs m y is in
      by_counts e r (drop_sync s m) (fill_count s) (flush_count s + finmap.len s.syncs - 1) refl (omega arith) after

  verdict : (m : SyncId) (y : Sync) (r : Reply) → IsVerdict s y r
      → reserved_after (event.SyncStep m) r (counted s) ≡ one_used (counted s)
  verdict m y reply.Clean h = refl
  verdict m y (reply.Failed c) h = refl
  verdict m y _ h = absurd h

  cases : Cases s Follows
  cases = record {
    same = λ e r step q. still e r s refl refl refl (quiet_after e r (counted s) q);
    writes_none = λ e h o is step. still e (reply.Wrote 0 o) s refl refl refl (wrote e h o [] 0 o is);
    creates = λ f room is. still event.Create _ _ refl refl refl refl;
    opens = λ f h known room low. still (event.Open f) _ _ refl refl refl refl;
    closes = λ h is none. still (event.Close h) _ _ refl refl refl refl;
    writes = λ e h o b is may. still e _ _ refl refl refl (wrote e h o b (length b) (o + length b) is);
    shrinks = λ h z may less. cut h z _;
    grows = λ h z may more. still (event.Truncate h z) _ _ refl refl refl refl;
    makes_zeros = λ h p may un. still (event.FillBegin h p) reply.Filled _ refl refl refl refl;
    evicts = λ f p page is idle. still event.Evict _ _ refl refl refl refl;
    fills = λ h p t may is room serial. fill_begins (event.FillBegin h p) (reply.Job t) _ _ refl refl refl refl;
    flushes = λ f p page t may serial. flush_begins (event.FlushBegin f) (reply.Job t) _ _ refl refl refl refl;
    drops = λ kind end x may d. ends kind end reply.Dropped _ x may refl refl refl;
    fill_fails = λ end x c may d is. ends Fill end (reply.Failed c) _ x may refl refl refl;
    fill_ends = λ end x b may d is. ends Fill end reply.Filled _ x may refl refl refl;
    flush_fails = λ end x c may d is. ends Flush end (reply.Failed c) _ x may refl refl refl;
    flush_ends = λ end x may d is. ends Flush end reply.Written _ x may refl refl refl;
    begins = λ h first last m may low.
        (let g = len_put_new s.syncs m.0 (new_sync s h.0 first.0 last.0) (none_of (finmap.get s.syncs m.0) low.0) in
        by_counts (event.SyncBegin h first last) (reply.Sync m) _ (fill_count s)
        (flush_count s + finmap.len s.syncs + 1) refl (omega arith) refl);
    starts = λ m y p page t is may serial. flush_begins (event.SyncStep m) (reply.Job t) _ _ refl refl
        (len_put_there s.syncs m.0 (record y { started = Some p }) y is) refl;
    waits = λ m y e p is pick first at. still (event.SyncStep m) (reply.Wait p) _ refl refl
        (len_put_there s.syncs m.0 (record y { bound = Some (bound_of s y) }) y is) refl;
    over = λ m y r is pick first v. over (event.SyncStep m) r m.0 y is (verdict m y r v);
    sync_drops = λ m y is. over (event.SyncDrop m) reply.Dropped m.0 y is refl;
  }

  -- what is reserved changes as the event and its reply say
  pub follows : (e : Event) (r : Reply) (new : State) → Step s e r new
      → reserved new ≡ reserved_after e r (reserved s)
  follows e r new step = (by_cases s Follows cases e r new step).is

pub room_suffices : RoomSuffices
room_suffices = record {
  counts = λ s new e r sound step. follows s sound e r new step;
  kept = room_kept;
  ends = λ room s kind end keeps none. reserved_has_room room s (event.End kind end) keeps (ap need_of_end none) refl;
  drops = λ room s m keeps none. reserved_has_room room s (event.SyncDrop m) keeps (ap need_of_end none) refl;
}

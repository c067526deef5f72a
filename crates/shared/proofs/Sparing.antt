-- A cache at rest that has nothing to write, and no page to let go, has room for what a call asks of it.
use Rattle.std.proofs.Common.{◌≡◌, ◌⊎◌, ◌∙◌, ◌+◌, ◌<◌, ◌≤◌, ℕ, Bool, true, false, cond, not, eqb, List, map, length, refl, sym, ap, subst, arith, inl, inr}
use Rattle.std.specs.Prelude.{◌&&◌, ◌==◌, IsTrue, Option, Some, None, is_some, nat_le, nat_lt}
use Rattle.std.specs.FinMap as finmap
use Rattle.std.proofs.lemmas.Bool.Decides.{nat_tests}
use Rattle.cachecore.specs.Wants.{NothingToWrite, dirtied, lacking, lacks_frames, may_touch, passes_limit}
use Rattle.orderly.proofs.Enough.{clean_enough, enough, enough_dirty, enough_frames, some_free}
use Rattle.orderly.proofs.Legal.{IsKept, legal_kept}
use Rattle.cachecore.specs.Wants.{is_busy}
use Rattle.machine.specs.Changes.{boundary, flush_pick}
use Rattle.machine.specs.State.{State, dirty_total, file_at, free_frames, handle_file, is_cached, is_filling, is_open, is_written, page_count, touched_count}
use Rattle.machine.specs.Step.{MayReply, Step}
use Rattle.machine.specs.Tests.{first_of, has_idle, is_full, refuse, room_tests, stopped, tests, truncate_stop, write_stop, write_tests}
use Rattle.machine.specs.declared.event.Event.{Event}
use Rattle.machine.specs.declared.event.Event.TheVariants as event
use Rattle.machine.specs.declared.event.Reply.{Reply}
use Rattle.machine.specs.declared.event.Reply.TheVariants as reply
use Rattle.machine.proofs.steps.Cases.{answered}
use Rattle.pc_types.specs.Limits.{Sizes, is_geometry}
use Rattle.machine.specs.Catalogs.{Catalog}
use Rattle.pc_types.specs.declared.ids.PageIndex.{PageIndex}
use Rattle.pc_types.specs.declared.limits.TheConstants.{MAX_FILE_SIZE, MAX_TOUCHED, MIN_DIRTY_LIMIT, MIN_FRAMES}
use Rattle.pc_types.specs.declared.refusal.Refusal.{Refusal}
use Rattle.pc_types.specs.declared.refusal.Refusal.TheVariants.{BadHandle, DirtyLimit, Memory, NoFrame, NoSpace, NoSuchFile, TooLarge, TooLong, TooManyInFlight}
use Rattle.trail.specs.declared.entry.Entry.{Entry}
use Rattle.trail.specs.History.{After, seatless}
use Rattle.shared.specs.Changes.{event_of}
use Rattle.shared.specs.Rooms.{wants_room}
use Rattle.shared.specs.declared.writes.Change.{Change}
use Rattle.shared.specs.declared.writes.Change.TheVariants.{Append, Truncate, Write}
use Rattle.pc_types.specs.declared.ids.HandleId.{HandleId}

-- ---- what every legal history leaves

pub kept_after : (files : Catalog) (sizes : Sizes) (name : ℕ) (history : List Entry) (s : State) → IsTrue (is_geometry sizes)
    → After files sizes name history s → IsKept sizes s
kept_after files sizes name history s geometry h = legal_kept files sizes name (map seatless history) s geometry h.0 h.1

-- ---- tests, one after another

other : (is why : Refusal) → is ≡ why → wants_room is ≡ false → wants_room why ≡ true → ⊥
other is why same barred wants = let x : true ≡ false = sym wants ∙ ap wants_room (sym same) ∙ barred in cc

-- a write is refused for want of room by the tests of room alone
reaches_room : (opened none long large : Bool) (o : ℕ) (stop room : Option Reply) (why : Refusal) → wants_room why ≡ true
    → (stop ≡ Some (reply.Refused why) → ⊥)
    → cond (not opened) (refuse BadHandle) (cond none (Some (reply.Wrote 0 o)) (cond long (refuse TooLong)
    (cond large (refuse TooLarge) (first_of stop room)))) ≡ Some (reply.Refused why)
    → (opened ≡ true) × (none ≡ false) × (long ≡ false) × (large ≡ false) × (room ≡ Some (reply.Refused why))
reaches_room false none long large o stop room why wants never e =
    absurd (let is : BadHandle ≡ why = cc in other BadHandle why is refl wants)
reaches_room true true long large o stop room why wants never e = absurd cc
reaches_room true false true large o stop room why wants never e =
    absurd (let is : TooLong ≡ why = cc in other TooLong why is refl wants)
reaches_room true false false true o stop room why wants never e =
    absurd (let is : TooLarge ≡ why = cc in other TooLarge why is refl wants)
reaches_room true false false false o (Some x) room why wants never e = absurd (never e)
reaches_room true false false false o None room why wants never e = (refl, refl, refl, refl, e)

room_case : (over short full : Bool) (why : Refusal) → wants_room why ≡ true
    → cond over (refuse DirtyLimit) (cond short (refuse NoFrame) (cond full (refuse NoSpace) None)) ≡ Some (reply.Refused why)
    → (over ≡ true) ⊎ ((why ≡ NoFrame) × (short ≡ true))
room_case true short full why wants e = inl refl
room_case false true full why wants e = let is : NoFrame ≡ why = cc in inr (sym is, refl)
room_case false false true why wants e = absurd (let is : NoSpace ≡ why = cc in other NoSpace why is refl wants)
room_case false false false why wants e = absurd cc

cut_case : (opened large : Bool) (stop : Option Reply) (why : Refusal) → wants_room why ≡ true
    → (stop ≡ Some (reply.Refused why) → ⊥)
    → cond (not opened) (refuse BadHandle) (cond large (refuse TooLarge) stop) ≡ Some (reply.Refused why) → ⊥
cut_case false large stop why wants never e = let is : BadHandle ≡ why = cc in other BadHandle why is refl wants
cut_case true true stop why wants never e = let is : TooLarge ≡ why = cc in other TooLarge why is refl wants
cut_case true false stop why wants never e = never e

fill_case : (opened past filling cached none full : Bool) (p : PageIndex) (why : Refusal) → wants_room why ≡ true
    → cond (not opened) (refuse BadHandle) (cond past (Some reply.Gone) (cond filling (Some (reply.Wait p))
    (cond cached (Some reply.Present) (cond none (refuse NoFrame) (cond full (refuse TooManyInFlight) None)))))
    ≡ Some (reply.Refused why) → (why ≡ NoFrame) × (none ≡ true)
fill_case false past filling cached none full p why wants e =
    absurd (let is : BadHandle ≡ why = cc in other BadHandle why is refl wants)
fill_case true true filling cached none full p why wants e = absurd cc
fill_case true false true cached none full p why wants e = absurd cc
fill_case true false false true none full p why wants e = absurd cc
fill_case true false false false true full p why wants e = let is : NoFrame ≡ why = cc in (sym is, refl)
fill_case true false false false false true p why wants e =
    absurd (let is : TooManyInFlight ≡ why = cc in other TooManyInFlight why is refl wants)
fill_case true false false false false false p why wants e = absurd cc

-- a page that is missing is no refusal
pub stops_unrefused : (s : State) (f : ℕ) (stop : Option ℕ) (why : Refusal) → stopped s f stop ≡ Some (reply.Refused why) → ⊥
stops_unrefused s f None why e = cc
stops_unrefused s f (Some p) why e = go (is_filling s f p) e
  where
    go : (filling : Bool)
        → Some (cond filling (reply.Wait (record { 0 = p })) (reply.Miss (record { 0 = p }))) ≡ Some (reply.Refused why) → ⊥
    go true e = cc
    go false e = cc

both : (a b : Bool) → a ≡ true → b ≡ true → (a && b) ≡ true
both true true x y = refl
both false b x y = absurd cc
both true false x y = absurd cc

some_of : (n : ℕ) → eqb n 0 ≡ false → nat_lt 0 n ≡ true
some_of n e = let some : 0 < n = grind (arith, nat_tests) in grind (arith, nat_tests)

few_of : (t m : ℕ) → nat_lt m t ≡ false → nat_le t m ≡ true
few_of t m e = let few : t ≤ m = grind (arith, nat_tests) in grind (arith, nat_tests)

none_left : (n : ℕ) → nat_lt 0 n ≡ false → n ≡ 0
none_left n e = grind (arith, nat_tests)

-- ---- the cache

-- a call asks for these, and for no other that takes room
abbrev pub IsAsked : Event → Type 0
IsAsked (event.Write h o b) = Unit {0}
IsAsked (event.Append h b) = Unit {0}
IsAsked (event.Truncate h z) = Unit {0}
IsAsked (event.FillBegin h p) = Unit {0}
IsAsked e = ⊥

pub change_asked : (change : Change) (h : HandleId) (bytes : List ℕ) → IsAsked (event_of change h bytes)
change_asked (Write at) h bytes = tt
change_asked Append h bytes = tt
change_asked (Truncate size) h bytes = tt

-- they are refused by tests, and for want of memory
tested : (s : State) (e : Event) (why : Refusal) → IsAsked e → MayReply s e (reply.Refused why) → wants_room why ≡ false
tested s (event.Write h o b) Memory asked may = refl
tested s (event.Append h b) Memory asked may = refl
tested s (event.FillBegin h p) Memory asked may = refl
tested s (event.Write h o b) why asked may = absurd may
tested s (event.Append h b) why asked may = absurd may
tested s (event.FillBegin h p) why asked may = absurd may
tested s (event.Truncate h z) why asked may = absurd may
tested s e why asked may = absurd asked

module _ (sizes : Sizes) (s : State) (geometry : IsTrue (is_geometry sizes)) (k : IsKept sizes s) (rests : is_busy s ≡ false)
    (none : NothingToWrite s) where
  resting : s.requests ≡ finmap.empty
  resting = finmap.empty_of_len s.requests (none_left (finmap.len s.requests) rests)

  clean : (f : ℕ) → f < length s.files → tests s (event.FlushBegin (record { 0 = f })) ≡ Some reply.Nothing
  clean f here = by (nat_le (length s.files) f) (flush_pick (file_at s f)) refl (none f)
    where
      by : (past : Bool) (pick : Option ℕ) → nat_le (length s.files) f ≡ past → pick ≡ None
          → cond past (refuse NoSuchFile) (cond (not (is_some pick)) (Some reply.Nothing)
          (cond (is_full s) (refuse TooManyInFlight) None)) ≡ Some reply.Nothing
      by true pick e is = absurd (let past : length s.files ≤ f = grind (arith, nat_tests) in omega arith)
      by false None e is = refl
      by false (Some p) e is = absurd cc

  limit_kept : (h o n : ℕ) → passes_limit s h o n ≡ false
  limit_kept h o n =
      clean_enough s k.sound k.orderly resting clean
      (subst (λ (z : Sizes). MIN_DIRTY_LIMIT ≤ z.dirty_limit) (sym k.sized) (enough_dirty sizes geometry)) h o n

  many : MIN_FRAMES ≤ s.sizes.frames
  many = subst (λ (z : Sizes). MIN_FRAMES ≤ z.frames) (sym k.sized) (enough_frames sizes geometry)

  idle_test : has_idle s ≡ false → tests s event.Evict ≡ Some reply.NoneIdle
  idle_test idle = ap (λ b. cond b None (Some reply.NoneIdle)) idle

  frames_kept : (h o n : ℕ) → has_idle s ≡ false → lacks_frames s h o n ≡ false
  frames_kept h o n idle = enough s k.sound k.orderly resting clean (idle_test idle) many h o n

  frame_kept : has_idle s ≡ false → (free_frames s == 0) ≡ true → ⊥
  frame_kept idle e =
      let some : 0 < free_frames s = some_free s k.sound k.orderly resting clean (idle_test idle) many in
      let gone : free_frames s ≡ 0 = grind (arith, nat_tests) in
      omega arith

  write_spared : (h o n : ℕ) (why : Refusal) → wants_room why ≡ true → (why ≡ NoFrame → has_idle s ≡ false)
      → write_tests s h o n ≡ Some (reply.Refused why) → ⊥
  write_spared h o n why wants idle e =
      let f = handle_file s h in
      let r = reaches_room (is_open s h) (n == 0) (nat_lt MAX_TOUCHED (touched_count s.sizes.page o n))
      (nat_lt MAX_FILE_SIZE (o + n)) o (stopped s f (write_stop s f o n)) (room_tests s f o n) why wants
      (stops_unrefused s f (write_stop s f o n) why) e in
      let may : may_touch s h o n ≡ true =
      both _ (nat_le (o + n) MAX_FILE_SIZE) (both _ (nat_le (touched_count s.sizes.page o n) MAX_TOUCHED)
      (both (is_open s h) (nat_lt 0 n) r.0 (some_of n r.1)) (few_of (touched_count s.sizes.page o n) MAX_TOUCHED r.2))
      (few_of (o + n) MAX_FILE_SIZE r.3) in
      elim (room_case (nat_lt 0 (dirtied s f o n) && nat_lt s.sizes.dirty_limit (dirty_total s + dirtied s f o n))
      (nat_lt (free_frames s) (lacking s f o n)) _ why wants r.4) [
        | inl over ↦ (let x : true ≡ false = sym (both (may_touch s h o n) _ may over) ∙ limit_kept h o n in cc)
        | inr a ↦ (let x : true ≡ false = sym (both (may_touch s h o n) _ may a.1) ∙ frames_kept h o n (idle a.0) in cc)
      ]

  spared : (e : Event) (why : Refusal) → IsAsked e → wants_room why ≡ true → (why ≡ NoFrame → has_idle s ≡ false)
      → tests s e ≡ Some (reply.Refused why) → ⊥
  spared (event.Write h o b) why asked wants idle t = write_spared h.0 o (length b) why wants idle t
  spared (event.Append h b) why asked wants idle t =
      write_spared h.0 (file_at s (handle_file s h.0)).size (length b) why wants idle t
  spared (event.Truncate h z) why asked wants idle t =
      let f = handle_file s h.0 in
      let stop = truncate_stop s f (boundary s f z) in
      cut_case (is_open s h.0) (nat_lt MAX_FILE_SIZE z) (stopped s f stop) why wants (stops_unrefused s f stop why) t
  spared (event.FillBegin h p) why asked wants idle t =
      let f = handle_file s h.0 in
      let a = fill_case (is_open s h.0) (nat_le (page_count s.sizes.page (file_at s f).size) p.0) (is_filling s f p.0)
      (is_cached s f p.0) (free_frames s == 0) (is_written s f p.0 && is_full s) p why wants t in
      frame_kept (idle a.0) a.1
  spared e why asked wants idle t = absurd asked

-- an event was refused for want of room, and the cache is left at rest, without a page to let go: so it has one to write
pub has_to_write : (files : Catalog) (sizes : Sizes) (name : ℕ) (history : List Entry) (s new : State) (e : Event) (why : Refusal)
    → IsTrue (is_geometry sizes) → IsAsked e → wants_room why ≡ true → Step s e (reply.Refused why) new
    → After files sizes name history new → is_busy new ≡ false → (why ≡ NoFrame → has_idle new ≡ false) → NothingToWrite new → ⊥
has_to_write files sizes name history s new e why geometry asked wants step legal rests idle none =
    elim (answered (tests s e) s e (reply.Refused why) new step) [
      | inl a ↦ spared sizes new geometry (kept_after files sizes name history new geometry legal) rests none e why asked wants idle
          (subst (λ x. tests x e ≡ Some (reply.Refused why)) (sym a.1) a.0)
      | inr a ↦ (let x : true ≡ false = sym wants ∙ tested s e why asked a.1 in cc)
    ]

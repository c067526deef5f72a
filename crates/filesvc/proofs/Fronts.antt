-- Refusals by what a call keeps on its way: which handles are open, the sizes, and the lengths of files.
use Rattle.std.proofs.Common.{◌≡◌, ℕ, ◌+◌, ◌-◌, Bool, true, false, cond, not, eqb, [], length, refl, ap, sym, ◌∙◌}
use Rattle.std.specs.Prelude.{◌&&◌, Option, Some, None, is_some, unwrap_or, min, nat_lt, count_by}
use Rattle.std.specs.FinMap as finmap
use Rattle.pc_types.specs.declared.limits.TheConstants.{MAX_FILE_SIZE, MAX_TOUCHED}
use Rattle.pc_types.specs.declared.refusal.Refusal.{Refusal}
use Rattle.pc_types.specs.declared.refusal.Refusal.TheVariants.{BadHandle, TooLarge, TooLong}
use Rattle.machine.specs.declared.event.Event.{Event}
use Rattle.machine.specs.declared.event.Event.TheVariants as event
use Rattle.machine.specs.declared.event.Reply.{Reply}
use Rattle.machine.specs.declared.event.Reply.TheVariants as reply
use Rattle.machine.specs.Changes.{boundary}
use Rattle.machine.specs.State.{State, dirty_total, file_at, handle_file, free_blocks, free_frames, is_cached, tags_at, is_open, touched, touched_count, without_block}
use Rattle.machine.specs.Tests.{first_of, read_count, read_stop, refuse, room_tests, stopped, tests, truncate_stop, write_stop, write_tests}
use Rattle.machine.proofs.steps.Choices.{at_true, quiet_if, quiet_none}
use Rattle.machine.proofs.steps.Answered.{stopped_quiet}
use Rattle.filesvc.specs.Seen.{SoloSeen}
use Rattle.filesvc.specs.Service.{Refuses, Serves}
use Rattle.filesvc.proofs.CallSteps.{is_call}
use Rattle.orderly.proofs.Calls.{quiet_first}

abbrev pub handle_of : Event → ℕ
handle_of (event.Read h o n) = h.0
handle_of (event.Write h o b) = h.0
handle_of (event.Append h b) = h.0
handle_of (event.Truncate h z) = h.0
handle_of _ = 0

-- a call by a handle that is not open
pub closed_refuses : (s : State) (e : Event) → is_call e ≡ true → is_open s (handle_of e) ≡ false → tests s e ≡ Some (reply.Refused BadHandle)
closed_refuses s (event.Read h o n) c k = at_true (not (is_open s h.0)) _ _ (ap not k)
closed_refuses s (event.Write h o b) c k = at_true (not (is_open s h.0)) _ _ (ap not k)
closed_refuses s (event.Append h b) c k = at_true (not (is_open s h.0)) _ _ (ap not k)
closed_refuses s (event.Truncate h z) c k = at_true (not (is_open s h.0)) _ _ (ap not k)
closed_refuses s _ c k = absurd cc

abbrev pub is_front : Refusal → Bool
is_front BadHandle = true
is_front TooLong = true
is_front TooLarge = true
is_front _ = false

-- what comes behind the tests of these refuses otherwise
abbrev Behind : Reply → Type 0
Behind (reply.Refused r) = is_front r ≡ false
Behind r = Unit {0}

stop_behind : (s : State) (f : ℕ) (o : Option ℕ) (r : Reply) → stopped s f o ≡ Some r → Behind r
stop_behind s f o = stopped_quiet Behind s f o (λ p. tt) (λ p. tt)

room_behind : (s : State) (f o n : ℕ) (r : Reply) → room_tests s f o n ≡ Some r → Behind r
room_behind s f o n =
    let pages = touched s.sizes.page o n in
    let dirtied = count_by (λ p. not (tags_at s f p).dirty) pages in
    quiet_if Behind (nat_lt 0 dirtied && nat_lt s.sizes.dirty_limit (dirty_total s + dirtied)) _ _ refl
    (quiet_if Behind (nat_lt (free_frames s) (count_by (λ p. not (is_cached s f p)) pages)) _ _ refl
    (quiet_if Behind (nat_lt (length (free_blocks s)) (length (without_block s f pages))) _ None refl (quiet_none Behind)))

write_behind : (s : State) (f o n : ℕ) (r : Reply) → first_of (stopped s f (write_stop s f o n)) (room_tests s f o n) ≡ Some r → Behind r
write_behind s f o n = quiet_first Behind s f (write_stop s f o n) (room_tests s f o n) (λ p. tt) (λ p. tt) (room_behind s f o n)

module _ (r : Refusal) (front : is_front r ≡ true) where
  -- so what comes behind may be another
  behind : (o other : Option Reply) → ((x : Reply) → o ≡ Some x → Behind x) → o ≡ Some (reply.Refused r) → other ≡ Some (reply.Refused r)
  behind o other b e = absurd (let k : true ≡ false = sym front ∙ b (reply.Refused r) e in cc)

  after : (b : Bool) (x o other : Option Reply) → (o ≡ Some (reply.Refused r) → other ≡ Some (reply.Refused r)) → cond b x o ≡ Some (reply.Refused r) → cond b x other ≡ Some (reply.Refused r)
  after true x o other k e = e
  after false x o other k e = k e

  reading : (opened : Bool) (count page o : ℕ) (rest other : Option Reply) → ((x : Reply) → rest ≡ Some x → Behind x) → cond (not opened) (refuse BadHandle) (cond (eqb count 0) (Some (reply.Bytes [])) (cond (nat_lt MAX_TOUCHED (touched_count page o count)) (refuse TooLong) rest)) ≡ Some (reply.Refused r) → cond (not opened) (refuse BadHandle) (cond (eqb count 0) (Some (reply.Bytes [])) (cond (nat_lt MAX_TOUCHED (touched_count page o count)) (refuse TooLong) other)) ≡ Some (reply.Refused r)
  reading opened count page o rest other b = after (not opened) _ _ _ (after (eqb count 0) _ _ _ (after (nat_lt MAX_TOUCHED (touched_count page o count)) _ _ _ (behind rest other b)))

  writing : (opened : Bool) (page o n : ℕ) (rest other : Option Reply) → ((x : Reply) → rest ≡ Some x → Behind x) → cond (not opened) (refuse BadHandle) (cond (eqb n 0) (Some (reply.Wrote 0 o)) (cond (nat_lt MAX_TOUCHED (touched_count page o n)) (refuse TooLong) (cond (nat_lt MAX_FILE_SIZE (o + n)) (refuse TooLarge) rest))) ≡ Some (reply.Refused r) → cond (not opened) (refuse BadHandle) (cond (eqb n 0) (Some (reply.Wrote 0 o)) (cond (nat_lt MAX_TOUCHED (touched_count page o n)) (refuse TooLong) (cond (nat_lt MAX_FILE_SIZE (o + n)) (refuse TooLarge) other))) ≡ Some (reply.Refused r)
  writing opened page o n rest other b = after (not opened) _ _ _ (after (eqb n 0) _ _ _ (after (nat_lt MAX_TOUCHED (touched_count page o n)) _ _ _ (after (nat_lt MAX_FILE_SIZE (o + n)) _ _ _ (behind rest other b))))

  cutting : (opened : Bool) (z : ℕ) (rest other : Option Reply) → ((x : Reply) → rest ≡ Some x → Behind x) → cond (not opened) (refuse BadHandle) (cond (nat_lt MAX_FILE_SIZE z) (refuse TooLarge) rest) ≡ Some (reply.Refused r) → cond (not opened) (refuse BadHandle) (cond (nat_lt MAX_FILE_SIZE z) (refuse TooLarge) other) ≡ Some (reply.Refused r)
  cutting opened z rest other b = after (not opened) _ _ _ (after (nat_lt MAX_FILE_SIZE z) _ _ _ (behind rest other b))

  module _ (old mid : SoloSeen) (s : Serves old mid) where
    opened_is : (h : ℕ) → is_open mid.world.core h ≡ is_open old.world.core h
    opened_is h = ap (λ m. is_some (finmap.get m h)) s.keeps.handles

    file_is : (h : ℕ) → handle_file mid.world.core h ≡ handle_file old.world.core h
    file_is h = ap (λ m. unwrap_or (finmap.get m h) 0) s.keeps.handles

    size_is : (h : ℕ) → (file_at mid.world.core (handle_file mid.world.core h)).size ≡ (file_at old.world.core (handle_file old.world.core h)).size
    size_is h = ap (λ g. (file_at mid.world.core g).size) (file_is h) ∙ s.lengths (handle_file old.world.core h)

    page_is : mid.world.core.sizes.page ≡ old.world.core.sizes.page
    page_is = ap (λ z. z.page) s.keeps.sizes

    writes_kept : (h o n : ℕ) → write_tests mid.world.core h o n ≡ Some (reply.Refused r) → write_tests old.world.core h o n ≡ Some (reply.Refused r)
    writes_kept h o n e =
        let rest = first_of (stopped mid.world.core (handle_file mid.world.core h) (write_stop mid.world.core (handle_file mid.world.core h) o n)) (room_tests mid.world.core (handle_file mid.world.core h) o n) in
        let other = first_of (stopped old.world.core (handle_file old.world.core h) (write_stop old.world.core (handle_file old.world.core h) o n)) (room_tests old.world.core (handle_file old.world.core h) o n) in
        let here : cond (not (is_open old.world.core h)) (refuse BadHandle) (cond (eqb n 0) (Some (reply.Wrote 0 o)) (cond (nat_lt MAX_TOUCHED (touched_count old.world.core.sizes.page o n)) (refuse TooLong) (cond (nat_lt MAX_FILE_SIZE (o + n)) (refuse TooLarge) rest))) ≡ Some (reply.Refused r) = (λ i. cond (not (sym (opened_is h) i)) (refuse BadHandle) (cond (eqb n 0) (Some (reply.Wrote 0 o)) (cond (nat_lt MAX_TOUCHED (touched_count (sym page_is i) o n)) (refuse TooLong) (cond (nat_lt MAX_FILE_SIZE (o + n)) (refuse TooLarge) rest)))) ∙ e in
        writing (is_open old.world.core h) old.world.core.sizes.page o n rest other (write_behind mid.world.core (handle_file mid.world.core h) o n) here

    pub kept_refuses : (e : Event) → is_call e ≡ true → Refuses mid e r → Refuses old e r
    kept_refuses (event.Read h o n) c e =
        let rest = stopped mid.world.core (handle_file mid.world.core h.0) (read_stop mid.world.core (handle_file mid.world.core h.0) o (read_count mid.world.core (handle_file mid.world.core h.0) o n)) in
        let other = stopped old.world.core (handle_file old.world.core h.0) (read_stop old.world.core (handle_file old.world.core h.0) o (read_count old.world.core (handle_file old.world.core h.0) o n)) in
        let count : read_count mid.world.core (handle_file mid.world.core h.0) o n ≡ read_count old.world.core (handle_file old.world.core h.0) o n = ap (λ z. min n (z - o)) (size_is h.0) in
        let here : cond (not (is_open old.world.core h.0)) (refuse BadHandle) (cond (eqb (read_count old.world.core (handle_file old.world.core h.0) o n) 0) (Some (reply.Bytes [])) (cond (nat_lt MAX_TOUCHED (touched_count old.world.core.sizes.page o (read_count old.world.core (handle_file old.world.core h.0) o n))) (refuse TooLong) rest)) ≡ Some (reply.Refused r) = (λ i. cond (not (sym (opened_is h.0) i)) (refuse BadHandle) (cond (eqb (sym count i) 0) (Some (reply.Bytes [])) (cond (nat_lt MAX_TOUCHED (touched_count (sym page_is i) o (sym count i))) (refuse TooLong) rest))) ∙ e in
        reading (is_open old.world.core h.0) (read_count old.world.core (handle_file old.world.core h.0) o n) old.world.core.sizes.page o rest other (stop_behind mid.world.core (handle_file mid.world.core h.0) _) here
    kept_refuses (event.Write h o b) c e = writes_kept h.0 o (length b) e
    kept_refuses (event.Append h b) c e = writes_kept h.0 (file_at old.world.core (handle_file old.world.core h.0)).size (length b) (ap (λ o. write_tests mid.world.core h.0 o (length b)) (sym (size_is h.0)) ∙ e)
    kept_refuses (event.Truncate h z) c e =
        let rest = stopped mid.world.core (handle_file mid.world.core h.0) (truncate_stop mid.world.core (handle_file mid.world.core h.0) (boundary mid.world.core (handle_file mid.world.core h.0) z)) in
        let other = stopped old.world.core (handle_file old.world.core h.0) (truncate_stop old.world.core (handle_file old.world.core h.0) (boundary old.world.core (handle_file old.world.core h.0) z)) in
        let here : cond (not (is_open old.world.core h.0)) (refuse BadHandle) (cond (nat_lt MAX_FILE_SIZE z) (refuse TooLarge) rest) ≡ Some (reply.Refused r) = (λ i. cond (not (sym (opened_is h.0) i)) (refuse BadHandle) (cond (nat_lt MAX_FILE_SIZE z) (refuse TooLarge) rest)) ∙ e in
        cutting (is_open old.world.core h.0) z rest other (stop_behind mid.world.core (handle_file mid.world.core h.0) _) here
    kept_refuses _ c e = absurd cc

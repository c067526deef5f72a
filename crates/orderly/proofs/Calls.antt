-- How far reads and writes go.
use Rattle.std.proofs.Common.{◌≡◌, ℕ, ◌+◌, ◌-◌, ◌≤◌, not, eqb, eqb-true, List, length, refl, ap, sym, ◌∙◌, arith, inl, inr}
use Rattle.std.specs.Prelude.{◌&&◌, ◌⊎◌, Option, Some, None, min, nat_lt, count_by}
use Rattle.pc_types.specs.declared.limits.TheConstants.{MAX_FILE_SIZE, MAX_TOUCHED}
use Rattle.pc_types.specs.declared.ids.HandleId.{HandleId}
use Rattle.machine.specs.declared.event.Event.TheVariants as event
use Rattle.machine.specs.declared.event.Reply.{Reply}
use Rattle.machine.specs.declared.event.Reply.TheVariants as reply
use Rattle.machine.specs.State.{State, dirty_total, file_at, handle_file, free_blocks, free_frames, is_cached, tags_at, is_open, touched, touched_count, without_block}
use Rattle.machine.specs.Step.{Step}
use Rattle.machine.specs.Tests.{first_of, read_count, read_stop, stopped, tests, room_tests, write_stop, write_tests}
use Rattle.machine.proofs.changes.ChangeLaws.{length-bytes_at}
use Rattle.machine.proofs.steps.Answered.{stopped_quiet}
use Rattle.machine.proofs.steps.Cases.{answered}
use Rattle.machine.proofs.steps.Choices.{quiet_if, quiet_none, quiet_when}
use Rattle.machine.proofs.steps.Passed.{may_write}

-- a page that stands in the way, or what comes behind
pub quiet_first : (H : Reply → Type 0) (s : State) (f : ℕ) (x : Option ℕ) (rest : Option Reply)
    → ((p : ℕ) → H (reply.Wait (record { 0 = p }))) → ((p : ℕ) → H (reply.Miss (record { 0 = p })))
    → ((r : Reply) → rest ≡ Some r → H r) → (r : Reply) → first_of (stopped s f x) rest ≡ Some r → H r
quiet_first H s f None rest w m h r e = h r e
quiet_first H s f (Some p) rest w m h r e = stopped_quiet H s f (Some p) w m r e

abbrev IsEmpty : Reply → Type 0
IsEmpty (reply.Bytes bytes) = length bytes ≡ 0
IsEmpty _ = Unit {0}

empty_read : (s : State) (h : HandleId) (o n : ℕ) (r : Reply) → tests s (event.Read h o n) ≡ Some r → IsEmpty r
empty_read s h o n =
    let f = handle_file s h.0 in
    quiet_if IsEmpty (not (is_open s h.0)) _ _ tt
    (quiet_if IsEmpty (eqb (read_count s f o n) 0) _ _ refl
    (quiet_if IsEmpty (nat_lt MAX_TOUCHED (touched_count s.sizes.page o (read_count s f o n))) _ _ tt
    (stopped_quiet IsEmpty s f (read_stop s f o (read_count s f o n)) (λ p. tt) (λ p. tt))))

read_within : (o n size len m : ℕ) → len ≡ min n (size - o) → size ≤ m → o ≤ m → o + len ≤ m
read_within o n size len m e k l = omega arith

no_further : (o len m : ℕ) → len ≡ 0 → o ≤ m → o + len ≤ m
no_further o len m e l = omega arith

pub read_small : (s new : State) (h : HandleId) (o n : ℕ) (bytes : List ℕ)
    → ((f : ℕ) → (file_at s f).size ≤ MAX_FILE_SIZE) → Step s (event.Read h o n) (reply.Bytes bytes) new
    → o ≤ MAX_FILE_SIZE → o + length bytes ≤ MAX_FILE_SIZE
read_small s new h o n bytes bounded step small =
    let f = handle_file s h.0 in
    elim (answered (tests s (event.Read h o n)) s (event.Read h o n) (reply.Bytes bytes) new step) [
      | inl a ↦ no_further o (length bytes) MAX_FILE_SIZE (empty_read s h o n (reply.Bytes bytes) a.0) small
      | inr a ↦ read_within o n (file_at s f).size (length bytes) MAX_FILE_SIZE (ap length a.1 ∙ length-bytes_at s f o (read_count s f o n)) (bounded f) small
    ]

abbrev IsNone : ℕ → ℕ → Reply → Type 0
IsNone o len (reply.Wrote n end) = (n ≡ len) × (end ≡ o + n) × (len ≡ 0)
IsNone o len _ = Unit {0}

none_written : (s : State) (h o n : ℕ) (r : Reply) → write_tests s h o n ≡ Some r → IsNone o n r
none_written s h o n =
    quiet_if (IsNone o n) (not (is_open s h)) _ _ tt
    (quiet_when (IsNone o n) (eqb n 0) _ _ (λ t. let z = eqb-true n 0 t in (sym z, (omega arith), z))
    (quiet_if (IsNone o n) (nat_lt MAX_TOUCHED (touched_count s.sizes.page o n)) _ _ tt
    (quiet_if (IsNone o n) (nat_lt MAX_FILE_SIZE (o + n)) _ _ tt
    (quiet_first (IsNone o n) s (handle_file s h) (write_stop s (handle_file s h) o n) (room_tests s (handle_file s h) o n) (λ p. tt) (λ p. tt) (none_of_room s (handle_file s h) o n)))))
  where
    none_of_room : (s : State) (f o n : ℕ) (r : Reply) → room_tests s f o n ≡ Some r → IsNone o n r
    none_of_room s f o n =
        let pages = touched s.sizes.page o n in
        let dirtied = count_by (λ p. not (tags_at s f p).dirty) pages in
        quiet_if (IsNone o n) (nat_lt 0 dirtied && nat_lt s.sizes.dirty_limit (dirty_total s + dirtied)) _ _ tt
        (quiet_if (IsNone o n) (nat_lt (free_frames s) (count_by (λ p. not (is_cached s f p)) pages)) _ _ tt
        (quiet_if (IsNone o n) (nat_lt (length (free_blocks s)) (length (without_block s f pages))) _ None tt (quiet_none (IsNone o n))))

ends_within : (o len n end m : ℕ) → end ≡ o + n → n ≡ len → o + len ≤ m → end ≤ m
ends_within o len n end m e f k = omega arith

stays_within : (o len n end m : ℕ) → end ≡ o + n → n ≡ len → len ≡ 0 → o ≤ m → end ≤ m
stays_within o len n end m e f z k = omega arith

-- all of a write was written, at o, and not past the greatest size of a file
pub record IsWhole (o len n end : ℕ) : Type 0 where
  pub count : n ≡ len
  pub ends : end ≡ o + n
  pub small : o ≤ MAX_FILE_SIZE → end ≤ MAX_FILE_SIZE

-- by what its tests say, or its reply where they passed
all_written : (s : State) (h o len n end : ℕ)
    → (write_tests s h o len ≡ Some (reply.Wrote n end)) ⊎ ((write_tests s h o len ≡ None) × ((n ≡ len) × (end ≡ o + len)))
    → IsWhole o len n end
all_written s h o len n end (inl a) =
    let x = none_written s h o len (reply.Wrote n end) a in
    record { count = x.0; ends = x.1; small = stays_within o len n end MAX_FILE_SIZE x.1 x.0 x.2 }
all_written s h o len n end (inr a) =
    let e : end ≡ o + n = a.1.1 ∙ ap (λ k. o + k) (sym a.1.0) in record {
      count = a.1.0;
      ends = e;
      small = λ _. ends_within o len n end MAX_FILE_SIZE e a.1.0 (may_write s h o len a.0).small;
    }

pub write_whole : (s new : State) (h : HandleId) (o : ℕ) (b : List ℕ) (n end : ℕ)
    → Step s (event.Write h o b) (reply.Wrote n end) new → IsWhole o (length b) n end
write_whole s new h o b n end step =
    elim (answered (tests s (event.Write h o b)) s (event.Write h o b) (reply.Wrote n end) new step) [
      | inl a ↦ all_written s h.0 o (length b) n end (inl a.0)
      | inr a ↦ all_written s h.0 o (length b) n end (inr (a.0, a.1))
    ]

pub append_whole : (s new : State) (h : HandleId) (b : List ℕ) (n end : ℕ)
    → Step s (event.Append h b) (reply.Wrote n end) new → IsWhole (file_at s (handle_file s h.0)).size (length b) n end
append_whole s new h b n end step =
    let o = (file_at s (handle_file s h.0)).size in
    elim (answered (tests s (event.Append h b)) s (event.Append h b) (reply.Wrote n end) new step) [
      | inl a ↦ all_written s h.0 o (length b) n end (inl a.0)
      | inr a ↦ all_written s h.0 o (length b) n end (inr (a.0, a.1))
    ]

-- What a test that holds answers: a reply that changes nothing, or, to a write of no bytes, that none were written.
use Rattle.std.proofs.Common.{◌≡◌, ℕ, ◌+◌, Bool, true, false, cond, not, eqb, eqb-true, List, [], ◌∷◌, length, refl, ap}
use Rattle.std.proofs.Common.{arith, inl, inr, ◌&&◌, ◌⊎◌, Option, Some, None, is_some, count_by, nat_lt, nat_le}
use Rattle.std.specs.List.{list_any}
use Rattle.std.specs.FinMap as map
use Rattle.pc_types.specs.declared.ids.HandleId.{HandleId}
use Rattle.pc_types.specs.declared.limits.TheConstants.{MAX_FILES, MAX_FILE_SIZE, MAX_HANDLES, MAX_SYNCS, MAX_TOUCHED}
use Rattle.pc_types.specs.declared.refusal.Refusal.TheVariants.{Memory}
use Rattle.machine.specs.declared.event.Event.{Event}
use Rattle.machine.specs.declared.event.Event.TheVariants as event
use Rattle.machine.specs.declared.event.Reply.{Reply}
use Rattle.machine.specs.declared.event.Reply.TheVariants as reply
use Rattle.machine.specs.State.{State, Sync, file_at, handle_file, is_open, page_count, is_cached, is_filling, tags_at}
use Rattle.machine.specs.State.{is_written, touched, touched_count, free_frames, free_blocks, without_block}
use Rattle.machine.specs.State.{dirty_total}
use Rattle.machine.specs.Changes.{boundary, flush_pick, sync_pick}
use Rattle.machine.specs.Tests.{tests, write_tests, room_tests, read_stop, read_count, write_stop, truncate_stop}
use Rattle.machine.specs.Tests.{stopped, first_of, is_full, is_of, has_idle, start_tests, sync_tests}
use Rattle.machine.proofs.steps.Choices.{quiet_none, quiet_some, quiet_if, quiet_when, quiet_unless}

-- a reply that comes with no change. (`Wait` comes with one where a sync settles its bound.)
abbrev pub is_quiet : Reply → Bool
is_quiet (reply.Refused why) = true
is_quiet (reply.Size z) = true
is_quiet (reply.Bytes b) = true
is_quiet (reply.Wait p) = true
is_quiet (reply.Miss p) = true
is_quiet reply.Gone = true
is_quiet reply.Present = true
is_quiet reply.Nothing = true
is_quiet reply.NoneIdle = true
is_quiet (reply.Aged n) = true
is_quiet _ = false

-- a write of b at o, or an append, which writes at the end
abbrev pub IsWrite : State → Event → HandleId → ℕ → List ℕ → Type 0
IsWrite s e h o b = (e ≡ event.Write h o b) ⊎ ((e ≡ event.Append h b) × (o ≡ (file_at s (handle_file s h.0)).size))

-- a write of no bytes
abbrev pub WritesNone : State → Event → Reply → Type 0
WritesNone s e r = (h : HandleId) × (o : ℕ) × IsWrite s e h o [] × (r ≡ reply.Wrote 0 o)

abbrev Quiet : State → Event → Reply → Type 0
Quiet s e r = (is_quiet r ≡ true) ⊎ WritesNone s e r

-- a quiet reply that is no want of memory
abbrev pub is_told : Reply → Bool
is_told (reply.Refused Memory) = false
is_told r = is_quiet r

told_quiet : (r : Reply) → is_told r ≡ true → is_quiet r ≡ true
told_quiet (reply.Refused Memory) e = absurd cc
told_quiet _ e = e

abbrev Told : State → Event → Reply → Type 0
Told s e r = (is_told r ≡ true) ⊎ WritesNone s e r

pub stopped_quiet : (H : Reply → Type 0) (s : State) (f : ℕ) (o : Option ℕ)
    → ((p : ℕ) → H (reply.Wait (record { 0 = p }))) → ((p : ℕ) → H (reply.Miss (record { 0 = p }))) → (r : Reply)
    → stopped s f o ≡ Some r → H r
stopped_quiet H s f None w m r e = absurd cc
stopped_quiet H s f (Some p) w m r e =
    elim (is_filling s f p) as (λ b. Some (cond b (reply.Wait (record { 0 = p })) (reply.Miss (record { 0 = p })))
    ≡ Some r → H r) [
      | true ↦ λ k. quiet_some H _ r k (w p)
      | false ↦ λ k. quiet_some H _ r k (m p)
    ] e

first_quiet : (H : Reply → Type 0) (s : State) (f : ℕ) (x : Option ℕ) (rest : Option Reply)
    → ((p : ℕ) → H (reply.Wait (record { 0 = p }))) → ((p : ℕ) → H (reply.Miss (record { 0 = p })))
    → ((r : Reply) → rest ≡ Some r → H r) → (r : Reply) → first_of (stopped s f x) rest ≡ Some r → H r
first_quiet H s f None rest a b h r e = h r e
first_quiet H s f (Some p) rest a b h r e = stopped_quiet H s f (Some p) a b r e

nothing : (b : List ℕ) → eqb (length b) 0 ≡ true → b ≡ []
nothing [] e = refl
nothing (x ∷ b) e = absurd (let a = eqb-true (length (x ∷ b)) 0 e in omega arith)

module _ (s : State) where
  -- where all replies of the tests but the one to an empty write are quiet
  write_answers : (H : Reply → Type 0) → ((r : Reply) → is_told r ≡ true → H r) → (h o n : ℕ)
      → (eqb n 0 ≡ true → H (reply.Wrote 0 o)) → (r : Reply) → write_tests s h o n ≡ Some r → H r
  write_answers H quiet h o n none r e =
      let f = handle_file s h in
      let pages = touched s.sizes.page o n in
      let dirtied = count_by (λ p. not (tags_at s f p).dirty) pages in
      quiet_if H (not (is_open s h)) _ _ (quiet _ refl)
      (quiet_when H (eqb n 0) _ _ none
      (quiet_if H (nat_lt MAX_TOUCHED (touched_count s.sizes.page o n)) _ _ (quiet _ refl)
      (quiet_if H (nat_lt MAX_FILE_SIZE (o + n)) _ _ (quiet _ refl)
      (first_quiet H s f (write_stop s f o n) (room_tests s f o n) (λ p. quiet _ refl) (λ p. quiet _ refl)
      (quiet_if H (nat_lt 0 dirtied && nat_lt s.sizes.dirty_limit (dirty_total s + dirtied)) _ _ (quiet _ refl)
      (quiet_if H (nat_lt (free_frames s) (count_by (λ p. not (is_cached s f p)) pages)) _ _ (quiet _ refl)
      (quiet_if H (nat_lt (length (free_blocks s)) (length (without_block s f pages))) _ None (quiet _ refl)
      (quiet_none H)))))))) r e

  start_answers : (H : Reply → Type 0) → ((r : Reply) → is_told r ≡ true → H r) → (f : ℕ) (o : Option ℕ) (r : Reply)
      → start_tests s f o ≡ Some r → H r
  start_answers H quiet f None r e = absurd cc
  start_answers H quiet f (Some p) r e = quiet_if H (tags_at s f p).writeback _ _ (quiet _ refl)
      (quiet_if H (is_full s) _ None (quiet _ refl) (quiet_none H)) r e

  sync_answers : (H : Reply → Type 0) → ((r : Reply) → is_told r ≡ true → H r) → (o : Option Sync) (r : Reply)
      → sync_tests s o ≡ Some r → H r
  sync_answers H quiet None r e = quiet_some H _ r e (quiet _ refl)
  sync_answers H quiet (Some y) r e = start_answers H quiet (handle_file s y.handle) (sync_pick s y) r e

  size_answers : (H : Reply → Type 0) → ((r : Reply) → is_told r ≡ true → H r) → (b : Bool) (z : ℕ) (why : Reply)
      → is_told why ≡ true → (r : Reply) → cond b (Some (reply.Size z)) (Some why) ≡ Some r → H r
  size_answers H quiet true z why q r e = quiet_some H _ r e (quiet _ refl)
  size_answers H quiet false z why q r e = quiet_some H _ r e (quiet _ q)

  pub tells : (e : Event) (r : Reply) → tests s e ≡ Some r → Told s e r
  tells event.Create r t = quiet_if (Told s event.Create) (nat_le MAX_FILES (length s.files)) _ None (inl refl)
      (quiet_none (Told s event.Create)) r t
  tells (event.Open f) r t = let H = Told s (event.Open f) in
      quiet_if H (nat_le (length s.files) f.0) _ _ (inl refl)
      (quiet_if H (nat_le MAX_HANDLES (map.len s.handles)) _ None (inl refl) (quiet_none H)) r t
  tells (event.Close h) r t = let H = Told s (event.Close h) in
      quiet_if H (not (is_open s h.0)) _ _ (inl refl)
      (quiet_if H (list_any (λ (y : Sync). eqb y.handle h.0) (map.values s.syncs)) _ None (inl refl) (quiet_none H)) r t
  tells (event.Size h) r t = size_answers (Told s (event.Size h)) (λ r q. inl q) (is_open s h.0) _ _ refl r t
  tells (event.Read h o n) r t =
      let H = Told s (event.Read h o n) in
      let f = handle_file s h.0 in
      let count = read_count s f o n in
      quiet_if H (not (is_open s h.0)) _ _ (inl refl)
      (quiet_if H (eqb count 0) _ _ (inl refl)
      (quiet_if H (nat_lt MAX_TOUCHED (touched_count s.sizes.page o count)) _ _ (inl refl)
      (stopped_quiet H s f (read_stop s f o count) (λ p. inl refl) (λ p. inl refl)))) r t
  tells (event.Write h o b) r t = write_answers (Told s (event.Write h o b)) (λ r q. inl q) h.0 o (length b)
      (λ e. inr (h, o, inl (ap (event.Write h o) (nothing b e)), refl)) r t
  tells (event.Append h b) r t = let o = (file_at s (handle_file s h.0)).size in
      write_answers (Told s (event.Append h b)) (λ r q. inl q) h.0 o (length b)
      (λ e. inr (h, o, inr (ap (event.Append h) (nothing b e), refl), refl)) r t
  tells (event.Truncate h z) r t =
      let H = Told s (event.Truncate h z) in
      let f = handle_file s h.0 in
      quiet_if H (not (is_open s h.0)) _ _ (inl refl)
      (quiet_if H (nat_lt MAX_FILE_SIZE z) _ _ (inl refl)
      (stopped_quiet H s f (truncate_stop s f (boundary s f z)) (λ p. inl refl) (λ p. inl refl))) r t
  tells (event.FillBegin h p) r t =
      let H = Told s (event.FillBegin h p) in
      let f = handle_file s h.0 in
      quiet_if H (not (is_open s h.0)) _ _ (inl refl)
      (quiet_if H (nat_le (page_count s.sizes.page (file_at s f).size) p.0) _ _ (inl refl)
      (quiet_if H (is_filling s f p.0) _ _ (inl refl)
      (quiet_if H (is_cached s f p.0) _ _ (inl refl)
      (quiet_if H (eqb (free_frames s) 0) _ _ (inl refl)
      (quiet_if H (is_written s f p.0 && is_full s) _ None (inl refl) (quiet_none H)))))) r t
  tells (event.FlushBegin f) r t = let H = Told s (event.FlushBegin f) in
      quiet_if H (nat_le (length s.files) f.0) _ _ (inl refl)
      (quiet_if H (not (is_some (flush_pick (file_at s f.0)))) _ _ (inl refl)
      (quiet_if H (is_full s) _ None (inl refl) (quiet_none H))) r t
  tells (event.End kind end) r t =
      quiet_unless (Told s (event.End kind end))
      (eqb end.cache s.name && is_of kind end (map.get s.requests end.serial.0)) _ (inl refl) r t
  tells event.Evict r t = quiet_unless (Told s event.Evict) (has_idle s) _ (inl refl) r t
  tells event.Age r t = absurd cc
  tells (event.SyncBegin h first last) r t = let H = Told s (event.SyncBegin h first last) in
      quiet_if H (not (is_open s h.0)) _ _ (inl refl)
      (quiet_if H (nat_lt last.0 first.0) _ _ (inl refl)
      (quiet_if H (nat_le MAX_SYNCS (map.len s.syncs)) _ None (inl refl) (quiet_none H))) r t
  tells (event.SyncStep m) r t = sync_answers (Told s (event.SyncStep m)) (λ r q. inl q) (map.get s.syncs m.0) r t
  tells (event.SyncDrop m) r t = quiet_unless (Told s (event.SyncDrop m)) (is_some (map.get s.syncs m.0)) _
      (inl refl) r t

  pub answers : (e : Event) (r : Reply) → tests s e ≡ Some r → Quiet s e r
  answers e r t = elim (tells e r t) [ inl a ↦ inl (told_quiet r a) | inr a ↦ inr a ]

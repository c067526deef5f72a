-- What stands in the way of a read, a write or a truncation that is not over: a page that it lacks, or room that it wants.
use Rattle.std.proofs.Common.{◌≡◌, ℕ, ◌+◌, ◌-◌, ◌/◌, ◌<◌, ◌≤◌, Bool, true, false, cond, not, eqb, [], length, refl, ap, sym, subst, ◌∙◌, arith, inl, inr}
use Rattle.std.specs.Prelude.{◌&&◌, ◌||◌, ◌⊎◌, Option, Some, None, is_some, option_map, unwrap_or, min, nat_le, nat_lt, if◌then◌else◌}
use Rattle.std.proofs.lemmas.Bool.Decides.{nat_tests}
use Rattle.atomic_table.specs.Seated.{TableId}
use Rattle.pc_types.specs.Spots.{Spot}
use Rattle.pc_types.specs.declared.limits.TheConstants.{MAX_FILE_SIZE, MAX_TOUCHED}
use Rattle.pc_types.specs.declared.refusal.Refusal.TheVariants.{BadHandle, TooLong}
use Rattle.machine.specs.declared.event.Event.TheVariants as event
use Rattle.machine.specs.declared.event.Reply.{Reply}
use Rattle.machine.specs.declared.event.Reply.TheVariants as reply
use Rattle.machine.specs.Changes.{boundary}
use Rattle.machine.specs.State.{State, dirty_total, file_at, handle_file, free_blocks, free_frames, is_cached, is_filling, is_open, is_written, page_count, spot_at, touched, touched_count, without_block}
use Rattle.filesvc.specs.Rooms.{first_page, last_page, IsMissed, Stops}
use Rattle.machine.specs.Tests.{covers, first_of, must_fill, read_count, read_stop, tests, room_tests, stopped, truncate_stop, write_stop, write_tests}
use Rattle.cachecore.specs.Wants.{dirtied, lacking, lacks_frames, may_touch, passes_limit}
use Rattle.machine.proofs.steps.Choices.{not_true, quiet_none}
use Rattle.runs.proofs.bytes.CutLaws.{touched_in}
use Rattle.filesvc.specs.Rests.{IsServing}
use Rattle.filesvc.specs.Seen.{SoloSeen}
use Rattle.filesvc.specs.Service.{is_settled, wants}
use Rattle.filesvc.proofs.Fills.{none_fills}
use Rattle.filesvc.proofs.Needs.{wants_clean, wants_frames}
use Rattle.filesvc.proofs.Touched.{found_in}

-- ---- tests, one after another

else_when : (P : Reply → Type 0) (b : Bool) (x : Reply) (o : Option Reply) → (b ≡ true → P x) → (b ≡ false → (r : Reply) → o ≡ Some r → P r) → (r : Reply) → cond b (Some x) o ≡ Some r → P r
else_when P true x o f g r e = (let same : x ≡ r = cc in subst P same (f refl))
else_when P false x o f g r e = g refl r e

stop_when : (P : Reply → Type 0) (s : State) (f : ℕ) (x : Option ℕ) → ((p : ℕ) → x ≡ Some p → P (reply.Wait (record { 0 = p }))) → ((p : ℕ) → x ≡ Some p → P (reply.Miss (record { 0 = p }))) → (r : Reply) → stopped s f x ≡ Some r → P r
stop_when P s f None a b r e = absurd cc
stop_when P s f (Some p) a b r e = by (is_filling s f p) e
  where
    by : (c : Bool) → Some (if c then reply.Wait (record { 0 = p }) else reply.Miss (record { 0 = p })) ≡ Some r → P r
    by true k = (let same : reply.Wait (record { 0 = p }) ≡ r = cc in subst P same (a p refl))
    by false k = (let same : reply.Miss (record { 0 = p }) ≡ r = cc in subst P same (b p refl))

stop_or : (P : Reply → Type 0) (s : State) (f : ℕ) (x : Option ℕ) (rest : Option Reply) → ((p : ℕ) → x ≡ Some p → P (reply.Wait (record { 0 = p }))) → ((p : ℕ) → x ≡ Some p → P (reply.Miss (record { 0 = p }))) → ((r : Reply) → rest ≡ Some r → P r) → (r : Reply) → first_of (stopped s f x) rest ≡ Some r → P r
stop_or P s f None rest a b h r e = h r e
stop_or P s f (Some p) rest a b h r e = stop_when P s f (Some p) a b r e

-- ---- what they say

-- the page that a reply names
abbrev named : Reply → ℕ
named (reply.Miss p) = p.0
named (reply.Wait p) = p.0
named r = 0

may_if : (a : Bool) (n t z : ℕ) → not a ≡ false → 0 < n → t ≤ MAX_TOUCHED → z ≤ MAX_FILE_SIZE → (a && nat_lt 0 n && nat_le t MAX_TOUCHED && nat_le z MAX_FILE_SIZE) ≡ true
may_if false n t z e some few small = absurd cc
may_if true n t z e some few small = by (nat_lt 0 n) (nat_le t MAX_TOUCHED) (nat_le z MAX_FILE_SIZE) (grind (arith, nat_tests)) (grind (arith, nat_tests)) (grind (arith, nat_tests))
  where
    by : (b c d : Bool) → b ≡ true → c ≡ true → d ≡ true → (true && b && c && d) ≡ true
    by true true true x y z = refl
    by false c d x y z = absurd cc
    by true false d x y z = absurd cc
    by true true false x y z = absurd cc

some_of : (n : ℕ) → eqb n 0 ≡ false → 0 < n
some_of n e = grind (arith, nat_tests)

few_of : (t m : ℕ) → nat_lt m t ≡ false → t ≤ m
few_of t m e = grind (arith, nat_tests)

last_of : (a b p : ℕ) → a ≤ p → p < a + (b + 1 - a) → p ≤ b
last_of a b p l m = omega arith

missing : (a b : Bool) → (not a && b) ≡ true → (a ≡ false) × (b ≡ true)
missing true b e = absurd cc
missing false b e = (refl, e)

stops_by : (a b c : Bool) → a ≡ false → (a || (b && not c)) ≡ true → b ≡ true
stops_by true b c f e = absurd cc
stops_by false true c f e = refl
stops_by false false c f e = absurd cc

written_there : (o : Option Spot) → nat_lt 0 (unwrap_or (option_map (λ (spot : Spot). spot.valid) o) 0) ≡ true → is_some o ≡ true
written_there None e = absurd cc
written_there (Some x) e = refl

touches_in : (P a b p : ℕ) → a ≤ p → p ≤ b → (nat_le a p && nat_le p b) ≡ true
touches_in P a b p l m = by (nat_le a p) (nat_le p b) (grind (arith, nat_tests)) (grind (arith, nat_tests))
  where
    by : (x y : Bool) → x ≡ true → y ≡ true → (x && y) ≡ true
    by true true x y = refl
    by false y e k = absurd cc
    by true false e k = absurd cc

module _ (name : ℕ) (s : SoloSeen) (table : TableId) (i : IsServing name s.world table s.errors) (h : ℕ) where
  -- a page that has to be read first
  filled_first : (p : ℕ) → must_fill s.world.core (handle_file s.world.core h) p ≡ true
      → (is_cached s.world.core (handle_file s.world.core h) p ≡ false)
      × (p < page_count s.world.core.sizes.page (file_at s.world.core (handle_file s.world.core h)).size)
  filled_first p e =
      let x = missing (is_cached s.world.core (handle_file s.world.core h) p) (is_written s.world.core (handle_file s.world.core h) p) e in (
        x.0,
        i.orderly.within (handle_file s.world.core h) p
            (written_there (spot_at s.world.core (handle_file s.world.core h) p) x.1),
      )

  -- ---- a read

  read_end : (o n k size : ℕ) → k ≡ min n (size - o) → 0 < k → o + k ≤ size
  read_end o n k size e some = omega arith

  pub read_stops : (o n : ℕ) (r : Reply) → tests s.world.core (event.Read (record { 0 = h }) o n) ≡ Some r → (p : ℕ) → (r ≡ reply.Miss (record { 0 = p })) ⊎ (r ≡ reply.Wait (record { 0 = p })) → IsMissed s h o (read_count s.world.core (handle_file s.world.core h) o n) p
  read_stops o n r e = all r e
    where
      k : ℕ
      k = read_count s.world.core (handle_file s.world.core h) o n

      P : Reply → Type 0
      P r = (p : ℕ) → (r ≡ reply.Miss (record { 0 = p })) ⊎ (r ≡ reply.Wait (record { 0 = p })) → IsMissed s h o (read_count s.world.core (handle_file s.world.core h) o n) p

      missed : not (is_open s.world.core h) ≡ false → eqb k 0 ≡ false → nat_lt MAX_TOUCHED (touched_count s.world.core.sizes.page o k) ≡ false → (p : ℕ) → read_stop s.world.core (handle_file s.world.core h) o k ≡ Some p → IsMissed s h o (read_count s.world.core (handle_file s.world.core h) o n) p
      missed opened full few p found =
          let x = found_in (λ q. not (is_cached s.world.core (handle_file s.world.core h) q)) (first_page s.world.core.sizes.page o) (touched_count s.world.core.sizes.page o k) p found in
          let some = some_of k full in
          let most = i.bounded (handle_file s.world.core h) in
          let end = read_end o n k (file_at s.world.core (handle_file s.world.core h)).size refl some in
          let last = last_of (first_page s.world.core.sizes.page o) (last_page s.world.core.sizes.page o k) p x.1 x.2 in
          record {
            may = may_if (is_open s.world.core h) k (touched_count s.world.core.sizes.page o k) (o + k) opened some (few_of _ _ few) (omega arith);
            first = x.1;
            last = last;
            absent = not_true (is_cached s.world.core (handle_file s.world.core h) p) x.0;
            within = touched_in s.world.core.sizes.page o k p
                (file_at s.world.core (handle_file s.world.core h)).size i.orderly.positive some end
                (touches_in s.world.core.sizes.page (first_page s.world.core.sizes.page o)
                (last_page s.world.core.sizes.page o k) p x.1 last);
          }

      all : (r : Reply) → tests s.world.core (event.Read (record { 0 = h }) o n) ≡ Some r → P r
      all =
          else_when P (not (is_open s.world.core h)) _ _ (λ _ p a. elim a [ inl z ↦ absurd cc | inr z ↦ absurd cc ])
          (λ opened. else_when P (eqb k 0) _ _ (λ _ p a. elim a [ inl z ↦ absurd cc | inr z ↦ absurd cc ])
          (λ full. else_when P (nat_lt MAX_TOUCHED (touched_count s.world.core.sizes.page o k)) _ _ (λ _ p a. elim a [ inl z ↦ absurd cc | inr z ↦ absurd cc ])
          (λ few. stop_when P s.world.core (handle_file s.world.core h) (read_stop s.world.core (handle_file s.world.core h) o k)
          (λ q found p a. elim a [ inl z ↦ absurd cc | inr z ↦ (let same : q ≡ p = ap named z in subst (IsMissed s h o k) same (missed opened full few q found)) ])
          (λ q found p a. elim a [ inl z ↦ (let same : q ≡ p = ap named z in subst (IsMissed s h o k) same (missed opened full few q found)) | inr z ↦ absurd cc ]))))

  -- ---- a write

  wants_some : (o n : ℕ) → (lacks_frames s.world.core h o n ≡ true) ⊎ (passes_limit s.world.core h o n ≡ true) → is_some (wants true s.world.core h o n) ≡ true
  wants_some o n (inl e) = ap is_some (wants_frames true s.world.core h o n e)
  wants_some o n (inr e) = by (lacks_frames s.world.core h o n) refl
    where
      by : (b : Bool) → lacks_frames s.world.core h o n ≡ b → is_some (wants true s.world.core h o n) ≡ true
      by true k = ap is_some (wants_frames true s.world.core h o n k)
      by false k = ap is_some (wants_clean true s.world.core h o n k e)

  pub write_stops : (o n : ℕ) (r : Reply) → write_tests s.world.core h o n ≡ Some r → Stops s h o n r
  write_stops o n =
      else_when (Stops s h o n) (not (is_open s.world.core h)) _ _ (λ _. tt)
      (λ opened. else_when (Stops s h o n) (eqb n 0) _ _ (λ _. tt)
      (λ full. else_when (Stops s h o n) (nat_lt MAX_TOUCHED (touched_count s.world.core.sizes.page o n)) _ _ (λ _. tt)
      (λ few. else_when (Stops s h o n) (nat_lt MAX_FILE_SIZE (o + n)) _ _ (λ _. tt)
      (λ small. stop_or (Stops s h o n) s.world.core (handle_file s.world.core h) (write_stop s.world.core (handle_file s.world.core h) o n) (room_tests s.world.core (handle_file s.world.core h) o n) (missed opened full few small) (missed opened full few small) (room opened full few small)))))
    where
      may : not (is_open s.world.core h) ≡ false → eqb n 0 ≡ false → nat_lt MAX_TOUCHED (touched_count s.world.core.sizes.page o n) ≡ false → nat_lt MAX_FILE_SIZE (o + n) ≡ false → may_touch s.world.core h o n ≡ true
      may opened full few small = may_if (is_open s.world.core h) n (touched_count s.world.core.sizes.page o n) (o + n) opened (some_of n full) (few_of _ _ few) (few_of _ _ small)

      missed : not (is_open s.world.core h) ≡ false → eqb n 0 ≡ false → nat_lt MAX_TOUCHED (touched_count s.world.core.sizes.page o n) ≡ false → nat_lt MAX_FILE_SIZE (o + n) ≡ false → (p : ℕ) → write_stop s.world.core (handle_file s.world.core h) o n ≡ Some p → IsMissed s h o n p
      missed opened full few small p found =
          let x = found_in (λ q. is_filling s.world.core (handle_file s.world.core h) q || (must_fill s.world.core (handle_file s.world.core h) q && not (covers s.world.core.sizes.page o n q))) (first_page s.world.core.sizes.page o) (touched_count s.world.core.sizes.page o n) p found in
          let y = filled_first p (stops_by (is_filling s.world.core (handle_file s.world.core h) p) (must_fill s.world.core (handle_file s.world.core h) p) (covers s.world.core.sizes.page o n p) (none_fills s.world.core (handle_file s.world.core h) p i.rests.requests) x.0) in
          record {
            may = may opened full few small;
            first = x.1;
            last = last_of (first_page s.world.core.sizes.page o) (last_page s.world.core.sizes.page o n) p x.1 x.2;
            absent = y.0;
            within = y.1;
          }

      both : (a b : Bool) → a ≡ true → b ≡ true → (a && b) ≡ true
      both true true x y = refl
      both false b x y = absurd cc
      both true false x y = absurd cc

      room : not (is_open s.world.core h) ≡ false → eqb n 0 ≡ false → nat_lt MAX_TOUCHED (touched_count s.world.core.sizes.page o n) ≡ false → nat_lt MAX_FILE_SIZE (o + n) ≡ false → (r : Reply) → room_tests s.world.core (handle_file s.world.core h) o n ≡ Some r → Stops s h o n r
      room opened full few small =
          let m = may opened full few small in
          let g = handle_file s.world.core h in
          let d = dirtied s.world.core g o n in
          else_when (Stops s h o n) (nat_lt 0 d && nat_lt s.world.core.sizes.dirty_limit (dirty_total s.world.core + d)) _ _ (λ t. wants_some o n (inr (both (may_touch s.world.core h o n) _ m t)))
          (λ _. else_when (Stops s h o n) (nat_lt (free_frames s.world.core) (lacking s.world.core g o n)) _ _ (λ t. wants_some o n (inl (both (may_touch s.world.core h o n) _ m t)))
          (λ _. else_when (Stops s h o n) (nat_lt (length (free_blocks s.world.core)) (length (without_block s.world.core g (touched s.world.core.sizes.page o n)))) _ None (λ _. tt) (λ _. quiet_none (Stops s h o n))))

  -- ---- a truncation

  pub truncate_stops : (z : ℕ) (r : Reply) → tests s.world.core (event.Truncate (record { 0 = h }) z) ≡ Some r → (p : ℕ) → (r ≡ reply.Miss (record { 0 = p })) ⊎ (r ≡ reply.Wait (record { 0 = p })) → IsMissed s h z (read_count s.world.core (handle_file s.world.core h) z 1) p
  truncate_stops z r e = all r e
    where
      -- the byte behind the new end
      count : ℕ
      count = read_count s.world.core (handle_file s.world.core h) z 1

      P : Reply → Type 0
      P r = (p : ℕ) → (r ≡ reply.Miss (record { 0 = p })) ⊎ (r ≡ reply.Wait (record { 0 = p })) → IsMissed s h z count p

      same_page : (a b : ℕ) → b ≡ a → b + 1 - a ≤ 16
      same_page a b e = omega arith

      cut : (x : Option ℕ) (p : ℕ) → truncate_stop s.world.core (handle_file s.world.core h) x ≡ Some p → (x ≡ Some p) × (must_fill s.world.core (handle_file s.world.core h) p ≡ true)
      cut None p e = absurd cc
      cut (Some q) p e = by (is_filling s.world.core (handle_file s.world.core h) q) (must_fill s.world.core (handle_file s.world.core h) q) (none_fills s.world.core (handle_file s.world.core h) q i.rests.requests) refl e
        where
          by : (a b : Bool) → a ≡ false → must_fill s.world.core (handle_file s.world.core h) q ≡ b → (if a || b then Some q else None) ≡ Some p → (Some q ≡ Some p) × (must_fill s.world.core (handle_file s.world.core h) p ≡ true)
          by true b x y k = absurd cc
          by false true x y k = (k, (let same : q ≡ p = cc in ap (must_fill s.world.core (handle_file s.world.core h)) (sym same) ∙ y))
          by false false x y k = absurd cc

      at : (a b : Bool) (q p : ℕ) → (if a && b then Some q else None) ≡ Some p → (a ≡ true) × (q ≡ p)
      at true true q p e = (refl, (let same : q ≡ p = cc in same))
      at true false q p e = absurd cc
      at false b q p e = absurd cc

      missed : not (is_open s.world.core h) ≡ false → (p : ℕ) → truncate_stop s.world.core (handle_file s.world.core h) (boundary s.world.core (handle_file s.world.core h) z) ≡ Some p → IsMissed s h z count p
      missed opened p found =
          let x = cut (boundary s.world.core (handle_file s.world.core h) z) p found in
          let y = at (nat_lt z (file_at s.world.core (handle_file s.world.core h)).size) _ (z / s.world.core.sizes.page) p x.0 in
          let shorter : z < (file_at s.world.core (handle_file s.world.core h)).size = less (file_at s.world.core (handle_file s.world.core h)).size y.0 in
          let most = i.bounded (handle_file s.world.core h) in
          let v = filled_first p x.1 in
          let one : z + 1 - 1 ≡ z = omega arith in
          let end : last_page s.world.core.sizes.page z 1 ≡ first_page s.world.core.sizes.page z = ap (λ k. k / s.world.core.sizes.page) one in
          subst (λ n. IsMissed s h z n p) (one_byte (file_at s.world.core (handle_file s.world.core h)).size shorter)
          (record {
            may = may_if (is_open s.world.core h) 1 (touched_count s.world.core.sizes.page z 1) (z + 1) opened (omega arith) (same_page (first_page s.world.core.sizes.page z) (last_page s.world.core.sizes.page z 1) end) (omega arith);
            first = (let k = y.1 in omega arith);
            last = (let k = y.1 in omega arith);
            absent = v.0;
            within = v.1;
          })
        where
          one_byte : (size : ℕ) → z < size → 1 ≡ min 1 (size - z)
          one_byte size l = omega arith

          less : (size : ℕ) → nat_lt z size ≡ true → z < size
          less size e = grind (arith, nat_tests)

      all : (r : Reply) → tests s.world.core (event.Truncate (record { 0 = h }) z) ≡ Some r → P r
      all =
          else_when P (not (is_open s.world.core h)) _ _ (λ _ p a. elim a [ inl x ↦ absurd cc | inr x ↦ absurd cc ])
          (λ opened. else_when P (nat_lt MAX_FILE_SIZE z) _ _ (λ _ p a. elim a [ inl x ↦ absurd cc | inr x ↦ absurd cc ])
          (λ _. stop_when P s.world.core (handle_file s.world.core h) (truncate_stop s.world.core (handle_file s.world.core h) (boundary s.world.core (handle_file s.world.core h) z))
          (λ q found p a. elim a [ inl x ↦ absurd cc | inr x ↦ (let same : q ≡ p = ap named x in subst (IsMissed s h z count) same (missed opened q found)) ])
          (λ q found p a. elim a [ inl x ↦ (let same : q ≡ p = ap named x in subst (IsMissed s h z count) same (missed opened q found)) | inr x ↦ absurd cc ])))

-- ---- how many pages are touched by a call that is not over at once

-- a test that settles what it answers
past_test : (b : Bool) (x : Reply) (o : Option Reply) → is_settled (Some x) ≡ true → is_settled (cond b (Some x) o) ≡ false → (b ≡ false) × (is_settled o ≡ false)
past_test true x o t u = absurd (let e : true ≡ false = sym t ∙ u in cc)
past_test false x o t u = (refl, u)

pub read_few : (s : State) (h o n : ℕ) → is_settled (tests s (event.Read (record { 0 = h }) o n)) ≡ false → touched_count s.sizes.page o (read_count s (handle_file s h) o n) ≤ MAX_TOUCHED
read_few s h o n u =
    let k = read_count s (handle_file s h) o n in
    let a = past_test (not (is_open s h)) (reply.Refused BadHandle) _ refl u in
    let b = past_test (eqb k 0) (reply.Bytes []) _ refl a.1 in
    let c = past_test (nat_lt MAX_TOUCHED (touched_count s.sizes.page o k)) (reply.Refused TooLong) _ refl b.1 in
    few_of _ _ c.0

pub write_few : (s : State) (h o n : ℕ) → is_settled (write_tests s h o n) ≡ false → touched_count s.sizes.page o n ≤ MAX_TOUCHED
write_few s h o n u =
    let a = past_test (not (is_open s h)) (reply.Refused BadHandle) _ refl u in
    let b = past_test (eqb n 0) (reply.Wrote 0 o) _ refl a.1 in
    let c = past_test (nat_lt MAX_TOUCHED (touched_count s.sizes.page o n)) (reply.Refused TooLong) _ refl b.1 in
    few_of _ _ c.0

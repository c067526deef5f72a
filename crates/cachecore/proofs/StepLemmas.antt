-- What the calls answer is a step of the machine: from what the code knows on each of its ways.
use Rattle.std.proofs.Common.{◌≡◌, ℕ, ◌+◌, ◌-◌, ◌/◌, ◌%◌, ◌<◌, ◌≤◌, min, Bool, true, false, cond, not, eqb, List, []}
use Rattle.std.proofs.Common.{◌∷◌, ◌++◌}
use Rattle.std.proofs.Common.{length, get_or, take, refl, ap, sym, subst, ◌∙◌, arith, length-append}
use Rattle.std.specs.Prelude.{◌&&◌, ◌||◌, Option, Some, None, is_some, unwrap_or, find, nat_lt, nat_le, Result, Ok, Err}
use Rattle.std.specs.Prelude.{IsErrAnd}
use Rattle.std.specs.List.{range_with_len, list_any}
use Rattle.std.specs.FinMap as finmap
use Rattle.std.proofs.lemmas.Bool.Decides.{nat_tests}
use Rattle.std.proofs.lemmas.Grind.{same_number_lists}
use Rattle.std.proofs.lemmas.List.{get_or-take, length-take, get_or_append_left}
use Rattle.pc_types.specs.declared.ids.FileId.{FileId}
use Rattle.pc_types.specs.declared.ids.HandleId.{HandleId}
use Rattle.pc_types.specs.declared.ids.PageIndex.{PageIndex}
use Rattle.pc_types.specs.declared.limits.TheConstants.{MAX_FILES, MAX_HANDLES, MAX_TOUCHED, MAX_FILE_SIZE}
use Rattle.pc_types.specs.declared.refusal.Refusal.{Refusal}
use Rattle.pc_types.specs.declared.refusal.Refusal.TheVariants.{Busy, TooLong, TooLarge, NoFrame, Memory}
use Rattle.pc_types.specs.declared.refusal.Refusal.TheVariants.{TooManyInFlight}
use Rattle.machine.specs.declared.event.Event.{Event}
use Rattle.machine.specs.declared.event.Event.TheVariants as event
use Rattle.machine.specs.declared.event.Reply.{Reply}
use Rattle.machine.specs.declared.event.Reply.TheVariants as reply
use Rattle.machine.specs.State.{State, File, Sync, no_file, file_at, handle_file, is_open, is_cached, is_filling}
use Rattle.machine.specs.State.{is_written}
use Rattle.machine.specs.State.{touched_count, bytes_at, page_count, free_frames}
use Rattle.machine.specs.Changes.{boundary, changed, truncated, written}
use Rattle.machine.specs.Tests.{tests, read_count, read_stop, write_stop, truncate_stop, must_fill, stopped, first_of}
use Rattle.machine.specs.Tests.{refuse, room_tests, write_tests, is_full}
use Rattle.machine.specs.Step.{IsLowest, Step, AnswersOr, MayReply, wants_memory}
use Rattle.machine.proofs.changes.ChangeLaws.{byte-bytes_at, length-bytes_at}
use Rattle.machine.proofs.steps.Choices.{at_true, at_false}
use Rattle.pagestore.specs.Ranges.{AreRead, page_byte}

-- what `?` makes of an error
pub err_is : {A E : Type 0} (r : Result A E) (e : E) → IsErrAnd r (λ x. x ≡ e) → r ≡ Err e
err_is (Ok x) e h = absurd h
err_is (Err x) e h = ap Err h

-- ---- a step from its tests

-- the test that holds gives the reply
pub by_test : (s : State) (e : Event) (r : Reply) → tests s e ≡ Some r → Step s e r s
by_test s e r t = subst (λ o. AnswersOr o s e r s) (sym t) (refl, refl)

-- no test holds, and the event happens
pub by_change : (s : State) (e : Event) (r : Reply) (new : State) → tests s e ≡ None → MayReply s e r
    → new ≡ changed s e r → Step s e r new
by_change s e r new t may is = subst (λ o. AnswersOr o s e r new) (sym t) (may, is)

within : (m k : ℕ) → k ≤ m → nat_lt m k ≡ false
within m k p = grind (arith, nat_tests)

past : (m k : ℕ) → m < k → nat_lt m k ≡ true
past m k p = grind (arith, nat_tests)

under : (m k : ℕ) → k < m → nat_le m k ≡ false
under m k p = grind (arith, nat_tests)

pub above_zero : (k : ℕ) → 0 < k → eqb k 0 ≡ false
above_zero k p = grind (arith, nat_tests)

-- Wait or Miss, by whether the page is filling
abbrev pub waits_for : Bool → ℕ → Reply
waits_for b p = cond b (reply.Wait (record { 0 = p })) (reply.Miss (record { 0 = p }))

-- ---- files and handles

pub create_step : (s : State) → length s.files < MAX_FILES
    → Step s event.Create (reply.File (record { 0 = length s.files })) (record s { files = s.files ++ no_file ∷ [] })
create_step s few = by_change s event.Create (reply.File (record { 0 = length s.files })) _
    (at_false _ _ _ (under MAX_FILES (length s.files) few)) refl refl

pub open_step : (s : State) (f : FileId) (h : HandleId) → f.0 < length s.files → finmap.len s.handles < MAX_HANDLES
    → IsLowest (is_open s) h.0
    → Step s (event.Open f) (reply.Handle h) (record s { handles = finmap.insert s.handles h.0 f.0 })
open_step s f h here room lowest =
    by_change s (event.Open f) (reply.Handle h) _
    (at_false _ _ _ (under (length s.files) f.0 here) ∙ at_false _ _ _ (under MAX_HANDLES (finmap.len s.handles) room))
    lowest refl

module _ (s : State) (h : HandleId) (there : is_some (finmap.get s.handles h.0) ≡ true) where
  pub close_step : list_any (λ (y : Sync). eqb y.handle h.0) (finmap.values s.syncs) ≡ false
      → Step s (event.Close h) reply.Closed (record s { handles = finmap.remove s.handles h.0 })
  close_step unused = by_change s (event.Close h) reply.Closed _
      (at_false _ _ _ (ap not there) ∙ at_false _ _ _ unused) tt refl

  pub busy_step : list_any (λ (y : Sync). eqb y.handle h.0) (finmap.values s.syncs) ≡ true
      → Step s (event.Close h) (reply.Refused Busy) s
  busy_step used = by_test s (event.Close h) (reply.Refused Busy)
      (at_false _ _ _ (ap not there) ∙ at_true _ _ _ used)

-- the file of an open handle
module _ (s : State) (h : HandleId) (f : ℕ) (found : Some f ≡ finmap.get s.handles h.0) where
  pub opened : not (is_open s h.0) ≡ false
  opened = ap (λ (o : Option ℕ). not (is_some o)) (sym found)

  pub file_is : handle_file s h.0 ≡ f
  file_is = ap (λ (o : Option ℕ). unwrap_or o 0) (sym found)

-- ---- reads

-- what the code knows of a read that has bytes to read
pub record ReadFacts (s : State) (h : HandleId) (o n f P count : ℕ) (entry : File) : Type 0 where
  pub found : Some f ≡ finmap.get s.handles h.0
  pub page : P ≡ s.sizes.page
  pub entry_is : entry ≡ file_at s f
  pub count_is : count ≡ min (entry.size - o) n
  pub some : 0 < count

-- the first of the pages that n bytes at o touch that is absent
abbrev pub first_absent : File → ℕ → ℕ → ℕ → Option ℕ
first_absent file P o n =
    find (λ p. not (is_some (finmap.get file.pages p))) (range_with_len (o / P) ((o + n - 1) / P + 1 - o / P))

module _ (s : State) (h : HandleId) (o n f P count : ℕ) (entry : File) (c : ReadFacts s h o n f P count entry) where
  abbrev reading : Event
  reading = event.Read h o n

  abbrev g : ℕ
  g = handle_file s h.0

  file_of : f ≡ g
  file_of = sym (file_is s h f c.found)

  entry_of : entry ≡ file_at s g
  entry_of = c.entry_is ∙ ap (file_at s) file_of

  count_of : count ≡ read_count s g o n
  count_of = c.count_is ∙ (let k : min (entry.size - o) n ≡ min n (entry.size - o) = omega arith in k)
      ∙ ap (λ (x : File). min n (x.size - o)) entry_of

  not_zero : eqb (read_count s g o n) 0 ≡ false
  not_zero = ap (λ k. eqb k 0) (sym count_of) ∙ above_zero count c.some

  long_is : touched_count P o count ≡ touched_count s.sizes.page o (read_count s g o n)
  long_is = λ i. touched_count (c.page i) o (count_of i)

  pub read_too_long : MAX_TOUCHED < touched_count P o count → Step s (event.Read h o n) (reply.Refused TooLong) s
  read_too_long long = by_test s reading (reply.Refused TooLong)
      (at_false _ _ _ (opened s h f c.found) ∙ at_false _ _ _ not_zero
      ∙ at_true _ _ _ (ap (nat_lt MAX_TOUCHED) (sym long_is) ∙ past MAX_TOUCHED (touched_count P o count) long))

  module _ (short : touched_count P o count ≤ MAX_TOUCHED) where
    stop_is : first_absent entry P o count ≡ read_stop s g o (read_count s g o n)
    stop_is = λ i. first_absent (entry_of i) (c.page i) o (count_of i)

    reading_tests_are : (q : Option ℕ) → q ≡ first_absent entry P o count → tests s reading ≡ stopped s g q
    reading_tests_are q is = at_false _ _ _ (opened s h f c.found) ∙ at_false _ _ _ not_zero
        ∙ at_false _ _ _
        (ap (nat_lt MAX_TOUCHED) (sym long_is) ∙ within MAX_TOUCHED (touched_count P o count) short)
        ∙ ap (stopped s g) (sym (is ∙ stop_is))

    pub stop_step : (p : ℕ) (b : Bool) → b ≡ is_filling s f p → Some p ≡ first_absent entry P o count
        → Step s (event.Read h o n) (waits_for b p) s
    stop_step p b is at = by_test s reading (waits_for b p)
        (reading_tests_are (Some p) at ∙ ap (λ k. Some (waits_for k p)) (sym (is ∙ ap (λ k. is_filling s k p) file_of)))

    pub bytes_step : (out rest : List ℕ) → None ≡ first_absent entry P o count → length out ≡ count
        → AreRead P o entry.pages count out → Step s (event.Read h o n) (reply.Bytes (take count (out ++ rest))) s
    bytes_step out rest none size r =
        by_change s reading (reply.Bytes (take count (out ++ rest))) s (reading_tests_are None none)
        (same ∙ ap (bytes_at s g o) count_of) refl
      where
        bytes_len : length (take count (out ++ rest)) ≡ count
        bytes_len = omega (arith, length-take count (out ++ rest), length-append out rest)

        byte : (i : ℕ) → i < count → get_or (take count (out ++ rest)) i 0 ≡ get_or (bytes_at s g o count) i 0
        byte i k =
            get_or-take count (out ++ rest) i 0 k ∙ get_or_append_left out rest 0 i (omega arith)
            ∙ r.each i k (omega arith)
            ∙ (λ j. page_byte (finmap.get (entry_of j).pages ((o + i) / c.page j)) ((o + i) % c.page j))
            ∙ sym (byte-bytes_at s g o count i k)

        same : take count (out ++ rest) ≡ bytes_at s g o count
        same = same_number_lists _ _ (bytes_len ∙ sym (length-bytes_at s g o count))
            (λ i k. byte i (omega (arith, bytes_len)))

-- ---- writes

module _ (s : State) (h : HandleId) (o f : ℕ) (b : List ℕ) (found : Some f ≡ finmap.get s.handles h.0)
    (some : 0 < length b) (short : touched_count s.sizes.page o (length b) ≤ MAX_TOUCHED)
    (small : o + length b ≤ MAX_FILE_SIZE) where
  abbrev writing : Event
  writing = event.Write h o b

  -- what is left to test is whether a page stops it, and whether there is room
  writing_tests_left : tests s writing ≡ first_of (stopped s f (write_stop s f o (length b)))
      (room_tests s f o (length b))
  writing_tests_left = at_false _ _ _ (opened s h f found) ∙ at_false _ _ _ (above_zero (length b) some)
      ∙ at_false _ _ _ (within MAX_TOUCHED (touched_count s.sizes.page o (length b)) short)
      ∙ at_false _ _ _ (within MAX_FILE_SIZE (o + length b) small)
      ∙ ap (λ g. first_of (stopped s g (write_stop s g o (length b))) (room_tests s g o (length b)))
      (file_is s h f found)

  pub write_stopped : (p : ℕ) (c : Bool) → c ≡ is_filling s f p → Some p ≡ write_stop s f o (length b)
      → Step s (event.Write h o b) (waits_for c p) s
  write_stopped p c is at = by_test s writing (waits_for c p)
      (writing_tests_left ∙ ap (λ q. first_of (stopped s f q) (room_tests s f o (length b))) (sym at)
      ∙ ap (λ k. Some (waits_for k p)) (sym is))

  module _ (free : None ≡ write_stop s f o (length b)) where
    writing_room_left : tests s writing ≡ room_tests s f o (length b)
    writing_room_left = writing_tests_left ∙ ap (λ q. first_of (stopped s f q) (room_tests s f o (length b))) (sym free)

    pub write_passed : None ≡ room_tests s f o (length b) → write_tests s h.0 o (length b) ≡ None
    write_passed room = writing_room_left ∙ sym room

    pub write_no_room : (why : Refusal) → refuse why ≡ room_tests s f o (length b)
        → Step s (event.Write h o b) (reply.Refused why) s
    write_no_room why is = by_test s writing (reply.Refused why) (writing_room_left ∙ sym is)

    pub write_no_memory : (new : State) → None ≡ room_tests s f o (length b) → wants_memory s f o (length b) ≡ true
        → new ≡ s → Step s (event.Write h o b) (reply.Refused Memory) new
    write_no_memory new room wants same = by_change s writing (reply.Refused Memory) new (writing_room_left ∙ sym room)
        (ap (λ g. wants_memory s g o (length b)) (file_is s h f found) ∙ wants) same

    pub write_step : (n end : ℕ) (new : State) → None ≡ room_tests s f o (length b) → n ≡ length b
        → end ≡ o + length b → new ≡ written s f o b → Step s (event.Write h o b) (reply.Wrote n end) new
    write_step n end new room count last is = by_change s writing (reply.Wrote n end) new (writing_room_left ∙ sym room)
        (count, last) (is ∙ ap (λ g. written s g o b) (sym (file_is s h f found)))

-- an append is a write at the end
pub append_step : (s new : State) (h : HandleId) (end : ℕ) (b : List ℕ) (r : Reply)
    → end ≡ (file_at s (handle_file s h.0)).size → Step s (event.Write h end b) r new → Step s (event.Append h b) r new
append_step s new h end b r is step = moved (write_tests s h.0 size (length b)) r
    (subst (λ o. Step s (event.Write h o b) r new) is step)
  where
    size : ℕ
    size = (file_at s (handle_file s h.0)).size

    moved : (o : Option Reply) (r : Reply) → AnswersOr o s (event.Write h (file_at s (handle_file s h.0)).size b) r new
        → AnswersOr o s (event.Append h b) r new
    moved (Some x) r k = k
    moved None (reply.Wrote n m) k = k
    moved None (reply.Refused Memory) k = k
    moved None _ k = absurd k.0

-- ---- truncations

module _ (s : State) (h : HandleId) (z f : ℕ) (found : Some f ≡ finmap.get s.handles h.0) where
  abbrev cutting : Event
  cutting = event.Truncate h z

  pub cut_too_large : MAX_FILE_SIZE < z → Step s (event.Truncate h z) (reply.Refused TooLarge) s
  cut_too_large large = by_test s cutting (reply.Refused TooLarge)
      (at_false _ _ _ (opened s h f found) ∙ at_true _ _ _ (past MAX_FILE_SIZE z large))

  module _ (small : z ≤ MAX_FILE_SIZE) where
    cutting_tests_are : tests s cutting ≡ stopped s f (truncate_stop s f (boundary s f z))
    cutting_tests_are = at_false _ _ _ (opened s h f found) ∙ at_false _ _ _ (within MAX_FILE_SIZE z small)
        ∙ ap (λ g. stopped s g (truncate_stop s g (boundary s g z))) (file_is s h f found)

    module _ (q : ℕ) (at : Some q ≡ boundary s f z) where
      at_page : tests s cutting ≡ stopped s f (cond (is_filling s f q || must_fill s f q) (Some q) None)
      at_page = cutting_tests_are ∙ ap (λ k. stopped s f (truncate_stop s f k)) (sym at)

      pub cut_waits : is_filling s f q ≡ true → Step s (event.Truncate h z) (reply.Wait (record { 0 = q })) s
      cut_waits fill = by_test s cutting (reply.Wait (record { 0 = q }))
          (at_page ∙ ap (λ b. stopped s f (cond (b || must_fill s f q) (Some q) None)) fill
          ∙ ap (λ b. Some (waits_for b q)) fill)

      pub cut_misses : is_filling s f q ≡ false → must_fill s f q ≡ true
          → Step s (event.Truncate h z) (reply.Miss (record { 0 = q })) s
      cut_misses idle must = by_test s cutting (reply.Miss (record { 0 = q }))
          (at_page ∙ (λ i. stopped s f (cond (idle i || must i) (Some q) None)) ∙ ap (λ b. Some (waits_for b q)) idle)

      pub cut_into : (new : State) → is_filling s f q ≡ false → must_fill s f q ≡ false → new ≡ truncated s f z
          → Step s (event.Truncate h z) reply.Done new
      cut_into new idle there is = by_change s cutting reply.Done new
          (at_page ∙ (λ i. stopped s f (cond (idle i || there i) (Some q) None))) tt
          (is ∙ ap (λ g. truncated s g z) (sym (file_is s h f found)))

    -- nothing is cut into
    pub cut_whole : (new : State) → None ≡ boundary s f z → new ≡ truncated s f z
        → Step s (event.Truncate h z) reply.Done new
    cut_whole new none is = by_change s cutting reply.Done new
        (cutting_tests_are ∙ ap (λ k. stopped s f (truncate_stop s f k)) (sym none)) tt
        (is ∙ ap (λ g. truncated s g z) (sym (file_is s h f found)))

-- ---- the begin of a fill

-- as the code tells that the page is in the file
pub told_inside : (i s : State) → i ≡ s → (p f P size count : ℕ) → P ≡ i.sizes.page → size ≡ (file_at i f).size
    → count ≡ page_count P size → p < count → p < page_count s.sizes.page (file_at s f).size
told_inside i s same p f P size count page total is below =
    let P_is : P ≡ s.sizes.page = page ∙ ap (λ (x : State). x.sizes.page) same in
    let size_is : size ≡ (file_at s f).size = total ∙ ap (λ (x : State). (file_at x f).size) same in
    subst (λ n. p < n) (is ∙ (λ k. page_count (P_is k) (size_is k))) below

module _ (s : State) (h : HandleId) (p : PageIndex) (f : ℕ) (found : Some f ≡ finmap.get s.handles h.0)
    (inside : p.0 < page_count s.sizes.page (file_at s f).size) where
  abbrev filling : Event
  filling = event.FillBegin h p

  abbrev filling_rest : Option Reply
  filling_rest =
      cond (is_filling s f p.0) (Some (reply.Wait p))
      (cond (is_cached s f p.0) (Some reply.Present)
      (cond (eqb (free_frames s) 0) (refuse NoFrame)
      (cond (is_written s f p.0 && is_full s) (refuse TooManyInFlight) None)))

  pub filling_tests_left : tests s filling ≡ filling_rest
  filling_tests_left = at_false _ _ _ (opened s h f found)
      ∙ ap (λ g. cond (nat_le (page_count s.sizes.page (file_at s g).size) p.0) (Some reply.Gone)
      (cond (is_filling s g p.0) (Some (reply.Wait p))
      (cond (is_cached s g p.0) (Some reply.Present)
      (cond (eqb (free_frames s) 0) (refuse NoFrame)
      (cond (is_written s g p.0 && is_full s) (refuse TooManyInFlight) None)))))
      (file_is s h f found)
      ∙ at_false _ _ _ (under _ _ inside)

  pub fill_waits : is_filling s f p.0 ≡ true → Step s (event.FillBegin h p) (reply.Wait p) s
  fill_waits busy = by_test s filling (reply.Wait p) (filling_tests_left ∙ at_true _ _ _ busy)

  module _ (idle : is_filling s f p.0 ≡ false) where
    pub fill_present : is_cached s f p.0 ≡ true → Step s (event.FillBegin h p) reply.Present s
    fill_present cached =
        by_test s filling reply.Present (filling_tests_left ∙ at_false _ _ _ idle ∙ at_true _ _ _ cached)

    module _ (absent : is_cached s f p.0 ≡ false) where
      pub fill_no_frame : free_frames s ≡ 0 → Step s (event.FillBegin h p) (reply.Refused NoFrame) s
      fill_no_frame full = by_test s filling (reply.Refused NoFrame)
          (filling_tests_left ∙ at_false _ _ _ idle ∙ at_false _ _ _ absent ∙ at_true _ _ _ (ap (λ n. eqb n 0) full))

-- Reads are right.
use Rattle.std.proofs.Common.{◌≡◌, ℕ, ◌+◌, ◌-◌, ◌*◌, ◌/◌, ◌%◌, ◌<◌, ◌≤◌, true, not, eqb, eqb-true, List, [], length}
use Rattle.std.proofs.Common.{get_or, refl, ap, sym, ◌∙◌, arith, inl, inr, min, Option, Some, None, option_map, nat_lt}
use Rattle.std.proofs.Common.{find, take_all, le-div_iff_mul-le}
use Rattle.std.specs.Prelude.{unwrap_or}
use Rattle.std.specs.FinMap as finmap
use Rattle.std.proofs.lemmas.Bool.Decides.{nat_tests}
use Rattle.pc_types.specs.Files.{pread}
use Rattle.machine.specs.State.{State, Page, handle_file, is_open, page_at, is_cached, touched, touched_count, bytes_at}
use Rattle.machine.proofs.changes.ChangeLaws.{byte_at, length-bytes_at, byte-bytes_at}
use Rattle.runs.proofs.bytes.PageLaws.{byte_place}
use Rattle.runs.specs.Plain.{Plain, plain_file, named}
use Rattle.runs.specs.Seen.{files_seen}
use Rattle.runs.specs.World.{World}
use Rattle.runs.proofs.events.Coupled.{Coupled}
use Rattle.machine.proofs.steps.Choices.{quiet_if, not_false, some_of, quiet_when, if_none}
use Rattle.machine.proofs.steps.Answered.{stopped_quiet}
use Rattle.machine.proofs.steps.Passed.{not_stopped}
use Rattle.machine.proofs.steps.Cases.{answered}
use Rattle.machine.proofs.changes.StateLaws.{touches}
use Rattle.machine.specs.Tests.{tests, read_count, read_stop}
use Rattle.machine.specs.Step.{Step}
use Rattle.runs.specs.Runs.{last, plain_from, plain_at}
use Rattle.runs.specs.Reading.{ReadsAreRight}
use Rattle.pc_types.proofs.FileLaws.{byte-page, length-pread, byte-pread}
use Rattle.machine.proofs.sound.Writes.{none_touched}
use Rattle.runs.proofs.moments.Moments.{first_coupled, run_coupled}
use Rattle.pc_types.specs.declared.limits.TheConstants.{MAX_TOUCHED}
use Rattle.pc_types.specs.declared.ids.HandleId.{HandleId}
use Rattle.machine.specs.declared.event.Event.TheVariants as event
use Rattle.machine.specs.declared.event.Reply.{Reply}
use Rattle.machine.specs.declared.event.Reply.TheVariants as reply
use Rattle.std.proofs.lemmas.Grind.{same_number_lists}

none_left : (f : List ℕ) (o n : ℕ) → min n (length f - o) ≡ 0 → pread f o n ≡ []
none_left f o n e = same_number_lists _ _ (length-pread f o n ∙ e) (λ k h. absurd (omega (arith, length-pread f o n)))

module _ (w : World) (plain : Plain) (c : Coupled w plain) (x : HandleId) (o n : ℕ) where
  abbrev h : ℕ
  h = x.0

  abbrev s : State
  s = w.core

  abbrev P : ℕ
  P = s.sizes.page

  abbrev f : ℕ
  f = handle_file s h

  abbrev pf : List ℕ
  pf = plain_file plain f

  abbrev count : ℕ
  count = read_count s f o n

  same_count : count ≡ min n (length pf - o)
  same_count = ap (λ x. min n (x - o)) (sym (c.sizes f))

  -- one byte of a page that is cached
  one_byte : (x : ℕ) → is_cached s f (x / P) ≡ true → byte_at s f x ≡ get_or pf x 0
  one_byte x cached =
      let page = some_of (page_at s f (x / P)) cached in
      let place = byte_place P x c.good.positive in
      ap (λ (y : Option Page). get_or (unwrap_or (option_map (λ v. v.bytes) y) []) (x % P) 0) page.1
      ∙ ap (λ bytes. get_or bytes (x % P) 0) ((c.good.pages f (x / P)).bytes page.0 page.1)
      ∙ byte-page P pf (x / P) (x % P) place.0 ∙ ap (λ y. get_or pf y 0) place.1

  within : (i : ℕ) → i < count → touches P o count ((o + i) / P) ≡ true
  within i l =
      let pos = c.good.positive in
      let low : o / P ≤ (o + i) / P =
      (le-div_iff_mul-le pos).1 (let a : o / P * P ≤ o = (le-div_iff_mul-le pos).0 (omega arith) in omega arith) in
      let high : (o + i) / P ≤ (o + count - 1) / P =
      (le-div_iff_mul-le pos).1 (let a : (o + i) / P * P ≤ o + i = (le-div_iff_mul-le pos).0 (omega arith) in
      omega arith) in
      grind (arith, nat_tests)

  cached_here : find (λ p. not (is_cached s f p)) (touched P o count) ≡ None → (i : ℕ) → i < count
      → is_cached s f ((o + i) / P) ≡ true
  cached_here stop i l =
      not_false _ (none_touched (λ p. not (is_cached s f p)) P o count ((o + i) / P) stop (within i l))

  right : (bytes : List ℕ) → bytes ≡ bytes_at s f o count → read_stop s f o count ≡ None → bytes ≡ pread pf o n
  right bytes e stop = e ∙ same_number_lists _ _ (length-bytes_at s f o count ∙ same_count ∙ sym (length-pread pf o n))
      (λ k l.
      let small : k < count = (let a = length-bytes_at s f o count in omega arith) in
      let short : k < n = (let a = same_count in omega arith) in
      byte-bytes_at s f o count k small ∙ one_byte (o + k) (cached_here stop k small) ∙ sym (byte-pread pf o n k short))

  by_tests : (bytes : List ℕ) (r : Reply) → tests s (event.Read x o n) ≡ Some r → r ≡ reply.Bytes bytes
      → bytes ≡ pread pf o n
  by_tests bytes = quiet_if (λ x. x ≡ reply.Bytes bytes → bytes ≡ pread pf o n) (not (is_open s h)) _ _ (λ e. absurd cc)
      (quiet_when (λ x. x ≡ reply.Bytes bytes → bytes ≡ pread pf o n) (eqb count 0) _ _
      (λ k e. (let a : [] ≡ bytes = cc in sym a ∙ sym (none_left pf o n (sym same_count ∙ eqb-true count 0 k))))
      (quiet_if (λ x. x ≡ reply.Bytes bytes → bytes ≡ pread pf o n) (nat_lt MAX_TOUCHED (touched_count P o count)) _ _
      (λ e. absurd cc)
      (stopped_quiet (λ x. x ≡ reply.Bytes bytes → bytes ≡ pread pf o n) s f (read_stop s f o count) (λ p e. absurd cc)
      (λ p e. absurd cc))))

  -- a read answers what the plain file holds
  pub read_right : (bytes : List ℕ) (new : State) → Step s (event.Read x o n) (reply.Bytes bytes) new
      → bytes ≡ pread (plain_file plain (named plain h)) o n
  read_right bytes new e =
      let same : named plain h ≡ f = ap (λ m. unwrap_or (finmap.get m h) 0) c.handles in
      elim (answered (tests s (event.Read x o n)) s (event.Read x o n) (reply.Bytes bytes) new e) [
        | inl a ↦ by_tests bytes (reply.Bytes bytes) a.0 refl
        | inr b ↦ right bytes b.1 (not_stopped s f _
            (if_none (nat_lt MAX_TOUCHED (touched_count P o count)) _ _
            (if_none (eqb count 0) _ _ (if_none (not (is_open s h)) _ _ b.0).1).1).1)
      ] ∙ ap (λ k. pread (plain_file plain k) o n) (sym same)

pub reads_are_right : ReadsAreRight
reads_are_right w run first r new h o n bytes m =
    let c = run_coupled run w (files_seen w) (first_coupled w first) r in
    let all : plain_at w run (length run) ≡ plain_from (files_seen w) run =
    ap (plain_from (files_seen w)) (take_all (length run) run (omega arith)) in
    read_right (last w run) (plain_from (files_seen w) run) c h o n bytes new.core m.1.0
    ∙ ap (λ p. pread (plain_file p (named p h.0)) o n) (sym all)

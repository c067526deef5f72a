-- A failed write that is recorded: the recordings of its file are one more, as its failures are.
use Rattle.std.proofs.Common.{◌≡◌, ◌≢◌, ℕ, zero, suc, ◌+◌, ◌<◌, Bool, true, false, cond, eqb, eqb-true, ne_eqb, not, List, [], ◌∷◌, ◌++◌, length, refl, ap, sym, subst, ◌∙◌, arith}
use Rattle.std.proofs.Math.ListN.{length-set}
use Rattle.std.specs.Prelude.{Option, Some, slice_set, ◌==◌, ◌&&◌, nat_lt, if◌then◌else◌}
use Rattle.std.proofs.lemmas.Bool.{lt-ltb}
use Rattle.std.proofs.lemmas.List.{length_push}
use mathlib.Core.List.{IsPrefix}
use Rattle.errseq.specs.declared.recording.Recording.{Recording}
use Rattle.errseq.specs.Recorded.{last_code}
use Rattle.errseq.proofs.Prefixes.{prefix_self}
use Rattle.errboard.specs.Shown.{RecorderSeen, is_told}
use Rattle.errboard.specs.Steps.{with_recording}
use Rattle.errboard.specs.Views.{recorded_of}
use Rattle.pc_types.specs.declared.limits.TheConstants.{MAX_FILES}
use Rattle.machine.specs.declared.event.Reply.{Reply}
use Rattle.machine.specs.declared.event.Reply.TheVariants as reply
use Rattle.machine.proofs.changes.StateLaws.{get_or-set}
use Rattle.filesvc.specs.Rests.{IsNoted}
use Rattle.filesvc.proofs.FailedWrites.{Changes, one_more, the_code}
use Rattle.filesvc.proofs.Laws.{since_same}

set_prefix : (all : List (List Recording)) (f g : ℕ) (y : List Recording) → IsPrefix (recorded_of all f) y → IsPrefix (recorded_of all g) (recorded_of (slice_set all f y) g)
set_prefix [] f g y p = prefix_self _
set_prefix (x ∷ all) zero zero y p = p
set_prefix (x ∷ all) zero (suc g) y p = prefix_self _
set_prefix (x ∷ all) (suc f) zero y p = prefix_self _
set_prefix (x ∷ all) (suc f) (suc g) y p = set_prefix all f g y p

recorded_prefix : (all : List (List Recording)) (f : ℕ) (x : Recording) (g : ℕ) → IsPrefix (recorded_of all g) (recorded_of (with_recording all f x) g)
recorded_prefix all f x g = set_prefix all f g _ (x ∷ [], refl)

recorded_more : (all : List (List Recording)) (f : ℕ) (x : Recording) → f < length all → (g : ℕ) → length (recorded_of (with_recording all f x) g) ≡ cond (eqb g f) (length (recorded_of all g) + 1) (length (recorded_of all g))
recorded_more all f x here g =
    let more = recorded_of all f ++ x ∷ [] in
    ap length (get_or-set all f g more [] here) ∙ elim (eqb g f) as (λ b. eqb g f ≡ b → length (cond b more (recorded_of all g)) ≡ cond b (length (recorded_of all g) + 1) (length (recorded_of all g))) [
      | true ↦ λ e. length_push (recorded_of all f) x ∙ ap (λ k. length (recorded_of all k) + 1) (sym (eqb-true g f e))
      | false ↦ λ e. refl
    ] refl

last_pushed : (log : List Recording) (x : Recording) → last_code (log ++ x ∷ []) ≡ x.code
last_pushed [] x = refl
last_pushed (y ∷ []) x = refl
last_pushed (y ∷ z ∷ log) x = last_pushed (z ∷ log) x

recorded_code : (all : List (List Recording)) (f : ℕ) (x : Recording) → f < length all → (g : ℕ) → last_code (recorded_of (with_recording all f x) g) ≡ cond (eqb g f) x.code (last_code (recorded_of all g))
recorded_code all f x here g =
    let more = recorded_of all f ++ x ∷ [] in
    ap last_code (get_or-set all f g more [] here) ∙ elim (eqb g f) as (λ b. last_code (cond b more (recorded_of all g)) ≡ cond b x.code (last_code (recorded_of all g))) [
      | true ↦ last_pushed (recorded_of all f) x
      | false ↦ refl
    ]

abbrev pub recorded_in : RecorderSeen → ℕ → ℕ
recorded_in e f = last_code (recorded_of e.all f)

abbrev pub count_in : RecorderSeen → ℕ → ℕ
count_in e f = length (recorded_of e.all f)

-- what is noted leaves the board and its lists
pub record Notes (old new : RecorderSeen) : Type 0 where
  pub board : new.board ≡ old.board
  pub opening : new.opening ≡ old.opening
  pub lists : length new.all ≡ length old.all
  pub begins : (f : ℕ) → IsPrefix (recorded_of old.all f) (recorded_of new.all f)

pub notes : (old new : RecorderSeen) (o : Option ℕ) (r : Reply) → IsNoted old o r new → Notes old new
notes old new (Some f) (reply.Failed code) n = record {
  board = n.1;
  opening = n.2;
  lists = ap length n.5 ∙ length-set old.all f _;
  begins = λ g. subst (λ all. IsPrefix (recorded_of old.all g) (recorded_of all g)) (sym n.5) (recorded_prefix old.all f n.3 g);
}
notes old new o r n = subst (Notes old) (sym n) (record { board = refl; opening = refl; lists = refl; begins = λ g. prefix_self _ })

pub noted_rises : (old new : RecorderSeen) (o : Option ℕ) (r : Reply) → length old.all ≡ MAX_FILES → IsNoted old o r new → Changes one_more o r (count_in old) (count_in new)
noted_rises old new (Some f) (reply.Failed code) lists n = λ g. ap (λ all. length (recorded_of all g)) n.5 ∙ recorded_more old.all f n.3 (subst (λ k. f < k) (sym lists) n.0) g
noted_rises old new o r lists n = λ g. ap (λ e. count_in e g) n

pub noted_codes : (old new : RecorderSeen) (o : Option ℕ) (r : Reply) → length old.all ≡ MAX_FILES → IsNoted old o r new → Changes the_code o r (recorded_in old) (recorded_in new)
noted_codes old new (Some f) (reply.Failed code) lists n = λ g. ap (λ all. last_code (recorded_of all g)) n.5 ∙ recorded_code old.all f n.3 (subst (λ k. f < k) (sym lists) n.0) g ∙ ap (λ c. cond (eqb g f) c (recorded_in old g)) n.4
noted_codes old new o r lists n = λ g. ap (λ e. recorded_in e g) n

-- whether a file has an error that nobody was told of
abbrev pub untold_in : RecorderSeen → ℕ → Bool
untold_in e f = nat_lt 0 (count_in e f) && not (is_told e f)

-- it has one where one is noted, and else as before
pub noted_untold : (old new : RecorderSeen) (o : Option ℕ) (r : Reply) → length old.all ≡ MAX_FILES → IsNoted old o r new → (a b : ℕ → ℕ) → Changes one_more o r a b → (g : ℕ) → untold_in new g ≡ (if b g == a g then untold_in old g else true)
noted_untold old new (Some f) (reply.Failed code) lists n a b x g = by (eqb g f) (noted_rises old new (Some f) (reply.Failed code) lists n g) (n.6 g) (x g)
  where
    by : (t : Bool) → count_in new g ≡ cond t (count_in old g + 1) (count_in old g) → is_told new g ≡ (if t then false else is_told old g) → b g ≡ cond t (a g + 1) (a g) → untold_in new g ≡ (if b g == a g then untold_in old g else true)
    by true e h k =
        let some : nat_lt 0 (count_in new g) ≡ true = lt-ltb 0 (count_in new g) (omega arith) in
        let differ : b g ≢ a g = (λ z. (let one : b g ≡ a g + 1 = k in omega arith)) in
        (λ i. some i && not (h i)) ∙ sym (ap (λ z. if z then untold_in old g else true) (ne_eqb (b g) (a g) differ))
    by false e h k = (λ i. nat_lt 0 (e i) && not (h i)) ∙ since_same (untold_in old g) (a g) (b g) k
noted_untold old new o r lists n a b x g = ap (λ e. untold_in e g) n ∙ since_same (untold_in old g) (a g) (b g) (x g)

-- two counts that rise alike differ as before
pub rise_alike : (o : Option ℕ) (r : Reply) (a b c d : ℕ → ℕ) → Changes one_more o r a b → Changes one_more o r c d → (g : ℕ) → b g + c g ≡ a g + d g
rise_alike (Some f) (reply.Failed code) a b c d x y g = by (eqb g f) (x g) (y g)
  where
    by : (t : Bool) → b g ≡ cond t (a g + 1) (a g) → d g ≡ cond t (c g + 1) (c g) → b g + c g ≡ a g + d g
    by true e h = omega arith
    by false e h = omega arith
rise_alike o r a b c d x y g = let e = x g in let h = y g in omega arith

-- and two codes that change alike are the same if they were
pub change_alike : (o : Option ℕ) (r : Reply) (a b c d : ℕ → ℕ) → Changes the_code o r a b → Changes the_code o r c d → ((g : ℕ) → a g ≡ c g) → (g : ℕ) → b g ≡ d g
change_alike (Some f) (reply.Failed code) a b c d x y same g = x g ∙ ap (λ n. cond (eqb g f) code n) (same g) ∙ sym (y g)
change_alike o r a b c d x y same g = x g ∙ same g ∙ sym (y g)

-- The steps of a poll keep the rule, and what they tell.
use Rattle.std.proofs.Common.{◌≡◌, ◌≢◌, ℕ, ◌+◌, ◌*◌, ◌%◌, ◌<◌, ◌≤◌, ◌⊎◌, Bool, true, false, eqb, eq-eqb, ne_eqb, List, [], length, take, drop, set, get_or, Option, Some, None, inl, inr, refl, sym, ap, ◌∙◌, subst, arith, ⊎_elim, le_refl, lt_of_not-le, true≢false, length-set, get_or-set_other, get_or-set_same}
use Rattle.std.specs.Prelude.{if◌then◌else◌, ◌==◌, IfSome}
use mathlib.Core.Option.{none, some}
use mathlib.Core.List.{IsPrefix}
use mathlib.Core.Logic.{dite}
use native.Mathlib.Decide.{ℕ_discrete, dec_le}
use lib.ListN.{get_elem?}
use prog.Atomic.{either}
use Rattle.std.proofs.Math.Seq.{take-length}
use Rattle.atomic_table.specs.Table.{State, Me, Step, step, keeps, stepped, Allows}
use Rattle.errseq.specs.Word.{turns, IsCode, IsWithinTurn, code_of, is_seen, checked}
use Rattle.errseq.specs.Recorded.{raised, last_code, word_of}
use Rattle.errseq.specs.Samples.{StandsFor, AreCodes, FitsPass}
use Rattle.errseq.proofs.Prefixes.{prefix_self, prefix_trans, prefix_whole, prefix_length}
use Rattle.errseq.proofs.Words.{code_range}
use Rattle.errseq.proofs.Samples.{Log, seen_apart, seen_of_word, code_of_word, codes_prefix, just_done, same_fits, differs_later, later_found}
use Rattle.errboard.specs.declared.views.View.{View}
use Rattle.errboard.specs.declared.views.View.TheVariants.{Spent, Recorder, Sampled, Compares, Pass, Trying, Receipt}
use Rattle.errboard.specs.Views.{files, recorded_of, start_of}
use Rattle.errboard.specs.Rules.{FitsFile, Fits, IsKept, LookedFrom, Looked, Marked}
use Rattle.errboard.specs.Shown.{known_of, start_in}
use Rattle.errboard.specs.Steps.{IsMarked, IsPolled}
use Rattle.errboard.proofs.States.{each_set, unmoved}

-- ---- the load
abbrev looked_view : ℕ → ℕ → Log → ℕ → ℕ → View
looked_view file start log w since = if w == since then Pass file start log (length log) since else (if is_seen w then Pass file start log (length log) w else Trying file start log)

module _ (o : List ℕ) (logs : List Log) (words : List ℕ) (writer id file start : ℕ) (known : Log) (done since : ℕ) (in_files : file < files) (is_start : start ≡ start_of o file) (here : FitsFile start (get_or words file 0) (recorded_of logs file)) (fits : FitsPass start (recorded_of logs file) (get_or words file 0) known done since) where
  abbrev log' : Log
  log' = recorded_of logs file

  abbrev w' : ℕ
  w' = get_or words file 0

  looked_fits : Fits o logs words writer id (looked_view file start log' w' since)
  looked_fits = dite (ℕ_discrete w' since)
      (λ e. subst (λ b. Fits o logs words writer id (if b then Pass file start log' (length log') since else (if is_seen w' then Pass file start log' (length log') w' else Trying file start log'))) (sym (eq-eqb w' since e))
      (in_files, is_start, same_fits start log' w' known done since here.codes here.stands fits e))
      (λ n. subst (λ b. Fits o logs words writer id (if b then Pass file start log' (length log') since else (if is_seen w' then Pass file start log' (length log') w' else Trying file start log'))) (sym (ne_eqb w' since n))
      (⊎_elim
      (λ (u : w' ≡ word_of start log' false). subst (λ b. Fits o logs words writer id (if b then Pass file start log' (length log') w' else Trying file start log')) (sym (ap is_seen u ∙ seen_of_word start log' false here.codes))
      (in_files, is_start, (let h = differs_later start log' w' known done since here.codes here.stands fits here.opening n in omega arith), prefix_self log'))
      (λ (u : (0 < length log') × (w' ≡ word_of start log' true)). subst (λ b. Fits o logs words writer id (if b then Pass file start log' (length log') w' else Trying file start log')) (sym (ap is_seen u.1 ∙ seen_of_word start log' true here.codes))
      (in_files, is_start, just_done start log' w' u.0 u.1))
      here.stands))

  looked_from : LookedFrom (Pass file start known done since) w' (looked_view file start log' w' since)
  looked_from =
      let later = λ (e : w' ≡ since) (few : IsWithinTurn (raised (drop done log'))). later_found start log' w' known done since here.codes here.stands fits e (λ _. few) in
      let differs = differs_later start log' w' known done since here.codes here.stands fits here.opening in
      (log', fits.known_begins, here.stands, here.codes, (later, differs), refl)

looks : (o : List ℕ) (slots id file start : ℕ) (known : Log) (done since : ℕ) (c : List (ℕ × ℕ)) → Allows (IsKept o) slots id (Pass file start known done since, c) file (λ n. n) (Looked (step slots file 0 0 none) (Pass file start known done since, c))
looks o slots id file start known done since c s r _ at _ =
    let mine = r.each_seat id (Pass file start known done since) at in
    let w : ℕ = get_or s.words file 0 in
    let log : Log = recorded_of r.logs file in
    let here = subst (λ k. FitsFile k w log) (sym mine.1) (r.each_file file mine.0) in
    let view = looked_view file start log w since in (
      view,
      keeps,
      tt,
      unmoved o s r file id c view (looked_fits o r.logs s.words r.writer id file start known done since mine.0 mine.1 here mine.2),
      (refl, looked_from o r.logs s.words r.writer id file start known done since mine.0 mine.1 here mine.2),
    )

-- ---- SEEN is set
marked_word : (start : ℕ) (xs ys : Log) (new : ℕ) → word_of start xs false ≡ word_of start ys false → new ≡ word_of start xs true → new ≡ word_of start ys true
marked_word start xs ys new e is =
    let n : ℕ = (start + raised xs) % turns in let m : ℕ = (start + raised ys) % turns in let k : ℕ = last_code xs in let l : ℕ = last_code ys in
    let e' : n * 8192 + 0 + k ≡ m * 8192 + 0 + l = e in let is' : new ≡ n * 8192 + 4096 + k = is in
    let so : new ≡ m * 8192 + 4096 + l = omega arith in so

unmarked_word : (start : ℕ) (xs ys : Log) (old new : ℕ) → old ≡ word_of start xs false → new ≡ word_of start xs true → new ≡ word_of start ys true → old ≡ word_of start ys false
unmarked_word start xs ys old new a b e =
    let n : ℕ = (start + raised xs) % turns in let m : ℕ = (start + raised ys) % turns in let k : ℕ = last_code xs in let l : ℕ = last_code ys in
    let a' : old ≡ n * 8192 + 0 + k = a in let b' : new ≡ n * 8192 + 4096 + k = b in let e' : new ≡ m * 8192 + 4096 + l = e in
    let so : old ≡ m * 8192 + 0 + l = omega arith in so

-- what the others know stays where one word gets SEEN
others_marked : (o : List ℕ) (logs : List Log) (words : List ℕ) (writer file new : ℕ) → AreCodes (recorded_of logs file) → get_or words file 0 ≡ word_of (start_of o file) (recorded_of logs file) false
    → (j : ℕ) (v : View) → Fits o logs words writer j v → Fits o logs (set words file new) writer j v
others_marked o logs words writer file new codes was j Spent f = tt
others_marked o logs words writer file new codes was j (Recorder began all) f = f
others_marked o logs words writer file new codes was j (Sampled began all g found) f = (
  f.0,
  f.1,
  f.2,
  f.3,
  ⊎_elim
      (λ (u : found ≡ word_of (start_of o g) (recorded_of logs g) false). inl u)
      (λ (u : (0 < length (recorded_of logs g)) × (found ≡ word_of (start_of o g) (recorded_of logs g) true) × (get_or words g 0 ≡ found)). inr (
        u.0,
        u.1,
        dite (ℕ_discrete g file)
            (λ e. absurd (seen_apart (start_of o file) (recorded_of logs file) (recorded_of logs file) codes codes (subst (λ k. word_of (start_of o k) (recorded_of logs k) true ≡ get_or words k 0) e (sym (u.2 ∙ u.1)) ∙ was)))
            (λ n. get_or-set_other words file g new 0 n ∙ u.2),
      ))
      f.4,
)
others_marked o logs words writer file new codes was j (Compares began all g known done since) f = f
others_marked o logs words writer file new codes was j (Pass g start known done since) f = (
  f.0,
  f.1,
  dite (ℕ_discrete g file)
      (λ e. record {
        known_begins = f.2.known_begins;
        done_within = f.2.done_within;
        fresh = f.2.fresh;
        sampled = λ n. let p = f.2.sampled n in record {
          some_done = p.some_done;
          is_word = p.is_word;
          still = λ d. absurd (let log = recorded_of logs g in
              let codes' : AreCodes log = subst (λ k. AreCodes (recorded_of logs k)) (sym e) codes in
              let was' : get_or words g 0 ≡ word_of start log false = subst (λ k. get_or words k 0 ≡ word_of (start_of o k) (recorded_of logs k) false) (sym e) was ∙ ap (λ k. word_of k log false) (sym f.1) in
              let is : since ≡ word_of start log true = p.is_word ∙ ap (λ m. word_of start (take m log) true) d ∙ ap (λ l. word_of start l true) (take-length log) in
              seen_apart start log log codes' codes' (sym is ∙ sym (p.still d) ∙ was'));
          raising = p.raising;
        };
      })
      (λ n. subst (λ w. FitsPass start (recorded_of logs g) w known done since) (sym (get_or-set_other words file g new 0 n)) f.2),
)
others_marked o logs words writer file new codes was j (Trying g start known) f = f
others_marked o logs words writer file new codes was j (Receipt g known) f = f

module _ (o : List ℕ) (s : State ℕ View) (r : IsKept o s) (id file start : ℕ) (known : Log) (c : List (ℕ × ℕ)) (old new : ℕ) (is_old : old ≡ word_of start known false) (is_new : new ≡ word_of start known true) (at : get_elem? s.views id ≡ some (Trying file start known)) where
  abbrev log : Log
  log = recorded_of r.logs file

  abbrev w : ℕ
  w = get_or s.words file 0

  mine : (file < files) × (start ≡ start_of o file) × (0 < length known) × IsPrefix known log
  mine = r.each_seat id (Trying file start known) at

  here : FitsFile start w log
  here = subst (λ k. FitsFile k w log) (sym mine.1) (r.each_file file mine.0)

  known_codes : AreCodes known
  known_codes = codes_prefix known log mine.3 here.codes

  log_some : 0 < length log
  log_some = let a = mine.2 in let b = prefix_length known log mine.3 in omega arith

  marks_hit : w ≡ old → IsKept o (stepped s file new id c (Pass file start log (length log) new) keeps) × (new ≡ word_of start log true)
  marks_hit hit =
      let was : w ≡ word_of start log false = ⊎_elim (λ (u : w ≡ word_of start log false). u) (λ (u : (0 < length log) × (w ≡ word_of start log true)). absurd (seen_apart start log known here.codes known_codes (sym u.1 ∙ hit ∙ is_old))) here.stands in
      let now : new ≡ word_of start log true = marked_word start known log new (sym is_old ∙ sym hit ∙ was) is_new in
      let count = r.word_count in
      let got : get_or (set s.words file new) file 0 ≡ new = get_or-set_same s.words file new 0 (subst (λ n. file < n) (sym count) mine.0) in
      let marked : FitsFile start new log = record { stands = inr (log_some, now); codes = here.codes; opening = here.opening } in (
        record {
          logs = r.logs;
          writer = r.writer;
          word_count = length-set s.words file new ∙ count;
          log_count = r.log_count;
          each_file = λ g h. dite (ℕ_discrete g file)
              (λ e. subst (λ k. FitsFile (start_of o k) (get_or (set s.words file new) k 0) (recorded_of r.logs k)) (sym e)
              (subst (λ (z : ℕ × ℕ). FitsFile z.0 z.1 log) (λ i. (mine.1 i, sym got i)) marked))
              (λ n. subst (λ x. FitsFile (start_of o g) x (recorded_of r.logs g)) (sym (get_or-set_other s.words file g new 0 n)) (r.each_file g h));
          each_seat = each_set (Fits o r.logs (set s.words file new) r.writer) s.views id (Pass file start log (length log) new)
              (mine.0, mine.1, subst (λ x. FitsPass start log x log (length log) new) (sym got) (just_done start log new log_some now))
              (λ j v _ e. others_marked o r.logs s.words r.writer file new here.codes (was ∙ ap (λ k. word_of k log false) mine.1) j v (r.each_seat j v e));
        },
        now,
      )

  marks_seen : w ≡ new → (new ≡ word_of start log true) × Fits o r.logs s.words r.writer id (Pass file start log (length log) new)
  marks_seen e =
      let now : new ≡ word_of start log true = ⊎_elim (λ (u : w ≡ word_of start log false). absurd (seen_apart start known log known_codes here.codes (sym is_new ∙ sym e ∙ u))) (λ (u : (0 < length log) × (w ≡ word_of start log true)). sym e ∙ u.1) here.stands in
      (now, (mine.0, mine.1, subst (λ x. FitsPass start log x log (length log) new) (sym e) (just_done start log new log_some now)))

  -- the exchange found a third word: a code was recorded since the load
  marks_late : w ≢ old → w ≢ new → Fits o r.logs s.words r.writer id (Pass file start known (length known) 0)
  marks_late a b = (
    mine.0,
    mine.1,
    record {
      known_begins = mine.3;
      done_within = le_refl (length known);
      fresh = λ _. inr (dite (dec_le (length log) (length known))
          (λ h. absurd (let same : known ≡ log = prefix_whole known log mine.3 h in ⊎_elim
          (λ (u : w ≡ word_of start log false). a (u ∙ ap (λ l. word_of start l false) (sym same) ∙ sym is_old))
          (λ (u : (0 < length log) × (w ≡ word_of start log true)). b (u.1 ∙ ap (λ l. word_of start l true) (sym same) ∙ sym is_new)) here.stands))
          (λ h. lt_of_not-le h));
      sampled = λ n. absurd (n refl);
    },
  )

marks : (o : List ℕ) (slots id file start : ℕ) (known : Log) (c : List (ℕ × ℕ)) (old new : ℕ) → old ≡ word_of start known false → new ≡ word_of start known true
    → Allows (IsKept o) slots id (Trying file start known, c) file (λ n. either (eqb n old) new n) (Marked (step slots file old new none) (Trying file start known, c))
marks o slots id file start known c old new is_old is_new s r _ at _ =
    let w : ℕ = get_or s.words file 0 in let log : Log = recorded_of r.logs file in
    let mine = r.each_seat id (Trying file start known) at in
    let begins : IsPrefix known log = mine.3 in
    let codes : AreCodes log = (r.each_file file mine.0).codes in
    dite (ℕ_discrete w old)
    (λ hit. let t = marks_hit o s r id file start known c old new is_old is_new at hit in (
      Pass file start log (length log) new,
      keeps,
      tt,
      subst (λ b. IsKept o (stepped s file (either b new w) id c (Pass file start log (length log) new) keeps)) (sym (eq-eqb w old hit)) t.0,
      (refl, inl (log, begins, unmarked_word start known log old new is_old is_new t.1, t.1, codes, refl, inl hit)),
    ))
    (λ miss. dite (ℕ_discrete w new)
    (λ e. let t = marks_seen o s r id file start known c old new is_old is_new at e in (
      Pass file start log (length log) new,
      keeps,
      tt,
      subst (λ b. IsKept o (stepped s file (either b new w) id c (Pass file start log (length log) new) keeps)) (sym (ne_eqb w old miss)) (unmoved o s r file id c (Pass file start log (length log) new) t.1),
      (refl, inl (log, begins, unmarked_word start known log old new is_old is_new t.0, t.0, codes, refl, inr e)),
    ))
    (λ n. (
      Pass file start known (length known) 0,
      keeps,
      tt,
      subst (λ b. IsKept o (stepped s file (either b new w) id c (Pass file start known (length known) 0) keeps)) (sym (ne_eqb w old miss)) (unmoved o s r file id c (Pass file start known (length known) 0) (marks_late o s r id file start known c old new is_old is_new at miss n)),
      (refl, inr (miss, n, refl)),
    )))

-- ---- at a seat that is known by an equation
pub looks_as : (o : List ℕ) (slots id file : ℕ) (me : Me ℕ View) (start : ℕ) (known : Log) (done since : ℕ) (c : List (ℕ × ℕ)) → me ≡ (Pass file start known done since, c) → Allows (IsKept o) slots id me file (λ n. n) (Looked (step slots file 0 0 none) me)
looks_as o slots id file me start known done since c is = subst (λ (m : Me ℕ View). Allows (IsKept o) slots id m file (λ n. n) (Looked (step slots file 0 0 none) m)) (sym is) (looks o slots id file start known done since c)

pub marks_as : (o : List ℕ) (slots id file : ℕ) (me : Me ℕ View) (start : ℕ) (known : Log) (c : List (ℕ × ℕ)) (old new : ℕ) → me ≡ (Trying file start known, c) → old ≡ word_of start known false → new ≡ word_of start known true
    → Allows (IsKept o) slots id me file (λ n. either (eqb n old) new n) (Marked (step slots file old new none) me)
marks_as o slots id file me start known c old new is a b = subst (λ (m : Me ℕ View). Allows (IsKept o) slots id m file (λ n. either (eqb n old) new n) (Marked (step slots file old new none) m)) (sym is) (marks o slots id file start known c old new a b)

-- what the compare-exchange tells
pub is_marked : (file : ℕ) (before : Me ℕ View) (start : ℕ) (known : Log) (st : Step ℕ) (found since first second : ℕ) (after : Me ℕ View) → before ≡ (Trying file start known, []) → st.first ≡ first → st.second ≡ second → first ≡ word_of start known false → AreCodes known
    → Marked st before found after → ((found ≡ first) ⊎ (found ≡ second) → since ≡ second) → (found ≢ first → found ≢ second → since ≡ 0) → IsMarked file start known first since after
is_marked file before start known st found since first second after is same_first same_second is_first codes told stands changed = go after (subst (λ (m : Me ℕ View). Marked st m found after) is told)
  where
    go : (after : Me ℕ View) → Marked st (Trying file start known, []) found after → IsMarked file start known first since after
    go after h = ⊎_elim
        (λ (t : (log : Log) × IsPrefix known log × (st.first ≡ word_of start log false) × (st.second ≡ word_of start log true) × AreCodes log × (after.0 ≡ Pass file start log (length log) st.second) × ((found ≡ st.first) ⊎ (found ≡ st.second))).
        let now : since ≡ st.second = stands (⊎_elim (λ (e : found ≡ st.first). inl (e ∙ same_first)) (λ (e : found ≡ st.second). inr (e ∙ same_second)) t.6) ∙ sym same_second in
        (t.0, t.1, sym same_first ∙ t.2, t.4, (λ i. ((t.5 ∙ ap (λ n. Pass file start t.0 (length t.0) n) (sym now)) i, h.0 i)), inl (now ∙ t.3)))
        (λ (t : (found ≢ st.first) × (found ≢ st.second) × (after.0 ≡ Pass file start known (length known) 0)).
        let now = changed (λ e. t.0 (e ∙ sym same_first)) (λ e. t.1 (e ∙ sym same_second)) in
        (known, prefix_self known, is_first, codes, (λ i. ((t.2 ∙ ap (λ n. Pass file start known (length known) n) (sym now)) i, h.0 i)), inr now))
        h.1

-- ---- a whole poll
abbrev looked_as : ℕ → ℕ → Log → ℕ → Bool → ℕ → Bool → View
looked_as file start log since same found seen = if same then Pass file start log (length log) since else (if seen then Pass file start log (length log) found else Trying file start log)

pub polled_same : (file start : ℕ) (known : Log) (done since found : ℕ) (after : Me ℕ View) → found ≡ since → after.1 ≡ [] → LookedFrom (Pass file start known done since) found after.0 → IsPolled file start known done since found since after
polled_same file start known done since found after e empty h =
    let is : after.0 ≡ Pass file start h.0 (length h.0) since = h.5 ∙ ap (λ b. looked_as file start h.0 since b found (is_seen found)) (eq-eqb found since e) in
    (h.0, h.1, h.3, h.2, (λ i. (is i, empty i)), inl (e, refl, h.4.0 e))

pub polled_seen : (file start : ℕ) (known : Log) (done since found : ℕ) (after : Me ℕ View) → found ≢ since → is_seen found ≡ true → after.1 ≡ [] → LookedFrom (Pass file start known done since) found after.0 → IsPolled file start known done since found found after
polled_seen file start known done since found after n seen empty h =
    let is : after.0 ≡ Pass file start h.0 (length h.0) found = h.5 ∙ ap (λ b. looked_as file start h.0 since b found (is_seen found)) (ne_eqb found since n) ∙ ap (λ b. looked_as file start h.0 since false found b) seen in
    let now : found ≡ word_of start h.0 true = ⊎_elim (λ (u : found ≡ word_of start h.0 false). absurd (true≢false (sym seen ∙ ap is_seen u ∙ seen_of_word start h.0 false h.3))) (λ (u : (0 < length h.0) × (found ≡ word_of start h.0 true)). u.1) h.2 in
    (h.0, h.1, h.3, h.2, (λ i. (is i, empty i)), inr (n, h.4.1 n, inl now))

-- the view of a pass that is to set SEEN
abbrev IsTrying : ℕ → Log → ℕ → ℕ → ℕ → ℕ → Log → Me ℕ View → Type 0
IsTrying file known done start found k l after = (after ≡ (Trying file k l, [])) × (found ≡ word_of k l false) × AreCodes l × IsPrefix known l × (done < length l) × (k ≡ start)

pub tries : (file start : ℕ) (known : Log) (done since found : ℕ) (after : Me ℕ View) → found ≢ since → is_seen found ≡ false → after.1 ≡ [] → LookedFrom (Pass file start known done since) found after.0
    → IsTrying file known done start found (start_in after.0) (known_of after.0) after
tries file start known done since found after n unseen empty h =
    let is : after.0 ≡ Trying file start h.0 = h.5 ∙ ap (λ b. looked_as file start h.0 since b found (is_seen found)) (ne_eqb found since n) ∙ ap (λ b. looked_as file start h.0 since false found b) unseen in
    let now : found ≡ word_of start h.0 false = ⊎_elim (λ (u : found ≡ word_of start h.0 false). u) (λ (u : (0 < length h.0) × (found ≡ word_of start h.0 true)). absurd (true≢false (sym (seen_of_word start h.0 true h.3) ∙ sym (ap is_seen u.1) ∙ unseen))) h.2 in
    subst (λ (z : ℕ × Log). IsTrying file known done start found z.0 z.1 after) (λ i. (sym (ap start_in is) i, sym (ap known_of is) i))
    ((λ i. (is i, empty i)), now, h.3, h.1, h.4.1 n, refl)

pub polled_marked : (file start k : ℕ) (known : Log) (done since found next : ℕ) (tried : Log) (after : Me ℕ View) → found ≢ since → IsPrefix known tried → done < length tried → k ≡ start → IsMarked file k tried found next after → IsPolled file start known done since found next after
polled_marked file start k known done since found next tried after n begins later same marked =
    let h = subst (λ k. IsMarked file k tried found next after) same marked in
    let more = prefix_length tried h.0 h.1 in
    (h.0, prefix_trans known tried h.0 begins h.1, h.3, inl h.2, h.4, inr (n, (let l : ℕ = length h.0 in let t : ℕ = length tried in omega arith), h.5))

-- ---- what a poll answers
code_found : (start w : ℕ) (log : Log) → AreCodes log → StandsFor start w log → code_of w ≡ last_code log
code_found start w log codes stands = ⊎_elim (λ (u : w ≡ word_of start log false). ap code_of u ∙ code_of_word start log false codes) (λ (u : (0 < length log) × (w ≡ word_of start log true)). ap code_of u.1 ∙ code_of_word start log true codes) stands

later_than : (file start : ℕ) (known : Log) (done since found next : ℕ) (after : Me ℕ View) → found ≢ since → (h : IsPolled file start known done since found next after) → done < length h.0
later_than file start known done since found next after n h = ⊎_elim
    (λ (t : (found ≡ since) × (next ≡ since) × (IsWithinTurn (raised (drop done h.0)) → length h.0 ≤ done)). absurd (n t.0))
    (λ (t : (found ≢ since) × (done < length h.0) × ((next ≡ word_of start h.0 true) ⊎ (next ≡ 0))). t.1)
    h.5

-- a word that is not the sample has a code
pub polled_is_code : (file start : ℕ) (known : Log) (done since found next : ℕ) (after : Me ℕ View) → IsPolled file start known done since found next after → found ≢ since → IsCode (code_of found)
polled_is_code file start known done since found next after h n =
    let later = later_than file start known done since found next after n h in
    let range = code_range h.0 h.2 (omega arith) in
    let is : code_of found ≡ last_code h.0 = code_found start found h.0 h.2 h.3 in
    let c : ℕ = last_code h.0 in
    subst IsCode (sym is) ((let low : 0 < c = range.0 in let e : 1 ≤ c = omega arith in e), (let high : c < 4096 = range.1 in let e : c ≤ 4095 = omega arith in e))

pub polled_code : (file start : ℕ) (known : Log) (done since found next : ℕ) (after : Me ℕ View) (answer : Option ℕ) → answer ≡ checked found since → IsPolled file start known done since found next after → IfSome answer (λ c. (done < length (known_of after.0)) × (c ≡ last_code (known_of after.0)))
polled_code file start known done since found next after answer is h =
    let back : known_of after.0 ≡ h.0 = ap (λ (m : Me ℕ View). known_of m.0) h.4 in
    subst (λ (z : Option ℕ × Log). IfSome z.0 (λ c. (done < length z.1) × (c ≡ last_code z.1))) (λ i. (sym is i, sym back i)) (dite (ℕ_discrete found since)
    (λ e. subst (λ b. IfSome (if b then None else Some (code_of found)) (λ c. (done < length h.0) × (c ≡ last_code h.0))) (sym (eq-eqb found since e)) tt)
    (λ n. subst (λ b. IfSome (if b then None else Some (code_of found)) (λ c. (done < length h.0) × (c ≡ last_code h.0))) (sym (ne_eqb found since n)) (later_than file start known done since found next after n h, code_found start found h.0 h.2 h.3)))

-- The steps of the recorder keep the rule, and what they tell.
use Rattle.std.proofs.Common.{◌≡◌, ◌≢◌, ℕ, ◌+◌, ◌-◌, ◌%◌, ◌<◌, ◌≤◌, Bool, true, false, eqb, eq-eqb, ne_eqb, List, [], ◌∷◌, ◌++◌, length, set, get_or, inl, inr, refl, sym, ap, ◌∙◌, subst, arith, ⊎_elim, true≢false, length-set, length-append, get_or-set_other, get_or-set_same}
use Rattle.std.specs.Prelude.{MatchBool, if◌then◌else◌}
use mathlib.Core.Option.{none}
use mathlib.Core.List.{IsPrefix}
use mathlib.Core.Logic.{dite}
use native.Mathlib.Decide.{ℕ_discrete}
use prog.Atomic.{either}
use Rattle.atomic_table.specs.Table.{State, Me, Step, step, keeps, stepped, Allows}
use Rattle.errseq.specs.declared.recording.Recording.{Recording}
use Rattle.errseq.specs.Word.{IsCode, code_of, is_seen, turns, without_seen, word_set}
use Rattle.errseq.specs.Recorded.{last_code, raised, word_of}
use Rattle.errseq.specs.Samples.{AreCodes, FitsPass, FitsFound, recording}
use Rattle.errseq.proofs.Prefixes.{prefix_more}
use Rattle.errseq.proofs.Words.{is_seen-word, last_code-push}
use Rattle.errseq.proofs.Samples.{Log, seen_apart, seen_of_word, found_now, set_stands, code_of-set, codes_push, pass_recorded}
use Rattle.errboard.specs.declared.views.View.{View}
use Rattle.errboard.specs.declared.views.View.TheVariants.{Spent, Recorder, Sampled, Compares, Pass, Trying, Receipt}
use Rattle.errboard.specs.Views.{files, recorded_of, start_of, recorder_left}
use Rattle.errboard.specs.Rules.{FitsFile, Fits, IsKept, Found, IsRecording, Recorded}
use Rattle.errboard.specs.Shown.{Remembers, all_of, opening_of}
use Rattle.errboard.specs.Steps.{IsRecorded, with_recording}
use Rattle.errboard.proofs.States.{each_set, unmoved}

-- ---- the load
finds : (o : List ℕ) (slots id file : ℕ) (began : List ℕ) (all : List Log) (c : List (ℕ × ℕ)) → file < files → Allows (IsKept o) slots id (Recorder began all, c) file (λ n. n) (Found (step slots file 0 0 none) (Recorder began all, c))
finds o slots id file began all c inside s r _ at _ =
    let mine = r.each_seat id (Recorder began all) at in
    let here = r.each_file file inside in
    let w : ℕ = get_or s.words file 0 in
    let found = found_now (start_of o file) (recorded_of r.logs file) w here.stands in (
      Sampled began all file w,
      keeps,
      tt,
      unmoved o s r file id c (Sampled began all file w) (mine.0, mine.1, mine.2, inside, found),
      (
        refl,
        (
          refl,
          subst (λ (z : List ℕ × List Log). FitsFound (start_of z.0 file) (recorded_of z.1 file) w w) (λ i. (sym mine.1 i, sym mine.2 i)) found,
          subst (λ l. AreCodes (recorded_of l file)) (sym mine.2) here.codes,
        ),
      ),
    )

-- ---- a recording
module _ (o : List ℕ) (logs : List Log) (words : List ℕ) (writer file new : ℕ) (x : Recording) (in_logs : file < length logs) (in_words : file < length words) (codes : AreCodes (recorded_of logs file)) (raises : x.raises ≡ is_seen (get_or words file 0)) where
  abbrev logs2 : List Log
  logs2 = set logs file (recorded_of logs file ++ x ∷ [])

  abbrev words2 : List ℕ
  words2 = set words file new

  log_here : (g : ℕ) → g ≡ file → recorded_of logs2 g ≡ recorded_of logs file ++ x ∷ []
  log_here g e = ap (λ k. get_or logs2 k []) e ∙ get_or-set_same logs file (recorded_of logs file ++ x ∷ []) [] in_logs

  log_else : (g : ℕ) → g ≢ file → recorded_of logs2 g ≡ recorded_of logs g
  log_else g n = get_or-set_other logs file g (recorded_of logs file ++ x ∷ []) [] n

  prefix_recorded : (g : ℕ) (known : Log) → IsPrefix known (recorded_of logs g) → IsPrefix known (recorded_of logs2 g)
  prefix_recorded g known p = dite (ℕ_discrete g file)
      (λ e. subst (λ l. IsPrefix known l) (sym (log_here g e)) (prefix_more known (recorded_of logs file) x (subst (λ k. IsPrefix known (recorded_of logs k)) e p)))
      (λ n. subst (λ l. IsPrefix known l) (sym (log_else g n)) p)

  -- what the others know stays
  others_recorded : (j : ℕ) (v : View) → j ≢ writer → Fits o logs words writer j v → Fits o logs2 words2 writer j v
  others_recorded j Spent apart f = tt
  others_recorded j (Recorder began all) apart f = absurd (apart f.0)
  others_recorded j (Sampled began all g found) apart f = absurd (apart f.0)
  others_recorded j (Compares began all g known done since) apart f = absurd (apart f.0)
  others_recorded j (Pass g start known done since) apart f = (
    f.0,
    f.1,
    dite (ℕ_discrete g file)
        (λ e. let h = pass_recorded start (recorded_of logs file) (get_or words file 0) new x known done since codes raises (subst (λ k. FitsPass start (recorded_of logs k) (get_or words k 0) known done since) e f.2) in
        subst (λ (z : Log × ℕ). FitsPass start z.0 z.1 known done since) (λ i. (sym (log_here g e) i, sym (ap (λ k. get_or words2 k 0) e ∙ get_or-set_same words file new 0 in_words) i)) h)
        (λ n. subst (λ (z : Log × ℕ). FitsPass start z.0 z.1 known done since) (λ i. (sym (log_else g n) i, sym (get_or-set_other words file g new 0 n) i)) f.2),
  )
  others_recorded j (Trying g start known) apart f = (f.0, f.1, f.2, prefix_recorded g known f.3)
  others_recorded j (Receipt g known) apart f = prefix_recorded g known f

not_empty : (log : Log) (x : Recording) → log ++ x ∷ [] ≡ [] → {P : Type 0} → P
not_empty log x e = let more : length (log ++ x ∷ []) ≡ length log + 1 = length-append log (x ∷ []) in let none : length (log ++ x ∷ []) ≡ 0 = ap length e in absurd (omega arith)

recorded_state : (o : List ℕ) (s : State ℕ View) (r : IsKept o s) (id file new : ℕ) (c : List (ℕ × ℕ)) (x : Recording) → file < files → id ≡ r.writer → x.raises ≡ is_seen (get_or s.words file 0) → IsCode x.code
    → new ≡ word_of (start_of o file) (recorded_of r.logs file ++ x ∷ []) false
    → IsKept o (stepped s file new id c (Sampled o (set r.logs file (recorded_of r.logs file ++ x ∷ [])) file new) keeps)
recorded_state o s r id file new c x inside is raises code word_is =
    let log : Log = recorded_of r.logs file in
    let start : ℕ = start_of o file in
    let here = r.each_file file inside in
    let wc = r.word_count in let lc = r.log_count in
    let in_logs : file < length r.logs = subst (λ n. file < n) (sym lc) inside in
    let in_words : file < length s.words = subst (λ n. file < n) (sym wc) inside in
    let logs' : List Log = set r.logs file (log ++ x ∷ []) in
    let words' : List ℕ = set s.words file new in
    let got_log : recorded_of logs' file ≡ log ++ x ∷ [] = get_or-set_same r.logs file (log ++ x ∷ []) [] in_logs in
    let got : get_or words' file 0 ≡ new = get_or-set_same s.words file new 0 in_words in
    let stands : new ≡ word_of start (recorded_of logs' file) false = word_is ∙ ap (λ l. word_of start l false) (sym got_log) in
    let recorded : FitsFile start new (log ++ x ∷ []) = record { stands = inl word_is; codes = codes_push log x here.codes code; opening = λ e. not_empty log x e } in record {
      logs = logs';
      writer = r.writer;
      word_count = length-set s.words file new ∙ wc;
      log_count = length-set r.logs file (log ++ x ∷ []) ∙ lc;
      each_file = λ g h. dite (ℕ_discrete g file)
          (λ e. subst (λ k. FitsFile (start_of o k) (get_or words' k 0) (recorded_of logs' k)) (sym e)
          (subst (λ (z : ℕ × Log). FitsFile start z.0 z.1) (λ i. (sym got i, sym got_log i)) recorded))
          (λ n. subst (λ (z : ℕ × Log). FitsFile (start_of o g) z.0 z.1) (λ i. (sym (get_or-set_other s.words file g new 0 n) i, sym (get_or-set_other r.logs file g (log ++ x ∷ []) [] n) i)) (r.each_file g h));
      each_seat = each_set (Fits o logs' words' r.writer) s.views id (Sampled o logs' file new)
          (is, refl, refl, inside, inl stands)
          (λ j v n e. others_recorded o r.logs s.words r.writer file new x in_logs in_words here.codes raises j v (λ k. n (k ∙ sym is)) (r.each_seat j v e));
    }

abbrev recorded_view : List ℕ → List Log → ℕ → ℕ → ℕ → View
recorded_view began all file old new = Sampled began (set all file (recorded_of all file ++ recording old new ∷ [])) file new

-- what a try tells that recorded, of the words at the beginning and of all recordings
abbrev Made : ℕ → ℕ → ℕ → View → List ℕ → List Log → Type 0
Made file old new after began all = (after ≡ recorded_view began all file old new) × (new ≡ word_of (start_of began file) (recorded_of all file ++ recording old new ∷ []) false) × (is_seen old ≡ true → 0 < length (recorded_of all file))

-- what a first try tells, where the test of the word found came out so
abbrev Tells : List ℕ → List Log → ℕ → ℕ → ℕ → ℕ → Bool → View → Type 0
Tells began all file old new found hit after = MatchBool hit (Made file old new after began all) ((after ≡ Sampled began all file found) × (found ≡ word_of (start_of began file) (recorded_of all file) true))

-- the first try
records : (o : List ℕ) (slots id file : ℕ) (began : List ℕ) (all : List Log) (c : List (ℕ × ℕ)) (old new code : ℕ) → file < files → old ≡ word_of (start_of began file) (recorded_of all file) false → new ≡ word_set old code → IsCode code
    → Allows (IsKept o) slots id (Recorder began all, c) file (λ n. either (eqb n old) new n) (Recorded (step slots file old new none) (Recorder began all, c))
records o slots id file began all c old new code inside is_old is_new valid s r _ at _ =
    let mine = r.each_seat id (Recorder began all) at in
    let here = r.each_file file inside in
    let start : ℕ = start_of o file in
    let w : ℕ = get_or s.words file 0 in
    let log : Log = recorded_of r.logs file in
    let both : (began, all) ≡ (o, r.logs) = λ i. (mine.1 i, mine.2 i) in
    let old_is : old ≡ word_of start log false = subst (λ (z : List ℕ × List Log). old ≡ word_of (start_of z.0 file) (recorded_of z.1 file) false) both is_old in
    dite (ℕ_discrete w old)
    (λ hit.
    let t = set_stands start log old new code here.codes valid (inl old_is) is_new in
    let view = recorded_view o r.logs file old new in (
      view,
      keeps,
      tt,
      subst (λ b. IsKept o (stepped s file (either b new w) id c view keeps)) (sym (eq-eqb w old hit))
          (recorded_state o s r id file new c (recording old new) inside mine.0 (ap is_seen (sym hit)) (subst IsCode (sym t.1) valid) t.0),
      (
        refl,
        subst (λ b. Tells began all file old new w b view) (sym (eq-eqb w old hit)) (subst (λ (z : List ℕ × List Log). Made file old new view z.0 z.1) (sym both)
            (refl, t.0, λ e. absurd (true≢false (sym e ∙ ap is_seen old_is ∙ seen_of_word start log false here.codes)))),
      ),
    ))
    (λ miss.
    let view = Sampled began all file w in
    let u : (0 < length log) × (w ≡ word_of start log true) = ⊎_elim (λ (u : w ≡ word_of start log false). absurd (miss (u ∙ sym old_is))) (λ (u : (0 < length log) × (w ≡ word_of start log true)). u) here.stands in (
      view,
      keeps,
      tt,
      subst (λ b. IsKept o (stepped s file (either b new w) id c view keeps)) (sym (ne_eqb w old miss)) (unmoved o s r file id c view (mine.0, mine.1, mine.2, inside, inr (u.0, u.1, refl))),
      (refl, subst (λ b. Tells began all file old new w b view) (sym (ne_eqb w old miss)) (refl, subst (λ (z : List ℕ × List Log). w ≡ word_of (start_of z.0 file) (recorded_of z.1 file) true) (sym both) u.1)),
    ))

-- the second try
records_again : (o : List ℕ) (slots id file : ℕ) (began : List ℕ) (all : List Log) (c : List (ℕ × ℕ)) (old new code : ℕ) → old ≡ word_of (start_of began file) (recorded_of all file) true → new ≡ word_set old code → IsCode code
    → Allows (IsKept o) slots id (Sampled began all file old, c) file (λ n. either (eqb n old) new n) (Recorded (step slots file old new none) (Sampled began all file old, c))
records_again o slots id file began all c old new code is_old is_new valid s r _ at _ =
    let mine = r.each_seat id (Sampled began all file old) at in
    let inside = mine.3 in
    let here = r.each_file file inside in
    let start : ℕ = start_of o file in
    let w : ℕ = get_or s.words file 0 in
    let log : Log = recorded_of r.logs file in
    let both : (began, all) ≡ (o, r.logs) = λ i. (mine.1 i, mine.2 i) in
    let old_is : old ≡ word_of start log true = subst (λ (z : List ℕ × List Log). old ≡ word_of (start_of z.0 file) (recorded_of z.1 file) true) both is_old in
    let u : (0 < length log) × (old ≡ word_of start log true) × (w ≡ old) = ⊎_elim (λ (u : old ≡ word_of start log false). absurd (seen_apart start log log here.codes here.codes (sym old_is ∙ u))) (λ (u : (0 < length log) × (old ≡ word_of start log true) × (w ≡ old)). u) mine.4 in
    let t = set_stands start log old new code here.codes valid (inr (u.0, u.1)) is_new in
    let view = recorded_view o r.logs file old new in (
      view,
      keeps,
      tt,
      subst (λ b. IsKept o (stepped s file (either b new w) id c view keeps)) (sym (eq-eqb w old u.2))
          (recorded_state o s r id file new c (recording old new) inside mine.0 (ap is_seen (sym u.2)) (subst IsCode (sym t.1) valid) t.0),
      (refl, subst (λ (z : List ℕ × List Log). Made file old new view z.0 z.1) (sym both) (refl, t.0, λ _. u.0)),
    )

-- ---- at a seat that is known by an equation
pub finds_as : (o : List ℕ) (slots id file : ℕ) (me : Me ℕ View) (began : List ℕ) (all : List Log) (c : List (ℕ × ℕ)) → me ≡ (Recorder began all, c) → file < files → Allows (IsKept o) slots id me file (λ n. n) (Found (step slots file 0 0 none) me)
finds_as o slots id file me began all c is inside = subst (λ (m : Me ℕ View). Allows (IsKept o) slots id m file (λ n. n) (Found (step slots file 0 0 none) m)) (sym is) (finds o slots id file began all c inside)

pub records_as : (o : List ℕ) (slots id file : ℕ) (me : Me ℕ View) (began : List ℕ) (all : List Log) (c : List (ℕ × ℕ)) (old new code : ℕ) → me ≡ (Recorder began all, c) → file < files → old ≡ word_of (start_of began file) (recorded_of all file) false → new ≡ word_set old code → IsCode code
    → Allows (IsKept o) slots id me file (λ n. either (eqb n old) new n) (Recorded (step slots file old new none) me)
records_as o slots id file me began all c old new code is inside a b v = subst (λ (m : Me ℕ View). Allows (IsKept o) slots id m file (λ n. either (eqb n old) new n) (Recorded (step slots file old new none) m)) (sym is) (records o slots id file began all c old new code inside a b v)

pub records_again_as : (o : List ℕ) (slots id file : ℕ) (me : Me ℕ View) (began : List ℕ) (all : List Log) (c : List (ℕ × ℕ)) (old new code : ℕ) → me ≡ (Sampled began all file old, c) → old ≡ word_of (start_of began file) (recorded_of all file) true → new ≡ word_set old code → IsCode code
    → Allows (IsKept o) slots id me file (λ n. either (eqb n old) new n) (Recorded (step slots file old new none) me)
records_again_as o slots id file me began all c old new code is a b v = subst (λ (m : Me ℕ View). Allows (IsKept o) slots id m file (λ n. either (eqb n old) new n) (Recorded (step slots file old new none) m)) (sym is) (records_again o slots id file began all c old new code a b v)

unseen_pushed : (start : ℕ) (log : Log) (x : Recording) → IsCode x.code → is_seen (word_of start (log ++ x ∷ []) false) ≡ false
unseen_pushed start log x valid = is_seen-word ((start + raised (log ++ x ∷ [])) % turns) (last_code (log ++ x ∷ [])) false (let e = last_code-push log x in let high : x.code ≤ 4095 = valid.1 in omega arith)

-- what a try that recorded tells
recorded_by : (file : ℕ) (began : List ℕ) (all : List Log) (st : Step ℕ) (code : ℕ) (after : Me ℕ View) → st.second ≡ word_set st.first code → IsCode code → after.1 ≡ [] → IsRecording file began all st after.0 → IsRecorded file began all code st.second after
recorded_by file began all st code after is valid same h =
    let coded : code_of st.second ≡ code = ap code_of is ∙ code_of-set st.first code valid in
    (recording st.first st.second, coded, h.2, (λ i. (h.0 i, same i)), h.1, ap is_seen h.1 ∙ unseen_pushed (start_of began file) (recorded_of all file) (recording st.first st.second) (subst IsCode (sym coded) valid))

pub first_recorded : (file : ℕ) (before : Me ℕ View) (began : List ℕ) (all : List Log) (st : Step ℕ) (found code word : ℕ) (after : Me ℕ View) → before ≡ (Recorder began all, []) → st.word ≡ file → st.second ≡ word_set st.first code → IsCode code → found ≡ st.first → Recorded st before found after → word ≡ st.second → IsRecorded file began all code word after
first_recorded file before began all st found code word after is at set_is valid hit told same =
    let h = subst (λ (m : Me ℕ View). Recorded st m found after) is told in
    let h' = subst (λ b. MatchBool b (IsRecording st.word began all st after.0) ((after.0 ≡ Sampled began all st.word found) × (found ≡ word_of (start_of began st.word) (recorded_of all st.word) true))) (eq-eqb found st.first hit) h.1 in
    subst (λ n. IsRecorded file began all code n after) (sym same) (recorded_by file began all st code after set_is valid h.0 (subst (λ n. IsRecording n began all st after.0) at h'))

pub first_missed : (before : Me ℕ View) (began : List ℕ) (all : List Log) (st : Step ℕ) (found : ℕ) (after : Me ℕ View) → before ≡ (Recorder began all, []) → found ≢ st.first → Recorded st before found after
    → (after ≡ (Sampled began all st.word found, [])) × (found ≡ word_of (start_of began st.word) (recorded_of all st.word) true)
first_missed before began all st found after is miss told =
    let h = subst (λ (m : Me ℕ View). Recorded st m found after) is told in
    let h' = subst (λ b. MatchBool b (IsRecording st.word began all st after.0) ((after.0 ≡ Sampled began all st.word found) × (found ≡ word_of (start_of began st.word) (recorded_of all st.word) true))) (ne_eqb found st.first miss) h.1 in
    ((λ i. (h'.0 i, h.0 i)), h'.1)

pub second_recorded : (file : ℕ) (before : Me ℕ View) (began : List ℕ) (all : List Log) (at : ℕ) (st : Step ℕ) (found code word : ℕ) (after : Me ℕ View) → before ≡ (Sampled began all file at, []) → st.second ≡ word_set st.first code → IsCode code → Recorded st before found after → word ≡ st.second → IsRecorded file began all code word after
second_recorded file before began all at st found code word after is set_is valid told same =
    let h = subst (λ (m : Me ℕ View). Recorded st m found after) is told in
    subst (λ n. IsRecorded file began all code n after) (sym same) (recorded_by file began all st code after set_is valid h.0 h.1)

-- ---- what the recorder remembers
unflagged : (w : ℕ) → is_seen w ≡ false → without_seen w ≡ w
unflagged w e = ap (λ b. if b then w - 4096 else w) e

remembers_more : (o written : List ℕ) (all : List Log) (file word : ℕ) (x : Recording) → length all ≡ files → file < files → word ≡ word_of (start_of o file) (recorded_of all file ++ x ∷ []) false → is_seen word ≡ false → Remembers o written all → Remembers o (set written file word) (with_recording all file x)
remembers_more o written all file word x b inside is unseen old = let a = old.0 in (
  length-set written file word ∙ old.0,
  λ g h. dite (ℕ_discrete g file)
      (λ e. subst (λ k. without_seen (get_or (set written file word) k 0) ≡ word_of (start_of o k) (recorded_of (with_recording all file x) k) false) (sym e)
      (ap without_seen (get_or-set_same written file word 0 (omega arith)) ∙ unflagged word unseen ∙ is ∙ ap (λ l. word_of (start_of o file) l false) (sym (get_or-set_same all file (recorded_of all file ++ x ∷ []) [] (omega arith)))))
      (λ n. ap without_seen (get_or-set_other written file g word 0 n) ∙ old.1 g h ∙ ap (λ l. word_of (start_of o g) l false) (sym (get_or-set_other all file g (recorded_of all file ++ x ∷ []) [] n))),
)

-- the recorder after a split that follows a recording
recorder_after : (before after : Me ℕ View) (o : List ℕ) (all : List Log) (file word : ℕ) → before ≡ (Sampled o all file word, []) → after ≡ (recorder_left before.0, before.1) → after ≡ (Recorder o all, [])
recorder_after before after o all file word a b = b ∙ ap (λ (m : Me ℕ View). (recorder_left m.0, m.1)) a

-- what is true of the recorder then: its view, the number of its lists, and what it remembers
pub recorder_kept : (before after : Me ℕ View) (o written : List ℕ) (all : List Log) (file word : ℕ) (x : Recording) → before ≡ (Sampled o (with_recording all file x) file word, []) → after ≡ (recorder_left before.0, before.1)
    → length all ≡ files → file < files → word ≡ word_of (start_of o file) (recorded_of all file ++ x ∷ []) false → is_seen word ≡ false → Remembers o written all
    → (after ≡ (Recorder (opening_of after.0) (all_of after.0), [])) × (length (all_of after.0) ≡ files) × Remembers (opening_of after.0) (set written file word) (all_of after.0)
recorder_kept before after o written all file word x a b la inside is unseen old =
    subst (λ (m : Me ℕ View). (m ≡ (Recorder (opening_of m.0) (all_of m.0), [])) × (length (all_of m.0) ≡ files) × Remembers (opening_of m.0) (set written file word) (all_of m.0)) (sym (recorder_after before after o (with_recording all file x) file word a b))
    (refl, length-set all file (recorded_of all file ++ x ∷ []) ∙ la, remembers_more o written all file word x la inside is unseen old)

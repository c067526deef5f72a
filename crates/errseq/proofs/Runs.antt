-- The word answers as the record of events.
use Rattle.std.proofs.Common.{◌≡◌, ◌≢◌, ℕ, ◌+◌, ◌-◌, ◌<◌, Bool, true, false, nat_lt, eq-eqb, ne_eqb, List, [], ◌∷◌, ◌++◌, length, drop, Option, Some, None, inl, inr, refl, sym, ap, ◌∙◌, subst, arith, true≢false, length-append}
use Rattle.std.specs.Prelude.{if◌then◌else◌, ◌==◌}
use Rattle.std.proofs.lemmas.Bool.{lt-ltb, ltb-true}
use Rattle.std.proofs.lemmas.List.{drop-append-le}
use Rattle.std.proofs.Math.Seq.{drop-length, take-length}
use mathlib.Core.Logic.{dite}
use native.Mathlib.Decide.{ℕ_discrete}
use Rattle.errseq.specs.declared.recording.Recording.{Recording}
use Rattle.errseq.specs.Word.{IsWithinTurn, code_of, is_seen, word_set, sample_of, with_seen}
use Rattle.errseq.specs.Recorded.{raised, last_code, word_of}
use Rattle.errseq.specs.Samples.{StandsFor, AreCodes, FitsPass, recording}
use Rattle.errseq.specs.Events.{Event, Record, Look, Open, last_of, has_record, looked, answer, raising_since, AllCodes, Words, after, AnswersAsRecorded}
use Rattle.errseq.proofs.Prefixes.{prefix_self}
use Rattle.errseq.proofs.Words.{raised-append, last_code-push}
use Rattle.errseq.proofs.Samples.{Log, seen_apart, zero_empty, just_done, none_done, found_now, codes_push, pass_recorded, marked_fits, new_pass, set_stands, same_fits, differs_later, later_found, seen_of_word, code_of_word, with_seen_word}

off : {P : Type 0} → true ≡ false → P
off e = absurd (true≢false e)

log_of : List Event → Log
log_of [] = []
log_of (Record c ∷ es) = log_of es ++ record { code = c; raises = looked es } ∷ []
log_of (Look h ∷ es) = log_of es
log_of (Open h ∷ es) = log_of es

done_of : ℕ → List Event → ℕ
done_of h [] = 0
done_of h (Record c ∷ es) = done_of h es
done_of h (Look g ∷ es) = if g == h then length (log_of es) else done_of h es
done_of h (Open g ∷ es) = if g == h then (if looked es then length (log_of es) else length (log_of es) - 1) else done_of h es

some_log : (es : List Event) → has_record es ≡ true → 0 < length (log_of es)
unfolding log_of
some_log [] e = off (sym e)
some_log (Record c ∷ es) e = rw length-append (omega arith)
some_log (Look h ∷ es) e = some_log es e
some_log (Open h ∷ es) e = some_log es e

no_log : (es : List Event) → has_record es ≡ false → log_of es ≡ []
unfolding log_of
no_log [] e = refl
no_log (Record c ∷ es) e = off e
no_log (Look h ∷ es) e = no_log es e
no_log (Open h ∷ es) e = no_log es e

looked_some : (es : List Event) → looked es ≡ true → has_record es ≡ true
looked_some [] e = off (sym e)
looked_some (Record c ∷ es) e = refl
looked_some (Look h ∷ es) e = e
looked_some (Open h ∷ es) e = looked_some es e

codes_log : (es : List Event) → AllCodes es → AreCodes (log_of es)
unfolding log_of
codes_log [] h = λ k r e. absurd (cc)
codes_log (Record c ∷ es) h = codes_push (log_of es) (record { code = c; raises = looked es }) (codes_log es h.1) h.0
codes_log (Look g ∷ es) h = codes_log es h
codes_log (Open g ∷ es) h = codes_log es h

abbrev Fit : Words → List Event → Type 0
Fit ws es = (ws.word ≡ word_of 0 (log_of es) (looked es)) × ((h : ℕ) → FitsPass 0 (log_of es) ws.word (log_of es) (done_of h es) (ws.since h))

stands : (es : List Event) (w : ℕ) → w ≡ word_of 0 (log_of es) (looked es) → StandsFor 0 w (log_of es)
stands es w is = cases (looked es) refl
  where
    cases : (b : Bool) → looked es ≡ b → StandsFor 0 w (log_of es)
    cases true e = inr (some_log es (looked_some es e), is ∙ ap (word_of 0 (log_of es)) e)
    cases false e = inl (is ∙ ap (word_of 0 (log_of es)) e)

wider : (log : Log) (w : ℕ) (known : Log) (done since : ℕ) (x : Recording) → FitsPass 0 (log ++ x ∷ []) w log done since → FitsPass 0 (log ++ x ∷ []) w (log ++ x ∷ []) done since
wider log w known done since x f = record {
  known_begins = prefix_self (log ++ x ∷ []);
  done_within = let a = f.done_within in rw length-append (omega arith);
  fresh = f.fresh;
  sampled = f.sampled;
}

-- what is compared with and found again was seen, where anything was recorded
all_seen : (es : List Event) (w done since : ℕ) → AllCodes es → w ≡ word_of 0 (log_of es) (looked es) → FitsPass 0 (log_of es) w (log_of es) done since → w ≡ since → looked es ≡ has_record es
all_seen es w done since codes is f e = cases (looked es) refl (has_record es) refl
  where
    cases : (b : Bool) → looked es ≡ b → (r : Bool) → has_record es ≡ r → looked es ≡ has_record es
    cases true l r h = l ∙ sym (looked_some es l)
    cases false l false h = l ∙ sym h
    cases false l true h =
        let more = some_log es h in
        let u : w ≡ word_of 0 (log_of es) false = is ∙ ap (word_of 0 (log_of es)) l in
        let later = same_fits 0 (log_of es) w (log_of es) done since (codes_log es codes) (inl u) f e in
        absurd (dite (ℕ_discrete since 0)
        (λ z. let g : length (log_of es) ≡ 0 = ap length (zero_empty 0 (log_of es) w (codes_log es codes) (inl u) (e ∙ z)) in omega arith)
        (λ n. seen_apart 0 (log_of es) (log_of es) (codes_log es codes) (codes_log es codes) (sym ((later.sampled n).is_word ∙ ap (λ l. word_of 0 l true) (take-length (log_of es))) ∙ sym e ∙ u)))

recorded : (es : List Event) (r : Bool) → has_record es ≡ r → 0 < length (log_of es) → has_record es ≡ true
recorded es true e more = e
recorded es false e more = let g : length (log_of es) ≡ 0 = ap length (no_log es e) in absurd (omega arith)

flagged : (es : List Event) (w : ℕ) → AllCodes es → w ≡ word_of 0 (log_of es) (looked es) → with_seen w ≡ word_of 0 (log_of es) true
flagged es w codes is = cases (looked es) refl
  where
    cases : (b : Bool) → looked es ≡ b → with_seen w ≡ word_of 0 (log_of es) true
    cases false e = with_seen_word 0 (log_of es) w (codes_log es codes) (is ∙ ap (word_of 0 (log_of es)) e)
    cases true e = let u : w ≡ word_of 0 (log_of es) true = is ∙ ap (word_of 0 (log_of es)) e in
        ap (λ b. if b then w else w + 4096) (ap is_seen u ∙ seen_of_word 0 (log_of es) true (codes_log es codes)) ∙ u

fit : (es : List Event) → AllCodes es → Fit (after es) es
unfolding log_of done_of
fit [] codes = (refl, λ h. none_done 0 [] 0 refl)
fit (Record c ∷ es) codes =
    let f = fit es codes.1 in
    let log = log_of es in
    let w : ℕ = (after es).word in
    let t = set_stands 0 log w (word_set w c) c (codes_log es codes.1) codes.0 (stands es w f.0) refl in
    let seen : is_seen w ≡ looked es = ap is_seen f.0 ∙ seen_of_word 0 log (looked es) (codes_log es codes.1) in
    let x : Recording = record { code = c; raises = looked es } in
    let same : recording w (word_set w c) ≡ x = (λ i. record { code = t.1 i; raises = seen i }) in (
      t.0 ∙ ap (λ (y : Recording). word_of 0 (log ++ y ∷ []) false) same,
      λ h. wider log (word_set w c) log (done_of h es) ((after es).since h) x (pass_recorded 0 log w (word_set w c) x log (done_of h es) ((after es).since h) (codes_log es codes.1) (sym seen) (f.1 h)),
    )
fit (Look h ∷ es) codes =
    let f = fit es codes in
    let log = log_of es in
    let w : ℕ = (after es).word in
    let s : ℕ = (after es).since h in
    let not_same : Words = record { word = with_seen w; since = λ g. if h == g then with_seen w else (after es).since g } in
    dite (ℕ_discrete w s)
    (λ e. subst (λ b. Fit (if b then after es else not_same) (Look h ∷ es)) (sym (eq-eqb w s e)) (
      f.0 ∙ ap (word_of 0 log) (all_seen es w (done_of h es) s codes f.0 (f.1 h) e),
      λ g. dite (ℕ_discrete h g)
          (λ is. subst (λ b. FitsPass 0 log w log (if b then length log else done_of g es) ((after es).since g)) (sym (eq-eqb h g is))
          (subst (λ k. FitsPass 0 log w log (length log) ((after es).since k)) is (same_fits 0 log w log (done_of h es) s (codes_log es codes) (stands es w f.0) (f.1 h) e)))
          (λ n. subst (λ b. FitsPass 0 log w log (if b then length log else done_of g es) ((after es).since g)) (sym (ne_eqb h g n)) (f.1 g)),
    ))
    (λ n.
    let later = differs_later 0 log w log (done_of h es) s (codes_log es codes) (stands es w f.0) (f.1 h) (λ _. refl) n in
    let more : 0 < length log = omega arith in
    let some_record : has_record es ≡ true = recorded es (has_record es) refl more in
    let now : with_seen w ≡ word_of 0 log true = flagged es w codes f.0 in
    subst (λ b. Fit (if b then after es else not_same) (Look h ∷ es)) (sym (ne_eqb w s n)) (
      now ∙ ap (word_of 0 log) (sym some_record),
      λ g. dite (ℕ_discrete h g)
          (λ is. subst (λ b. FitsPass 0 log (with_seen w) log (if b then length log else done_of g es) (if b then with_seen w else (after es).since g)) (sym (eq-eqb h g is)) (just_done 0 log (with_seen w) more now))
          (λ m. subst (λ b. FitsPass 0 log (with_seen w) log (if b then length log else done_of g es) (if b then with_seen w else (after es).since g)) (sym (ne_eqb h g m)) (marked_fits 0 log w (with_seen w) log (done_of g es) ((after es).since g) now (f.1 g))),
    ))
fit (Open h ∷ es) codes =
    let f = fit es codes in
    let log = log_of es in
    let w : ℕ = (after es).word in
    let seen : is_seen w ≡ looked es = ap is_seen f.0 ∙ seen_of_word 0 log (looked es) (codes_log es codes) in (
      f.0,
      λ g. dite (ℕ_discrete h g)
          (λ is. subst (λ b. FitsPass 0 log w log (if b then (if looked es then length log else length log - 1) else done_of g es) (if b then sample_of w else (after es).since g)) (sym (eq-eqb h g is))
          (subst (λ b. FitsPass 0 log w log (if b then length log else length log - 1) (sample_of w)) seen (new_pass 0 log w w (codes_log es codes) (found_now 0 log w (stands es w f.0)))))
          (λ n. subst (λ b. FitsPass 0 log w log (if b then (if looked es then length log else length log - 1) else done_of g es) (if b then sample_of w else (after es).since g)) (sym (ne_eqb h g n)) (f.1 g)),
    )

-- ---- the answers
unlooked_last : (es : List Event) → last_of es ≡ (if has_record es then Some (last_code (log_of es)) else None)
unfolding log_of
unlooked_last [] = refl
unlooked_last (Record c ∷ es) = ap Some (sym (last_code-push (log_of es) (record { code = c; raises = looked es })))
unlooked_last (Look h ∷ es) = unlooked_last es
unlooked_last (Open h ∷ es) = unlooked_last es

abbrev told : ℕ → Log → Option ℕ
told done log = if nat_lt done (length log) then Some (last_code log) else None

told_none : (log : Log) → told (length log) log ≡ None
told_none log = ap (λ b. if b then Some (last_code log) else None) (not_below (length log))
  where
    not_below : (n : ℕ) → nat_lt n n ≡ false
    not_below n = cases (nat_lt n n) refl
      where
        cases : (b : Bool) → nat_lt n n ≡ b → b ≡ false
        cases false e = refl
        cases true e = let h : n < n = ltb-true n n e in absurd (omega arith)

told_some : (done : ℕ) (log : Log) → done < length log → told done log ≡ Some (last_code log)
told_some done log h = ap (λ b. if b then Some (last_code log) else None) (lt-ltb done (length log) h)

opened : (es : List Event) (b : Bool) → looked es ≡ b → (if b then None else last_of es) ≡ told (if b then length (log_of es) else length (log_of es) - 1) (log_of es)
opened es true e = sym (told_none (log_of es))
opened es false e = cases (has_record es) refl
  where
    cases : (r : Bool) → has_record es ≡ r → last_of es ≡ told (length (log_of es) - 1) (log_of es)
    cases true r = unlooked_last es ∙ ap (λ b. if b then Some (last_code (log_of es)) else None) r ∙ sym (told_some (length (log_of es) - 1) (log_of es) (let h = some_log es r in omega arith))
    cases false r = unlooked_last es ∙ ap (λ b. if b then Some (last_code (log_of es)) else None) r ∙ sym (ap (λ l. told (length l - 1) l) (no_log es r))

answer_is : (h : ℕ) (es : List Event) → AllCodes es → answer h es ≡ told (done_of h es) (log_of es)
unfolding log_of done_of
answer_is h [] codes = refl
answer_is h (Record c ∷ es) codes =
    let x : Recording = record { code = c; raises = looked es } in
    let within = ((fit es codes.1).1 h).done_within in
    sym (told_some (done_of h es) (log_of es ++ x ∷ []) (rw length-append (omega arith)) ∙ ap Some (last_code-push (log_of es) x))
answer_is h (Look g ∷ es) codes = dite (ℕ_discrete g h)
    (λ e. subst (λ b. (if b then None else answer h es) ≡ told (if b then length (log_of es) else done_of h es) (log_of es)) (sym (eq-eqb g h e)) (sym (told_none (log_of es))))
    (λ n. subst (λ b. (if b then None else answer h es) ≡ told (if b then length (log_of es) else done_of h es) (log_of es)) (sym (ne_eqb g h n)) (answer_is h es codes))
answer_is h (Open g ∷ es) codes = dite (ℕ_discrete g h)
    (λ e. subst (λ b. (if b then (if looked es then None else last_of es) else answer h es) ≡ told (if b then (if looked es then length (log_of es) else length (log_of es) - 1) else done_of h es) (log_of es)) (sym (eq-eqb g h e)) (opened es (looked es) refl))
    (λ n. subst (λ b. (if b then (if looked es then None else last_of es) else answer h es) ≡ told (if b then (if looked es then length (log_of es) else length (log_of es) - 1) else done_of h es) (log_of es)) (sym (ne_eqb g h n)) (answer_is h es codes))

-- ---- the premise
raising_is : (h : ℕ) (es : List Event) → AllCodes es → (after es).since h ≢ 0 → raised (drop (done_of h es) (log_of es)) ≡ raising_since h es
unfolding log_of done_of
raising_is h [] codes n = absurd (n refl)
raising_is h (Record c ∷ es) codes n =
    let x : Recording = record { code = c; raises = looked es } in
    let f = (fit es codes.1).1 h in
    let k : ℕ = if looked es then 1 else 0 in
    ap raised (drop-append-le (done_of h es) (log_of es) (x ∷ []) f.done_within) ∙ raised-append (drop (done_of h es) (log_of es)) (x ∷ []) ∙ (let r : ℕ = raised (drop (done_of h es) (log_of es)) in let e : r + (k + 0) ≡ r + k = omega arith in e) ∙ ap (λ m. m + k) (raising_is h es codes.1 n)
raising_is h (Look g ∷ es) codes n = dite (ℕ_discrete g h)
    (λ e. subst (λ b. raised (drop (if b then length (log_of es) else done_of h es) (log_of es)) ≡ (if b then 0 else raising_since h es)) (sym (eq-eqb g h e)) (ap raised (drop-length (log_of es))))
    (λ m. subst (λ b. raised (drop (if b then length (log_of es) else done_of h es) (log_of es)) ≡ (if b then 0 else raising_since h es)) (sym (ne_eqb g h m)) (raising_is h es codes (λ z. n (same m ∙ z))))
  where
    same : g ≢ h → (after (Look g ∷ es)).since h ≡ (after es).since h
    same m = cases ((after es).word == (after es).since g)
      where
        cases : (b : Bool) → (if b then after es else record { word = with_seen (after es).word; since = λ k. if g == k then with_seen (after es).word else (after es).since k }).since h ≡ (after es).since h
        cases true = refl
        cases false = ap (λ b. if b then with_seen (after es).word else (after es).since h) (ne_eqb g h m)
raising_is h (Open g ∷ es) codes n = dite (ℕ_discrete g h)
    (λ e. subst (λ b. raised (drop (if b then (if looked es then length (log_of es) else length (log_of es) - 1) else done_of h es) (log_of es)) ≡ (if b then 0 else raising_since h es)) (sym (eq-eqb g h e)) (seen e (looked es) refl))
    (λ m. subst (λ b. raised (drop (if b then (if looked es then length (log_of es) else length (log_of es) - 1) else done_of h es) (log_of es)) ≡ (if b then 0 else raising_since h es)) (sym (ne_eqb g h m))
    (raising_is h es codes (λ z. n (ap (λ b. if b then sample_of (after es).word else (after es).since h) (ne_eqb g h m) ∙ z))))
  where
    seen : g ≡ h → (b : Bool) → looked es ≡ b → raised (drop (if b then length (log_of es) else length (log_of es) - 1) (log_of es)) ≡ 0
    seen e true l = ap raised (drop-length (log_of es))
    seen e false l = absurd (n (ap (λ b. if b then sample_of (after es).word else (after es).since h) (eq-eqb g h e)
        ∙ ap (λ b. if b then (after es).word else 0) (ap is_seen ((fit es codes).0 ∙ ap (word_of 0 (log_of es)) l) ∙ seen_of_word 0 (log_of es) false (codes_log es codes))))

pub answers_as_recorded : AnswersAsRecorded
answers_as_recorded es h codes few =
    let f = fit es codes in
    let log = log_of es in
    let w : ℕ = (after es).word in
    let s : ℕ = (after es).since h in
    let done = done_of h es in
    let st = stands es w f.0 in
    dite (ℕ_discrete w s)
    (λ e.
    let le = later_found 0 log w log done s (codes_log es codes) st (f.1 h) e (λ n. subst IsWithinTurn (sym (raising_is h es codes n)) few) in
    let ge = (f.1 h).done_within in
    let is : done ≡ length log = omega arith in
    ap (λ b. if b then None else Some (code_of w)) (eq-eqb w s e) ∙ sym (answer_is h es codes ∙ ap (λ d. told d log) is ∙ told_none log))
    (λ n.
    let lt = differs_later 0 log w log done s (codes_log es codes) st (f.1 h) (λ _. refl) n in
    ap (λ b. if b then None else Some (code_of w)) (ne_eqb w s n) ∙ ap Some (ap code_of f.0 ∙ code_of_word 0 log (looked es) (codes_log es codes)) ∙ sym (answer_is h es codes ∙ told_some done log lt))

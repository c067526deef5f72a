-- What a sample knows stays right where a code is recorded and where SEEN is set, and says what a look may answer.
use Rattle.std.proofs.Common.{◌≡◌, ◌≢◌, ℕ, zero, suc, ◌+◌, ◌-◌, ◌*◌, ◌/◌, ◌%◌, ◌<◌, ◌≤◌, ◌⊎◌, Bool, true, false, List, [], ◌∷◌, ◌++◌, length, take, drop, inl, inr, refl, sym, ap, ◌∙◌, subst, arith, ⊎_elim, le_refl, lt_of_not-le, true≢false, length-append}
use Rattle.std.specs.Prelude.{if◌then◌else◌}
use mathlib.Core.Option.{some, some-injective, some-ne-none}
use mathlib.Core.List.{IsPrefix}
use mathlib.Core.Logic.{dite}
use native.Mathlib.Decide.{ℕ_discrete, dec_le}
use lib.ListN.{get_elem?}
use Rattle.std.proofs.Math.Seq.{take-length}
use Rattle.std.proofs.lemmas.List.{take-append-drop, take-append-le, nil_from_length}
use Rattle.errseq.specs.declared.recording.Recording.{Recording}
use Rattle.errseq.specs.Word.{turns, IsWithinTurn, IsCode, code_of, is_seen, word, word_set, sample_of, with_seen, without_seen}
use Rattle.errseq.specs.Recorded.{raised, last_code, word_of}
use Rattle.errseq.specs.Samples.{StandsFor, AreCodes, FitsSample, FitsPass, FitsFound, recording, done_at}
use Rattle.errseq.proofs.Prefixes.{prefix_self, prefix_length, prefix_more, prefix_at, none_at}
use Rattle.errseq.proofs.Words.{is_seen-word, code_of-word, counter_of-word, code_range, code_small, last_code-push, raised-append, one_turn}

abbrev pub Log : Type 0
Log = List Recording

-- the counter of the word of these recordings
abbrev counter : ℕ → Log → ℕ
counter start log = (start + raised log) % turns

-- ---- the word of recordings
pub seen_of_word : (start : ℕ) (log : Log) (s : Bool) → AreCodes log → is_seen (word_of start log s) ≡ s
seen_of_word start log s codes = is_seen-word (counter start log) (last_code log) s (code_small log codes)

pub code_of_word : (start : ℕ) (log : Log) (s : Bool) → AreCodes log → code_of (word_of start log s) ≡ last_code log
code_of_word start log s codes = code_of-word (counter start log) (last_code log) s (code_small log codes)

pub with_seen_word : (start : ℕ) (log : Log) (n : ℕ) → AreCodes log → n ≡ word_of start log false → with_seen n ≡ word_of start log true
with_seen_word start log n codes is = rw (ap is_seen is ∙ seen_of_word start log false codes) (let c : ℕ = counter start log in let l : ℕ = last_code log in let e : n ≡ c * 8192 + 0 + l = is in let so : n + 4096 ≡ c * 8192 + 4096 + l = omega arith in so)

-- the word without SEEN is theirs without SEEN
pub without_seen_word : (start : ℕ) (log : Log) (w : ℕ) → AreCodes log → StandsFor start w log → without_seen w ≡ word_of start log false
without_seen_word start log w codes (inl u) = ap (λ b. if b then w - 4096 else w) (ap is_seen u ∙ seen_of_word start log false codes) ∙ u
without_seen_word start log w codes (inr u) = ap (λ b. if b then w - 4096 else w) (ap is_seen u.1 ∙ seen_of_word start log true codes) ∙ (let c : ℕ = counter start log in let l : ℕ = last_code log in let e : w ≡ c * 8192 + 4096 + l = u.1 in let so : w - 4096 ≡ c * 8192 + 0 + l = omega arith in so)

-- a word that is seen is not one that is unseen
pub seen_apart : (start : ℕ) (xs ys : Log) → AreCodes xs → AreCodes ys → word_of start xs true ≡ word_of start ys false → ⊥
seen_apart start xs ys p q e = true≢false (sym (seen_of_word start xs true p) ∙ ap is_seen e ∙ seen_of_word start ys false q)

pub codes_prefix : (xs ys : Log) → IsPrefix xs ys → AreCodes ys → AreCodes xs
codes_prefix xs ys p h k r e = h k r (prefix_at xs ys k r p e)

codes_take : (n : ℕ) (ys : Log) → AreCodes ys → AreCodes (take n ys)
codes_take n ys h = codes_prefix (take n ys) ys (drop n ys, take-append-drop n ys) h

pub zero_empty : (start : ℕ) (log : Log) (w : ℕ) → AreCodes log → StandsFor start w log → w ≡ 0 → log ≡ []
zero_empty start [] w codes stands z = refl
zero_empty start (r ∷ rs) w codes (inl e) z = let l = code_range (r ∷ rs) codes (omega arith) in let c : ℕ = last_code (r ∷ rs) in let n : ℕ = counter start (r ∷ rs) in let e' : w ≡ n * 8192 + 0 + c = e in let l' : 0 < c = l.0 in absurd (omega arith)
zero_empty start (r ∷ rs) w codes (inr e) z = let c : ℕ = last_code (r ∷ rs) in let n : ℕ = counter start (r ∷ rs) in let e' : w ≡ n * 8192 + 4096 + c = e.1 in absurd (omega arith)

pub found_now : (start : ℕ) (log : Log) (w : ℕ) → StandsFor start w log → FitsFound start log w w
found_now start log w stands = ⊎_elim (λ (u : w ≡ word_of start log false). inl u) (λ (u : (0 < length log) × (w ≡ word_of start log true)). inr (u.0, u.1, refl)) stands

-- ---- a look
-- the handle has everything done, and its sample is the word
pub just_done : (start : ℕ) (log : Log) (w : ℕ) → 0 < length log → w ≡ word_of start log true → FitsPass start log w log (length log) w
just_done start log w more is = record {
  known_begins = prefix_self log;
  done_within = le_refl (length log);
  fresh = λ z. let c : ℕ = last_code log in let n : ℕ = counter start log in let e : w ≡ n * 8192 + 4096 + c = is in absurd (omega arith);
  sampled = λ _. record {
    some_done = more;
    is_word = is ∙ ap (λ l. word_of start l true) (sym (take-length log));
    still = λ _. refl;
    raising = λ r e. absurd (none_at log r e);
  };
}

pub none_done : (start : ℕ) (log : Log) (w : ℕ) → log ≡ [] → FitsPass start log w log (length log) 0
none_done start log w e = record {
  known_begins = prefix_self log;
  done_within = le_refl (length log);
  fresh = λ _. inl e;
  sampled = λ n. absurd (n refl);
}

some_raised : (log : Log) (k : ℕ) → k < length log → ((r : Recording) → get_elem? log k ≡ some r → r.raises ≡ true) → 0 < raised (drop k log)
some_raised [] k lt h = absurd (omega arith)
some_raised (r ∷ rs) zero lt h = let n : ℕ = raised rs in rw (h r refl) (omega arith)
some_raised (r ∷ rs) (suc k) lt h = some_raised rs k (omega arith) h

module _ (start : ℕ) (log : Log) (w : ℕ) (known : Log) (done since : ℕ) (codes : AreCodes log) (stands : StandsFor start w log) (fits : FitsPass start log w known done since) where
  pub done_in_log : done ≤ length log
  done_in_log = let a = fits.done_within in let b = prefix_length known log fits.known_begins in omega arith

  -- where the word is the sample, all is done
  pub same_fits : w ≡ since → FitsPass start log w log (length log) since
  same_fits e = dite (ℕ_discrete since 0)
      (λ z. subst (λ n. FitsPass start log w log (length log) n) (sym z) (none_done start log w (zero_empty start log w codes stands (e ∙ z))))
      (λ n. subst (λ m. FitsPass start log w log (length log) m) e (⊎_elim
      (λ (u : w ≡ word_of start log false). absurd (seen_apart start (take done log) log (codes_take done log codes) codes (sym (fits.sampled n).is_word ∙ sym e ∙ u)))
      (λ (u : (0 < length log) × (w ≡ word_of start log true)). just_done start log w u.0 u.1)
      stands))

  -- where it is not, there is a recording past those done
  pub differs_later : (log ≡ [] → start ≡ 0) → w ≢ since → done < length log
  differs_later opening n = dite (ℕ_discrete since 0)
      (λ z. ⊎_elim
      (λ (e : log ≡ []). ⊎_elim
      (λ (u : w ≡ word_of start log false). absurd (n (u ∙ ap (λ l. word_of start l false) e ∙ ap (λ k. word_of k [] false) (opening e) ∙ sym z)))
      (λ (u : (0 < length log) × (w ≡ word_of start log true)). let e' : length log ≡ 0 = ap length e in let u' = u.0 in absurd (omega arith))
      stands)
      (λ h. h) (fits.fresh z))
      (λ m. dite (ℕ_discrete done (length log)) (λ e. absurd (n ((fits.sampled m).still e))) (λ d. let a = done_in_log in omega arith))

  -- where it is, and the counter can't have come round, there is none
  pub later_found : w ≡ since → (since ≢ 0 → IsWithinTurn (raised (drop done log))) → length log ≤ done
  later_found e few = dite (dec_le (length log) done) (λ h. h) (λ h. absurd (dite (ℕ_discrete since 0)
      (λ z. let g : length log ≡ 0 = ap length (zero_empty start log w codes stands (e ∙ z)) in h (omega arith))
      (λ n. ⊎_elim
      (λ (u : w ≡ word_of start log false). seen_apart start (take done log) log (codes_take done log codes) codes (sym (fits.sampled n).is_word ∙ sym e ∙ u))
      (λ (u : (0 < length log) × (w ≡ word_of start log true)). turned (few n) (lt_of_not-le h) (fits.sampled n) (sym u.1 ∙ e ∙ (fits.sampled n).is_word))
      stands)))
    where
      turned : IsWithinTurn (raised (drop done log)) → done < length log → FitsSample start log w done since → word_of start log true ≡ word_of start (take done log) true → ⊥
      turned fewer lt f same =
          let all : raised (take done log) + raised (drop done log) ≡ raised log = sym (raised-append (take done log) (drop done log)) ∙ ap raised (take-append-drop done log) in
          let count : counter start log ≡ counter start (take done log) = sym (counter_of-word (counter start log) (last_code log) true (code_small log codes)) ∙ ap (λ n. n / 8192) same ∙ counter_of-word (counter start (take done log)) (last_code (take done log)) true (code_small (take done log) (codes_take done log codes)) in
          let one : 0 < raised (drop done log) = some_raised log done lt f.raising in
          let a : ℕ = raised (take done log) in
          let b : ℕ = raised log in
          let d : ℕ = raised (drop done log) in
          let all' : a + d ≡ b = all in
          let one' : 0 < d = one in
          let few' : d < turns = fewer in
          let is = one_turn (start + a) (start + b) (omega arith) (omega arith) (sym count) in
          let is' : start + a ≡ start + b = is in omega arith

-- a handle stays right where SEEN is set
pub marked_fits : (start : ℕ) (log : Log) (w new : ℕ) (known : Log) (done since : ℕ) → new ≡ word_of start log true → FitsPass start log w known done since → FitsPass start log new known done since
marked_fits start log w new known done since is f = record {
  known_begins = f.known_begins;
  done_within = f.done_within;
  fresh = f.fresh;
  sampled = λ n. let p = f.sampled n in record {
    some_done = p.some_done;
    is_word = p.is_word;
    still = λ e. is ∙ sym (p.is_word ∙ ap (λ m. word_of start (take m log) true) e ∙ ap (λ l. word_of start l true) (take-length log));
    raising = p.raising;
  };
}

-- ---- a recording
pub code_of-set : (old code : ℕ) → IsCode code → code_of (word_set old code) ≡ code
code_of-set old code is = code_of-word (if is_seen old then (old / 8192 + 1) % turns else old / 8192) code false (let h : code ≤ 4095 = is.1 in omega arith)

-- the word after a code is recorded stands for the longer list
pub set_stands : (start : ℕ) (log : Log) (old new c : ℕ) → AreCodes log → IsCode c → StandsFor start old log → new ≡ word_set old c → (new ≡ word_of start (log ++ recording old new ∷ []) false) × (code_of new ≡ c)
set_stands start log old new c codes valid (inl u) is =
    let x = recording old new in
    let unseen : is_seen old ≡ false = ap is_seen u ∙ seen_of_word start log false codes in
    let count : old / 8192 ≡ counter start log = ap (λ n. n / 8192) u ∙ counter_of-word _ _ false (code_small log codes) in
    let new' : new ≡ word (counter start log) false c = is ∙ ap (λ b. word (if b then (old / 8192 + 1) % turns else old / 8192) false c) unseen ∙ ap (λ n. word n false c) count in
    let code : code_of new ≡ c = ap code_of is ∙ code_of-set old c valid in
    let more : raised (log ++ x ∷ []) ≡ raised log = raised-append log (x ∷ []) ∙ ap (λ b. raised log + ((if b then 1 else 0) + 0)) unseen ∙ (let n : ℕ = raised log in let e : n + (0 + 0) ≡ n = omega arith in e) in
    (new' ∙ ap (λ n. word ((start + n) % turns) false c) (sym more) ∙ ap (λ n. word (counter start (log ++ x ∷ [])) false n) (sym (last_code-push log x ∙ code)), code)
set_stands start log old new c codes valid (inr u) is =
    let x = recording old new in
    let seen : is_seen old ≡ true = ap is_seen u.1 ∙ seen_of_word start log true codes in
    let count : old / 8192 ≡ counter start log = ap (λ n. n / 8192) u.1 ∙ counter_of-word _ _ true (code_small log codes) in
    let new' : new ≡ word ((counter start log + 1) % turns) false c = is ∙ ap (λ b. word (if b then (old / 8192 + 1) % turns else old / 8192) false c) seen ∙ ap (λ n. word ((n + 1) % turns) false c) count in
    let code : code_of new ≡ c = ap code_of is ∙ code_of-set old c valid in
    let more : raised (log ++ x ∷ []) ≡ raised log + 1 = raised-append log (x ∷ []) ∙ ap (λ b. raised log + ((if b then 1 else 0) + 0)) seen ∙ (let n : ℕ = raised log in let e : n + (1 + 0) ≡ n + 1 = omega arith in e) in
    let next : (counter start log + 1) % turns ≡ counter start (log ++ x ∷ []) = next_mod start (raised log) ∙ ap (λ n. (start + n) % turns) (sym more) in
    (new' ∙ ap (λ n. word n false c) next ∙ ap (λ n. word (counter start (log ++ x ∷ [])) false n) (sym (last_code-push log x ∙ code)), code)
  where
    next_mod : (s n : ℕ) → ((s + n) % turns + 1) % turns ≡ (s + (n + 1)) % turns
    next_mod s n = omega arith

at_push : (log : Log) (r x : Recording) (k : ℕ) → get_elem? (log ++ r ∷ []) k ≡ some x → (get_elem? log k ≡ some x) ⊎ ((k ≡ length log) × (r ≡ x))
at_push [] r x zero e = inr (refl, some-injective r x e)
at_push [] r x (suc k) e = absurd (some-ne-none x (sym e))
at_push (y ∷ log) r x zero e = inl e
at_push (y ∷ log) r x (suc k) e = ⊎_elim (λ (t : get_elem? log k ≡ some x). inl t) (λ (t : (k ≡ length log) × (r ≡ x)). inr (ap suc t.0, t.1)) (at_push log r x k e)

pub codes_push : (log : Log) (r : Recording) → AreCodes log → IsCode r.code → AreCodes (log ++ r ∷ [])
codes_push log r codes h k x e = ⊎_elim (λ (t : get_elem? log k ≡ some x). codes k x t) (λ (t : (k ≡ length log) × (r ≡ x)). subst (λ (y : Recording). IsCode y.code) t.1 h) (at_push log r x k e)

-- a handle stays right where one more code is recorded
pub pass_recorded : (start : ℕ) (log : Log) (w new : ℕ) (x : Recording) (known : Log) (done since : ℕ) → AreCodes log → x.raises ≡ is_seen w → FitsPass start log w known done since → FitsPass start (log ++ x ∷ []) new known done since
pass_recorded start log w new x known done since codes raises f =
    let inside : done ≤ length log = let a = f.done_within in let b = prefix_length known log f.known_begins in omega arith in
    let more : length (log ++ x ∷ []) ≡ length log + 1 = length-append log (x ∷ []) in record {
      known_begins = prefix_more known log x f.known_begins;
      done_within = f.done_within;
      fresh = λ _. inr (omega arith);
      sampled = λ n. let p = f.sampled n in record {
        some_done = p.some_done;
        is_word = p.is_word ∙ ap (λ l. word_of start l true) (sym (take-append-le done log (x ∷ []) inside));
        still = λ e. absurd (omega arith);
        raising = λ y e. ⊎_elim (λ (t : get_elem? log done ≡ some y). p.raising y t)
            (λ (t : (done ≡ length log) × (x ≡ y)). sym (ap (λ (z : Recording). z.raises) t.1) ∙ raises ∙ ap is_seen (p.still t.0 ∙ p.is_word) ∙ seen_of_word start (take done log) true (codes_take done log codes))
            (at_push log x y done e);
      };
    }

-- ---- a new handle
pub new_pass : (start : ℕ) (log : Log) (w found : ℕ) → AreCodes log → FitsFound start log w found → FitsPass start log w log (done_at log found) (sample_of found)
new_pass start log w found codes (inl u) =
    subst (λ b. FitsPass start log w log (if b then length log else length log - 1) (if b then found else 0)) (sym (ap is_seen u ∙ seen_of_word start log false codes)) record {
      known_begins = prefix_self log;
      done_within = omega arith;
      fresh = λ _. dite (ℕ_discrete (length log) 0) (λ e. inl (nil_from_length log e)) (λ n. inr (omega arith));
      sampled = λ n. absurd (n refl);
    }
new_pass start log w found codes (inr u) =
    subst (λ b. FitsPass start log w log (if b then length log else length log - 1) (if b then found else 0)) (sym (ap is_seen u.1 ∙ seen_of_word start log true codes))
    (subst (λ n. FitsPass start log w log (length log) n) u.2 (just_done start log w u.0 (u.2 ∙ u.1)))

-- A board keeps the rule over the words that it begins with.
use Rattle.std.proofs.Common.{◌≡◌, ◌≢◌, ℕ, zero, suc, ◌+◌, ◌*◌, ◌/◌, ◌%◌, ◌<◌, Bool, true, false, eq-eqb, ne_eqb, List, [], ◌∷◌, length, map, get_or, replicate, inl, inr, refl, sym, ap, ◌∙◌, subst, arith, ⊎_elim, true≢false}
use Rattle.std.specs.Prelude.{if◌then◌else◌, slice_index, All}
use mathlib.Core.Option.{some, some-injective, some-ne-none}
use mathlib.Core.Logic.{dite}
use native.Mathlib.Decide.{ℕ_discrete}
use lib.ListN.{get_elem?}
use Rattle.atomic_table.specs.Table.{Me, opening}
use Rattle.std.proofs.lemmas.Bool.{eqb-true}
use Rattle.std.proofs.lemmas.List.{get_or-map, get_or-replicate, length-map, length-replicate}
use Rattle.errseq.specs.declared.recording.Recording.{Recording}
use Rattle.errseq.specs.Word.{turns, IsCode, MayBeCarried, code_of, counter_of, is_seen, word, without_seen}
use Rattle.errseq.specs.Recorded.{word_of}
use Rattle.errseq.specs.Samples.{StandsFor, AreCodes}
use Rattle.errseq.proofs.Samples.{Log, without_seen_word}
use Rattle.errboard.specs.declared.views.View.{View}
use Rattle.errboard.specs.declared.views.View.TheVariants.{Recorder}
use Rattle.errboard.specs.Views.{files, recorded_of, start_of, opening_log, opening_view}
use Rattle.errboard.specs.Rules.{FitsFile, Fits, IsKept}
use Rattle.errboard.specs.Shown.{Remembers, all_of, opening_of}

-- a word by its parts
parts_of : (w : ℕ) → counter_of w < turns → (b : Bool) → is_seen w ≡ b → w ≡ word (counter_of w % turns) b (code_of w)
parts_of w small true e = let h = eqb-true (w / 4096 % 2) 1 e in let so : w ≡ w / 8192 % turns * 8192 + 4096 + w % 4096 = omega arith in so
parts_of w small false e = let h : w / 4096 % 2 ≢ 1 = (λ k. true≢false (sym (eq-eqb (w / 4096 % 2) 1 k) ∙ e)) in let so : w ≡ w / 8192 % turns * 8192 + 0 + w % 4096 = omega arith in so

-- a word and what it says was recorded
file_begins : (w : ℕ) → counter_of w < turns → MayBeCarried w → FitsFile (counter_of w) w (opening_log w)
file_begins w small may = dite (ℕ_discrete w 0)
    (λ e. subst (λ b. FitsFile (counter_of w) w (if b then [] else x ∷ [])) (sym (eq-eqb w 0 e)) (nothing e))
    (λ n. subst (λ b. FitsFile (counter_of w) w (if b then [] else x ∷ [])) (sym (ne_eqb w 0 n)) (one (⊎_elim (λ (e : w ≡ 0). absurd (n e)) (λ (c : code_of w ≢ 0). c) may)))
  where
    x : Recording
    x = record { code = code_of w; raises = false }

    nothing : w ≡ 0 → FitsFile (counter_of w) w []
    nothing e = subst (λ n. FitsFile (counter_of n) n []) (sym e) record {
      stands = inl refl;
      codes = λ k r a. absurd (some-ne-none r (sym a));
      opening = λ _. refl;
    }

    flag : (b : Bool) → is_seen w ≡ b → StandsFor (counter_of w) w (record { code = code_of w; raises = false } ∷ [])
    flag true e = inr (omega arith, parts_of w small true e ∙ ap (λ m. word (m % turns) true (code_of w)) (let k : ℕ = counter_of w in let h : k ≡ k + 0 = omega arith in h))
    flag false e = inl (parts_of w small false e ∙ ap (λ m. word (m % turns) false (code_of w)) (let k : ℕ = counter_of w in let h : k ≡ k + 0 = omega arith in h))

    codes : code_of w ≢ 0 → AreCodes (record { code = code_of w; raises = false } ∷ [])
    codes n zero r a = subst (λ (y : Recording). IsCode y.code) (some-injective _ _ a) (omega arith, omega arith)
    codes n (suc k) r a = absurd (some-ne-none r (sym a))

    one : code_of w ≢ 0 → FitsFile (counter_of w) w (record { code = code_of w; raises = false } ∷ [])
    one n = record {
      stands = flag (is_seen w) refl;
      codes = codes n;
      opening = λ e. let h : 1 ≡ 0 = ap length e in absurd (omega arith);
    }

-- each of the words may be carried over, and its counter is one
abbrev pub AreOpening : List ℕ → Type 0
AreOpening words = (length words ≡ files) × ((file : ℕ) → file < files → (counter_of (slice_index words file) < turns) × MayBeCarried (slice_index words file))

pub are_opening : (words : List ℕ) → length words ≡ files → ((i : ℕ) → get_or words i 0 < 18446744073709551616) → All MayBeCarried words → AreOpening words
are_opening words count fits may = (count, λ file h. let w : ℕ = get_or words file 0 in let small : w < 18446744073709551616 = fits file in (omega arith, may file 0 (omega arith)))

log_at : (words : List ℕ) (file : ℕ) → length words ≡ files → file < files → recorded_of (map opening_log words) file ≡ opening_log (slice_index words file)
log_at words file count h = get_or-map opening_log words file 0 [] (omega arith)

opened_file : (words : List ℕ) → AreOpening words → (file : ℕ) → file < files → FitsFile (start_of words file) (slice_index words file) (recorded_of (map opening_log words) file)
opened_file words are file h = subst (λ (l : Log). FitsFile (start_of words file) (slice_index words file) l) (sym (log_at words file are.0 h)) (let a = are.1 file h in file_begins (slice_index words file) a.0 a.1)

pub begins : (words : List ℕ) → AreOpening words → IsKept words (opening words [] (opening_view words))
begins words are = record {
  logs = map opening_log words;
  writer = 0;
  word_count = are.0;
  log_count = length-map words opening_log ∙ are.0;
  each_file = opened_file words are;
  each_seat = one;
}
  where
    one : (j : ℕ) (v : View) → get_elem? (opening_view words ∷ []) j ≡ some v → Fits words (map opening_log words) words 0 j v
    one zero v e = subst (Fits words (map opening_log words) words 0 0) (some-injective _ _ e) (refl, refl, refl)
    one (suc j) v e = absurd (some-ne-none v (sym e))

-- the recorder of a board that begins: its view, the number of its lists, and what it remembers
pub recorder_begins : (me : Me ℕ View) (words written : List ℕ) → AreOpening words → me ≡ (opening_view words, []) → written ≡ words
    → (me ≡ (Recorder (opening_of me.0) (all_of me.0), [])) × (length (all_of me.0) ≡ files) × Remembers (opening_of me.0) written (all_of me.0)
recorder_begins me words written are is same = subst (λ (z : Me ℕ View × List ℕ). (z.0 ≡ (Recorder (opening_of z.0.0) (all_of z.0.0), [])) × (length (all_of z.0.0) ≡ files) × Remembers (opening_of z.0.0) z.1 (all_of z.0.0)) (λ i. (sym is i, sym same i))
    (refl, length-map words opening_log ∙ are.0, (are.0, each))
  where
    each : (file : ℕ) → file < files → without_seen (slice_index words file) ≡ word_of (start_of words file) (recorded_of (map opening_log words) file) false
    each file h =
        let f = opened_file words are file h in
        without_seen_word (start_of words file) (recorded_of (map opening_log words) file) (slice_index words file) f.codes f.stands

pub none_carried : (words : List ℕ) → words ≡ replicate files 0 → All MayBeCarried words
none_carried words is k d h = inl (ap (λ l. get_or l k d) is ∙ get_or-replicate files k 0 d (let e : length words ≡ files = ap length is ∙ length-replicate {A = ℕ} files 0 in omega arith))

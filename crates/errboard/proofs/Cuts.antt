-- Splits and joins keep the rule, and what a pass knows after them.
use Rattle.std.proofs.Common.{◌≡◌, ℕ, ◌-◌, ◌<◌, ◌≤◌, ◌⊎◌, Bool, true, false, eq-eqb, List, [], ◌∷◌, length, drop, get_or, inl, inr, refl, sym, ap, ◌∙◌, subst, arith, ⊎_elim, le_refl, true≢false, length-append, length-drop}
use Rattle.std.specs.Prelude.{if◌then◌else◌, ◌==◌}
use mathlib.Core.Option.{none}
use mathlib.Core.List.{IsPrefix}
use Rattle.std.proofs.lemmas.Bool.{eqb-true}
use Rattle.std.proofs.lemmas.List.{append-nil}
use Rattle.atomic_table.specs.Table.{Me, step, keeps, Allows, Splits, Joins}
use Rattle.errseq.specs.Recorded.{word_of}
use Rattle.errseq.specs.Samples.{Owes, FitsFound, FitsPass}
use Rattle.errseq.proofs.Prefixes.{prefix_self}
use Rattle.errseq.proofs.Samples.{Log, new_pass}
use Rattle.errboard.specs.declared.views.View.{View}
use Rattle.errboard.specs.declared.views.View.TheVariants.{Spent, Recorder, Sampled, Compares, Pass, Receipt}
use Rattle.errboard.specs.Views.{recorded_of, start_of, recorder_left, pass_right, owing_right, receipt_right, longer, told_of, informed, with_pass}
use Rattle.errboard.specs.Rules.{Fits, IsKept, Rested, Confirmed}
use Rattle.errboard.specs.Shown.{known_of}
use Rattle.errboard.specs.Steps.{IsGiven}
use Rattle.errboard.proofs.States.{unmoved, split_state, join_state, other_fits}

-- ---- splits
-- a pass that is told of the last recording
owing_pass : (start : ℕ) (log : Log) (w : ℕ) → FitsPass start log w log (length log - 1) 0
owing_pass start log w = record {
  known_begins = prefix_self log;
  done_within = omega arith;
  fresh = λ _. some log;
  sampled = λ n. absurd (n refl);
}
  where
    some : (l : Log) → (l ≡ []) ⊎ (length l - 1 < length l)
    some [] = inl refl
    some (x ∷ xs) = inr (omega arith)

gives_pass : (o : List ℕ) (id file found : ℕ) (began : List ℕ) (all : List Log) → Splits (IsKept o) id (Sampled began all file found) (Recorder began all) (pass_right (Sampled began all file found))
gives_pass o id file found began all s r at =
    let mine = r.each_seat id (Sampled began all file found) at in
    let here = r.each_file file mine.3 in
    split_state o s r id (Recorder began all) (pass_right (Sampled began all file found)) (mine.0, mine.1, mine.2)
    (λ j. subst (λ (z : List ℕ × List Log). Fits o r.logs s.words r.writer j (pass_right (Sampled z.0 z.1 file found))) (λ i. (sym mine.1 i, sym mine.2 i)) (mine.3, refl, new_pass (start_of o file) (recorded_of r.logs file) (get_or s.words file 0) found here.codes mine.4))

gives_owing : (o : List ℕ) (id file found : ℕ) (began : List ℕ) (all : List Log) → Splits (IsKept o) id (Sampled began all file found) (Recorder began all) (owing_right (Sampled began all file found))
gives_owing o id file found began all s r at =
    let mine = r.each_seat id (Sampled began all file found) at in
    split_state o s r id (Recorder began all) (owing_right (Sampled began all file found)) (mine.0, mine.1, mine.2)
    (λ j. subst (λ (z : List ℕ × List Log). Fits o r.logs s.words r.writer j (owing_right (Sampled z.0 z.1 file found))) (λ i. (sym mine.1 i, sym mine.2 i)) (mine.3, refl, owing_pass (start_of o file) (recorded_of r.logs file) (get_or s.words file 0)))

gives_receipt : (o : List ℕ) (id file found : ℕ) (began : List ℕ) (all : List Log) → Splits (IsKept o) id (Sampled began all file found) (Recorder began all) (receipt_right (Sampled began all file found))
gives_receipt o id file found began all s r at =
    let mine = r.each_seat id (Sampled began all file found) at in
    split_state o s r id (Recorder began all) (receipt_right (Sampled began all file found)) (mine.0, mine.1, mine.2)
    (λ j. subst (λ l. Fits o r.logs s.words r.writer j (receipt_right (Sampled began l file found))) (sym mine.2) (prefix_self (recorded_of r.logs file)))

copies_receipt : (o : List ℕ) (id file : ℕ) (known : Log) → Splits (IsKept o) id (Receipt file known) (Receipt file known) (Receipt file known)
copies_receipt o id file known s r at = let mine = r.each_seat id (Receipt file known) at in split_state o s r id (Receipt file known) (Receipt file known) mine (λ j. mine)

copies_pass : (o : List ℕ) (id file start : ℕ) (known : Log) (done since : ℕ) → Splits (IsKept o) id (Pass file start known done since) (Pass file start known done since) (Pass file start known done since)
copies_pass o id file start known done since s r at = let mine = r.each_seat id (Pass file start known done since) at in split_state o s r id (Pass file start known done since) (Pass file start known done since) mine (λ j. mine)

-- ---- joins
-- of two beginnings of one list, the longer begins it too
longer_begins : (xs ys zs : Log) → IsPrefix xs zs → IsPrefix ys zs → IsPrefix (longer xs ys) zs
longer_begins [] ys zs p q = q
longer_begins (x ∷ xs) [] zs p q = subst (λ l. IsPrefix l zs) (sym (append-nil (x ∷ xs))) p
longer_begins (x ∷ xs) (y ∷ ys) [] p q = absurd (cc (p.1))
longer_begins (x ∷ xs) (y ∷ ys) (z ∷ zs) p q = let rest = longer_begins xs ys zs (p.0, cc (p.1)) (q.0, cc (q.1)) in (rest.0, cc (p.1, rest.1))

longer_more : (xs ys : Log) → length xs ≤ length (longer xs ys)
longer_more xs ys = let r : ℕ = length (drop (length xs) ys) in rw length-append (omega arith)

-- what is told to a pass whose list begins it
longer_all : (xs ys : Log) → IsPrefix xs ys → longer xs ys ≡ ys
longer_all [] ys p = refl
longer_all (x ∷ xs) [] p = absurd (cc (p.1))
longer_all (x ∷ xs) (y ∷ ys) p = let rest = longer_all xs ys (p.0, cc (p.1)) in cc (p.1, rest)

informed_known : (b : Bool) (known told whole : Log) → IsPrefix known whole → (b ≡ true → IsPrefix told whole) → IsPrefix (if b then longer known told else known) whole
informed_known true known told whole p q = longer_begins known told whole p (q refl)
informed_known false known told whole p q = p

informed_more : (b : Bool) (known told : Log) → length known ≤ length (if b then longer known told else known)
informed_more true known told = longer_more known told
informed_more false known told = le_refl (length known)

informs : (o : List ℕ) (id file start : ℕ) (known : Log) (done since other from : ℕ) (told : Log) → Joins (IsKept o) id (Pass file start known done since) other (Receipt from told) (informed (Pass file start known done since) (Receipt from told)) Spent
informs o id file start known done since other from told s r at apart there =
    let both = informed (Pass file start known done since) (Receipt from told) in
    let mine = r.each_seat id (Pass file start known done since) at in
    let theirs = other_fits o s r id other both (Receipt from told) apart there in
    let more = informed_more (file == from) known told in
    let within = mine.2.done_within in
    join_state o s r id other both (
      mine.0,
      mine.1,
      record {
        known_begins = informed_known (file == from) known told (recorded_of r.logs file) mine.2.known_begins (λ e. subst (λ k. IsPrefix told (recorded_of r.logs k)) (sym (eqb-true file from e)) theirs);
        done_within = omega arith;
        fresh = mine.2.fresh;
        sampled = mine.2.sampled;
      },
    )

takes_back : (o : List ℕ) (id : ℕ) (began : List ℕ) (all : List Log) (other file start : ℕ) (known : Log) (done since : ℕ) → Joins (IsKept o) id (Recorder began all) other (Pass file start known done since) (Compares began all file known done since) Spent
takes_back o id began all other file start known done since s r at apart there =
    let mine = r.each_seat id (Recorder began all) at in
    let theirs = other_fits o s r id other (Compares began all file known done since) (Pass file start known done since) apart there in
    join_state o s r id other (Compares began all file known done since) (mine.0, mine.1, mine.2, theirs.2.known_begins, theirs.2.fresh)

-- ---- loads that decide nothing
confirms : (o : List ℕ) (slots id i file : ℕ) (began : List ℕ) (all : List Log) (known : Log) (done since : ℕ) (c : List (ℕ × ℕ)) → Allows (IsKept o) slots id (Compares began all file known done since, c) i (λ n. n) (Confirmed (step slots i 0 0 none) (Compares began all file known done since, c))
confirms o slots id i file began all known done since c s r _ at _ =
    let mine = r.each_seat id (Compares began all file known done since) at in (
      Recorder began all,
      keeps,
      tt,
      unmoved o s r i id c (Recorder began all) (mine.0, mine.1, mine.2),
      (refl, subst (λ l. (Recorder began all ≡ Recorder began all) × IsPrefix known (recorded_of l file) × Owes (recorded_of l file) done since) (sym mine.2) (refl, mine.3, mine.4)),
    )

pub rests : (o : List ℕ) (slots id i : ℕ) (me : Me ℕ View) → Allows (IsKept o) slots id me i (λ n. n) (Rested (step slots i 0 0 none) me)
rests o slots id i me s r _ at _ = (me.0, keeps, tt, unmoved o s r i id me.1 me.0 (r.each_seat id me.0 at), refl)

-- ---- at seats that are known by equations
pub gives_receipt_as : (o : List ℕ) (id : ℕ) (v : View) (began : List ℕ) (all : List Log) (file found : ℕ) → v ≡ Sampled began all file found → Splits (IsKept o) id v (recorder_left v) (receipt_right v)
gives_receipt_as o id v began all file found is = subst (λ (u : View). Splits (IsKept o) id u (recorder_left u) (receipt_right u)) (sym is) (gives_receipt o id file found began all)

pub gives_pass_as : (o : List ℕ) (id : ℕ) (v : View) (began : List ℕ) (all : List Log) (file found : ℕ) → v ≡ Sampled began all file found → Splits (IsKept o) id v (recorder_left v) (pass_right v)
gives_pass_as o id v began all file found is = subst (λ (u : View). Splits (IsKept o) id u (recorder_left u) (pass_right u)) (sym is) (gives_pass o id file found began all)

pub gives_owing_as : (o : List ℕ) (id : ℕ) (v : View) (began : List ℕ) (all : List Log) (file found : ℕ) → v ≡ Sampled began all file found → Splits (IsKept o) id v (recorder_left v) (owing_right v)
gives_owing_as o id v began all file found is = subst (λ (u : View). Splits (IsKept o) id u (recorder_left u) (owing_right u)) (sym is) (gives_owing o id file found began all)

pub copies_receipt_as : (o : List ℕ) (id : ℕ) (v : View) (file : ℕ) (known : Log) → v ≡ Receipt file known → Splits (IsKept o) id v v v
copies_receipt_as o id v file known is = subst (λ (u : View). Splits (IsKept o) id u u u) (sym is) (copies_receipt o id file known)

pub copies_pass_as : (o : List ℕ) (id : ℕ) (v : View) (file start : ℕ) (known : Log) (done since : ℕ) → v ≡ Pass file start known done since → Splits (IsKept o) id v v v
copies_pass_as o id v file start known done since is = subst (λ (u : View). Splits (IsKept o) id u u u) (sym is) (copies_pass o id file start known done since)

pub informs_as : (o : List ℕ) (id : ℕ) (v : View) (file start : ℕ) (known : Log) (done since other : ℕ) (w : View) (from : ℕ) (told : Log) → v ≡ Pass file start known done since → w ≡ Receipt from told → Joins (IsKept o) id v other w (informed v w) Spent
informs_as o id v file start known done since other w from told a b = subst (λ (z : View × View). Joins (IsKept o) id z.0 other z.1 (informed z.0 z.1) Spent) (λ i. (sym a i, sym b i)) (informs o id file start known done since other from told)

pub takes_back_as : (o : List ℕ) (id : ℕ) (v : View) (began : List ℕ) (all : List Log) (other : ℕ) (w : View) (file start : ℕ) (known : Log) (done since : ℕ) → v ≡ Recorder began all → w ≡ Pass file start known done since → Joins (IsKept o) id v other w (with_pass v w) Spent
takes_back_as o id v began all other w file start known done since a b = subst (λ (z : View × View). Joins (IsKept o) id z.0 other z.1 (with_pass z.0 z.1) Spent) (λ i. (sym a i, sym b i)) (takes_back o id began all other file start known done since)

pub confirms_as : (o : List ℕ) (slots id i : ℕ) (me : Me ℕ View) (began : List ℕ) (all : List Log) (file : ℕ) (known : Log) (done since : ℕ) (c : List (ℕ × ℕ)) → me ≡ (Compares began all file known done since, c) → Allows (IsKept o) slots id me i (λ n. n) (Confirmed (step slots i 0 0 none) me)
confirms_as o slots id i me began all file known done since c is = subst (λ (m : Me ℕ View). Allows (IsKept o) slots id m i (λ n. n) (Confirmed (step slots i 0 0 none) m)) (sym is) (confirms o slots id i file began all known done since c)

-- ---- what is known then
pub joined_back : (v w : View) (me : Me ℕ View) (began : List ℕ) (all : List Log) (file start : ℕ) (known : Log) (done since : ℕ) → v ≡ Recorder began all → w ≡ Pass file start known done since → me ≡ (with_pass v w, []) → me ≡ (Compares began all file known done since, [])
joined_back v w me began all file start known done since a b is = is ∙ (λ i. (with_pass (a i) (b i), []))

pub is_given : (o : List ℕ) (all : List Log) (file found : ℕ) (before after : Me ℕ View) → before ≡ (Sampled o all file found, []) → after ≡ (pass_right before.0, []) → FitsFound (start_of o file) (recorded_of all file) found found → IsGiven file (start_of o file) (recorded_of all file) found after
is_given o all file found before after a b fits = (
  ⊎_elim
      (λ (u : found ≡ word_of (start_of o file) (recorded_of all file) false). inl u)
      (λ (u : (0 < length (recorded_of all file)) × (found ≡ word_of (start_of o file) (recorded_of all file) true) × (found ≡ found)). inr (u.0, u.1))
      fits,
  b ∙ ap (λ (m : Me ℕ View). (pass_right m.0, [])) a,
)

pub is_owing : (o : List ℕ) (all : List Log) (file found : ℕ) (before after : Me ℕ View) → before ≡ (Sampled o all file found, []) → after ≡ (owing_right before.0, []) → after ≡ (Pass file (start_of o file) (recorded_of all file) (length (recorded_of all file) - 1) 0, [])
is_owing o all file found before after a b = b ∙ ap (λ (m : Me ℕ View). (owing_right m.0, [])) a

-- what a pass knows that was told: no less than before, and no less than the receipt of its file
pub told_grows : (file : ℕ) (known : Log) (from : ℕ) (told : Log) → IsPrefix known (told_of file known from told) × (from ≡ file → length told ≤ length (told_of file known from told))
told_grows file known from told = cases (file == from) refl
  where
    cases : (t : Bool) → (file == from) ≡ t → IsPrefix known (if t then longer known told else known) × (from ≡ file → length told ≤ length (if t then longer known told else known))
    cases true e = ((drop (length known) told, refl), λ _. (let k : ℕ = length known in rw (length-append, length-drop) (omega arith)))
    cases false e = (prefix_self known, λ same. absurd (true≢false (sym (eq-eqb file from (sym same)) ∙ e)))

pub informed_grows : (file start : ℕ) (known : Log) (done since from : ℕ) (told : Log) (v w u : View) → v ≡ Pass file start known done since → w ≡ Receipt from told → u ≡ informed v w → IsPrefix known (known_of u)
informed_grows file start known done since from told v w u a b is = subst (λ (l : Log). IsPrefix known l) (sym (ap known_of (is ∙ (λ i. informed (a i) (b i))))) (told_grows file known from told).0

pub informed_told : (file start : ℕ) (known : Log) (done since from : ℕ) (told : Log) (v w u : View) → v ≡ Pass file start known done since → w ≡ Receipt from told → u ≡ informed v w → from ≡ file → length told ≤ length (known_of u)
informed_told file start known done since from told v w u a b is = subst (λ (l : Log). from ≡ file → length told ≤ length l) (sym (ap known_of (is ∙ (λ i. informed (a i) (b i))))) (told_grows file known from told).1

pub note_is : (w : View) (o : List ℕ) (all : List Log) (file found : ℕ) (v : View) → v ≡ Sampled o all file found → w ≡ receipt_right v → w ≡ Receipt file (recorded_of all file)
note_is w o all file found v a b = b ∙ ap receipt_right a

pub told_all : (file start : ℕ) (known : Log) (done since : ℕ) (told : Log) (v w : View) (me : Me ℕ View) → v ≡ Pass file start known done since → w ≡ Receipt file told → IsPrefix known told → me ≡ (informed v w, []) → me ≡ (Pass file start told done since, [])
told_all file start known done since told v w me a b p is =
    is ∙ (λ i. (informed (a i) (b i), [])) ∙ ap (λ t. (Pass file start (if t then longer known told else known) done since, [])) (eq-eqb file file refl) ∙ ap (λ l. (Pass file start l done since, [])) (longer_all known told p)

-- A script, answered line by line.
use Rattle.std.proofs.Common.{◌≡◌, ◌≢◌, ℕ, ◌+◌, ◌<◌, ◌≤◌, Bool, true, false, inl, inr, List, [], ◌∷◌, ◌++◌, Option, Some, None, IfSome, Result, Ok, Err, length, take, refl, sym, ap, subst, ◌∙◌, arith}
use Rattle.std.specs.Prelude.{nat_lt}
use Rattle.std.specs.List.{position_or_len, before_first, after_first, slice_split}
use Rattle.std.specs.Io.KnownBytes.{Keeps, Appends}
use Rattle.std.proofs.lemmas.Bool.{ltb-true, ltb-false}
use Rattle.std.proofs.Math.Seq.{take-append-add}
use Rattle.std.proofs.lemmas.List.{append-nil, append_assoc, drop_all, length-append, take_all}
use Rattle.std.proofs.lemmas.List.Splits.{slice_split_first, length-slice_split}
use Rattle.textline.specs.declared.lines.Fetched.TheVariants.{Line}
use Rattle.script.specs.declared.run.TheConstants.{MAX_LINE}
use Rattle.textline.specs.declared.stop.Stop.{Stop}
use Rattle.textline.specs.declared.stop.Stop.TheVariants.{Malformed, Input, Output, Memory}
use Rattle.textline.specs.Lines.{is_newline, lines_of, without_empty_end, Fetches}
use Rattle.script.specs.Runs.{Answered, AnsweredFirst, Ends, LineAnswers, LineGives, PrintsPart}
use Rattle.script.specs.Sessions.{SessionSeen}
use Rattle.textline.specs.Prints.{AppendsPart}
use Rattle.textline.specs.Stops.{IsFault}
use Rattle.textline.proofs.WordLemmas.{whole}

-- ---- the lines of a script

cons_kept : (line next : List ℕ) (more : List (List ℕ)) → without_empty_end (line ∷ (next ∷ more)) ≡ line ∷ without_empty_end (next ∷ more)
cons_kept [] next more = refl
cons_kept (x ∷ xs) next more = refl

kept_before : (line : List ℕ) (rest : List (List ℕ)) → rest ≢ [] → without_empty_end (line ∷ rest) ≡ line ∷ without_empty_end rest
kept_before line [] some = absurd (some refl)
kept_before line (next ∷ more) some = cons_kept line next more

split_nonempty : (script : List ℕ) → slice_split is_newline script ≢ []
split_nonempty script e = absurd (omega (arith, length-slice_split is_newline script, ap length e))

-- a first line that has its end
lines_of-ended : (script : List ℕ) → position_or_len is_newline script < length script
    → lines_of script ≡ before_first is_newline script ∷ lines_of (after_first is_newline script)
lines_of-ended script short =
    ap without_empty_end (slice_split_first is_newline script 0 short) ∙ kept_before _ _ (split_nonempty (after_first is_newline script))

-- a last line that lacks it
lines_of-last : (script : List ℕ) → script ≢ [] → length script ≤ position_or_len is_newline script
    → lines_of script ≡ before_first is_newline script ∷ lines_of (after_first is_newline script)
lines_of-last [] some long = absurd (some refl)
lines_of-last (x ∷ xs) some long =
    let n = position_or_len is_newline (x ∷ xs) in
    let before : before_first is_newline (x ∷ xs) ≡ x ∷ xs = take_all n (x ∷ xs) long in
    let after : after_first is_newline (x ∷ xs) ≡ [] = drop_all (n + 1) (x ∷ xs) (omega arith) in
    ap without_empty_end (whole is_newline (x ∷ xs) long)
    ∙ ap (λ line. line ∷ []) (sym before)
    ∙ ap (λ rest. before_first is_newline (x ∷ xs) ∷ lines_of rest) (sym after)

lines_by : (b : Bool) (script : List ℕ) → nat_lt (position_or_len is_newline script) (length script) ≡ b → script ≢ []
    → lines_of script ≡ before_first is_newline script ∷ lines_of (after_first is_newline script)
lines_by true script e some = lines_of-ended script (ltb-true _ _ e)
lines_by false script e some = lines_of-last script some (ltb-false _ _ e)

-- a script that is not empty has a first line
lines_of-first : (script : List ℕ) → script ≢ [] → lines_of script ≡ before_first is_newline script ∷ lines_of (after_first is_newline script)
lines_of-first script some = lines_by _ script refl some

-- ---- what was printed

appends_none : (a : Option (List ℕ)) → Appends a a []
appends_none None = tt
appends_none (Some x) = sym (append-nil x)

appends_on : (a b c : Option (List ℕ)) (s t : List ℕ) → Appends a b s → Appends b c t → Appends a c (s ++ t)
appends_on None b c s t h k = tt
appends_on (Some x) None c s t h k = absurd h
appends_on (Some x) (Some y) None s t h k = absurd k
appends_on (Some x) (Some y) (Some z) s t h k = k ∙ ap (λ v. v ++ t) h ∙ append_assoc x s t

-- all of it is a beginning of it
whole_part : (a b : Option (List ℕ)) (s : List ℕ) → Appends a b s → AppendsPart a b s
whole_part a b s h = (length s, subst (Appends a b) (sym (take_all (length s) s (omega arith))) h)

part_on : (a b c : Option (List ℕ)) (s t : List ℕ) → Appends a b s → AppendsPart b c t → AppendsPart a c (s ++ t)
part_on a b c s t h (n, more) = (length s + n, subst (Appends a c) (sym (take-append-add s t n)) (appends_on a b c s (take n t) h more))

appends_kept : (a b c : Option (List ℕ)) (s : List ℕ) → Appends a b s → Keeps b c → Appends a c s
appends_kept None b c s h k = tt
appends_kept (Some x) None c s h k = absurd h
appends_kept (Some x) (Some y) None s h k = absurd k
appends_kept (Some x) (Some y) (Some z) s h k = k ∙ h

-- ---- the first lines, and one more

answered_more : (old : Option SessionSeen) (done : List (List ℕ)) (line printed more : List ℕ) (mid new : Option SessionSeen)
    → Answered old done printed mid → length line ≤ MAX_LINE → LineAnswers mid line more new → Answered old (done ++ (line ∷ [])) (printed ++ more) new
answered_more old [] line printed more mid new h within answers =
    (more, [], new, ap (λ t. t ++ more) h.0 ∙ sym (append-nil more), within, subst (λ w. LineAnswers w line more new) h.1 answers, (refl, refl))
answered_more old (here ∷ done) line printed more mid new (first, rest, next, split, small, answer, others) within answers = (
  first,
  rest ++ more,
  next,
  ap (λ t. t ++ more) split ∙ append_assoc first rest more,
  small,
  answer,
  answered_more next done line rest more mid new others within answers,
)

first_more : (lines : List (List ℕ)) (n : ℕ) (line printed : List ℕ) (rest : List (List ℕ)) (w new : Option SessionSeen) (a b c : Option (List ℕ))
    → AnsweredFirst lines n (line ∷ rest) w a b → length line ≤ MAX_LINE → LineAnswers w line printed new → Appends b c printed → AnsweredFirst lines (n + 1) rest new a c
first_more lines n line printed rest w new a b c (done, texts, split, count, answered, appended) within answers more = (
  done ++ (line ∷ []),
  texts ++ printed,
  split ∙ sym (append_assoc done (line ∷ []) rest),
  omega (arith, length-append done (line ∷ []), count),
  answered_more None done line texts printed w new answered within answers,
  appends_on a b c texts printed appended more,
)

first_kept : (lines : List (List ℕ)) (n : ℕ) (rest : List (List ℕ)) (w : Option SessionSeen) (a b c : Option (List ℕ))
    → AnsweredFirst lines n rest w a b → Keeps b c → AnsweredFirst lines n rest w a c
first_kept lines n rest w a b c (done, texts, split, count, answered, appended) kept = (done, texts, split, count, answered, appends_kept a b c texts appended kept)

part_kept : (lines : List (List ℕ)) (a b c : Option (List ℕ)) → PrintsPart lines a b → Keeps b c → PrintsPart lines a c
part_kept lines a b c p kept = record {
  first = p.first;
  rest = p.rest;
  session = p.session;
  printed = p.printed;
  split = p.split;
  answered = p.answered;
  written = (p.written.0, appends_kept a b c _ p.written.1 kept);
}

-- all answers of the first lines were written
first_part : (lines : List (List ℕ)) (n : ℕ) (rest : List (List ℕ)) (w : Option SessionSeen) (a b : Option (List ℕ)) → AnsweredFirst lines n rest w a b → PrintsPart lines a b
first_part lines n rest w a b (done, printed, split, count, answered, appended) = record {
  first = done;
  rest = rest;
  session = w;
  printed = printed;
  split = split;
  answered = answered;
  written = whole_part a b printed appended;
}

-- and then a beginning of the next line's
first_and_part : (lines : List (List ℕ)) (n : ℕ) (line printed : List ℕ) (rest : List (List ℕ)) (w new : Option SessionSeen) (a b c : Option (List ℕ))
    → AnsweredFirst lines n (line ∷ rest) w a b → length line ≤ MAX_LINE → LineAnswers w line printed new → AppendsPart b c printed → PrintsPart lines a c
first_and_part lines n line printed rest w new a b c (done, texts, split, count, answered, appended) within answers part = record {
  first = done ++ (line ∷ []);
  rest = rest;
  session = new;
  printed = texts ++ printed;
  split = split ∙ sym (append_assoc done (line ∷ []) rest);
  answered = answered_more None done line texts printed w new answered within answers;
  written = part_on a b c texts printed appended part;
}

-- ---- between two lines

-- the first n lines of the script were answered, and the reader has the others left
pub record Stands (script : List ℕ) (left : Option (List ℕ)) (n : ℕ) (w : Option SessionSeen) (before after : Option (List ℕ)) : Type 0 where
  pub bytes : List ℕ
  pub has : left ≡ Some bytes
  pub answered : AnsweredFirst (lines_of script) n (lines_of bytes) w before after

pub stands_first : (left : Option (List ℕ)) (n : ℕ) (w : Option SessionSeen) (out : Option (List ℕ)) → n ≡ 0 → w ≡ None → IfSome left (λ script. Stands script left n w out out)
stands_first None n w out zero none = tt
stands_first (Some script) n w out zero none = record { bytes = script; has = refl; answered = ([], [], refl, sym zero, (refl, none), appends_none out) }

pub keeps_same : (a : Option (List ℕ)) → Keeps a a
keeps_same None = tt
keeps_same (Some x) = refl

-- a run that stopped between two lines
fault_ends : {script : List ℕ} {left : Option (List ℕ)} {n : ℕ} {w : Option SessionSeen} {a b : Option (List ℕ)} (c : Option (List ℕ)) (stop : Stop)
    → Stands script left n w a b → Keeps b c → IsFault stop → Ends (lines_of script) (Err stop) a c
fault_ends c (Malformed line) s kept fault = absurd fault
fault_ends {n = n} {w = w} {a = a} {b = b} c Input s kept fault = (n, w, lines_of s.bytes, first_kept _ n _ w a b c s.answered kept)
fault_ends {n = n} {w = w} {a = a} {b = b} c Output s kept fault = first_part _ n _ w a c (first_kept _ n _ w a b c s.answered kept)
fault_ends {n = n} {w = w} {a = a} {b = b} c Memory s kept fault = (n, w, lines_of s.bytes, first_kept _ n _ w a b c s.answered kept)

pub stands_fault : {script : List ℕ} {left : Option (List ℕ)} {n : ℕ} {w : Option SessionSeen} {a b : Option (List ℕ)} (c : Option (List ℕ)) (stop : Stop) (r : Result (Unit {0}) Stop)
    → r ≡ Err stop → Stands script left n w a b → Keeps b c → IsFault stop → Ends (lines_of script) r a c
stands_fault {script = script} {a = a} c stop r is s kept fault = subst (λ end. Ends (lines_of script) end a c) (sym is) (fault_ends c stop s kept fault)

known : (P : List ℕ → Type 0) (left : Option (List ℕ)) (bytes : List ℕ) → left ≡ Some bytes → IfSome left P → P bytes
known P left bytes e h = let at : IfSome (Some bytes) P = subst (λ l. IfSome l P) e h in at

-- a first line with more bytes than a line may have
pub stands_too_long : {script : List ℕ} {left : Option (List ℕ)} {k : ℕ} {w : Option SessionSeen} {a b : Option (List ℕ)} (c : Option (List ℕ)) (n : ℕ)
    → Stands script left k w a b → IfSome left (λ bytes. MAX_LINE < length (before_first is_newline bytes)) → Keeps b c → n ≡ k + 1
    → Ends (lines_of script) (Err (Malformed n)) a c
stands_too_long {script = script} {left = left} {k = k} {w = w} {a = a} {b = b} c n s fetched kept counted =
    let long : MAX_LINE < length (before_first is_newline s.bytes) = known (λ bytes. MAX_LINE < length (before_first is_newline bytes)) left s.bytes s.has fetched in
    let some : s.bytes ≢ [] = λ none. absurd (omega (arith, long, ap (λ bytes. length (before_first is_newline bytes)) none)) in
    let line = before_first is_newline s.bytes in
    let rest = lines_of (after_first is_newline s.bytes) in
    let now : AnsweredFirst (lines_of script) k (line ∷ rest) w a b = subst (λ lines. AnsweredFirst (lines_of script) k lines w a b) (lines_of-first s.bytes some) s.answered in
    (k, w, line, rest, counted, first_kept _ k _ w a b c now kept, inl long)

-- what a line comes to that was fetched: the run goes on, or ends there
line_ends : (lines : List (List ℕ)) (k : ℕ) (w : Option SessionSeen) (a b c : Option (List ℕ)) (n : ℕ) (line : List ℕ) (rest : List (List ℕ)) (stop : Stop) (new : Option SessionSeen)
    → AnsweredFirst lines k (line ∷ rest) w a b → n ≡ k + 1 → length line ≤ MAX_LINE → LineGives w n line (Err stop) new b c → Ends lines (Err stop) a c
line_ends lines k w a b c n line rest (Malformed m) new s counted within gives =
    (k, w, line, rest, gives.0 ∙ counted, first_kept _ k _ w a b c s gives.2, inr gives.1)
line_ends lines k w a b c n line rest Input new s counted within gives = (k, w, line ∷ rest, first_kept _ k _ w a b c s gives)
line_ends lines k w a b c n line rest Output new s counted within (printed, next, answers, part) = first_and_part lines k line printed rest w next a b c s within answers part
line_ends lines k w a b c n line rest Memory new s counted within gives = (k, w, line ∷ rest, first_kept _ k _ w a b c s gives)

-- the lines that are not answered yet begin with the line that was fetched
fetched_first : {script : List ℕ} {left : Option (List ℕ)} {k : ℕ} {w : Option SessionSeen} {a b : Option (List ℕ)} (c : Option (List ℕ)) (line : List ℕ) (after : Option (List ℕ))
    (s : Stands script left k w a b) → IfSome left (λ bytes. Fetches MAX_LINE bytes Line line after) → Keeps b c
    → AnsweredFirst (lines_of script) k (line ∷ lines_of (after_first is_newline s.bytes)) w a c
fetched_first {script = script} {left = left} {k = k} {w = w} {a = a} {b = b} c line after s fetched kept =
    let now : Fetches MAX_LINE s.bytes Line line after = known (λ bytes. Fetches MAX_LINE bytes Line line after) left s.bytes s.has fetched in
    let rest = lines_of (after_first is_newline s.bytes) in
    let begins : lines_of s.bytes ≡ line ∷ rest = lines_of-first s.bytes now.0 ∙ ap (λ l. l ∷ rest) (sym now.1) in
    first_kept _ k _ w a b c (subst (λ lines. AnsweredFirst (lines_of script) k lines w a b) begins s.answered) kept

pub stands_stopped : {script : List ℕ} {left : Option (List ℕ)} {k : ℕ} {w : Option SessionSeen} {a b : Option (List ℕ)} (c d : Option (List ℕ)) (n : ℕ) (line : List ℕ) (after : Option (List ℕ)) (stop : Stop) (new : Option SessionSeen) (r : Result (Unit {0}) Stop)
    → r ≡ Err stop → Stands script left k w a b → IfSome left (λ bytes. Fetches MAX_LINE bytes Line line after) → Keeps b c → n ≡ k + 1 → length line ≤ MAX_LINE → LineGives w n line (Err stop) new c d
    → Ends (lines_of script) r a d
stands_stopped {script = script} {k = k} {w = w} {a = a} c d n line after stop new r is s fetched kept counted within gives =
    subst (λ end. Ends (lines_of script) end a d) (sym is)
    (line_ends (lines_of script) k w a c d n line _ stop new (fetched_first c line after s fetched kept) counted within gives)

pub stands_next : {script : List ℕ} {left : Option (List ℕ)} {k : ℕ} {w : Option SessionSeen} {a b : Option (List ℕ)} (c d : Option (List ℕ)) (n : ℕ) (line : List ℕ) (after : Option (List ℕ)) (new : Option SessionSeen)
    → Stands script left k w a b → IfSome left (λ bytes. Fetches MAX_LINE bytes Line line after) → Keeps b c → n ≡ k + 1 → length line ≤ MAX_LINE → LineGives w n line (Ok tt) new c d
    → Stands script after n new a d
stands_next {script = script} {left = left} {k = k} {w = w} {a = a} c d n line after new s fetched kept counted within gives =
    let now : Fetches MAX_LINE s.bytes Line line after = known (λ bytes. Fetches MAX_LINE bytes Line line after) left s.bytes s.has fetched in
    let more = first_more _ k line gives.0 _ w new a c d (fetched_first c line after s fetched kept) within gives.1 gives.2 in
    record {
      bytes = after_first is_newline s.bytes;
      has = now.2;
      answered = subst (λ m. AnsweredFirst (lines_of script) m (lines_of (after_first is_newline s.bytes)) new a d) (sym counted) more;
    }

-- the script has ended
pub stands_ended : {script : List ℕ} {left : Option (List ℕ)} {n : ℕ} {w : Option SessionSeen} {a b : Option (List ℕ)} (c : Option (List ℕ))
    → Stands script left n w a b → IfSome left (λ bytes. bytes ≡ []) → Keeps b c → Ends (lines_of script) (Ok tt) a c
stands_ended {script = script} {left = left} {n = n} {w = w} {a = a} {b = b} c s none kept =
    let empty : s.bytes ≡ [] = known (λ bytes. bytes ≡ []) left s.bytes s.has none in
    let all : AnsweredFirst (lines_of script) n [] w a b = subst (λ bytes. AnsweredFirst (lines_of script) n (lines_of bytes) w a b) empty s.answered in
    (n, w, first_kept _ n _ w a b c all kept)

-- ---- what was printed is handed on

pub ends_kept : (lines : List (List ℕ)) (r : Result (Unit {0}) Stop) (a b c : Option (List ℕ)) → Ends lines r a b → Keeps b c → Ends lines r a c
ends_kept lines (Ok done) a b c (n, w, first) kept = (n, w, first_kept _ n _ w a b c first kept)
ends_kept lines (Err (Malformed n)) a b c (k, w, line, rest, counted, first, bad) kept = (k, w, line, rest, counted, first_kept _ k _ w a b c first kept, bad)
ends_kept lines (Err Input) a b c (n, w, rest, first) kept = (n, w, rest, first_kept _ n _ w a b c first kept)
ends_kept lines (Err Output) a b c part kept = part_kept lines a b c part kept
ends_kept lines (Err Memory) a b c (n, w, rest, first) kept = (n, w, rest, first_kept _ n _ w a b c first kept)

ends_part : (lines : List (List ℕ)) (r : Result (Unit {0}) Stop) (a b : Option (List ℕ)) → Ends lines r a b → PrintsPart lines a b
ends_part lines (Ok done) a b (n, w, first) = first_part lines n _ w a b first
ends_part lines (Err (Malformed n)) a b (k, w, line, rest, counted, first, bad) = first_part lines k _ w a b first
ends_part lines (Err Input) a b (n, w, rest, first) = first_part lines n _ w a b first
ends_part lines (Err Output) a b part = part
ends_part lines (Err Memory) a b (n, w, rest, first) = first_part lines n _ w a b first

-- where that fails, a beginning of the answers was written all the same
pub ends_unflushed : (lines : List (List ℕ)) (r s : Result (Unit {0}) Stop) (stop : Stop) (a b c : Option (List ℕ)) → Ends lines r a b → Keeps b c → s ≡ Err stop → stop ≡ Output → Ends lines s a c
ends_unflushed lines r s stop a b c ends kept is failed =
    let part : Ends lines (Err Output) a c = part_kept lines a b c (ends_part lines r a b ends) kept in
    subst (λ e. Ends lines e a c) (sym (is ∙ ap Err failed)) part

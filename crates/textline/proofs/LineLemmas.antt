-- The first line of a reader's bytes, taken part by part.
use Rattle.std.proofs.Common.{◌≡◌, ◌≢◌, ℕ, ◌+◌, ◌-◌, ◌<◌, ◌≤◌, Bool, true, false, not, List, [], ◌∷◌, ◌++◌, Option, Some, None, IfSome, MatchBool, All, cond, length, get_or, take, drop, refl, sym, ap, subst, ◌∙◌, arith, zero-add}
use Rattle.std.specs.Prelude.{nat_lt, if◌then◌else◌}
use Rattle.std.specs.List.{position, position_or_len, before_first, after_first}
use Rattle.std.specs.Io.KnownBytes.{Keeps, Consumes}
use Rattle.std.proofs.lemmas.Bool.{ltb-true, ltb-false, ne_eqb, eqb-true, eq-eqb}
use Rattle.std.proofs.lemmas.List.{append-nil, append_assoc, take_more, get_or-take, length-take, length-append, take-append-drop, nil_from_length}
use Rattle.std.proofs.Math.Seq.{take-append-add, drop-append-add}
use Rattle.std.proofs.lemmas.List.Elements.{All-head, All-tail, All-append}
use Rattle.std.proofs.lemmas.List.Sums.{fails_before_first, prefix_len_stops, prefix_len-le-length}
use Rattle.std.proofs.lemmas.List.Folds.{prefix_len-append, length-prefix_len}
use Rattle.textline.specs.declared.lines.Fetched.{Fetched}
use Rattle.textline.specs.declared.lines.Fetched.TheVariants.{Line, End}
use Rattle.textline.specs.Lines.{is_newline, Fetches, HasBegun}
use Rattle.textline.proofs.WordLemmas.{cond_Some, cond_None}

-- ---- known bytes

-- a fact for known bytes follows from another
pub map_some : (a : Option (List ℕ)) (P Q : List ℕ → Type 0) → IfSome a P → ((bytes : List ℕ) → P bytes → Q bytes) → IfSome a Q
map_some None P Q h f = tt
map_some (Some bytes) P Q h f = f bytes h

pub keeps_on : (a b c : Option (List ℕ)) → Keeps a b → Keeps b c → Keeps a c
keeps_on None b c h k = tt
keeps_on (Some x) None c h k = absurd h
keeps_on (Some x) (Some y) None h k = absurd k
keeps_on (Some x) (Some y) (Some z) h k = k ∙ h

-- ---- where a line ends

clash : (b : Bool) → b ≡ true → b ≡ false → ⊥
clash b on off = cc

true_of_not : (b : Bool) → not b ≡ false → b ≡ true
true_of_not true h = refl
true_of_not false h = absurd cc

newline_there : (s : List ℕ) → position_or_len is_newline s < length s → get_or s (position_or_len is_newline s) 0 ≡ 10
newline_there s short = eqb-true _ _ (true_of_not _ (prefix_len_stops (λ b. not (is_newline b)) s 0 short))

newline_at : (s : List ℕ) (n : ℕ) → position_or_len is_newline s ≡ n → n < length s → get_or s n 0 ≡ 10
newline_at s n e short = ap (λ k. get_or s k 0) (sym e) ∙ newline_there s (omega arith)

-- no byte before it is one
clean_part : (s : List ℕ) (n : ℕ) → position_or_len is_newline s ≡ n → All (λ b. b ≢ 10) (take n s)
clean_part s n e = λ k d below ten.
    let under : k < n = omega (arith, length-take n s) in
    let same = get_or-take n s k d under in
    let here : get_or s k d ≡ 10 = sym same ∙ ten in
    let fails = fails_before_first is_newline s k d (omega arith) in
    clash _ (eq-eqb _ _ here) fails

pub position_found : (s : List ℕ) (b : Bool) (n : ℕ) → MatchBool b ((position is_newline s ≡ Some n) × (n < length s)) ((position is_newline s ≡ None) × (n ≡ length s))
    → position_or_len is_newline s ≡ n
position_found s true n h = (cond_Some _ _ _ h.0).1
position_found s false n h =
    let long = ltb-false _ _ (cond_None _ _ h.0) in
    omega (arith, long, prefix_len-le-length (λ b. not (is_newline b)) s, h.1)

position-append_clean : (start rest : List ℕ) → All (λ b. b ≢ 10) start → position_or_len is_newline (start ++ rest) ≡ length start + position_or_len is_newline rest
position-append_clean [] rest clean = sym (zero-add _)
position-append_clean (x ∷ xs) rest clean =
    let more = position-append_clean xs rest (All-tail (λ b. b ≢ 10) x xs clean) in
    let next : 1 + position_or_len is_newline (xs ++ rest) ≡ length (x ∷ xs) + position_or_len is_newline rest = omega (arith, more) in
    ap (λ b. cond (not b) (1 + position_or_len is_newline (xs ++ rest)) 0) (ne_eqb x 10 (All-head (λ b. b ≢ 10) x xs clean)) ∙ next

-- the first line goes on through bytes that end none
first_line-append : (start rest : List ℕ) → All (λ b. b ≢ 10) start
    → (before_first is_newline (start ++ rest) ≡ start ++ before_first is_newline rest) × (after_first is_newline (start ++ rest) ≡ after_first is_newline rest)
first_line-append start rest clean =
    let at = position-append_clean start rest clean in
    let past : (length start + position_or_len is_newline rest) + 1 ≡ length start + (position_or_len is_newline rest + 1) = omega arith in (
      ap (λ k. take k (start ++ rest)) at ∙ take-append-add start rest (position_or_len is_newline rest),
      ap (λ k. drop (k + 1) (start ++ rest)) at ∙ ap (λ k. drop k (start ++ rest)) past ∙ drop-append-add start rest (position_or_len is_newline rest + 1),
    )

-- ---- looks at a reader's buffer that shows s

rest_is : (xs rest : List ℕ) → Some xs ≡ Some rest → rest ≡ xs
rest_is xs rest e = cc

no_rest : (rest : List ℕ) → None ≡ Some rest → ⊥
no_rest rest e = cc

-- the rest of the line was there, and its end
pub line_ended : (most : ℕ) (bytes start s : List ℕ) (n : ℕ) (a c : Option (List ℕ)) → HasBegun bytes start a → position_or_len is_newline s ≡ n → n < length s
    → Consumes a c (take (n + 1) s) → Fetches most bytes Line (start ++ take n s) c
line_ended most bytes start s n None c begun at short taken = absurd (no_rest begun.0 begun.1)
line_ended most bytes start s n (Some xs) None begun at short taken = absurd taken
line_ended most bytes start s n (Some xs) (Some zs) (rest, e, whole, clean) at short taken =
    let line = start ++ take n s in
    let cut : take (n + 1) s ≡ take n s ++ (10 ∷ []) = take_more s n 0 short ∙ ap (λ b. take n s ++ (b ∷ [])) (newline_at s n at short) in
    let apart : start ++ ((take n s ++ (10 ∷ [])) ++ zs) ≡ line ++ (10 ∷ zs) =
    ap (λ t. start ++ t) (append_assoc (take n s) (10 ∷ []) zs) ∙ sym (append_assoc start (take n s) (10 ∷ zs)) in
    let all : bytes ≡ line ++ (10 ∷ zs) =
    whole ∙ ap (λ r. start ++ r) (rest_is xs rest e ∙ taken ∙ ap (λ t. t ++ zs) cut) ∙ apart in
    let clean_line = All-append (λ b. b ≢ 10) start (take n s) clean (clean_part s n at) in
    let split = first_line-append line (10 ∷ zs) clean_line in (
      λ none. absurd (omega (arith, ap length (sym all ∙ none), length-append line (10 ∷ zs))),
      sym (ap (before_first is_newline) all ∙ split.0 ∙ append-nil line),
      ap Some (sym (ap (after_first is_newline) all ∙ split.1)),
    )

-- the buffer had a part of the line, and no end
pub line_goes_on : (bytes start s : List ℕ) (n : ℕ) (a c : Option (List ℕ)) → HasBegun bytes start a → position_or_len is_newline s ≡ n
    → Consumes a c (take n s) → HasBegun bytes (start ++ take n s) c
line_goes_on bytes start s n None c begun at taken = absurd (no_rest begun.0 begun.1)
line_goes_on bytes start s n (Some xs) None begun at taken = absurd taken
line_goes_on bytes start s n (Some xs) (Some zs) (rest, e, whole, clean) at taken = (
  zs,
  refl,
  whole ∙ ap (λ r. start ++ r) (rest_is xs rest e ∙ taken) ∙ sym (append_assoc start (take n s) zs),
  All-append (λ b. b ≢ 10) start (take n s) clean (clean_part s n at),
)

longer : (b : Bool) (m n k : ℕ) → m ≤ n → m ≤ cond b (n + k) m
longer true m n k h = omega arith
longer false m n k h = omega arith

position-append-le : (s t : List ℕ) → position_or_len is_newline s ≤ position_or_len is_newline (s ++ t)
position-append-le s t =
    let p : ℕ → Bool = λ b. not (is_newline b) in
    subst (λ k. position_or_len is_newline s ≤ k) (sym (prefix_len-append p s t)) (longer _ _ _ _ (prefix_len-le-length p s))

-- the buffer has more of the line than a line may have
pub line_too_long : (most : ℕ) (bytes start s : List ℕ) (n : ℕ) (a : Option (List ℕ)) → HasBegun bytes start a → IfSome a (λ xs. take (length s) xs ≡ s)
    → position_or_len is_newline s ≡ n → most - length start < n → most < length (before_first is_newline bytes)
line_too_long most bytes start s n None begun shown at long = absurd (no_rest begun.0 begun.1)
line_too_long most bytes start s n (Some xs) (rest, e, whole, clean) shown at long =
    let t = drop (length s) xs in
    let again : rest ≡ s ++ t = rest_is xs rest e ∙ sym (take-append-drop (length s) xs) ∙ ap (λ front. front ++ t) shown in
    let line = ap length (ap (before_first is_newline) whole ∙ (first_line-append start rest clean).0) ∙ length-append start (before_first is_newline rest) in
    let part = length-prefix_len (λ b. not (is_newline b)) rest in
    let less = subst (λ r. position_or_len is_newline s ≤ position_or_len is_newline r) (sym again) (position-append-le s t) in
    omega (arith, line, part, less, at, long)

end_by : (most : ℕ) (b : Bool) (bytes start : List ℕ) → nat_lt 0 (length start) ≡ b → bytes ≡ start → All (λ b. b ≢ 10) start → Fetches most bytes (if b then Line else End) start (Some [])
end_by most true bytes start some same clean =
    let whole : bytes ≡ start ++ [] = same ∙ sym (append-nil start) in
    let split = first_line-append start [] clean in
    let long = ltb-true _ _ some in (
      λ none. absurd (omega (arith, ap length (sym same ∙ none))),
      sym (ap (before_first is_newline) whole ∙ split.0 ∙ append-nil start),
      ap Some (sym (ap (after_first is_newline) whole ∙ split.1)),
    )
end_by most false bytes start none same clean = same ∙ nil_from_length start (omega (arith, ltb-false _ _ none))

-- the buffer is empty: the input has ended
pub input_ended : (most : ℕ) (bytes start s : List ℕ) (fetched : Fetched) (len : ℕ) (a b : Option (List ℕ)) → HasBegun bytes start a → IfSome a (λ xs. length s ≡ 0 → xs ≡ []) → length s ≡ 0
    → Keeps a b → fetched ≡ (if nat_lt 0 len then Line else End) → len ≡ length start → Fetches most bytes fetched start b
input_ended most bytes start s fetched len None b begun end empty keeps is long = absurd (no_rest begun.0 begun.1)
input_ended most bytes start s fetched len (Some xs) None begun end empty keeps is long = absurd keeps
input_ended most bytes start s fetched len (Some xs) (Some ys) (rest, e, whole, clean) end empty keeps is long =
    let none : rest ≡ [] = rest_is xs rest e ∙ end empty in
    let same : bytes ≡ start = whole ∙ ap (λ r. start ++ r) none ∙ append-nil start in
    let gone : ys ≡ [] = keeps ∙ end empty in
    subst (λ f. Fetches most bytes f start (Some ys)) (sym (is ∙ ap (λ n. if nat_lt 0 n then Line else End) long))
    (subst (λ left. Fetches most bytes (if nat_lt 0 (length start) then Line else End) start (Some left)) (sym gone) (end_by most _ bytes start refl same clean))

-- Numbers and words of a line.
use Rattle.std.proofs.Common.{◌≡◌, ◌≢◌, ℕ, zero, suc, ◌+◌, ◌<◌, ◌≤◌, ◌^◌, Bool, true, false, not, List, [], ◌∷◌, Option, Some, None, cond, length, get_or, refl, sym, ap, subst, ◌∙◌, arith, IfSome, IfNone}
use Rattle.std.specs.Prelude.{decimal}
use Rattle.std.specs.List.{position, position_or_len, before_first, after_first, slice_split, onto_first}
use Rattle.std.specs.Str.{IsUtf8}
use Rattle.std.specs.Str.Parse.{IsNumeral, AllDigits, digits_value, without_leading_plus}
use Rattle.std.proofs.lemmas.Bool.{ltb-true, ltb-false}
use Rattle.std.proofs.lemmas.List.Splits.{slice_split_first, slice_split-cons_no, length-slice_split}
use Rattle.std.proofs.lemmas.Fmt.{decimal-digits_value, first_decimal, decimal_digit, digits_decimal, decimal_nonempty, decimal_is_IsNumeral, IsAscii-decimal}
use Rattle.std.proofs.lemmas.Str.{IsUtf8-from_ascii}
use Rattle.std.proofs.lemmas.Str.Parse.{IsNumeralModel, numerals_by_value, tells_digits, not_in_digits, without_leading_plus_none}
use Rattle.std.proofs.lemmas.Bool.Decides.{nat_tests}
use Rattle.textline.specs.Words.{is_space, words_of, IsNumber, has_sign_or_leading_zero, IsParse}

-- ---- words

-- what a `Some` made by a test says
pub cond_Some : (b : Bool) (k at : ℕ) → cond b (Some k) None ≡ Some at → (b ≡ true) × (k ≡ at)
cond_Some true k at h = (refl, cc)
cond_Some false k at h = absurd cc

pub cond_None : (b : Bool) (k : ℕ) → cond b (Some k) None ≡ None → b ≡ false
cond_None true k h = absurd cc
cond_None false k h = refl

found_at : (b : Bool) (k : ℕ) → cond b (Some k) None ≢ None → b ≡ true
found_at true k h = refl
found_at false k h = absurd (h refl)

-- the place of an element that is there
pub found_short : (p : ℕ → Bool) (xs : List ℕ) → position p xs ≢ None → position_or_len p xs < length xs
found_short p xs some = ltb-true _ _ (found_at _ _ some)

-- a line with a space has what stands before it as its first word, and the words of what stands after it
pub words_of-split : (line word rest : List ℕ) → position is_space line ≢ None → word ≡ before_first is_space line → rest ≡ after_first is_space line → words_of line ≡ word ∷ words_of rest
words_of-split line word rest some before after =
    slice_split_first is_space line 0 (found_short is_space line some)
    ∙ ap (λ w. w ∷ words_of (after_first is_space line)) (sym before)
    ∙ ap (λ r. word ∷ words_of r) (sym after)

whole_case : (p : ℕ → Bool) (x : ℕ) (xs : List ℕ) (b : Bool) → p x ≡ b → (length xs ≤ position_or_len p xs → slice_split p xs ≡ xs ∷ [])
    → length (x ∷ xs) ≤ cond (not b) (1 + position_or_len p xs) 0 → slice_split p (x ∷ xs) ≡ (x ∷ xs) ∷ []
whole_case p x xs true e rest h = absurd (omega arith)
whole_case p x xs false e rest h = slice_split-cons_no p x xs e ∙ ap (onto_first x) (rest (omega arith))

-- where no element passes, the list is its one part
pub whole : (p : ℕ → Bool) (xs : List ℕ) → length xs ≤ position_or_len p xs → slice_split p xs ≡ xs ∷ []
whole p [] h = refl
whole p (x ∷ xs) h = whole_case p x xs (p x) refl (whole p xs) h

-- a line with no space is one word
pub words_of-none : (line : List ℕ) → position is_space line ≡ None → words_of line ≡ line ∷ []
words_of-none line h = whole is_space line (ltb-false _ _ (cond_None _ _ h))

-- every line has a word
pub words_of-nonempty : (line : List ℕ) → words_of line ≢ []
words_of-nonempty line e = absurd (omega (arith, length-slice_split is_space line, ap length e))

-- ---- numbers

own : IsNumeralModel (AllDigits 10) (digits_value 10)
own = numerals_by_value (AllDigits 10) tells_digits

-- a number is written with digits alone
pub IsUtf8-number : (word : List ℕ) (n : ℕ) → IsNumber word n → IsUtf8 word
IsUtf8-number word n h = subst IsUtf8 (sym h.0) (IsUtf8-from_ascii _ (IsAscii-decimal n h.1))

no_plus : (word : List ℕ) (n : ℕ) → IsNumber word n → get_or word 0 0 ≢ 43
no_plus word n h first =
    let here : get_or (decimal n) 0 0 ≡ 43 = ap (λ w. get_or w 0 0) (sym h.0) ∙ first in
    not_in_digits own (decimal n) 43 (digits_decimal own n h.1) (λ r. absurd (omega arith)) 0 (decimal_nonempty n h.1) here

zero_alone : (n : ℕ) → n < 2 ^ 64 → get_or (decimal n) 0 0 ≡ 48 → length (decimal n) ≡ 1
zero_alone zero small first = ap length (decimal_digit 0 (omega arith))
zero_alone (suc k) small first = absurd (omega (arith, first_decimal (suc k) (omega arith) small))

no_leading_zero : (word : List ℕ) (n : ℕ) → IsNumber word n → get_or word 0 0 ≡ 48 → length word ≡ 1
no_leading_zero word n h first = ap length h.0 ∙ zero_alone n h.1 (ap (λ w. get_or w 0 0) (sym h.0) ∙ first)

-- what is written with a sign or a leading zero is no number
pub none_with_prefix : (word : List ℕ) (n : ℕ) → has_sign_or_leading_zero word ≡ true → ¬ (IsNumber word n)
none_with_prefix word n prefix h =
    let plus = no_plus word n h in
    let leading = no_leading_zero word n h in
    grind (arith, nat_tests, plus, leading)

plain_first : (word : List ℕ) → has_sign_or_leading_zero word ≡ false → (get_or word 0 0 ≢ 43) × (get_or word 0 0 ≡ 48 → length word ≤ 1)
plain_first word plain = grind (arith, nat_tests)

-- what a parse says of a word without them
pub number_of_parse : (word : List ℕ) (r : Option ℕ) → has_sign_or_leading_zero word ≡ false
    → IfSome r (λ n. IsParse word × (n ≡ digits_value 10 (without_leading_plus word)))
    → IfNone r (IsUtf8 word → ¬ (IsParse word))
    → IfSome r (IsNumber word) × IfNone r ((n : ℕ) → ¬ (IsNumber word n))
number_of_parse word (Some x) plain some none =
    let first = plain_first word plain in
    let whole = without_leading_plus_none word first.0 in
    let numeral : IsNumeral 10 word = subst (IsNumeral 10) whole some.0.0 in
    let value : x ≡ digits_value 10 word = some.1 ∙ ap (digits_value 10) whole in
    let small : digits_value 10 word < 2 ^ 64 = omega (arith, some.0.1, some.1, value) in
    let written = decimal-digits_value own word numeral.1 numeral.0 (λ zero. omega (arith, first.1 zero, numeral.0)) small in
    ((sym written ∙ ap decimal (sym value), omega (arith, value, small)), tt)
number_of_parse word None plain some none =
    let first = plain_first word plain in
    let whole = without_leading_plus_none word first.0 in (
      tt,
      λ n h.
          let d = decimal_is_IsNumeral n h.1 in
          let numeral : IsNumeral 10 (without_leading_plus word) = subst (IsNumeral 10) (sym (whole ∙ h.0)) d.0 in
          let value : digits_value 10 (without_leading_plus word) ≡ n = ap (digits_value 10) (whole ∙ h.0) ∙ d.1 in
          none (IsUtf8-number word n h) (numeral, omega (arith, value, h.1)),
    )

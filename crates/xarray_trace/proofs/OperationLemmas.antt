-- A line means at most one operation.
use Rattle.std.proofs.Common.{◌≡◌, ◌≢◌, ℕ, List, [], ◌∷◌, Option, Some, None, refl, sym, ap, subst, ◌∙◌, arith, length, get_or, MatchOption}
use Rattle.std.specs.Prelude.{codes, if◌then◌else◌}
use Rattle.std.specs.Str.{bytes_eq}
use Rattle.xarray_trace.specs.declared.keyword.Keyword.{Keyword}
use Rattle.xarray_trace.specs.declared.keyword.Keyword.TheVariants.{Store, Insert, InsertOrder, Erase, Load, Split, SetMark, ClearMark, GetMark, Marked, Find, FindMarked, Retag, Empty, Hash, Dump, New, Ids, Alloc, AllocCyclic, Free, IsUsed, ErrNew, ErrSet, ErrSample, ErrCheck, ErrAdvance}
use Rattle.xarray_trace.specs.declared.operation.Operation.{Operation}
use Rattle.xarray_trace.specs.Keywords.{name_of}
use Rattle.xarray_trace.specs.Lines.{Means}
use Rattle.xarray_trace.specs.Operations.{with_numbers}
use Rattle.textline.specs.Words.{words_of, AreNumbers}
use Rattle.textline.proofs.NumberLemmas.{same_numbers}

-- ---- names

-- the keyword of a name
keyword_of_name : List ℕ → Keyword
keyword_of_name text =
    if bytes_eq text (codes "store") then Store
    else if bytes_eq text (codes "insert") then Insert
    else if bytes_eq text (codes "insert_order") then InsertOrder
    else if bytes_eq text (codes "erase") then Erase
    else if bytes_eq text (codes "load") then Load
    else if bytes_eq text (codes "split") then Split
    else if bytes_eq text (codes "set_mark") then SetMark
    else if bytes_eq text (codes "clear_mark") then ClearMark
    else if bytes_eq text (codes "get_mark") then GetMark
    else if bytes_eq text (codes "marked") then Marked
    else if bytes_eq text (codes "find") then Find
    else if bytes_eq text (codes "find_marked") then FindMarked
    else if bytes_eq text (codes "retag") then Retag
    else if bytes_eq text (codes "empty") then Empty
    else if bytes_eq text (codes "hash") then Hash
    else if bytes_eq text (codes "dump") then Dump
    else if bytes_eq text (codes "new") then New
    else if bytes_eq text (codes "ids") then Ids
    else if bytes_eq text (codes "alloc") then Alloc
    else if bytes_eq text (codes "alloc_cyclic") then AllocCyclic
    else if bytes_eq text (codes "free") then Free
    else if bytes_eq text (codes "is_used") then IsUsed
    else if bytes_eq text (codes "err_new") then ErrNew
    else if bytes_eq text (codes "err_set") then ErrSet
    else if bytes_eq text (codes "err_sample") then ErrSample
    else if bytes_eq text (codes "err_check") then ErrCheck
    else ErrAdvance

keyword_of_name-name_of : (k : Keyword) → keyword_of_name (name_of k) ≡ k
unfolding keyword_of_name
keyword_of_name-name_of Store = refl
keyword_of_name-name_of Insert = refl
keyword_of_name-name_of InsertOrder = refl
keyword_of_name-name_of Erase = refl
keyword_of_name-name_of Load = refl
keyword_of_name-name_of Split = refl
keyword_of_name-name_of SetMark = refl
keyword_of_name-name_of ClearMark = refl
keyword_of_name-name_of GetMark = refl
keyword_of_name-name_of Marked = refl
keyword_of_name-name_of Find = refl
keyword_of_name-name_of FindMarked = refl
keyword_of_name-name_of Retag = refl
keyword_of_name-name_of Empty = refl
keyword_of_name-name_of Hash = refl
keyword_of_name-name_of Dump = refl
keyword_of_name-name_of New = refl
keyword_of_name-name_of Ids = refl
keyword_of_name-name_of Alloc = refl
keyword_of_name-name_of AllocCyclic = refl
keyword_of_name-name_of Free = refl
keyword_of_name-name_of IsUsed = refl
keyword_of_name-name_of ErrNew = refl
keyword_of_name-name_of ErrSet = refl
keyword_of_name-name_of ErrSample = refl
keyword_of_name-name_of ErrCheck = refl
keyword_of_name-name_of ErrAdvance = refl

-- two keywords have two names
pub name_of_injective : (j k : Keyword) → name_of j ≡ name_of k → j ≡ k
name_of_injective j k e = sym (keyword_of_name-name_of j) ∙ ap keyword_of_name e ∙ keyword_of_name-name_of k

head_eq : {A : Type 0} (x y : A) (xs ys : List A) → x ∷ xs ≡ y ∷ ys → x ≡ y
head_eq x y xs ys e = cc

tail_eq : {A : Type 0} (x y : A) (xs ys : List A) → x ∷ xs ≡ y ∷ ys → xs ≡ ys
tail_eq x y xs ys e = cc

-- ---- lines

-- a line whose words have another name or no numbers, or whose numbers don't go with the name, means nothing
pub unnamed : (line name : List ℕ) (words : List (List ℕ)) → words_of line ≡ name ∷ words → ((k : Keyword) → name_of k ≢ name)
    → (operation : Operation) → ¬ (Means line operation)
unnamed line name words e none operation (k, ws, ns, is, are, with) = none k (head_eq _ _ _ _ (sym is ∙ e))

pub unnumbered : (line name : List ℕ) (words : List (List ℕ)) → words_of line ≡ name ∷ words → ((ns : List ℕ) → ¬ (AreNumbers words ns))
    → (operation : Operation) → ¬ (Means line operation)
unnumbered line name words e none operation (k, ws, ns, is, are, with) = none ns (subst (λ w. AreNumbers w ns) (tail_eq _ _ _ _ (sym is ∙ e)) are)

pub means_with : (line name : List ℕ) (words : List (List ℕ)) (k : Keyword) (ns : List ℕ) → words_of line ≡ name ∷ words → name_of k ≡ name → AreNumbers words ns
    → MatchOption (with_numbers k ns) ((operation : Operation) → ¬ (Means line operation)) (Means line)
means_with line name words k ns e named are = by_case (with_numbers k ns) refl
  where
    same_words : words_of line ≡ name_of k ∷ words
    same_words = e ∙ ap (λ w. w ∷ words) (sym named)

    other : (operation : Operation) → with_numbers k ns ≡ None → ¬ (Means line operation)
    other operation is_none (j, ws, ms, is, numbers, with) =
        let same_key : j ≡ k = name_of_injective j k (head_eq _ _ _ _ (sym is ∙ same_words)) in
        let same_ns : ms ≡ ns = same_numbers words ms ns (subst (λ w. AreNumbers w ms) (tail_eq _ _ _ _ (sym is ∙ same_words)) numbers) are in
        let clash : None ≡ Some operation = sym is_none ∙ sym (ap (λ j. with_numbers j ns) same_key) ∙ sym (ap (with_numbers j) same_ns) ∙ with in
        absurd cc

    by_case : (r : Option Operation) → with_numbers k ns ≡ r → MatchOption r ((operation : Operation) → ¬ (Means line operation)) (Means line)
    by_case None is = λ operation. other operation is
    by_case (Some operation) is = (k, words, ns, same_words, are, is)

-- ---- a list of few, element by element

pub one_of : (xs : List ℕ) → length xs ≡ 1 → xs ≡ get_or xs 0 0 ∷ []
one_of [] h = absurd (omega (arith, h))
one_of (a ∷ []) h = refl
one_of (a ∷ b ∷ xs) h = absurd (omega (arith, h))

pub two_of : (xs : List ℕ) → length xs ≡ 2 → xs ≡ get_or xs 0 0 ∷ get_or xs 1 0 ∷ []
two_of [] h = absurd (omega (arith, h))
two_of (a ∷ xs) h = ap (λ t. a ∷ t) (one_of xs (omega (arith, h)))

pub three_of : (xs : List ℕ) → length xs ≡ 3 → xs ≡ get_or xs 0 0 ∷ get_or xs 1 0 ∷ get_or xs 2 0 ∷ []
three_of [] h = absurd (omega (arith, h))
three_of (a ∷ xs) h = ap (λ t. a ∷ t) (two_of xs (omega (arith, h)))

pub four_of : (xs : List ℕ) → length xs ≡ 4 → xs ≡ get_or xs 0 0 ∷ get_or xs 1 0 ∷ get_or xs 2 0 ∷ get_or xs 3 0 ∷ []
four_of [] h = absurd (omega (arith, h))
four_of (a ∷ xs) h = ap (λ t. a ∷ t) (three_of xs (omega (arith, h)))

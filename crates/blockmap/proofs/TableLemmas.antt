-- The table of held blocks as a finite map.
use Rattle.std.proofs.Common.{◌≡◌, ◌≢◌, ℕ, suc, ◌+◌, ◌-◌, ◌<◌, ◌≤◌, Bool, true, false, cond, not, eqb, List, [], ◌∷◌, ◌++◌, length, get_or, drop, filter, Option, Some, None, is_some, refl, sym, ap, subst, ◌∙◌, arith, inl, inr, add-one, drop-cons, length-append}
use Rattle.std.specs.Ordering.{nat_cmp, eq_by_cmp}
use Rattle.std.specs.Cmp.{nat_cmp_total, unsigned_tied}
use Rattle.std.specs.FinMap as map
use Rattle.std.proofs.lemmas.Bool.{cases_eq, ne_eqb, eq-eqb, cond-true, cond-false, false≢true}
use Rattle.std.proofs.lemmas.Option.{none-some}
use Rattle.blockmap.specs.declared.held.Held.{Held}
use Rattle.blockmap.specs.Table.{IsDistinct, IsTable, held_of, pairs}

abbrev pub find_in : ℕ → List Held → Option Bool
find_in q table = map.find nat_cmp q (pairs table)

pub find_first : (q : ℕ) (h : Held) (table : List Held) → q ≡ h.block → find_in q (h ∷ table) ≡ Some h.is_cut
find_first q h table e = cond-true (eq_by_cmp nat_cmp q h.block) (Some h.is_cut) (find_in q table) (unsigned_tied q h.block ∙ eq-eqb q h.block e)

pub find_later : (q : ℕ) (h : Held) (table : List Held) → q ≢ h.block → find_in q (h ∷ table) ≡ find_in q table
find_later q h table differs = cond-false (eq_by_cmp nat_cmp q h.block) (Some h.is_cut) (find_in q table) (unsigned_tied q h.block ∙ ne_eqb q h.block differs)

pub get-held : (table : List Held) (q : ℕ) → map.get (held_of table) q ≡ find_in q table
get-held table q = map.get-from_entries nat_cmp_total (pairs table) q

-- ---- a search

dropped : (table : List Held) (i : ℕ) (d : Held) → i < length table → drop i table ≡ get_or table i d ∷ drop (i + 1) table
dropped table i d h = rw (add-one, drop-cons table i d)

pub find_here : (table : List Held) (i b : ℕ) (d : Held) → i < length table → (get_or table i d).block ≡ b → find_in b (drop i table) ≡ Some (get_or table i d).is_cut
find_here table i b d h is = ap (find_in b) (dropped table i d h) ∙ find_first b (get_or table i d) (drop (i + 1) table) (sym is)

pub find_past : (table : List Held) (i b : ℕ) (d : Held) → i < length table → (get_or table i d).block ≢ b → find_in b (drop i table) ≡ find_in b (drop (i + 1) table)
find_past table i b d h differs = ap (find_in b) (dropped table i d h) ∙ find_later b (get_or table i d) (drop (i + 1) table) (λ e. differs (sym e))

-- ---- one more

pub pairs_push : (table : List Held) (h : Held) → pairs (table ++ h ∷ []) ≡ pairs table ++ (h.block, h.is_cut) ∷ []
pairs_push [] h = refl
pairs_push (x ∷ table) h = ap (λ es. (x.block, x.is_cut) ∷ es) (pairs_push table h)

pub held_push : (table : List Held) (h : Held) → map.get (held_of table) h.block ≡ None → held_of (table ++ h ∷ []) ≡ map.insert (held_of table) h.block h.is_cut
held_push table h none = ap map.from_entries (pairs_push table h) ∙ map.from_entries_push nat_cmp_total map.nat_cmp-IsAntisymmetric (pairs table) h.block h.is_cut (sym (get-held table h.block) ∙ none)

push_none : (q : ℕ) (table : List Held) (h : Held) → q ≢ h.block → find_in q table ≡ None → find_in q (table ++ h ∷ []) ≡ None
push_none q [] h differs none = find_later q h [] differs
push_none q (x ∷ table) h differs none = elim (cases_eq q x.block) [
  | inl e ↦ absurd (none-some x.is_cut (sym none ∙ find_first q x table e))
  | inr apart ↦ find_later q x (table ++ h ∷ []) apart ∙ push_none q table h differs (sym (find_later q x table apart) ∙ none)
]

apart_from : (x h : Held) (table : List Held) → find_in h.block (x ∷ table) ≡ None → x.block ≢ h.block
apart_from x h table none e = none-some x.is_cut (sym none ∙ find_first h.block x table (sym e))

pub distinct_push : (table : List Held) (h : Held) → IsDistinct table → find_in h.block table ≡ None → IsDistinct (table ++ h ∷ [])
distinct_push [] h d none = (refl, tt)
distinct_push (x ∷ table) h d none =
    let differs = apart_from x h table none in
    (push_none x.block table h differs d.0, distinct_push table h d.1 (sym (find_later h.block x table (λ e. differs (sym e))) ∙ none))

-- ---- one less

abbrev pub without : ℕ → List Held → List Held
without b table = filter (λ h. not (eqb h.block b)) table

kept_first : (b : ℕ) (x : Held) (table : List Held) → x.block ≢ b → without b (x ∷ table) ≡ x ∷ without b table
kept_first b x table differs = ap (λ t. cond (not t) (x ∷ without b table) (without b table)) (ne_eqb x.block b differs)

gone_first : (b : ℕ) (x : Held) (table : List Held) → x.block ≡ b → without b (x ∷ table) ≡ without b table
gone_first b x table e = ap (λ t. cond (not t) (x ∷ without b table) (without b table)) (eq-eqb x.block b e)

find_gone : (b : ℕ) (table : List Held) → find_in b (without b table) ≡ None
find_gone b [] = refl
find_gone b (x ∷ table) = elim (cases_eq x.block b) [
  | inl e ↦ ap (find_in b) (gone_first b x table e) ∙ find_gone b table
  | inr differs ↦ ap (find_in b) (kept_first b x table differs) ∙ find_later b x (without b table) (λ e. differs (sym e)) ∙ find_gone b table
]

find_kept : (q b : ℕ) (table : List Held) → q ≢ b → find_in q (without b table) ≡ find_in q table
find_kept q b [] differs = refl
find_kept q b (x ∷ table) differs = elim (cases_eq x.block b) [
  | inl e ↦ ap (find_in q) (gone_first b x table e) ∙ find_kept q b table differs ∙ sym (find_later q x table (λ f. differs (f ∙ e)))
  | inr apart ↦ ap (find_in q) (kept_first b x table apart) ∙ elim (cases_eq q x.block) [
    | inl f ↦ find_first q x (without b table) f ∙ sym (find_first q x table f)
    | inr g ↦ find_later q x (without b table) g ∙ find_kept q b table differs ∙ sym (find_later q x table g)
  ]
]

get_without : (b : ℕ) (table : List Held) (q : ℕ) → find_in q (without b table) ≡ cond (eq_by_cmp nat_cmp q b) None (map.get (held_of table) q)
get_without b table q = elim (cases_eq q b) [
  | inl e ↦ ap (λ k. find_in k (without b table)) e ∙ find_gone b table ∙ sym (cond-true (eq_by_cmp nat_cmp q b) None (map.get (held_of table) q) (unsigned_tied q b ∙ eq-eqb q b e))
  | inr differs ↦ find_kept q b table differs ∙ sym (get-held table q) ∙ sym (cond-false (eq_by_cmp nat_cmp q b) None (map.get (held_of table) q) (unsigned_tied q b ∙ ne_eqb q b differs))
]

pub held_without : (b : ℕ) (table : List Held) → held_of (without b table) ≡ map.remove (held_of table) b
held_without b table = map.same_map nat_cmp_total map.nat_cmp-IsAntisymmetric (held_of (without b table)) (map.remove (held_of table) b) (λ q.
    get-held (without b table) q ∙ get_without b table q ∙ sym (map.get-remove nat_cmp_total (held_of table) b q))

pub distinct_without : (b : ℕ) (table : List Held) → IsDistinct table → IsDistinct (without b table)
distinct_without b [] d = tt
distinct_without b (x ∷ table) d = elim (cases_eq x.block b) [
  | inl e ↦ subst IsDistinct (sym (gone_first b x table e)) (distinct_without b table d.1)
  | inr differs ↦ subst IsDistinct (sym (kept_first b x table differs)) (find_kept x.block b table differs ∙ d.0, distinct_without b table d.1)
]

-- ---- how many

pub len-held : (table : List Held) → IsDistinct table → map.len (held_of table) ≡ length table
len-held [] d = map.len-empty nat_cmp Bool
len-held (x ∷ table) d =
    let absent : map.contains_key (held_of table) x.block ≡ false = ap is_some (get-held table x.block ∙ d.0) in
    map.len-insert nat_cmp_total (held_of table) x.block x.is_cut
    ∙ cond-false (map.contains_key (held_of table) x.block) (map.len (held_of table)) (map.len (held_of table) + 1) absent
    ∙ ap (λ n. n + 1) (len-held table d.1) ∙ add-one (length table)

-- ---- the table

some_length : (b : ℕ) (table : List Held) → is_some (find_in b table) ≡ true → 0 < length table
some_length b [] h = absurd (false≢true h)
some_length b (x ∷ table) h = omega arith

shorter : (b : ℕ) (table : List Held) → IsDistinct table → is_some (find_in b table) ≡ true → length (without b table) + 1 ≡ length table
shorter b table d there =
    let now = len-held (without b table) (distinct_without b table d) in
    let lens = ap map.len (held_without b table) ∙ map.len-remove nat_cmp_total (held_of table) b ∙ cond-true (map.contains_key (held_of table) b) (map.len (held_of table) - 1) (map.len (held_of table)) (ap is_some (get-held table b) ∙ there) in
    let was = len-held table d in
    let some = some_length b table there in
    omega (arith, now, lens, was, some)

pub table-empty : IsTable []
table-empty = record { distinct = tt; room = omega arith }

pub table_push : (table : List Held) (h : Held) → IsTable table → length table < 64 → find_in h.block table ≡ None → IsTable (table ++ h ∷ [])
table_push table h is room none = record { distinct = distinct_push table h is.distinct none; room = omega (arith, length-append table (h ∷ [])) }

pub table_without : (b : ℕ) (table : List Held) → IsTable table → IsTable (without b table)
table_without b table is = record { distinct = distinct_without b table is.distinct; room = omega (arith, filter_le (λ h. not (eqb h.block b)) table, is.room) }
  where
    filter_le : (p : Held → Bool) (xs : List Held) → length (filter p xs) ≤ length xs
    filter_le p [] = omega arith
    filter_le p (x ∷ xs) = step p x xs (p x) (filter_le p xs)
      where
        step : (p : Held → Bool) (x : Held) (xs : List Held) (b : Bool) → length (filter p xs) ≤ length xs → length (cond b (x ∷ filter p xs) (filter p xs)) ≤ suc (length xs)
        step p x xs true h = omega arith
        step p x xs false h = omega arith

pub without_room : (b : ℕ) (table : List Held) → IsTable table → is_some (find_in b table) ≡ true → length (without b table) < 64
without_room b table is there = omega (arith, shorter b table is.distinct there, is.room)

pub none_without : (b : ℕ) (table : List Held) → find_in b (without b table) ≡ None
none_without b table = find_gone b table

-- to take a block out and put it in again is to change it
pub put_again : (b : ℕ) (c : Bool) (table : List Held) → held_of (without b table ++ record { block = b; is_cut = c } ∷ []) ≡ map.insert (held_of table) b c
put_again b c table =
    held_push (without b table) (record { block = b; is_cut = c }) (get-held (without b table) b ∙ find_gone b table)
    ∙ map.same_map nat_cmp_total map.nat_cmp-IsAntisymmetric (map.insert (held_of (without b table)) b c) (map.insert (held_of table) b c) (λ q.
    map.get-insert nat_cmp_total (held_of (without b table)) b c q ∙ same q ∙ sym (map.get-insert nat_cmp_total (held_of table) b c q))
  where
    same : (q : ℕ) → cond (eq_by_cmp nat_cmp q b) (Some c) (map.get (held_of (without b table)) q) ≡ cond (eq_by_cmp nat_cmp q b) (Some c) (map.get (held_of table) q)
    same q = elim (cases_eq q b) [
      | inl e ↦
          let t = unsigned_tied q b ∙ eq-eqb q b e in
          cond-true (eq_by_cmp nat_cmp q b) (Some c) (map.get (held_of (without b table)) q) t ∙ sym (cond-true (eq_by_cmp nat_cmp q b) (Some c) (map.get (held_of table) q) t)
      | inr differs ↦ ap (cond (eq_by_cmp nat_cmp q b) (Some c)) (get-held (without b table) q ∙ find_kept q b table differs ∙ sym (get-held table q))
    ]

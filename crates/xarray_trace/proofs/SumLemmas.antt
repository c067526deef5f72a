-- What loops over an array's entries add up.
use Rattle.std.proofs.Common.{◌≡◌, ℕ, ◌+◌, ◌-◌, ◌%◌, ◌^◌, ◌<◌, suc, List, [], ◌∷◌, ◌++◌, Option, Some, None, length, map as map_list, refl, sym, ap, subst, ◌∙◌, arith, append_assoc, append-nil}
use Rattle.std.specs.FinMap as map
use Rattle.std.specs.Io.KnownBytes.{Appends}
use Rattle.xarray.specs.declared.entry.Found.{Found}
use Rattle.xarray.specs.MarkedArray.{IsArray, Range, Ranges, entries_in, entry_at, found_of, is_any}
use Rattle.xarray_trace.specs.declared.entries.Entry.{Entry}
use Rattle.xarray_trace.specs.declared.entries.TheConstants.{FNV_OFFSET}
use Rattle.textline.specs.Prints.{ended}
use Rattle.xarray_trace.specs.Answers.{entry_text, lines_text}
use Rattle.xarray_trace.specs.Entries.{bits_of, entry_bytes, entry_count, hash_bytes, hash_entries, hash_of, shown}
use Rattle.xarray_trace.proofs.WalkLemmas.{Stand, all_entries, all_stand}

-- a walk has these entries left
pub record Rest (m : Ranges) (walk : List Found) (rest : List (ℕ × Range)) : Type 0 where
  pub shape : IsArray m
  pub walks : walk ≡ map_list found_of rest
  pub stand : Stand m shape rest

pub rest_all : (m : Ranges) → IsArray m → (walk : List Found) → walk ≡ map_list found_of (entries_in is_any m 0 (2 ^ 64 - 1)) → Rest m walk (map.entries m)
rest_all m shape walk is = record { shape = shape; walks = is ∙ ap (map_list found_of) (all_entries m shape); stand = all_stand m shape }

-- the entry that comes next, and what is left after it
record Next (m : Ranges) (found : Found) (walk : List Found) (rest : List (ℕ × Range)) : Type 0 where
  entry : ℕ × Range
  more : List (ℕ × Range)
  is : rest ≡ entry ∷ more
  shows : shown entry ≡ record { found = found; marks = bits_of (entry_at m found.first) }
  left : Rest m walk more

rest_next : (m : Ranges) (found : Found) (walk : List Found) (rest : List (ℕ × Range)) → Rest m (found ∷ walk) rest → Next m found walk rest
rest_next m found walk [] r = absurd (no_cons found walk r.walks)
  where
    no_cons : (f : Found) (fs : List Found) → f ∷ fs ≡ [] → ⊥
    no_cons f fs e = cc
rest_next m found walk (e ∷ es) r =
    let parts = cons_parts found (found_of e) walk (map_list found_of es) r.walks in
    record {
      entry = e;
      more = es;
      is = refl;
      shows = λ i. record { found = sym parts.0 i; marks = (sym (ap bits_of r.stand.0) ∙ ap (λ (f : Found). bits_of (entry_at m f.first)) (sym parts.0)) i };
      left = record { shape = r.shape; walks = parts.1; stand = r.stand.1 };
    }
  where
    cons_parts : (f g : Found) (fs gs : List Found) → f ∷ fs ≡ g ∷ gs → (f ≡ g) × (fs ≡ gs)
    cons_parts f g fs gs e = (let a : f ≡ g = cc in a, let b : fs ≡ gs = cc in b)

rest_end : (m : Ranges) (rest : List (ℕ × Range)) → Rest m [] rest → rest ≡ []
rest_end m [] r = refl
rest_end m (e ∷ es) r = absurd (no_cons (found_of e) (map_list found_of es) (sym r.walks))
  where
    no_cons : (f : Found) (fs : List Found) → f ∷ fs ≡ [] → ⊥
    no_cons f fs e = cc

-- so many entries were counted, and this is their hash, before those that a walk has left
pub record Sums (m : Ranges) (walk : List Found) (count hash : ℕ) : Type 0 where
  pub rest : List (ℕ × Range)
  pub left : Rest m walk rest
  pub counted : (count + length rest) % 2 ^ 64 ≡ entry_count m
  pub hashed : hash_entries hash rest ≡ hash_of m

pub sums_none : (m : Ranges) → IsArray m → (walk : List Found) → walk ≡ map_list found_of (entries_in is_any m 0 (2 ^ 64 - 1)) → Sums m walk 0 FNV_OFFSET
sums_none m shape walk is = record {
  rest = map.entries m;
  left = rest_all m shape walk is;
  counted = ap (λ n. n % 2 ^ 64) (zero_add (length (map.entries m)) ∙ sym (map.len-entries m));
  hashed = refl;
}
  where
    zero_add : (n : ℕ) → 0 + n ≡ n
    zero_add n = omega arith

pub sums_more : (m : Ranges) (found : Found) (walk : List Found) (count hash : ℕ) (entry : Entry) → Sums m (found ∷ walk) count hash → entry ≡ record { found = found; marks = bits_of (entry_at m found.first) }
    → Sums m walk ((count + 1) % 2 ^ 64) (hash_bytes hash (entry_bytes entry))
sums_more m found walk count hash entry sums is =
    let n = rest_next m found walk sums.rest sums.left in
    record {
      rest = n.more;
      left = n.left;
      counted =
          let whole : length sums.rest ≡ length n.more + 1 = ap length n.is ∙ suc_one (length n.more) in
          let e : (count + length sums.rest) % 2 ^ 64 ≡ ((count + 1) % 2 ^ 64 + length n.more) % 2 ^ 64 = omega (arith, whole) in
          sym e ∙ sums.counted;
      hashed =
          ap (λ e. hash_entries (hash_bytes hash (entry_bytes e)) n.more) (is ∙ sym n.shows)
          ∙ sym (ap (hash_entries hash) n.is) ∙ sums.hashed;
    }
  where
    suc_one : (n : ℕ) → suc n ≡ n + 1
    suc_one n = omega arith

pub sums_end : (m : Ranges) (walk : List Found) (count hash : ℕ) → count < 2 ^ 64 → Sums m walk count hash → walk ≡ [] → (count ≡ entry_count m) × (hash ≡ hash_of m)
sums_end m walk count hash small sums over =
    let none = rest_end m sums.rest (subst (λ w. Rest m w sums.rest) over sums.left) in
    let zero : length sums.rest ≡ 0 = ap length none in
    let e : count ≡ (count + length sums.rest) % 2 ^ 64 = omega (arith, zero, small) in
    (e ∙ sums.counted, sym (ap (hash_entries hash) none) ∙ sums.hashed)

-- a text was written, and it and the lines of the entries that a walk has left are those of all entries
pub record Printed (m : Ranges) (walk : List Found) (old new : Option (List ℕ)) : Type 0 where
  pub entries : List (ℕ × Range)
  pub left : Rest m walk entries
  pub text : List ℕ
  pub appended : Appends old new text
  pub rest : text ++ lines_text entries ≡ lines_text (map.entries m)

appends_none : (o : Option (List ℕ)) → Appends o o []
appends_none None = tt
appends_none (Some xs) = sym (append-nil xs)

-- one text after another
pub appends_both : (a b c : Option (List ℕ)) (xs ys : List ℕ) → Appends a b xs → Appends b c ys → Appends a c (xs ++ ys)
appends_both None b c xs ys h k = tt
appends_both (Some a) None c xs ys h k = absurd h
appends_both (Some a) (Some b) None xs ys h k = absurd k
appends_both (Some a) (Some b) (Some c) xs ys h k = k ∙ ap (λ t. t ++ ys) h ∙ append_assoc a xs ys

pub printed_none : (m : Ranges) → IsArray m → (walk : List Found) → walk ≡ map_list found_of (entries_in is_any m 0 (2 ^ 64 - 1)) → (o : Option (List ℕ)) → Printed m walk o o
printed_none m shape walk is o = record {
  entries = map.entries m;
  left = rest_all m shape walk is;
  text = [];
  appended = appends_none o;
  rest = refl;
}

pub printed_more : (m : Ranges) (found : Found) (walk : List Found) (entry : Entry) (old mid new : Option (List ℕ)) → Printed m (found ∷ walk) old mid
    → entry ≡ record { found = found; marks = bits_of (entry_at m found.first) } → Appends mid new (ended (entry_text entry)) → Printed m walk old new
printed_more m found walk entry old mid new printed is prints =
    let n = rest_next m found walk printed.entries printed.left in
    record {
      entries = n.more;
      left = n.left;
      text = printed.text ++ ended (entry_text entry);
      appended = appends_both old mid new printed.text (ended (entry_text entry)) printed.appended prints;
      rest =
          append_assoc printed.text (ended (entry_text entry)) (lines_text n.more)
          ∙ ap (λ e. printed.text ++ (ended (entry_text e) ++ lines_text n.more)) (is ∙ sym n.shows)
          ∙ ap (λ es. printed.text ++ lines_text es) (sym n.is) ∙ printed.rest;
    }

pub printed_end : (m : Ranges) (walk : List Found) (old new : Option (List ℕ)) → Printed m walk old new → walk ≡ [] → Appends old new (lines_text (map.entries m))
printed_end m walk old new printed over =
    let none = rest_end m printed.entries (subst (λ w. Rest m w printed.entries) over printed.left) in
    subst (Appends old new) (sym (append-nil printed.text) ∙ ap (λ es. printed.text ++ lines_text es) (sym none) ∙ printed.rest) printed.appended

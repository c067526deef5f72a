-- The parts of the caches of shards, made one after another.
use Rattle.std.proofs.Common.{◌≡◌, ◌<◌, ◌≤◌, ◌++◌, ◌∷◌, [], ◌∙◌, ℕ, true, false, List, length, drop, map, refl, subst, sym, ap, arith, suc, slice_index_or, Result, Ok, Err}
use Rattle.std.specs.Prelude.{All, OnOk, eqb, is_err, ◌&&◌, ◌||◌}
use Rattle.std.specs.List.{list_all, list_any}
use Rattle.std.proofs.lemmas.Bool.{and_parts}
use Rattle.std.proofs.lemmas.Bool.Decides.{nat_tests}
use Rattle.std.proofs.lemmas.List.Elements.{All-nil, All-cons, All-rest}
use Rattle.blockdev.specs.Device.{Told}
use Rattle.catalog.specs.Cataloged.{Cataloged, fits}
use Rattle.shared.specs.ShardConfigs.{is_among, is_config}
use Rattle.shared.specs.ShardNames.{CacheNames}
use Rattle.pc_types.specs.Limits.{Sizes}
use Rattle.shared.specs.ShardParts.{AllBoth, AllFirst, IsMadeOf}
use Rattle.shared.specs.declared.shards.parts.Source.{Source}
use Rattle.trail.specs.Room.{Room}

-- the parts of the cache of a source
abbrev pub Made : {D T : Type 0} → (D → Told) → (T → Room) → Sizes → ℕ → CacheNames → Source D T → Type 0
Made told whole sizes callers n s = IsMadeOf sizes callers s.name s.files.files (whole s.trail) (told s.device) n

module _ {X Y : Type 0} (P : X → Y → Type 0) where
  pub first_more : (xs : List X) (ys rest : List Y) (x : X) (y : Y) → AllFirst P xs ys → drop (length xs) ys ≡ y ∷ rest → P x y
      → AllFirst P (xs ++ x ∷ []) ys
  first_more [] [] rest x y all is p = cc
  first_more [] (z ∷ zs) rest x y all is p = let same : y ≡ z = cc in (subst (P x) same p, tt)
  first_more (w ∷ ws) [] rest x y all is p = absurd all
  first_more (w ∷ ws) (z ∷ zs) rest x y all is p = (all.0, first_more ws zs rest x y all.1 is p)

  pub first_rest : (xs : List X) (ys rest : List Y) (x : X) (y : Y) → drop (length xs) ys ≡ y ∷ rest
      → drop (length (xs ++ x ∷ [])) ys ≡ rest
  first_rest [] [] rest x y is = cc
  first_rest [] (z ∷ zs) rest x y is = cc
  first_rest (w ∷ ws) [] rest x y is = cc
  first_rest (w ∷ ws) (z ∷ zs) rest x y is = first_rest ws zs rest x y is

  pub first_all : (xs : List X) (ys : List Y) → AllFirst P xs ys → drop (length xs) ys ≡ [] → AllBoth P xs ys
  first_all [] [] all is = tt
  first_all [] (y ∷ ys) all is = cc
  first_all (x ∷ xs) [] all is = all
  first_all (x ∷ xs) (y ∷ ys) all is = (all.0, first_all xs ys all.1 is)

  pub first_names : {Z : Type 0} (f : X → Z) (g : Y → Z) → ((x : X) (y : Y) → P x y → f x ≡ g y) → (xs : List X) (ys : List Y)
      → AllFirst P xs ys → map f xs ++ map g (drop (length xs) ys) ≡ map g ys
  first_names f g same [] ys all = refl
  first_names f g same (x ∷ xs) [] all = absurd all
  first_names f g same (x ∷ xs) (y ∷ ys) all =
      ap (λ zs. f x ∷ zs) (first_names f g same xs ys all.1) ∙ ap (λ z. z ∷ map g ys) (same x y all.0)

  pub both_length : (xs : List X) (ys : List Y) → AllBoth P xs ys → length xs ≡ length ys
  both_length [] [] all = refl
  both_length [] (y ∷ ys) all = absurd all
  both_length (x ∷ xs) [] all = absurd all
  both_length (x ∷ xs) (y ∷ ys) all = ap suc (both_length xs ys all.1)

  pub both_all : (Q : X → Type 0) → ((x : X) (y : Y) → P x y → Q x) → (xs : List X) (ys : List Y) → AllBoth P xs ys → All Q xs
  both_all Q from [] [] all = All-nil Q
  both_all Q from [] (y ∷ ys) all = absurd all
  both_all Q from (x ∷ xs) [] all = absurd all
  both_all Q from (x ∷ xs) (y ∷ ys) all = All-cons Q x xs (from x y all.0) (both_all Q from xs ys all.1)

-- what the test of a configuration says
pub config_is : (sizes : Sizes) (names : List ℕ) (catalogs : List Cataloged) (seats : ℕ) → is_config sizes names catalogs seats ≡ true
    → (0 < length names) × (length names ≤ 16) × (0 < seats) × (seats ≤ 64)
config_is sizes names catalogs seats is = grind (arith, nat_tests)

pub config_fits : (sizes : Sizes) (names : List ℕ) (catalogs : List Cataloged) (seats : ℕ) → is_config sizes names catalogs seats ≡ true
    → list_all (fits sizes) catalogs ≡ true
config_fits sizes names catalogs seats is = grind (arith, nat_tests)

-- whether a name is among those of the sources
pub among_is : {D T : Type 0} (name : ℕ) (sources : List (Source D T))
    → list_any (λ (s : Source D T). eqb s.name name) sources ≡ is_among name (map (λ (s : Source D T). s.name) sources)
among_is name [] = refl
among_is name (s ∷ ss) = ap (λ b. eqb s.name name || b) (among_is name ss)

-- whether each catalog of the sources fits
pub fit_is : {D T : Type 0} (sizes : Sizes) (sources : List (Source D T))
    → list_all (λ (s : Source D T). fits sizes s.files) sources ≡ list_all (fits sizes) (map (λ (s : Source D T). s.files) sources)
fit_is sizes [] = refl
fit_is sizes (s ∷ ss) = ap (λ b. fits sizes s.files && b) (fit_is sizes ss)

pub fit_each : {D T : Type 0} (sizes : Sizes) (sources : List (Source D T))
    → list_all (fits sizes) (map (λ (s : Source D T). s.files) sources) ≡ true → All (λ (s : Source D T). fits sizes s.files ≡ true) sources
fit_each {D} {T} sizes [] all = All-nil (λ (s : Source D T). fits sizes s.files ≡ true)
fit_each {D} {T} sizes (s ∷ ss) all =
    let both = and_parts (fits sizes s.files) (list_all (fits sizes) (map (λ (x : Source D T). x.files) ss)) all in
    All-cons (λ (x : Source D T). fits sizes x.files ≡ true) s ss both.0 (fit_each sizes ss both.1)

-- ---- one more of them is made

-- the first is taken, and the others are left
pub head_is : {X : Type 0} (xs : List X) (x : X) → 0 < length xs → x ≡ slice_index_or xs 0 x → xs ≡ x ∷ drop 1 xs
head_is [] x less is = absurd (omega (arith, less))
head_is (y ∷ ys) x less is = ap (λ z. z ∷ ys) (sym is)

pub first_has : {X : Type 0} (xs : List X) (x : X) → 0 < length xs → x ≡ slice_index_or xs 0 x → (P : X → Type 0) → All P xs → P x
first_has xs x less is P all = subst P (sym is) (all 0 x less)

pub rest_all : {X : Type 0} (xs ys : List X) (x : X) → ys ≡ x ∷ xs → (P : X → Type 0) → All P ys → All P xs
rest_all xs ys x is P all = All-rest P x xs ys is all

pub ok_then : {A E : Type 0} (r : Result A E) (P : Type 0) → is_err r ≡ false → OnOk r P → P
ok_then (Ok x) P ok p = p
ok_then (Err e) P ok p = cc

-- what was made and what is left have the names of the sources
pub names_back : {D T : Type 0} (told : D → Told) (whole : T → Room) (sizes : Sizes) (callers : ℕ) (made : List CacheNames)
    (rest all : List (Source D T)) → AllFirst (Made told whole sizes callers) made all → rest ≡ drop (length made) all
    → map (λ (n : CacheNames). n.name) made ++ map (λ (s : Source D T). s.name) rest ≡ map (λ (s : Source D T). s.name) all
names_back {D} {T} told whole sizes callers made rest all first is =
    ap (λ (xs : List (Source D T)). map (λ (n : CacheNames). n.name) made ++ map (λ (s : Source D T). s.name) xs) is
    ∙ first_names (Made told whole sizes callers) (λ (n : CacheNames). n.name) (λ (s : Source D T). s.name) (λ n s m. m.named) made all first

-- one more of the sources is made, and the others are left
pub made_more : {D T : Type 0} (told : D → Told) (whole : T → Room) (sizes : Sizes) (callers : ℕ) (made : List CacheNames) (one : CacheNames)
    (source : Source D T) (left rest all : List (Source D T)) → AllFirst (Made told whole sizes callers) made all → left ≡ drop (length made) all
    → left ≡ source ∷ rest → Made told whole sizes callers one source
    → AllFirst (Made told whole sizes callers) (made ++ one ∷ []) all × (rest ≡ drop (length (made ++ one ∷ [])) all)
made_more told whole sizes callers made one source left rest all first is left_is of =
    let dropped : drop (length made) all ≡ source ∷ rest = sym is ∙ left_is in (
      first_more (Made told whole sizes callers) made all rest one source first dropped of,
      sym (first_rest (Made told whole sizes callers) made all rest one source dropped),
    )

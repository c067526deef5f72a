-- What is known of a choice by a test, of tests in a row, and of values that may be there.
use Rattle.std.proofs.Common.{◌≡◌, ℕ, ◌<◌, ◌≤◌, Bool, true, false, cond, not, eqb, refl, subst, arith}
use Rattle.std.specs.Prelude.{◌&&◌, ◌||◌, Option, Some, None, is_some, option_map, nat_lt, nat_le}
use Rattle.std.proofs.lemmas.Bool.Decides.{nat_tests}

pub and_true : (a b : Bool) → (a && b) ≡ true → (a ≡ true) × (b ≡ true)
and_true true b e = (refl, e)
and_true false b e = absurd cc

pub and_false : (a b : Bool) → (a && b) ≡ false → a ≡ true → b ≡ false
and_false true b h k = h
and_false false b h k = absurd cc

pub not_false : (b : Bool) → not b ≡ false → b ≡ true
not_false true e = refl
not_false false e = absurd cc

pub not_true : (b : Bool) → not b ≡ true → b ≡ false
not_true true e = absurd cc
not_true false e = refl

-- ---- values that may be there

pub none_of : {A : Type 0} (o : Option A) → is_some o ≡ false → o ≡ None
none_of None e = refl
none_of (Some x) e = absurd cc

pub some_of : {A : Type 0} (o : Option A) → is_some o ≡ true → (x : A) × (o ≡ Some x)
some_of None e = absurd cc
some_of (Some x) e = (x, refl)

pub mapped_some : {A B : Type 0} (g : A → B) (o : Option A) (v : B) → option_map g o ≡ Some v
    → (x : A) × (o ≡ Some x) × (g x ≡ v)
mapped_some g None v e = absurd cc
mapped_some g (Some x) v e = (x, refl, (let k : g x ≡ v = cc in k))

-- ---- numbers

pub below : (a b : ℕ) → nat_le b a ≡ false → a < b
below a b h = grind (arith, nat_tests)

pub at_most : (a b : ℕ) → nat_lt b a ≡ false → a ≤ b
at_most a b h = grind (arith, nat_tests)

pub positive : (n : ℕ) → eqb n 0 ≡ false → 0 < n
positive n e = grind (arith, nat_tests)

-- ---- tests in a row, none of which holds

pub if_none : {A : Type 0} (b : Bool) (x : A) (o : Option A) → cond b (Some x) o ≡ None → (b ≡ false) × (o ≡ None)
if_none true x o e = absurd cc
if_none false x o e = (refl, e)

-- of the first test that fails: the call goes on
pub first_passed : {A : Type 0} (a : Bool) (x : A) (o : Option A) → cond (not a) (Some x) o ≡ None → a ≡ true
first_passed a x o e = not_false a (if_none (not a) x o e).0

pub if_some : {A : Type 0} (b : Bool) (x : A) → cond b None (Some x) ≡ None → b ≡ true
if_some true x e = refl
if_some false x e = absurd cc

-- ---- where a test holds, its reply has the property

pub quiet_none : {A : Type 0} (H : A → Type 0) (r : A) → None ≡ Some r → H r
quiet_none H r e = absurd cc

pub quiet_some : {A : Type 0} (H : A → Type 0) (x r : A) → Some x ≡ Some r → H x → H r
quiet_some H x r e h = subst H (let a : x ≡ r = cc in a) h

pub quiet_if : {A : Type 0} (H : A → Type 0) (b : Bool) (x : A) (o : Option A) → H x → ((r : A) → o ≡ Some r → H r)
    → (r : A) → cond b (Some x) o ≡ Some r → H r
quiet_if H true x o h rest r e = quiet_some H x r e h
quiet_if H false x o h rest r e = rest r e

-- where the test that holds gives the property
pub quiet_when : {A : Type 0} (H : A → Type 0) (b : Bool) (x : A) (o : Option A) → (b ≡ true → H x)
    → ((r : A) → o ≡ Some r → H r) → (r : A) → cond b (Some x) o ≡ Some r → H r
quiet_when H true x o h rest r e = quiet_some H x r e (h refl)
quiet_when H false x o h rest r e = rest r e

-- where a test that holds lets the call go on
pub quiet_unless : {A : Type 0} (H : A → Type 0) (b : Bool) (x : A) → H x → (r : A) → cond b None (Some x) ≡ Some r
    → H r
quiet_unless H true x h r e = absurd cc
quiet_unless H false x h r e = quiet_some H x r e h

-- ---- either way of a choice

pub by_choice : {A : Type 0} (P : A → Type 0) {R : Type 0} (b : Bool) (x y : A) → (P x → R) → (P y → R) → P (cond b x y)
    → R
by_choice P true x y h k p = h p
by_choice P false x y h k p = k p

-- ---- a choice whose test is known

pub at_true : {A : Type 0} (b : Bool) (x y : A) → b ≡ true → cond b x y ≡ x
at_true true x y e = refl
at_true false x y e = absurd cc

pub at_false : {A : Type 0} (b : Bool) (x y : A) → b ≡ false → cond b x y ≡ y
at_false true x y e = absurd cc
at_false false x y e = refl

pub neither : (a b : Bool) → (a || b) ≡ false → (a ≡ false) × (b ≡ false)
neither true b e = absurd cc
neither false b e = (refl, e)

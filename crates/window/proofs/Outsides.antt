-- The blocks outside a window.
use Rattle.std.proofs.Common.{◌≡◌, ◌≢◌, ◌∙◌, ap, subst, refl, ℕ, ◌+◌, ◌<◌, ◌⊎◌, inl, inr, List, Ok, Err, arith}
use Rattle.blockdev.specs.Device.{Told, Outcome, Settles, Calls, Reads, Writes, Flushes, told_at, with_block}
use Rattle.window.specs.Windows.{IsOutside, Outside}
use Rattle.window.proofs.Slices.{told_other}
use Rattle.window.proofs.WindowCalls.{Contents}

-- of blocks that stay as they are, what settles is what was durable or what they hold
outside_settles : (f c : ℕ) (old new : Told) → ((b : ℕ) → IsOutside f c b → told_at new.contents b ≡ told_at old.contents b) → Settles old new → (b : ℕ) → IsOutside f c b → (told_at new.durable b ≡ told_at old.durable b) ⊎ (told_at new.durable b ≡ told_at old.contents b)
outside_settles f c old new same s b o = elim (s b) [
  | inl was ↦ inl was
  | inr held ↦ elim held [ inl had ↦ inr had | inr has ↦ inr (has ∙ same b o) ]
]

of_call : (f c : ℕ) (old : Told) (r : Outcome) (new : Told) → Calls old r new → ((b : ℕ) → IsOutside f c b → told_at new.contents b ≡ told_at old.contents b) → Outside f c old new
of_call f c old r new k same = record {
  size = k.size;
  count = k.count;
  contents = same;
  durable = outside_settles f c old new same k.durable;
}

pub outside_read : (f c : ℕ) (old : Told) (b : ℕ) (before : List ℕ) (r : Outcome) (after : List ℕ) (new : Told) → Reads old b before r after new → Outside f c old new
outside_read f c old b before r after new k = of_call f c old r new k.call (λ b o. ap (λ (d : Contents). told_at d b) k.contents)

-- the block written is none outside
not_outside : (f c b k : ℕ) → b < c → IsOutside f c k → k ≢ f + b
not_outside f c b k h o e = elim o [ inl below ↦ omega arith | inr above ↦ omega arith ]

outside_write : (f c : ℕ) (old : Told) (b : ℕ) (bytes : List ℕ) (r : Outcome) (new : Told) → b < c → Writes old (f + b) bytes r new → Outside f c old new
outside_write f c old b bytes r new h k = of_call f c old r new k.call (by_answer r k) where
  here : (x : Contents) → x ≡ with_block old.contents (f + b) bytes → (j : ℕ) → IsOutside f c j → told_at x j ≡ told_at old.contents j
  here x e j o = ap (λ (d : Contents). told_at d j) e ∙ told_other old.contents (f + b) j bytes (not_outside f c b j h o)

  by_answer : (r : Outcome) → Writes old (f + b) bytes r new → (j : ℕ) → IsOutside f c j → told_at new.contents j ≡ told_at old.contents j
  by_answer (Ok u) k j o = here new.contents k.written j o
  by_answer (Err e) k j o = elim k.whole [ inl same ↦ ap (λ (d : Contents). told_at d j) same | inr done ↦ here new.contents done j o ]

pub outside_write_at : (f c : ℕ) (old : Told) (p b : ℕ) (bytes : List ℕ) (r : Outcome) (new : Told) → p ≡ f + b → b < c → Writes old p bytes r new → Outside f c old new
outside_write_at f c old p b bytes r new e h k =
    let P : ℕ → Type 0 = λ n. Writes old n bytes r new in
    outside_write f c old b bytes r new h (subst P e k)

pub outside_flush : (f c : ℕ) (old : Told) (r : Outcome) (new : Told) → Flushes old r new → Outside f c old new
outside_flush f c old r new k = record {
  size = ap (λ (d : Told). d.size) k.same;
  count = ap (λ (d : Told). d.count) k.same;
  contents = same;
  durable = by_answer r k;
} where
  same : (b : ℕ) → IsOutside f c b → told_at new.contents b ≡ told_at old.contents b
  same b o = ap (λ (d : Told). told_at d.contents b) k.same

  by_answer : (r : Outcome) → Flushes old r new → (b : ℕ) → IsOutside f c b → (told_at new.durable b ≡ told_at old.durable b) ⊎ (told_at new.durable b ≡ told_at old.contents b)
  by_answer (Ok u) k b o = inr (ap (λ (d : Contents). told_at d b) k.durable)
  by_answer (Err e) k b o = outside_settles f c old new same k.failed b o

-- no call
pub outside_same : (f c : ℕ) (d : Told) → Outside f c d d
outside_same f c d = record { size = refl; count = refl; contents = λ b o. refl; durable = λ b o. inl refl }

-- calls, and then others
pub outside_then : (f c : ℕ) (old mid new : Told) → Outside f c old mid → Outside f c mid new → Outside f c old new
outside_then f c old mid new a z = record {
  size = z.size ∙ a.size;
  count = z.count ∙ a.count;
  contents = λ b o. z.contents b o ∙ a.contents b o;
  durable = λ b o. elim (z.durable b o) [
    | inl was ↦ elim (a.durable b o) [ inl first ↦ inl (was ∙ first) | inr held ↦ inr (was ∙ held) ]
    | inr held ↦ inr (held ∙ a.contents b o)
  ];
}

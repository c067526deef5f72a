-- The numbers of an error word, and lists of recordings.
use Rattle.std.proofs.Common.{◌≡◌, ◌≢◌, ℕ, suc, ◌+◌, ◌*◌, ◌/◌, ◌%◌, ◌<◌, ◌≤◌, Bool, true, false, eq-eqb, ne_eqb, List, [], ◌∷◌, ◌++◌, length, refl, arith}
use Rattle.std.specs.Prelude.{if◌then◌else◌}
use Rattle.errseq.specs.declared.recording.Recording.{Recording}
use Rattle.errseq.specs.Word.{turns, code_of, is_seen, word}
use Rattle.errseq.specs.Recorded.{raised, last_code}
use Rattle.errseq.specs.Samples.{AreCodes}

-- two counts less than a turn apart that leave the counter alike are one count
pub one_turn : (a b : ℕ) → a ≤ b → b < a + turns → a % turns ≡ b % turns → a ≡ b
one_turn a b le lt e = omega arith

seen_bit : (w c l : ℕ) → l < 4096 → w ≡ c * 8192 + 4096 + l → w / 4096 % 2 ≡ 1
seen_bit w c l h e = omega arith

unseen_bit : (w c l : ℕ) → l < 4096 → w ≡ c * 8192 + 0 + l → w / 4096 % 2 ≢ 1
unseen_bit w c l h e = omega arith

pub is_seen-word : (c l : ℕ) (s : Bool) → l < 4096 → is_seen (word c s l) ≡ s
is_seen-word c l true h = eq-eqb _ 1 (seen_bit (word c true l) c l h refl)
is_seen-word c l false h = ne_eqb _ 1 (unseen_bit (word c false l) c l h refl)

pub code_of-word : (c l : ℕ) (s : Bool) → l < 4096 → code_of (word c s l) ≡ l
code_of-word c l true h = let w : ℕ = word c true l in let e : w ≡ c * 8192 + 4096 + l = refl in omega arith
code_of-word c l false h = let w : ℕ = word c false l in let e : w ≡ c * 8192 + 0 + l = refl in omega arith

pub counter_of-word : (c l : ℕ) (s : Bool) → l < 4096 → word c s l / 8192 ≡ c
counter_of-word c l true h = let w : ℕ = word c true l in let e : w ≡ c * 8192 + 4096 + l = refl in omega arith
counter_of-word c l false h = let w : ℕ = word c false l in let e : w ≡ c * 8192 + 0 + l = refl in omega arith

pub code_range : (log : List Recording) → AreCodes log → 0 < length log → (0 < last_code log) × (last_code log < 4096)
code_range [] h p = absurd (omega arith)
code_range (r ∷ []) h p = let is = h 0 r refl in let low : 1 ≤ r.code = is.0 in let high : r.code ≤ 4095 = is.1 in (omega arith, omega arith)
code_range (r ∷ x ∷ rs) h p = code_range (x ∷ rs) (λ k y e. h (suc k) y e) (omega arith)

pub code_small : (log : List Recording) → AreCodes log → last_code log < 4096
code_small [] h = omega arith
code_small (r ∷ rs) h = (code_range (r ∷ rs) h (omega arith)).1

pub last_code-push : (log : List Recording) (r : Recording) → last_code (log ++ r ∷ []) ≡ r.code
last_code-push [] r = refl
last_code-push (x ∷ []) r = refl
last_code-push (x ∷ y ∷ rs) r = last_code-push (y ∷ rs) r

pub raised-append : (xs ys : List Recording) → raised (xs ++ ys) ≡ raised xs + raised ys
raised-append [] ys = omega arith
raised-append (x ∷ xs) ys = let k : ℕ = if x.raises then 1 else 0 in omega (arith, raised-append xs ys)

-- What a flush after a sync makes durable: it is what the device held at the last good flush, and from the end of a
-- clean sync on the device holds its pages.
use Rattle.std.proofs.Common.{◌≡◌, ℕ, zero, suc, ◌≤◌, Bool, true, false, if◌then◌else◌, refl, sym, ap, ◌∙◌, arith}
use Rattle.std.proofs.Common.{inl, inr, true≢false}
use Rattle.std.proofs.Math.Nat.{eq-or-lt_of_le}
use Rattle.runs.specs.Durable.{last_flush, SyncsAreDurable}
use Rattle.runs.proofs.syncs.SyncRuns.{syncs_are_synced}

module _ (flushed : ℕ → Bool) where
  -- it is no earlier than any good flush up to then
  from : (k n : ℕ) → flushed k ≡ true → k ≤ n → k ≤ last_flush flushed n
  from k zero well within = within
  from k (suc n) well within = by (λ before. from k n well before) (flushed (suc n)) refl
    where
      by : (k ≤ n → k ≤ last_flush flushed n) → (b : Bool) → flushed (suc n) ≡ b
          → k ≤ (if b then suc n else last_flush flushed n)
      by earlier true is = within
      by earlier false is = elim (eq-or-lt_of_le within) [
        | inl same ↦ absurd (true≢false (sym well ∙ ap flushed same ∙ is))
        | inr less ↦ earlier (omega (arith, less))
      ]

  -- and no later than then
  to : (n : ℕ) → last_flush flushed n ≤ n
  to zero = omega arith
  to (suc n) = by (to n) (flushed (suc n))
    where
      by : last_flush flushed n ≤ n → (b : Bool) → (if b then suc n else last_flush flushed n) ≤ suc n
      by earlier true = omega arith
      by earlier false = omega (arith, earlier)

pub syncs_are_durable : SyncsAreDurable
syncs_are_durable w run first r flushed a j k n sync well after within small =
    let at_or_after = from flushed k n well within in
    let at_or_before = to flushed n in
    syncs_are_synced w run first r a j (last_flush flushed n) sync (omega (arith, after, at_or_after))
    (omega (arith, at_or_before, small))

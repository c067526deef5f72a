-- The flags of the cached pages of a write, as the code counts its pages.
use Rattle.std.proofs.Common.{◌≡◌, ℕ, ◌+◌, ◌-◌, ◌/◌, Bool, List, sym, subst}
use Rattle.machine.specs.State.{State}
use Rattle.pagestore.specs.Ranges.{AreFlags}
use Rattle.cachecore.specs.Placing.{AreFlagged}

module _ (flags : List Bool) (s seen : State) (f o n P : ℕ) (seen_is : s ≡ seen) (page : P ≡ s.sizes.page) where
  pub flags_to : AreFlags flags s.files f (o / P) ((o + n - 1) / P + 1) → AreFlagged flags seen f o n
  flags_to a = subst (λ (t : State). AreFlagged flags t f o n) seen_is
      (subst (λ k. AreFlags flags s.files f (o / k) ((o + n - 1) / k + 1)) page a)

  pub flags_by : AreFlagged flags seen f o n → AreFlags flags s.files f (o / P) ((o + n - 1) / P + 1)
  flags_by a = subst (λ k. AreFlags flags s.files f (o / k) ((o + n - 1) / k + 1)) (sym page)
      (subst (λ (t : State). AreFlagged flags t f o n) (sym seen_is) a)

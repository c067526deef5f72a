-- The two parts of what a core is to its callers.
use Rattle.std.proofs.Common.{◌≡◌, ap}
use Rattle.cachecore.specs.Core.{Core}

pub state_is : {a b : Core} → a ≡ b → a.state ≡ b.state
state_is = ap (λ (c : Core). c.state)

pub lists_are : {a b : Core} → a ≡ b → a.lists ≡ b.lists
lists_are = ap (λ (c : Core). c.lists)

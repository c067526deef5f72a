-- Where the pages of files stand on a device.
use Rattle.std.specs.Prelude.{ℕ, List, take, refl}
use Rattle.std.specs.Coded.{Coded, code_by, coded×, coded_ℕ}
use Rattle.std.specs.declared.cmp.Ordering.{Ordering}
use Rattle.std.specs.Ordering.{nat_cmp, ordering_then}
use Rattle.pc_types.specs.Files.{cut}

-- a page's block, and how many bytes of it, from its first on, are the page's. Past them the page has zeros, whatever the
-- block has. It is 0 until a write of the page there has ended well, and then the bytes of a page; of a block that was
-- adopted with a file it may be less, as of the last one, past whose end the block has anything
pub record Spot : Type 0 where
  pub block : ℕ
  pub valid : ℕ

-- what a block with these bytes shows of its page, for pages of P bytes
abbrev pub shown : ℕ → ℕ → List ℕ → List ℕ
shown P valid bytes = cut (take valid bytes) P

-- the order of pages, each given by its file and its number: by file, and then by page
abbrev pub place_cmp : ℕ × ℕ → ℕ × ℕ → Ordering
place_cmp a b = ordering_then (nat_cmp a.0 b.0) (nat_cmp a.1 b.1)

-- how a spot is stored: as the pair of its fields. A model's value needs it, and nothing else speaks of it
abbrev pub spot_code : Coded Spot
spot_code = code_by (ℕ × ℕ) (coded× coded_ℕ coded_ℕ) (λ s. (s.block, s.valid)) (λ p. record { block = p.0; valid = p.1 }) (λ _. refl)

-- The block of a page is one of the device's.
use Rattle.std.proofs.Common.{◌≡◌, ℕ, ◌<◌, Bool, true, false, not, eq-eqb, ap, sym, arith}
use Rattle.std.specs.Prelude.{Option, Some, None, option_map, ◌||◌}
use Rattle.std.specs.FinMap as finmap
use Rattle.pc_types.specs.Spots.{Spot}
use Rattle.blockmap.specs.Blocks.{Blocks, IsBlockMap, is_free, is_mapped, has_block}
use Rattle.blockmap.specs.Told.{told}
use Rattle.blockmap.specs.declared.spots.Placed.{Placed}
use Rattle.blockmap.proofs.MapLemmas.{mapped_at}
use Rattle.machine.specs.State.{State}
use Rattle.pagestore.specs.Store.{Store}
use Rattle.cachecore.specs.Tables.{IsCore}

spot_told : (o : Option Spot) (placed : Placed) → Some placed ≡ option_map told o → has_block o placed.block.0 ≡ true
spot_told None placed e = absurd cc
spot_told (Some x) placed e =
    (let a : placed ≡ told x = cc in eq-eqb x.block placed.block.0 (ap (λ (k : Placed). k.block.0) (sym a)))

-- a block that a page has is not free
taken : (b : Blocks) (block : ℕ) → is_mapped b.spots block ≡ true → is_free b block ≡ false
taken b block e = ap (λ (x : Bool). not (x || finmap.contains_key b.held block)) e

pub told_within : (s : State) (store : Store) (b : Blocks) → IsCore s store b → IsBlockMap b
    → (place : ℕ × ℕ) (placed : Placed) → Some placed ≡ option_map told (finmap.get b.spots place)
    → placed.block.0 < s.sizes.blocks
told_within s store b c always place placed is =
    let mapped = mapped_at b.spots place placed.block.0 (spot_told (finmap.get b.spots place) placed is) in
    let within = always.within placed.block.0 (taken b placed.block.0 mapped) in
    omega (arith, c.device)

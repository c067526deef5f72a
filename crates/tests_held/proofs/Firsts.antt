-- A cache without files over a device of zeros.
use Rattle.std.proofs.Common.{◌≡◌, ℕ, List, refl, ap, sym, subst, ◌∙◌, arith}
use Rattle.std.specs.Prelude.{All, IfOk, Ok, Result, Bool, Option, Some, is_some, length, replicate, true}
use Rattle.std.proofs.lemmas.List.Elements.{All-replicate}
use Rattle.std.proofs.lemmas.Option.{same_Some}
use Rattle.blockdev.specs.Blocks.{zero_blocks}
use Rattle.deeds.specs.Shown.{AreTold}
use Rattle.blockdev.specs.Device.{Told, fresh}
use Rattle.machine.specs.Catalogs.{adopted, no_catalog}
use Rattle.machine.proofs.changes.Adopted.{no_catalog_is}
use Rattle.machine.specs.State.{State}
use Rattle.pc_types.specs.Limits.{Sizes}
use Rattle.pc_types.specs.declared.refusal.Refusal.{Refusal}
use Rattle.trail.specs.Honest.{MayBegin}

pub zeros_count : (blocks : List (List ℕ)) → blocks ≡ zero_blocks 16 64 → length blocks ≡ 64
zeros_count blocks zeros = ap length zeros

pub first_zeros : (sizes : Sizes) (name : ℕ) (blocks : List (List ℕ)) → sizes.page ≡ 16 → sizes.blocks ≡ 64
    → blocks ≡ zero_blocks 16 64 → MayBegin no_catalog sizes name blocks
first_zeros sizes name blocks page count zeros = (
  no_catalog_is sizes,
  record {
    page_size = omega (arith, page);
    core = refl;
    outcomes = refl;
    writing = refl;
    blocks = zeros_count blocks zeros ∙ sym count;
    block_sizes = subst (All (λ block. length block ≡ sizes.page)) (sym zeros)
        (All-replicate (λ block. length block ≡ sizes.page) 64 (replicate 16 0) (sym page));
  },
)

pub fresh_as : (s : State) (sizes : Sizes) (name called : ℕ) → s ≡ adopted sizes name no_catalog → called ≡ name
    → s ≡ adopted s.sizes called no_catalog
fresh_as s sizes name called is same = is ∙ (λ i. adopted (ap (λ (x : State). x.sizes) (sym is) i) (sym same i) no_catalog)

-- the blocks that are found on a new device
pub found_zeros : (told : Bool) (device : Told) (blocks : List (List ℕ)) → device ≡ fresh 16 64
    → told ≡ is_some device.contents → AreTold told device blocks → blocks ≡ zero_blocks 16 64
found_zeros told device blocks is tells are =
    let yes : told ≡ true = tells ∙ ap (λ (d : Told). is_some d.contents) is in
    same_Some blocks (zero_blocks 16 64) (sym (are yes) ∙ ap (λ (d : Told). d.contents) is)

-- the sizes that were asked for
pub sizes_of : (made : Result Sizes Refusal) (sizes want : Sizes) → made ≡ Ok sizes → IfOk made (λ z. z ≡ want)
    → sizes ≡ want
sizes_of made sizes want is h = subst (λ o. IfOk o (λ z. z ≡ want)) is h

-- Runs from a cache without files: no page stands on a part of a block.
use Rattle.std.proofs.Common.{◌≡◌, ℕ, ◌≤◌, ◌⊎◌, List, length, refl, ap, ◌∙◌, arith, inl, inr, Option, Some, None, map}
use Rattle.std.specs.FinMap as finmap
use Rattle.std.specs.List.{range_with_len}
use Rattle.pc_types.specs.Spots.{Spot, place_cmp}
use Rattle.machine.specs.Catalogs.{no_catalog}
use Rattle.machine.specs.State.{State, spot_at}
use Rattle.machine.proofs.changes.Adopted.{no_catalog_is}
use Rattle.runs.specs.Plain.{no_files}
use Rattle.runs.specs.Runs.{IsBlank, IsFirst, Run, Steps, world_at}
use Rattle.runs.specs.Seen.{file_seen, files_seen}
use Rattle.runs.specs.World.{World, DeviceHolds, on_device}
use Rattle.runs.proofs.views.View.{valid_of}
use Rattle.runs.proofs.moments.ValidBytes.{run_known}

pub blank_first : (w : World) → IsBlank w → IsFirst w
blank_first w blank = record { catalog = no_catalog; is_catalog = no_catalog_is w.core.sizes; adopts = blank }

-- it has the plain files of a user who has none
pub blank_files : (w : World) → IsBlank w → files_seen w ≡ no_files
blank_files w blank = λ i. record {
  files = map (file_seen w) (range_with_len 0 (length (ap (λ (s : State). s.files) blank.core i)));
  handles = ap (λ (s : State). s.handles) blank.core i;
}

-- what the device holds of a page is what its block shows
module _ (w : World) (run : Steps) (blank : IsBlank w) (r : Run w run) (k f p : ℕ) where
  abbrev v : World
  v = world_at w run k

  whole : (o : Option Spot) → spot_at v.core f p ≡ o → (valid_of o ≡ 0) ⊎ (v.core.sizes.page ≤ valid_of o)
  whole None is = inl refl
  whole (Some x) is =
      let known = run_known w run (blank_first w blank) r k in
      elim (known.each f p x is) [
        | inl none ↦ inl none
        | inr h ↦ elim h [
          | inl all ↦ inr (let a = known.page in omega arith)
          | inr was ↦ absurd (let a = ap (λ (s : State). spot_at s f p) blank.core
              ∙ finmap.get-empty {X = Spot} place_cmp (f, p) in cc)
        ]
      ]

  pub blank_holds : (bytes : List ℕ) → DeviceHolds v f p bytes → on_device v f p ≡ bytes
  blank_holds bytes holds = elim holds [
    | inl shows ↦ shows
    | inr part ↦ absurd (let a = part.some in let b = part.part in
        elim (whole (spot_at v.core f p) refl) [ inl none ↦ omega arith | inr all ↦ omega arith ])
  ]

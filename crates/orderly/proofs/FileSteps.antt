-- What a change leaves of each file, where that is a number which the file's pages are of no matter to.
use Rattle.std.proofs.Common.{◌≡◌, ℕ, ◌<◌, ◌≤◌, Bool, true, false, cond, eqb, eqb-true, List, length, get_or, refl, ap, sym}
use Rattle.std.proofs.Common.{◌∙◌, arith, inl, inr}
use Rattle.std.specs.Prelude.{◌⊎◌, slice_set}
use Rattle.std.proofs.lemmas.List.{set_past}
use Rattle.machine.specs.State.{File, no_file}
use Rattle.machine.proofs.changes.StateLaws.{get_or-set}

pub within : (a n : ℕ) → (a < n) ⊎ (n ≤ a)
within a n = grind arith

module _ (of : File → ℕ) where
  abbrev in_files : List File → ℕ → ℕ
  in_files fs f = of (get_or fs f no_file)

  pub one_same : (files : List File) (f : ℕ) (file : File) → of file ≡ in_files files f → (g : ℕ)
      → in_files (slice_set files f file) g ≡ in_files files g
  one_same files f file same g = elim (within f (length files)) [
    | inl here ↦ ap of (get_or-set files f g file no_file here) ∙ either (eqb g f) refl
    | inr past ↦ ap (λ fs. in_files fs g) (set_past files f file past)
  ]
    where
      either : (b : Bool) → eqb g f ≡ b → of (cond b file (get_or files g no_file)) ≡ in_files files g
      either true e = same ∙ ap (in_files files) (sym (eqb-true g f e))
      either false e = refl

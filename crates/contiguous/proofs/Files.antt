-- A file's size after another part of the state changes.
use Rattle.std.proofs.Common.{◌≡◌, ℕ, ◌<◌, ◌≤◌, Bool, true, false, cond, eqb, eqb-true, ltb, length, get_or, refl, ap, sym, subst}
use Rattle.std.proofs.Common.{◌∙◌, arith}
use Rattle.std.proofs.lemmas.Bool.Decides.{nat_tests}
use Rattle.std.proofs.lemmas.List.{set_past}
use Rattle.machine.specs.State.{State, File, file_at, no_file}
use Rattle.machine.specs.Changes.{put_file}
use Rattle.machine.proofs.changes.StateLaws.{file_at-put}

-- a file is put, which is there or past the last
put_tells : (s : State) (g f : ℕ) (file : File) (P : File → Type 0) → P (cond (eqb f g) file (file_at s f)) → P (file_at s f)
    → P (file_at (put_file s g file) f)
put_tells s g f file P put none = elim (ltb g (length s.files)) as (λ b. ltb g (length s.files) ≡ b
    → P (file_at (put_file s g file) f)) [
      | true ↦ λ t. there (grind (arith, nat_tests))
      | false ↦ λ t. past (grind (arith, nat_tests))
    ] refl
  where
    there : g < length s.files → P (file_at (put_file s g file) f)
    there h = subst P (sym (file_at-put s g f file h)) put

    past : length s.files ≤ g → P (file_at (put_file s g file) f)
    past h = subst (λ fs. P (get_or fs f no_file)) (sym (set_past s.files g file h)) none

-- another file
pub size_of_other : (s : State) (g f : ℕ) (file : File) → eqb g f ≡ false
    → (file_at (put_file s g file) f).size ≡ (file_at s f).size
size_of_other s g f file other = put_tells s g f file (λ x. x.size ≡ (file_at s f).size)
    (ap (λ b. (cond b file (file_at s f)).size) (turned f g other)) refl
  where
    turned : (f g : ℕ) → eqb g f ≡ false → eqb f g ≡ false
    turned f g e = grind (arith, nat_tests)

-- a file that has the size that it had
pub same_size : (s : State) (g f : ℕ) (file : File) → file.size ≡ (file_at s g).size
    → (file_at (put_file s g file) f).size ≡ (file_at s f).size
same_size s g f file same = put_tells s g f file (λ x. x.size ≡ (file_at s f).size) (go (eqb f g) refl) refl
  where
    go : (b : Bool) → eqb f g ≡ b → (cond b file (file_at s f)).size ≡ (file_at s f).size
    go true e = same ∙ ap (λ k. (file_at s k).size) (sym (eqb-true f g e))
    go false e = refl

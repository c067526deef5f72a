-- A call that opens a file gives a handle that is open.
use Rattle.std.proofs.Common.{◌≡◌, ℕ, ◌<◌, ◌≤◌, Bool, true, false, refl, arith}
use Rattle.std.proofs.lemmas.Bool.Decides.{nat_tests}
use Rattle.std.specs.Prelude.{Result, Ok, Err, IfOk, nat_lt}
use Rattle.pc_types.specs.declared.limits.TheConstants.{MAX_FILES}
use Rattle.pc_types.specs.declared.refusal.Refusal.{Refusal}
use Rattle.pc_types.specs.declared.refusal.Refusal.TheVariants.{NoSuchFile}
use Rattle.filesvc.proofs.Callers.{opened_is}
use Rattle.filesvc.specs.Seen.{HandleSeen, SoloSeen}
use Rattle.filesvc.specs.Service.{IsOpen, Opened}

pub opens : (old new : SoloSeen) (f : ℕ) (append : Bool) (r : Result HandleSeen Refusal) → (MAX_FILES ≤ f → r ≡ Err NoSuchFile) → (f < MAX_FILES → Opened old f append r new) → new.errors ≡ old.errors → IfOk r (IsOpen new)
opens old new f append (Err _) none opened e = tt
opens old new f append (Ok h) none opened e = elim (nat_lt f MAX_FILES) as (λ b. nat_lt f MAX_FILES ≡ b → IsOpen new h) [
  | true ↦ λ is. opened_is old new f append h (opened (grind (arith, nat_tests))) e
  | false ↦ λ is. let no = none (grind (arith, nat_tests)) in absurd cc
] refl

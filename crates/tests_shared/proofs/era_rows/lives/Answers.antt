use Rattle.std.proofs.Common.{Option, Some, None, subst, sym}
use Rattle.std.specs.Option.{IfSome}
use Rattle.shared.specs.Keeps.{IsDisk}
use Rattle.tests_shared.proofs.era_rows.lives.Goals as goal

weaker : {X : Type 0} (P Q : X → Type 0) (o : Option X) → ((x : X) → P x → Q x) → IfSome o P → IfSome o Q
weaker P Q None f none = tt
weaker P Q (Some x) f some = f x some

-- the device is the one that `close` gave
pub returns-after-is_well : goal.returns-after-is_well
returns-after-is_well g c =
    weaker _ _ c.gives.result (λ l same. subst (λ d. IsDisk g.B.Naming.sizes (g.D.BlockDevice.told d)) (sym same) c.in-Ok.ensures.device)
    c.gives.ensures

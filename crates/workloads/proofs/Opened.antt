-- The handles that a service opened stay open.
use Rattle.std.proofs.Common.{◌≡◌, ℕ, Bool, true, false, List, [], ◌∷◌, ◌++◌, slice_set, subst, sym}
use Rattle.std.specs.Prelude.{All, Result, ◌⊎◌, if◌then◌else◌}
use Rattle.std.proofs.lemmas.List.Elements.{All-push, All-set, All-weaker}
use Rattle.pc_types.specs.declared.refusal.Refusal.{Refusal}
use Rattle.filesvc.specs.Seen.{HandleSeen, SoloSeen}
use Rattle.filesvc.specs.Service.{IsOpen, IsTold, KeepsBut, Opened}
use Rattle.filesvc.proofs.Callers.{open_beside, open_on, open_synced}

-- past a call
pub all_on : {p : ℕ → Bool} (old new : SoloSeen) (hs : List HandleSeen) → KeepsBut p old new → All (IsOpen old) hs → All (IsOpen new) hs
all_on old new hs k all = All-weaker (IsOpen old) (IsOpen new) (λ h o. open_on old new h k o) hs all

-- past one that opens another
pub all_beside : (old new : SoloSeen) (f : ℕ) (append : Bool) (r : Result HandleSeen Refusal) (hs : List HandleSeen)
    → Opened old f append r new → new.errors ≡ old.errors → All (IsOpen old) hs → All (IsOpen new) hs
all_beside old new f append r hs o e all =
    All-weaker (IsOpen old) (IsOpen new) (λ h was. open_beside old new f append r h o e was) hs all

-- past an fsync by one of them
pub all_synced : {p : ℕ → Bool} (old new : SoloSeen) (hs : List HandleSeen) (at : ℕ) (h told : HandleSeen) → KeepsBut p old new
    → IsTold new h told ⊎ (told ≡ h) → IsOpen old h → All (IsOpen old) hs → All (IsOpen new) (slice_set hs at told)
all_synced old new hs at h told k is_told o all =
    All-set (IsOpen new) hs at told (open_synced new h told is_told (open_on old new h k o)) (all_on old new hs k all)

-- with another that is open, where there was memory for it
pub all_pushed : (s : SoloSeen) (b : Bool) (hs now : List HandleSeen) (h : HandleSeen)
    → now ≡ (if b then hs ++ h ∷ [] else hs) → All (IsOpen s) hs → IsOpen s h → All (IsOpen s) now
all_pushed s true hs now h e all o = subst (All (IsOpen s)) (sym e) (All-push (IsOpen s) hs h all o)
all_pushed s false hs now h e all o = subst (All (IsOpen s)) (sym e) all

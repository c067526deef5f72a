-- Steps whose request is carried out and ended at once.
use Rattle.std.specs.Prelude.{◌≡◌, ◌<◌, [], ◌∷◌, Some}
use Rattle.std.specs.FinMap as finmap
use Rattle.pc_types.specs.declared.ids.Serial.{Serial}
use Rattle.pc_types.specs.declared.kind.Kind.{Kind}
use Rattle.pc_types.specs.declared.limits.TheConstants.{MAX_FILES}
use Rattle.machine.specs.declared.event.Reply.TheVariants as reply
use Rattle.machine.specs.State.{Request}
use Rattle.cachecore.specs.declared.at_once.AtOnce.{AtOnce}
use Rattle.cachecore.specs.declared.at_once.AtOnce.TheVariants.{Answered, Ended}
use Rattle.world.specs.declared.step.Step.{Step}
use Rattle.world.specs.declared.step.Step.TheVariants as step
use Rattle.world.specs.Stepping.{IsMade, Plays, WorldSeen}

-- the step is made. Where it begins a request, which is of this kind and of file f, its device call and its end follow, as two more steps
abbrev pub StepsAtOnce : WorldSeen → Step → Kind → AtOnce → WorldSeen → Type 0
StepsAtOnce old s kind (Answered r) new = ((t : Serial) → r ≡ reply.Job t → ⊥) × IsMade old s r new
StepsAtOnce old s kind (Ended f r) new =
    (t : Serial) × (mid : WorldSeen) × IsMade old s (reply.Job t) mid × (x : Request) × (finmap.get mid.core.requests t.0 ≡ Some x)
    × (x.kind ≡ kind) × (x.file ≡ f.0) × (f.0 < MAX_FILES) × Plays mid (step.Call t ∷ step.End t ∷ []) (reply.Done ∷ r ∷ []) new

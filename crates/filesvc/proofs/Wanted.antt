-- Which room the core says that a demand wants, in the words of the service.
use Rattle.std.proofs.Common.{◌≡◌, ℕ, Bool, true, false, refl}
use Rattle.std.specs.Prelude.{◌&&◌, Some, None, IfSome, if◌then◌else◌}
use Rattle.pc_types.specs.declared.refusal.Refusal.TheVariants.{DirtyLimit, NoFrame}
use Rattle.machine.specs.State.{State}
use Rattle.cachecore.specs.declared.answers.Demand.{Demand}
use Rattle.cachecore.specs.declared.answers.Want.TheVariants.{Clean, Frames}
use Rattle.cachecore.specs.Wants as core
use Rattle.cachecore.specs.Wants.{demanded, frames_short, lacks_frames, passes_limit}
use Rattle.filesvc.specs.Rooms.{IsShort, refusal_of, wanted}

module _ (s : State) (d : Demand) where
  abbrev lacks : Bool
  lacks = lacks_frames s d.handle.0 d.offset (demanded s d)

  abbrev passes : Bool
  passes = d.dirties && passes_limit s d.handle.0 d.offset (demanded s d)

  abbrev short : ℕ
  short = frames_short s d.handle.0 d.offset (demanded s d)

  pub wanted_is : refusal_of (core.wants s d) ≡ wanted s d
  wanted_is = by lacks passes
    where
      by : (a b : Bool) → refusal_of (if a then Some (Frames short) else if b then Some Clean else None)
          ≡ (if a then Some NoFrame else if b then Some DirtyLimit else None)
      by true b = refl
      by false true = refl
      by false false = refl

  pub wanted_short : IfSome (core.wants s d) (IsShort s d)
  wanted_short = by lacks passes
    where
      by : (a b : Bool) → IfSome (if a then Some (Frames short) else if b then Some Clean else None) (IsShort s d)
      by true b = refl
      by false true = tt
      by false false = tt

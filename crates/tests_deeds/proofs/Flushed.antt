-- A flush that went well leaves its bytes on the device, and the desk has them.
use Rattle.std.proofs.Common.{◌≡◌, ℕ, ◌+◌, Bool, true, List, ap, sym, ◌∙◌, subst}
use Rattle.std.specs.Prelude.{slice_get, slice_set, Some, Ok, Err, OnOk}
use Rattle.pc_types.specs.declared.kind.Kind.{Kind}
use Rattle.pc_types.specs.declared.kind.Kind.TheVariants.{Flush}
use Rattle.blockdev.specs.Device.{Outcome}
use Rattle.blockdev.specs.Jobs.{Task, FinishedTask}
use Rattle.deeds.specs.Comes.{Leaves}
use Rattle.deeds.specs.Shown.{Settles}
use Rattle.deeds.specs.declared.views.Block.{Block}
use Rattle.deeds.specs.declared.views.Given.{Given}
use Rattle.deeds.specs.declared.views.Place.{Place}
use Rattle.deeds.specs.declared.views.Place.TheVariants.{Home, Out}
use Rattle.deeds.proofs.Known.{given_back}
use Rattle.deeds.proofs.Lists.{set_here}

on_ok : (r : Outcome) (P Q : Type 0) → (P → Q) → OnOk r P → OnOk r Q
on_ok (Ok x) P Q f p = f p
on_ok (Err e) P Q f p = tt

pub flush_home : (told : Bool) (places after : List Place) (job : Task) (b : Block) (done : FinishedTask)
    → told ≡ true → job.kind ≡ Flush → slice_get places job.block ≡ Some (Home b) → done.block ≡ job.block
    → Settles told (slice_set places job.block (Out (record { task = job; before = b }))) done after
    → OnOk done.outcome
    (slice_get after job.block ≡ Some (Home (record { bytes = job.bytes; calls = b.calls + 1 })))
flush_home told places after job b done t kind here at s =
    let g : Given = record { task = job; before = b } in
    let was : List Place = slice_set places job.block (Out g) in
    let same : s.given ≡ g = given_back told places after job.block (Home b) g done here at s in
    let leaves = subst (λ (x : Kind × List ℕ). Leaves x.0 s.given.before.bytes x.1 done.outcome done.bytes s.left.bytes)
    (λ i. ((ap (λ (x : Given). x.task.kind) same ∙ kind) i, (same i).task.bytes)) (s.comes.leaves t) in
    let home = ap (λ ps. slice_get ps done.block) s.home ∙ set_here was done.block (Home s.left) (Out s.given) s.out in
    let calls : s.left.calls ≡ b.calls + 1 = s.comes.calls ∙ ap (λ (x : Given). x.before.calls + 1) same in
    let now : Block = record { bytes = job.bytes; calls = b.calls + 1 } in
    on_ok done.outcome (s.left.bytes ≡ job.bytes) (slice_get after job.block ≡ Some (Home now))
    (λ e. ap (λ j. slice_get after j) (sym at) ∙ home
    ∙ (λ i. Some (Home (record { bytes = e i; calls = calls i })))) leaves.1

use Rattle.std.proofs.Common.{rules, ◌≡◌, ◌≢◌, ap, ◌∙◌, arith}
use Rattle.std.specs.Prelude.{slice_get}
use Rattle.deeds.proofs.Lists.{set_else}
use Rattle.tests_ring.proofs.Homes.{at_replicate}
use Rattle.tests_ring.proofs.tests.fills.Goals as goal

pub loop-serial-init : goal.loop-serial-init
loop-serial-init g c = (
  search rules,
  search rules,
  λ k _ h. ap (λ ps. slice_get ps k) c.requires.home ∙ at_replicate _ k _ h,
)

pub loop-serial-preserved : goal.loop-serial-preserved
loop-serial-preserved g c =
    let at : c.in_ok-job.field-0.block ≡ c.loop-serial.serial = c.in_ok-job.ensures.1 in (
      search rules,
      search rules,
      λ k le h. let other : k ≢ c.in_ok-job.field-0.block = λ e. absurd (omega arith) in
          ap (λ ps. slice_get ps k) c.give-errand.ensures.desk
          ∙ set_else _ _ k _ _ other (c.loop-serial.invariant.2 k (omega arith) h),
    )

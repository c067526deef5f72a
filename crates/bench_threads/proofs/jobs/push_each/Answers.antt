use Rattle.std.proofs.Common.{rules, ◌≡◌, ◌≢◌, ap, ◌∙◌, arith}
use Rattle.std.specs.Prelude.{slice_get}
use Rattle.deeds.proofs.Lists.{set_else}
use Rattle.bench_threads.proofs.Homes.{at_replicate}
use Rattle.bench_threads.proofs.jobs.push_each.Goals as goal

pub loop-block-init : goal.loop-block-init
loop-block-init g c = (
  search rules,
  search rules,
  λ k _ h. ap (λ ps. slice_get ps k) c.requires.home ∙ at_replicate _ k _ h,
)

pub loop-block-preserved : goal.loop-block-preserved
loop-block-preserved g c =
    let at : c.in_ok-job.field-0.block ≡ c.loop-block.block = c.in_ok-job.ensures.1 in (
      search rules,
      search rules,
      λ k le h. let other : k ≢ c.in_ok-job.field-0.block = λ e. absurd (omega arith) in
          ap (λ ps. slice_get ps k) c.give-errand.ensures.desk
          ∙ set_else _ _ k _ _ other (c.loop-block.invariant.2 k (omega arith) h),
    )

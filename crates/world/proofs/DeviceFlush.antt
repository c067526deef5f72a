-- A flush of the device.
use Rattle.std.proofs.Common.{◌≡◌, [], refl, ap, subst, ◌∙◌}
use Rattle.std.specs.Prelude.{unwrap_or}
use Rattle.blockdev.specs.Device.{Outcome, Told}
use Rattle.blockdev.specs.Watching.{Watch, Clears}
use Rattle.machine.specs.State.{State}
use Rattle.world.specs.Flights.{Jobs, IsWorld, seen_of}
use Rattle.world.specs.Flushing.{IsFlushed}
use Rattle.world.specs.Stepping.{WorldSeen, world_of}

module _ (core : State) (jobs : Jobs) (dev new : Watch) (r : Outcome) (f : Clears dev r new) where
  pub flush_keeps : IsWorld core jobs dev → IsWorld core jobs new
  flush_keeps w = record {
    page_size = w.page_size;
    each_job = w.each_job;
    count = w.count;
    block_size = ap (λ (d : Told). d.size) f.flushes.same ∙ w.block_size;
    block_count = ap (λ (d : Told). d.count) f.flushes.same ∙ w.block_count;
  }

  pub is_flushed : (old : WorldSeen) → seen_of core jobs dev ≡ old → IsFlushed old r (seen_of core jobs new)
  is_flushed old is = subst (λ (w : WorldSeen). IsFlushed w r (seen_of core jobs new)) is (record {
    flushes = f.flushes;
    rest = refl;
    well = f.well;
    failed = f.failed;
    same = λ i. record (world_of (seen_of core jobs dev)) {
      device = unwrap_or ((ap (λ (d : Told). d.contents) f.flushes.same) i) [];
    };
  })

use Rattle.storm.proofs.Copying.{all_disks, all_for}
use Rattle.storm.proofs.shards.sources.sources_of.Goals as goal

pub loop-device-preserved : goal.loop-device-preserved
loop-device-preserved g c = (
  all_disks c.loop-device.sources.items c.push.new.self.items c.in_ok-source.source (λ s. s.device) c.args.geometry.now
      c.in-Ok.ensures.items c.loop-device.invariant.0 c.in_ok-source.ensures.source,
  all_for c.args.geometry.now c.loop-device.copies.items c.push-in-loop-device.new.self.items c.in_ok-source.copied
      c.in-Ok-push.ensures.items c.loop-device.invariant.1 c.in_ok-source.ensures.copies,
)

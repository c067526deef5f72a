use Rattle.std.proofs.Common.{◌≡◌, All, vec_len}
use Rattle.storm.proofs.shards.run.devices_of.Given as goal

abbrev pub invariant-loop : goal.invariant-loop
invariant-loop l = (vec_len l.devices ≡ l.counter) × All (λ d. (d.size ≡ 64) × (d.count ≡ l.blocks)) l.devices.items

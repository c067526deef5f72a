-- What the device of a cache tells.
use Rattle.blockdev.specs.Device.{Told}
use Rattle.pcache_c.specs.declared.store.Store.{Store}
use Rattle.pcache_c.specs.declared.store.Store.TheVariants.{Memory, Relay}

abbrev pub told_of : Store → Told
told_of (Memory d) = d
told_of (Relay d) = d

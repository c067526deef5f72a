use Rattle.window.proofs.WindowCalls.{reads_at}
use Rattle.window.proofs.window.WindowBlockDevice.read.Goals as goal

pub returns-clause-read : goal.returns-clause-read
returns-clause-read g c =
    reads_at _ _ _ c.place-place.result.0 c.args.block.0 _ _ _ _ c.place-place.ensures c.requires.exists c.read.ensures

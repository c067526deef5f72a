use Rattle.window.proofs.Outsides.{outside_write_at}
use Rattle.window.proofs.WindowCalls.{writes_at}
use Rattle.window.proofs.window.WindowBlockDevice.write.Goals as goal

pub returns-clause-write : goal.returns-clause-write
returns-clause-write g c =
    writes_at _ _ _ c.place-place.result.0 c.args.block.0 _ _ _ c.place-place.ensures c.requires.exists c.write.ensures

pub returns-clause-outside : goal.returns-clause-outside
returns-clause-outside g c =
    outside_write_at _ _ _ c.place-place.result.0 c.args.block.0 _ _ _ c.place-place.ensures c.requires.exists c.write.ensures

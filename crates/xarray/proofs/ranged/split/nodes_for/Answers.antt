use Rattle.std.proofs.Common.{◌-◌, ◌/◌, ◌%◌, arith}
use Rattle.xarray.proofs.SplitLemmas.{nodes_are}
use Rattle.xarray.proofs.ranged.split.nodes_for.Goals as goal

pub returns : goal.returns
returns c = nodes_are (c.args.from / 6 - c.args.order / 6) (c.args.from % 6) (omega (arith, c.requires.top)) (omega arith)

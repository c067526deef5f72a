use Rattle.std.proofs.Common.{ap}
use Rattle.xarray.proofs.ArrayLemmas.{idle}
use Rattle.xarray.proofs.array.XArray.new.Goals as goal

pub returns : goal.returns
returns c = ap idle c.new.ensures

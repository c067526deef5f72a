use Rattle.std.specs.Prelude.{map}
use Rattle.deeds.specs.Shown.{uncalled}
use Rattle.deeds.proofs.sides.Opened.new.Given as goal

-- the device as it is found, before any call
abbrev pub ghost-open : goal.ghost-open
ghost-open g a = (g.found.0, map uncalled g.found.1)

use Rattle.std.specs.Prelude.{◌≡◌, take}
use Rattle.machine.specs.Catalogs.{no_catalog}
use Rattle.listing.proofs.list.add_files.Given as goal

abbrev pub invariant-loop-place : goal.invariant-loop-place
invariant-loop-place l = l.catalog ≡ record l.fn.catalog { files = record no_catalog { sizes = take l.place l.sizes } }

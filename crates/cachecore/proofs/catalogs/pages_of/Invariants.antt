use Rattle.std.proofs.Common.{◌≡◌, ◌≤◌, length, take}
use Rattle.cachecore.specs.Standing.{store_over}
use Rattle.cachecore.proofs.catalogs.pages_of.Given as goal

abbrev pub invariant-files : goal.invariant-files
invariant-files l =
    (l.pages ≡ store_over l.geometry (take l.file l.catalog.files.sizes)) × (l.file ≤ length l.catalog.files.sizes)

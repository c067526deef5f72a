use Rattle.std.specs.Prelude.{◌≡◌, take}
use Rattle.listing.specs.Listing.{Lists}
use Rattle.listing.proofs.list.add_extents.Given as goal

abbrev pub invariant-loop-place : goal.invariant-loop-place
invariant-loop-place l = record {
  page : l.catalog.page ≡ l.fn.catalog.page;
  blocks : l.catalog.blocks ≡ l.fn.catalog.blocks;
  lists : Lists l.fn.catalog.files.sizes (take l.place l.extents) l.catalog;
}

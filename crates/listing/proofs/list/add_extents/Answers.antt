use Rattle.std.proofs.Common.{rules}
use Rattle.listing.proofs.Listings.{lists_next, lists_none, unfit_next}
use Rattle.listing.proofs.list.add_extents.Goals as goal

pub loop-place-init : goal.loop-place-init
loop-place-init c = record { page = search rules; blocks = search rules; lists = lists_none c.args.catalog.now c.requires }

pub returns-in-Err-clause-refused : goal.returns-in-Err-clause-refused
returns-in-Err-clause-refused c = unfit_next _ _ _ _ c.loop-place.catalog _ (search rules) c.loop-place.invariant.lists c.in-Err.ensures.why

pub loop-place-preserved : goal.loop-place-preserved
loop-place-preserved c = record {
  page = search rules;
  blocks = search rules;
  lists = lists_next _ _ _ _ c.loop-place.catalog _ (search rules) c.loop-place.invariant.lists c.in_default.ensures.added;
}

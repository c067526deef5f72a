use Rattle.pagestore.proofs.PagePlaces.{FilePage}
use Rattle.pagestore.proofs.TaggedFrames.{not_dirty, is_dirty, its_frame_taken, again_store, again_seen}
use Rattle.pagestore.proofs.pages.Pages.put_again.Goals as goal
use Rattle.pagestore.proofs.pages.Pages.put_again.Goals.{After-self}

abbrev at : After-self → FilePage
at c = record {
  pages = c.self.inside;
  kept = c.self.invariant;
  store = c.args.self.now;
  seen = c.self.view_is;
  file = c.args.file;
  page = c.args.page;
  here = c.requires.here;
}

pub returns-in_default-clause-dirty : goal.returns-in_default-clause-dirty
returns-in_default-clause-dirty c =
    let w = at (goal.at.returns-in_default-clause-dirty c).After-self in
    not_dirty w c.index.result.now c.index.ensures c.in_default.ensures.tagged

pub bytes_mut-requires : goal.bytes_mut-requires
bytes_mut-requires c =
    let w = at (goal.at.bytes_mut-requires c).After-self in
    its_frame_taken w
    c.index.result.now c.index.ensures c.in-Some.frame c.in-Some.ensures.tagged c.in-Some.ensures.untagged

pub accessed-requires : goal.accessed-requires
accessed-requires c =
    let w = at (goal.at.accessed-requires c).After-self in
    its_frame_taken w
    c.index.result.now c.index.ensures c.in-Some.frame c.in-Some.ensures.tagged c.in-Some.ensures.untagged

pub invariant_of-self : goal.invariant_of-self
invariant_of-self c =
    let w = at (goal.at.invariant_of-self c).After-self in
    again_store w
    c.index.result.now c.index.ensures c.in-Some.frame c.in-Some.ensures.tagged c.in-Some.ensures.untagged c.args.at
    c.args.bytes.now c.requires.room c.bytes_mut.result.now c.copy_from_slice.new.self c.bytes_mut.ensures.bytes
    c.copy_from_slice.ensures.after c.accessed.new.self c.accessed.ensures

pub returns-clause-dirty : goal.returns-clause-dirty
returns-clause-dirty c =
    let w = at (goal.at.returns-clause-dirty c).After-self in
    is_dirty w
    c.index.result.now c.index.ensures c.in-Some.frame c.in-Some.ensures.tagged c.in-Some.ensures.untagged

pub returns-clause-done : goal.returns-clause-done
returns-clause-done c =
    let w = at (goal.at.returns-clause-done c).After-self in
    λ _. again_seen w
    c.index.result.now c.index.ensures c.in-Some.frame c.in-Some.ensures.tagged c.in-Some.ensures.untagged c.args.at
    c.args.bytes.now c.requires.room c.bytes_mut.result.now c.copy_from_slice.new.self c.bytes_mut.ensures.bytes
    c.copy_from_slice.ensures.after c.accessed.new.self c.accessed.ensures

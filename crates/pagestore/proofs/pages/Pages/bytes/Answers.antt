use Rattle.std.proofs.Common.{ap, ◌∙◌}
use Rattle.std.proofs.lemmas.Bool.{false≢true}
use Rattle.pagestore.specs.Store.{Store}
use Rattle.pagestore.proofs.PagePlaces.{FilePage}
use Rattle.pagestore.proofs.ReadFrames.{frame_bytes, frame_cached, frame_taken, walked_entry, walked_none}
use Rattle.pagestore.proofs.pages.Pages.bytes.Goals as goal
use Rattle.pagestore.proofs.pages.Pages.bytes.Goals.{After-self}

abbrev at : After-self → FilePage
at c = record {
  pages = c.self.inside;
  kept = c.self.invariant;
  store = c.args.self.now;
  seen = c.self.view_is;
  file = c.args.file;
  page = c.args.page;
  here = c.requires.here;
}

pub unreachable-requires : goal.unreachable-requires
unreachable-requires c =
    let w = at (goal.at.unreachable-requires c).After-self in
    false≢true (walked_none w c.index.result.now c.index.ensures c.in_default.ensures ∙ c.requires.cached)

pub bytes-requires : goal.bytes-requires
bytes-requires c =
    let w = at (goal.at.bytes-requires c).After-self in
    frame_taken w c.in-Some.frame (walked_entry w c.index.result.now c.index.ensures c.in-Some.frame c.in-Some.ensures)

pub returns-clause-bytes : goal.returns-clause-bytes
returns-clause-bytes c =
    let w = at (goal.at.returns-clause-bytes c).After-self in
    let there = walked_entry w c.index.result.now c.index.ensures c.in-Some.frame c.in-Some.ensures in
    c.bytes.ensures.bytes ∙ frame_bytes w c.in-Some.frame there (frame_cached w c.in-Some.frame there ∙ c.requires.cached)

pub returns-clause-size : goal.returns-clause-size
returns-clause-size c = c.bytes.ensures.size ∙ ap (λ (s : Store). s.page) c.self.view_is

use Rattle.std.proofs.Common.{◌+◌, List, ℕ, true, false, length, ap, ◌∙◌}
use Rattle.std.specs.Prelude.{slice_range}
use Rattle.frames.specs.Table.{Table}
use Rattle.pagestore.specs.Store.{store_of}
use Rattle.pagestore.proofs.PagePlaces.{FilePage}
use Rattle.pagestore.proofs.ReadFrames.{owned_entry, read_bytes, read_seen, read_stops, read_store, read_waits}
use Rattle.pagestore.proofs.pages.Pages.read_within.Goals as goal
use Rattle.pagestore.proofs.pages.Pages.read_within.Goals.{After-self}

abbrev at : After-self → FilePage
at c = record {
  pages = c.self.inside;
  kept = c.self.invariant;
  store = c.args.self.now;
  seen = c.self.view_is;
  file = c.args.file;
  page = c.args.page;
  here = c.requires.here;
}

pub invariant_of-self : goal.invariant_of-self
invariant_of-self c =
    let w = at (goal.at.invariant_of-self c).After-self in
    read_store w c.in-Some.frame (owned_entry w c.in-Some.frame c.in-Some.ensures) c.read_frame.new.frames c.read_frame.result
    c.read_frame.ensures.moved c.read_frame.ensures.same

pub returns-then-read_frame-clause-stop : goal.returns-then-read_frame-clause-stop
returns-then-read_frame-clause-stop c =
    let w = at (goal.at.returns-then-read_frame-clause-stop c).After-self in
    read_stops w c.in-Some.frame (owned_entry w c.in-Some.frame c.in-Some.ensures) c.read_frame.result c.deref.result.now
    c.read_frame.ensures.flag c.deref.ensures.value true c.if-read_frame.true

pub returns-then-read_frame-clause-read : goal.returns-then-read_frame-clause-read
returns-then-read_frame-clause-read c =
    let w = at (goal.at.returns-then-read_frame-clause-read c).After-self in
    c.read_frame.ensures.read c.if-read_frame.true
    ∙ ap (λ (bs : List ℕ). slice_range bs c.args.at (c.args.at + length c.args.out.now))
    (read_bytes w c.in-Some.frame (owned_entry w c.in-Some.frame c.in-Some.ensures) c.read_frame.result c.deref.result.now
    c.read_frame.ensures.flag c.deref.ensures.value c.if-read_frame.true)

pub returns-then-read_frame-clause-moved : goal.returns-then-read_frame-clause-moved
returns-then-read_frame-clause-moved c =
    let w = at (goal.at.returns-then-read_frame-clause-moved c).After-self in
    ap (λ (t : Table). store_of t c.self.inside.uptodate.items c.self.inside.files.items)
    (c.read_frame.ensures.moved c.if-read_frame.true)
    ∙ read_seen w c.in-Some.frame (owned_entry w c.in-Some.frame c.in-Some.ensures)

pub returns-clause-stop : goal.returns-clause-stop
returns-clause-stop c =
    let w = at (goal.at.returns-clause-stop c).After-self in
    read_stops w c.in-Some.frame (owned_entry w c.in-Some.frame c.in-Some.ensures) c.read_frame.result c.deref.result.now
    c.read_frame.ensures.flag c.deref.ensures.value false c.if-read_frame.false

pub returns-clause-awaited : goal.returns-clause-awaited
returns-clause-awaited c =
    let w = at (goal.at.returns-clause-awaited c).After-self in
    read_waits w c.in-Some.frame (owned_entry w c.in-Some.frame c.in-Some.ensures) c.read_frame.result c.deref.result.now
    c.read_frame.ensures.flag c.deref.ensures.value c.if-read_frame.false

use Rattle.std.proofs.Common.{◌+◌, ◌<◌, List, Bool, ℕ, Some, None, true, false, cond, not, length, ap, sym, subst, ◌∙◌}
use Rattle.std.specs.Prelude.{slice_range}
use Rattle.frames.specs.Table.{Table}
use Rattle.pagestore.specs.Store.{store_of}
use Rattle.pagestore.proofs.PagePlaces.{FilePage}
use Rattle.pagestore.proofs.ReadFrames.{frame_flagged, frame_taken, read_bytes, read_seen, read_stops, read_store, read_waits}
use Rattle.pagestore.proofs.ReadFrames.{walked_entry, walked_idle, walked_none}
use Rattle.pagestore.proofs.pages.Pages.read_walked.Goals as goal
use Rattle.pagestore.proofs.pages.Pages.read_walked.Goals.{After-self}

abbrev at : After-self → FilePage
at c = record {
  pages = c.self.inside;
  kept = c.self.invariant;
  store = c.args.self.now;
  seen = c.self.view_is;
  file = c.args.file;
  page = c.args.page;
  here = c.requires.here;
}

pub returns-in_default-clause-stop : goal.returns-in_default-clause-stop
returns-in_default-clause-stop c =
    let w = at (goal.at.returns-in_default-clause-stop c).After-self in
    ap (λ b. cond (not b) (Some c.args.page) None) (walked_none w c.index.result.now c.index.ensures c.in_default.ensures)

pub returns-in_default-clause-awaited : goal.returns-in_default-clause-awaited
returns-in_default-clause-awaited c =
    let w = at (goal.at.returns-in_default-clause-awaited c).After-self in
    walked_idle w c.index.result.now c.index.ensures c.in_default.ensures

pub read_frame-requires-clause-taken : goal.read_frame-requires-clause-taken
read_frame-requires-clause-taken c =
    let w = at (goal.at.read_frame-requires-clause-taken c).After-self in
    frame_taken w c.in-Some.frame (walked_entry w c.index.result.now c.index.ensures c.in-Some.frame c.in-Some.ensures)

pub read_frame-requires-clause-flagged : goal.read_frame-requires-clause-flagged
read_frame-requires-clause-flagged c =
    let w = at (goal.at.read_frame-requires-clause-flagged c).After-self in
    subst (λ (u : List Bool). c.in-Some.frame.0 < length u) (sym c.deref.ensures.value)
    (frame_flagged w c.in-Some.frame (walked_entry w c.index.result.now c.index.ensures c.in-Some.frame c.in-Some.ensures))

pub invariant_of-self : goal.invariant_of-self
invariant_of-self c =
    let w = at (goal.at.invariant_of-self c).After-self in
    read_store w c.in-Some.frame (walked_entry w c.index.result.now c.index.ensures c.in-Some.frame c.in-Some.ensures) c.read_frame.new.frames c.read_frame.result
    c.read_frame.ensures.moved c.read_frame.ensures.same

pub returns-then-read_frame-clause-stop : goal.returns-then-read_frame-clause-stop
returns-then-read_frame-clause-stop c =
    let w = at (goal.at.returns-then-read_frame-clause-stop c).After-self in
    read_stops w c.in-Some.frame (walked_entry w c.index.result.now c.index.ensures c.in-Some.frame c.in-Some.ensures) c.read_frame.result c.deref.result.now
    c.read_frame.ensures.flag c.deref.ensures.value true c.if-read_frame.true

pub returns-then-read_frame-clause-read : goal.returns-then-read_frame-clause-read
returns-then-read_frame-clause-read c =
    let w = at (goal.at.returns-then-read_frame-clause-read c).After-self in
    c.read_frame.ensures.read c.if-read_frame.true
    ∙ ap (λ (bs : List ℕ). slice_range bs c.args.at (c.args.at + length c.args.out.now))
    (read_bytes w c.in-Some.frame (walked_entry w c.index.result.now c.index.ensures c.in-Some.frame c.in-Some.ensures) c.read_frame.result c.deref.result.now
    c.read_frame.ensures.flag c.deref.ensures.value c.if-read_frame.true)

pub returns-then-read_frame-clause-moved : goal.returns-then-read_frame-clause-moved
returns-then-read_frame-clause-moved c =
    let w = at (goal.at.returns-then-read_frame-clause-moved c).After-self in
    ap (λ (t : Table). store_of t c.self.inside.uptodate.items c.self.inside.files.items)
    (c.read_frame.ensures.moved c.if-read_frame.true)
    ∙ read_seen w c.in-Some.frame (walked_entry w c.index.result.now c.index.ensures c.in-Some.frame c.in-Some.ensures)

pub returns-clause-stop : goal.returns-clause-stop
returns-clause-stop c =
    let w = at (goal.at.returns-clause-stop c).After-self in
    read_stops w c.in-Some.frame (walked_entry w c.index.result.now c.index.ensures c.in-Some.frame c.in-Some.ensures) c.read_frame.result c.deref.result.now
    c.read_frame.ensures.flag c.deref.ensures.value false c.if-read_frame.false

pub returns-clause-awaited : goal.returns-clause-awaited
returns-clause-awaited c =
    let w = at (goal.at.returns-clause-awaited c).After-self in
    read_waits w c.in-Some.frame (walked_entry w c.index.result.now c.index.ensures c.in-Some.frame c.in-Some.ensures) c.read_frame.result c.deref.result.now
    c.read_frame.ensures.flag c.deref.ensures.value c.if-read_frame.false

use Rattle.std.proofs.Common.{◌≡◌, not}
use Rattle.std.specs.Prelude.{count_by}
use Rattle.frames.specs.Table.{IsSound}
use Rattle.pagestore.specs.Cuts.{AreBusy}
use Rattle.pagestore.proofs.page_removal.first_idle.Given as goal

abbrev pub invariant-loop-frame : goal.invariant-loop-frame
invariant-loop-frame l = record {
  sound : IsSound l.frames;
  same : l.frames ≡ record l.fn.frames { aside = l.frames.aside };
  busy : AreBusy l.frames l.fn.uptodate l.fn.files;
}

abbrev pub decreases-loop-frame : goal.decreases-loop-frame
decreases-loop-frame l = count_by not l.frames.aside

use Rattle.std.proofs.Common.{ap, sym, ◌∙◌}
use Rattle.pagestore.specs.Cuts.{is_idle_owner}
use Rattle.pagestore.specs.Store.{is_idle_entry}
use Rattle.pagestore.proofs.Idle.{past_files}
use Rattle.pagestore.proofs.page_removal.is_idle_frame.Goals as goal

pub returns-in-None : goal.returns-in-None
returns-in-None c =
    let up = c.args.uptodate.now in
    let files = c.args.files.now in
    sym (ap (is_idle_owner up files) (sym c.in-Some.ensures)
    ∙ ap (is_idle_entry up) (past_files files c.in-Some.file.0 c.in-Some.page.0 c.in-None.ensures.lookup.3))

use Rattle.std.proofs.Common.{◌∙◌, ◌-◌, ap, not, rules}
use Rattle.std.specs.Prelude.{count_by, is_some}
use Rattle.std.specs.List.{range_with_len}
use Rattle.pagestore.specs.Store.{stored_page}
use Rattle.pagestore.proofs.pages.Pages.frames_short.Goals as goal

pub returns : goal.returns
returns c =
    c.count_over.ensures (λ p. not (is_some (stored_page c.args.self.now c.args.file p)))
    (λ p answer from within told. search rules)
    ∙ ap (λ free. count_by (λ p. not (is_some (stored_page c.args.self.now c.args.file p))) (range_with_len c.args.first (c.args.end - c.args.first)) - free)
    c.free_frames.ensures

use Rattle.std.proofs.Common.{Err, ap, ◌∙◌}
use Rattle.std.proofs.lemmas.Result.{err_from_is_err_and}
use Rattle.textline.proofs.LineLemmas.{map_some}
use Rattle.script.proofs.RunLemmas.{ends_kept, ends_unflushed}
use Rattle.script.proofs.run.run_and_flush.Goals as goal

pub returns-in_err-flush : goal.returns-in_err-flush
returns-in_err-flush g c =
    let made = err_from_is_err_and c.from_residual.result c.from_residual.ensures.1 in
    map_some (g.R.Read.remaining c.args.reader) _ _ c.run_lines-end.ensures (λ script ends.
    ends_unflushed _ _ _ c.in_err-flush.field-0.0 _ _ _ ends c.in_err-flush.ensures.kept (made.1 ∙ ap Err made.2) c.in_err-flush.ensures.fault)

pub returns : goal.returns
returns g c =
    map_some (g.R.Read.remaining c.args.reader) _ _ c.run_lines-end.ensures (λ script ends. ends_kept _ _ _ _ _ ends c.in_ok-flush.ensures.kept)

use Rattle.std.proofs.Common.{sym, ap, subst, ◌∙◌}
use Rattle.std.proofs.lemmas.Result.{on_ok_weaker}
use Rattle.std.specs.Prelude.{is_some}
use Rattle.idalloc.specs.Bitmaps.{Bitmaps, OpensBehind}
use Rattle.idalloc.proofs.TidyLemmas.{opens}
use Rattle.idalloc.proofs.changes.open_behind.Goals as goal

pub returns-clause-opened : goal.returns-clause-opened
returns-clause-opened c =
    let free = sym (ap is_some c.get.ensures) ∙ sym c.is_some.ensures ∙ c.if-is_some.false in
    on_ok_weaker c.insert.result (λ e. subst (λ (m : Bitmaps). OpensBehind c.args.bitmaps.now m c.args.index) (sym e) (opens c.args.bitmaps.now c.args.index c.requires.tidy free)) c.insert.ensures.ok

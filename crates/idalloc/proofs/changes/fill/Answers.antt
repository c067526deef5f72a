use Rattle.std.proofs.Common.{sym, ap, subst, ◌∙◌, None}
use Rattle.std.proofs.lemmas.Option.{same_Some}
use Rattle.idalloc.specs.Bitmaps.{Bitmaps, IsTidy, full, has_number}
use Rattle.idalloc.proofs.TidyLemmas.{filled, filled_set}
use Rattle.idalloc.proofs.changes.fill.Goals as goal

pub returns-clause-filled : goal.returns-clause-filled
returns-clause-filled c =
    let opened = c.in_ok-open_behind.ensures.opened in
    let tidy = filled c.open_behind.new.bitmaps c.args.index opened.tidy (λ e. c.requires.room (same_Some c.args.before full (sym (opened.here ∙ c.requires.there) ∙ e))) opened.behind in
    (subst (λ (m : Bitmaps). IsTidy m None) (sym c.replace.ensures) tidy, λ q. ap (λ (m : Bitmaps). has_number m q) c.replace.ensures ∙ filled_set c.args.bitmaps.now c.open_behind.new.bitmaps c.args.index opened.same q)

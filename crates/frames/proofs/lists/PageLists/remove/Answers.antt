use Rattle.std.proofs.Common.{◌∙◌, sym, ap, ℕ, List}
use Rattle.frames.specs.Lists.{Lists, without}
use Rattle.frames.proofs.ListLemmas.{without-absent}
use Rattle.frames.proofs.lists.PageLists.remove.Goals as goal

pub returns-then-is_active : goal.returns-then-is_active
returns-then-is_active c =
    let l = c.args.self.now in
    let f = c.args.frame in
    c.remove_active.ensures.lists
    ∙ ap (λ (xs : List ℕ). let m : Lists = record { count = l.count; active = without f l.active; inactive = xs } in m) (sym (without-absent f l.inactive c.remove_active.ensures.alone))

pub returns-else-is_active : goal.returns-else-is_active
returns-else-is_active c =
    let l = c.args.self.now in
    let f = c.args.frame in
    c.remove_inactive.ensures.lists
    ∙ ap (λ (xs : List ℕ). let m : Lists = record { count = l.count; active = xs; inactive = without f l.inactive } in m) (sym (without-absent f l.active c.remove_inactive.ensures.alone))

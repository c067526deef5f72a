use Rattle.std.proofs.Common.{◌∙◌, sym, ap, reverse}
use Rattle.frames.specs.Table.{Table, scan_order}
use Rattle.frames.proofs.ScanLemmas.{moved, found_first, found_after, is_some_number}
use Rattle.frames.proofs.frames.Frames.scan.Goals as goal

pub returns-then-is_some : goal.returns-then-is_some
returns-then-is_some g c =
    let i = c.self.inside in
    let some = is_some_number c.find_inactive-found.result ∙ (sym c.is_some.ensures ∙ c.if-is_some.true) in
    moved (λ f a. goal.F-post g c.args.test (record { 0 = f }) a) _ _ _ (ap (λ (t : Table). scan_order t) c.self.view_is)
    (found_first (λ f a. goal.F-post g c.args.test (record { 0 = f }) a) (reverse i.lists.inactive) (reverse i.lists.active) _ some c.find_inactive-found.ensures)

pub returns : goal.returns
returns g c =
    let i = c.self.inside in
    let none = is_some_number c.find_inactive-found.result ∙ (sym c.is_some.ensures ∙ c.if-is_some.false) in
    moved (λ f a. goal.F-post g c.args.test (record { 0 = f }) a) _ _ _ (ap (λ (t : Table). scan_order t) c.self.view_is)
    (found_after (λ f a. goal.F-post g c.args.test (record { 0 = f }) a) (reverse i.lists.inactive) (reverse i.lists.active) _ _ none c.find_inactive-found.ensures c.find_active.ensures)

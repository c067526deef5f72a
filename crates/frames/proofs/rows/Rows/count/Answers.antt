use Rattle.std.proofs.Common.{sym, ap, ◌∙◌, subst, ◌≡◌, length, All}
use Rattle.frames.proofs.RowLemmas.{length-rows_of, All-rows_of}
use Rattle.frames.specs.Rows.{Grid}
use Rattle.frames.proofs.rows.Rows.count.Goals as goal

pub returns-clause-count : goal.returns-clause-count
returns-clause-count c = sym (length-rows_of _ _ _) ∙ ap (λ (g : Grid). length g.rows) c.self.view_is

pub returns-clause-sized : goal.returns-clause-sized
returns-clause-sized c =
    let P : Grid → Type 0 = λ (g : Grid). All (λ x. length x ≡ g.size) g.rows in
    subst P c.self.view_is (All-rows_of _ _ _ c.self.invariant)

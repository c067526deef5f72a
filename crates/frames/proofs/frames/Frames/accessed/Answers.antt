use Rattle.std.proofs.Common.{◌∙◌, sym, ap, Bool, ◌||◌}
use Rattle.frames.specs.Lists.{has}
use Rattle.frames.specs.Table.{Table, is_taken}
use Rattle.frames.proofs.frames.Frames.accessed.Goals as goal

pub promote-requires : goal.promote-requires
promote-requires c =
    let i = c.self.inside in
    let f = c.args.frame.0 in
    let absent = sym c.is_active.ensures ∙ c.if-not-is_active.true in
    let here = ap (λ (t : Table). is_taken t f) c.self.view_is ∙ c.requires in
    ap (λ (t : Table). has f t.inactive) (sym c.self.view_is)
    ∙ sym (ap (λ (b : Bool). b || has f i.lists.inactive) absent)
    ∙ sym (c.self.invariant.0.listed f)
    ∙ here

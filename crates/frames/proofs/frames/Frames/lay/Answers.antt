use Rattle.std.proofs.Common.{◌∙◌, ap, arith}
use Rattle.frames.specs.Rows.{laid}
use Rattle.frames.specs.Table.{Table, is_taken}
use Rattle.frames.proofs.TiedLemmas.{tied_laid, within}
use Rattle.frames.proofs.frames.Frames.lay.Goals as goal

pub lay-requires-clause-within : goal.lay-requires-clause-within
lay-requires-clause-within c =
    let i = c.self.inside in
    let here = ap (λ (t : Table). is_taken t c.args.frame.0) c.self.view_is ∙ c.requires.taken in
    omega (arith, within i.lists i.free i.referenced.items i.owners.items i.bytes c.self.invariant.0 c.args.frame.0 here, c.self.invariant.0.rows)

pub invariant_of-self : goal.invariant_of-self
invariant_of-self c =
    let i = c.self.inside in (
      tied_laid i.lists i.free i.referenced.items i.owners.items i.bytes c.self.invariant.0 c.args.frame.0
          (laid i.bytes.size c.args.at c.args.bytes.now) c.lay.new.self c.lay.ensures,
      c.self.invariant.1,
    )

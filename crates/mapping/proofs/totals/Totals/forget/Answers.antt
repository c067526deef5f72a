use Rattle.std.proofs.Common.{ap, ◌∙◌, arith}
use Rattle.std.specs.Int.{from_bool}
use Rattle.pc_types.specs.declared.tags.Tag.TheVariants.{Dirty, Writeback, Towrite}
use Rattle.pc_types.specs.TagBits.{tag_set}
use Rattle.mapping.proofs.TotalLemmas.{byte_one}
use Rattle.mapping.proofs.totals.Totals.forget.Goals as goal

pub overflow_sub-self : goal.overflow_sub-self
overflow_sub-self c = omega (arith, c.from.ensures ∙ ap from_bool c.has.ensures ∙ byte_one (tag_set c.args.tags).dirty, c.requires Dirty)

pub overflow_sub-self-2 : goal.overflow_sub-self-2
overflow_sub-self-2 c = omega (arith, c.from-2.ensures ∙ ap from_bool c.has-2.ensures ∙ byte_one (tag_set c.args.tags).writeback, c.requires Writeback)

pub overflow_sub-self-3 : goal.overflow_sub-self-3
overflow_sub-self-3 c = omega (arith, c.from-3.ensures ∙ ap from_bool c.has-3.ensures ∙ byte_one (tag_set c.args.tags).towrite, c.requires Towrite)

use Rattle.std.proofs.Common.{ap, ◌∙◌, arith}
use Rattle.std.specs.Int.{from_bool}
use Rattle.pc_types.specs.TagBits.{tag_set}
use Rattle.pc_types.specs.declared.tags.Tag.TheVariants.{Dirty, Writeback, Towrite}
use Rattle.mapping.proofs.TotalLemmas.{byte_one, one-le}
use Rattle.mapping.proofs.totals.Totals.exchange.Goals as goal

pub overflow_sub-self : goal.overflow_sub-self
overflow_sub-self c = omega (arith, c.from.ensures ∙ ap from_bool c.has.ensures ∙ byte_one (tag_set c.args.before).dirty, c.requires.counted Dirty)

pub overflow_add-self : goal.overflow_add-self
overflow_add-self c = omega (arith, c.from-2.ensures ∙ ap from_bool c.has-2.ensures ∙ byte_one (tag_set c.args.now).dirty, one-le (tag_set c.args.now).dirty, c.requires.room Dirty)

pub overflow_sub-self-2 : goal.overflow_sub-self-2
overflow_sub-self-2 c = omega (arith, c.from-3.ensures ∙ ap from_bool c.has-3.ensures ∙ byte_one (tag_set c.args.before).writeback, c.requires.counted Writeback)

pub overflow_add-self-2 : goal.overflow_add-self-2
overflow_add-self-2 c = omega (arith, c.from-4.ensures ∙ ap from_bool c.has-4.ensures ∙ byte_one (tag_set c.args.now).writeback, one-le (tag_set c.args.now).writeback, c.requires.room Writeback)

pub overflow_sub-self-3 : goal.overflow_sub-self-3
overflow_sub-self-3 c = omega (arith, c.from-5.ensures ∙ ap from_bool c.has-5.ensures ∙ byte_one (tag_set c.args.before).towrite, c.requires.counted Towrite)

pub overflow_add-self-3 : goal.overflow_add-self-3
overflow_add-self-3 c = omega (arith, c.from-6.ensures ∙ ap from_bool c.has-6.ensures ∙ byte_one (tag_set c.args.now).towrite, one-le (tag_set c.args.now).towrite, c.requires.room Towrite)

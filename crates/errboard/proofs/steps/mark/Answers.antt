use Rattle.std.proofs.Common.{rules, ◌∙◌}
use mathlib.Core.Option.{none}
use Rattle.atomic_table.specs.Table.{step}
use Rattle.errseq.proofs.Samples.{with_seen_word}
use Rattle.errboard.proofs.Polls.{marks_as, is_marked}
use Rattle.errboard.proofs.steps.mark.Goals as goal

pub compare_exchange-other-requires : goal.compare_exchange-other-requires
compare_exchange-other-requires c = (
  search rules,
  search rules,
  marks_as _ _ _ _ _ _ _ _ _ _ c.requires.trying (c.to_u64-old.ensures ∙ c.requires.found.0) (c.to_u64-new.ensures ∙ c.with_seen-marked.ensures ∙ with_seen_word _ _ _ c.requires.found.1 c.requires.found.0),
)

pub returns-clause-marked : goal.returns-clause-marked
returns-clause-marked c =
    is_marked _ _ _ _ (step c.args.table.now.table_id.slots c.args.file c.to_u64-old.result c.to_u64-new.result none) _ _ _ _ _
    c.requires.trying c.to_u64-old.ensures c.to_u64-new.ensures c.requires.found.0 c.requires.found.1 c.compare_exchange-other.ensures.2 c.sample_after.ensures.stands c.sample_after.ensures.changed

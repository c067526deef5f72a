use Rattle.std.proofs.Common.{rules, ◌∙◌, sym, ap}
use Rattle.std.specs.Prelude.{ℕ}
use mathlib.Core.Option.{none}
use Rattle.atomic_table.specs.Table.{step}
use Rattle.errseq.specs.Word.{word_set}
use Rattle.errboard.proofs.Recordings.{records_again_as, second_recorded}
use Rattle.errboard.proofs.steps.record_again.Goals as goal

pub compare_exchange-requires : goal.compare_exchange-requires
compare_exchange-requires c = (
  search rules,
  search rules,
  records_again_as _ _ _ _ _ _ _ _ _ _ _ c.requires.sampled.0 c.requires.sampled.1
      (c.to_u64-new.ensures ∙ c.set.ensures.word ∙ ap (λ (n : ℕ). word_set n c.args.code) c.from_u64-word.ensures) c.set.ensures.code,
)

pub returns-clause-recorded : goal.returns-clause-recorded
returns-clause-recorded c =
    second_recorded _ _ _ _ _ (step c.args.table.now.table_id.slots c.args.file c.args.found c.to_u64-new.result none) _ _ _ _
    c.requires.sampled.0 (c.to_u64-new.ensures ∙ c.set.ensures.word ∙ ap (λ (n : ℕ). word_set n c.args.code) c.from_u64-word.ensures) c.set.ensures.code c.compare_exchange.ensures.2 (sym c.to_u64-new.ensures)

use Rattle.std.proofs.Common.{rules, ◌∙◌, sym, ap, refl}
use Rattle.std.specs.Prelude.{ℕ}
use mathlib.Core.Option.{none}
use Rattle.atomic_table.specs.Table.{step}
use Rattle.errseq.specs.Word.{word_set}
use Rattle.errboard.proofs.Recordings.{records_as, first_recorded}
use Rattle.errboard.proofs.steps.record_at.Goals as goal

pub compare_exchange-found-requires : goal.compare_exchange-found-requires
compare_exchange-found-requires c = (
  search rules,
  search rules,
  records_as _ _ _ _ _ _ _ _ _ _ _ c.requires.recorder c.requires.at.2 (c.to_u64-old.ensures ∙ c.requires.written)
      (c.to_u64-new.ensures ∙ c.set.ensures.word ∙ ap (λ (n : ℕ). word_set n c.args.code) (sym c.to_u64-old.ensures)) c.set.ensures.code,
)

pub returns-then-found-old-clause-recorded : goal.returns-then-found-old-clause-recorded
returns-then-found-old-clause-recorded c =
    first_recorded _ _ _ _ (step c.args.table.now.table_id.slots c.args.file c.to_u64-old.result c.to_u64-new.result none) _ _ _ _
    c.requires.recorder refl (c.to_u64-new.ensures ∙ c.set.ensures.word ∙ ap (λ (n : ℕ). word_set n c.args.code) (sym c.to_u64-old.ensures)) c.set.ensures.code c.if-found-old.true c.compare_exchange-found.ensures.2 (sym c.to_u64-new.ensures)

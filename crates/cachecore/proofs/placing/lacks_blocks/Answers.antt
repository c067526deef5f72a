use Rattle.std.proofs.Common.{◌∙◌, ◌-◌, ap, rules}
use Rattle.std.specs.Prelude.{count_by, nat_lt}
use Rattle.std.specs.List.{range_with_len}
use Rattle.cachecore.specs.Placing.{is_bare}
use Rattle.cachecore.proofs.placing.lacks_blocks.Goals as goal

pub returns : goal.returns
returns c =
    c.has_more.ensures (is_bare c.args.blocks.now c.args.file) (λ p answer from within told. search rules)
    ∙ ap (λ free. nat_lt free (count_by (is_bare c.args.blocks.now c.args.file) (range_with_len c.args.first (c.args.end - c.args.first))))
    c.free_count.ensures.count

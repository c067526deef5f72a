use Rattle.std.proofs.Common.{◌∙◌, ◌-◌, ap, false, not, rules}
use Rattle.std.specs.Prelude.{count_by, nat_lt, slice_index_or}
use Rattle.std.specs.List.{range_with_len}
use Rattle.pagestore.proofs.pages.Pages.lacks_frames.Goals as goal

pub returns : goal.returns
returns c =
    c.has_more.ensures (λ p. not (slice_index_or c.args.cached.now (p - c.args.first) false))
    (λ p answer from within told. search rules)
    ∙ ap (λ free. nat_lt free (count_by (λ p. not (slice_index_or c.args.cached.now (p - c.args.first) false)) (range_with_len c.args.first (c.args.end - c.args.first))))
    c.free_frames.ensures

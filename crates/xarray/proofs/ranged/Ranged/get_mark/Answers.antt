use Rattle.std.proofs.Common.{subst}
use Rattle.radix.specs.Entries.{HasNoMarkedAt, IsMarkedAt}
use Rattle.std.specs.Prelude.{MatchBool}
use Rattle.xarray.specs.View.{ranges_of}
use Rattle.xarray.proofs.HeldLemmas.{marked_by}
use Rattle.xarray.proofs.ranged.Ranged.get_mark.Goals as goal

pub returns : goal.returns
returns c =
    let s = c.self.inside.nodes in
    rw (c.self.view_is) at (marked_by s (ranges_of s) c.self.invariant.stands c.args.mark c.args.index c.args.index c.is_marked.result (subst (λ n. MatchBool c.is_marked.result (IsMarkedAt s n c.args.index) (HasNoMarkedAt s n c.args.index)) c.number.ensures c.is_marked.ensures))

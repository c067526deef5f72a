-- A pass that knew all before its poll and knows no more than all after it knows all.
use Rattle.std.proofs.Common.{◌≡◌, ℕ, ◌≤◌, List, length, drop, ap, subst, arith}
use Rattle.std.specs.Prelude.{Option, IfNone}
use mathlib.Core.List.{IsPrefix}
use Rattle.errseq.specs.declared.recording.Recording.{Recording}
use Rattle.errseq.specs.Recorded.{raised}
use Rattle.errseq.specs.Word.{IsWithinTurn}
use Rattle.errseq.proofs.Prefixes.{prefix_length, prefix_whole}

between : (xs ys zs : List Recording) → xs ≡ zs → IsPrefix xs ys → IsPrefix ys zs → ys ≡ zs
between xs ys zs e p q = prefix_whole ys zs q (let a = prefix_length xs ys p in let b : length xs ≡ length zs = ap length e in omega arith)

-- where such a poll answers nothing, nothing was owed
pub silent : (code : Option ℕ) (known after all : List Recording) (done told : ℕ) → known ≡ all → IsPrefix known after → IsPrefix after all → told ≡ done
    → IfNone code (IsWithinTurn (raised (drop told after)) → length after ≤ told) → IfNone code (IsWithinTurn (raised (drop done all)) → length all ≤ done)
silent code known after all done told e p q d none =
    subst (λ (k : List Recording). IfNone code (IsWithinTurn (raised (drop done k)) → length k ≤ done)) (between known after all e p q)
    (subst (λ (t : ℕ). IfNone code (IsWithinTurn (raised (drop t after)) → length after ≤ t)) d none)

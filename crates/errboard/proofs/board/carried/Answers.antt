use Rattle.std.proofs.Common.{◌∙◌, refl, sym, ap, subst, arith, length-set}
use Rattle.std.specs.Prelude.{ℕ, slice_index}
use mathlib.Core.Logic.{dite}
use native.Mathlib.Decide.{ℕ_discrete}
use Rattle.std.proofs.lemmas.List.{get_or-set_same, get_or-set_other}
use Rattle.std.proofs.lemmas.Grind.{same_number_lists}
use Rattle.errseq.specs.Word.{MayBeCarried}
use Rattle.errboard.proofs.board.carried.Goals as goal

pub loop-file-preserved : goal.loop-file-preserved
loop-file-preserved c =
    let file : ℕ = c.loop-file.file in
    let words = c.args.words.now in
    let carried = c.in_ok-carry.ensures in record {
      count = length-set c.loop-file.carried file _ ∙ c.loop-file.invariant.count;
      same = λ k h. dite (ℕ_discrete k file)
          (λ e. ap (slice_index _) e ∙ get_or-set_same c.loop-file.carried file _ 0 (omega (arith, c.loop-file-test.true, c.told-words, c.loop-file.invariant.count)) ∙ c.to_u64.ensures ∙ carried.same ∙ sym (ap (slice_index words) e))
          (λ n. get_or-set_other c.loop-file.carried file k _ 0 n ∙ c.loop-file.invariant.same k (omega arith));
      may = λ k h. dite (ℕ_discrete k file) (λ e. subst (λ j. MayBeCarried (slice_index words j)) (sym e) (carried.carried.0 refl)) (λ n. c.loop-file.invariant.may k (omega arith));
    }

pub returns-clause-same : goal.returns-clause-same
returns-clause-same c = same_number_lists _ _ (c.loop-file.invariant.count ∙ sym c.told-words) (λ k h. c.loop-file.invariant.same k (omega (arith, h, c.loop-file-test.false, c.loop-file.invariant.count)))

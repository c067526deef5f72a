use Rattle.std.proofs.Common.{◌∙◌, sym, ap, arith, length-set}
use Rattle.std.specs.Prelude.{ℕ, slice_index}
use mathlib.Core.Logic.{dite}
use native.Mathlib.Decide.{ℕ_discrete}
use Rattle.std.proofs.lemmas.List.{get_or-set_same, get_or-set_other}
use Rattle.std.proofs.lemmas.Grind.{same_number_lists}
use Rattle.errboard.proofs.recorder.words_of.Goals as goal

pub loop-file-preserved : goal.loop-file-preserved
loop-file-preserved c =
    let file : ℕ = c.loop-file.file in
    let opening = c.args.opening.now in record {
      count = length-set c.loop-file.words file _ ∙ c.loop-file.invariant.count;
      same = λ k h. dite (ℕ_discrete k file)
          (λ e. ap (slice_index _) e ∙ get_or-set_same c.loop-file.words file _ 0 (omega (arith, c.loop-file-test.true, c.told-opening, c.loop-file.invariant.count)) ∙ c.from_u64.ensures ∙ sym (ap (slice_index opening) e))
          (λ n. get_or-set_other c.loop-file.words file k _ 0 n ∙ c.loop-file.invariant.same k (omega arith));
    }

pub returns : goal.returns
returns c =
    same_number_lists _ _ (c.loop-file.invariant.count ∙ sym c.told-opening)
    (λ k h. c.loop-file.invariant.same k (omega (arith, h, c.loop-file-test.false, c.told-opening, c.loop-file.invariant.count)))

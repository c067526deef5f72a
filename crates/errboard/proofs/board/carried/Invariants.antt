use Rattle.std.specs.Prelude.{◌≡◌, ℕ, ◌<◌, length, slice_index}
use Rattle.errseq.specs.Word.{MayBeCarried}
use Rattle.errboard.specs.Views.{files}
use Rattle.errboard.proofs.board.carried.Given as goal

abbrev pub invariant-loop-file : goal.invariant-loop-file
invariant-loop-file l = record {
  count : length l.carried ≡ files;
  same : (k : ℕ) → k < l.file → slice_index l.carried k ≡ slice_index l.words k;
  may : (k : ℕ) → k < l.file → MayBeCarried (slice_index l.words k);
}

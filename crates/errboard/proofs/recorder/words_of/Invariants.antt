use Rattle.std.specs.Prelude.{◌≡◌, ℕ, ◌<◌, length, slice_index}
use Rattle.errboard.specs.Views.{files}
use Rattle.errboard.proofs.recorder.words_of.Given as goal

abbrev pub invariant-loop-file : goal.invariant-loop-file
invariant-loop-file l = record {
  count : length l.words ≡ files;
  same : (k : ℕ) → k < l.file → slice_index l.words k ≡ slice_index l.opening k;
}

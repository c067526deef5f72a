use Rattle.std.proofs.Common.{◌/◌, Some}
use Rattle.radix.specs.Entries.{StandsAt}
use Rattle.radix.specs.Tree.{IsSound, ErasesRun}
use Rattle.radix.proofs.removal.erase_run.Given as goal

abbrev pub invariant-slots : goal.invariant-slots
invariant-slots l = record {
  sound : IsSound l.nodes l.head (Some l.key);
  stands : StandsAt l.nodes l.key l.level (l.place / 64);
  erases : ErasesRun l.fn.nodes l.nodes l.level l.place l.j;
}

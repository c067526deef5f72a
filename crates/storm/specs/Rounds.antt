-- The kinds of calls in turn.
use Rattle.std.specs.Prelude.{ℕ}
use Rattle.storm.specs.declared.steps.Kind.{Kind}
use Rattle.storm.specs.declared.steps.Kind.TheVariants as kind

-- the place of a kind in a round of all of them
abbrev pub place_of : Kind → ℕ
place_of kind.Read = 0
place_of kind.Write = 1
place_of kind.Append = 2
place_of kind.Truncate = 3
place_of kind.Fsync = 4

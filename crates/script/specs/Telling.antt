-- Inside this crate: how the passes of a session go with its world and its board.
use Rattle.std.specs.Prelude.{◌≡◌, ℕ, ◌≤◌, length, Some, option_map}
use Rattle.std.specs.Ordering.{nat_cmp}
use Rattle.std.specs.FinMap as finmap
use Rattle.maps.specs.Maps.{filter_map_values}
use Rattle.errboard.specs.declared.board.Board.{Board}
use Rattle.errboard.specs.Shown.{PassSeen, RecorderSeen}
use Rattle.pc_types.specs.declared.limits.TheConstants.{MAX_FILES}
use Rattle.world.specs.Stepping.{WorldSeen}

abbrev pub Passes : Type 0
Passes = finmap.FinMap nat_cmp PassSeen

-- how many recordings each handle was told of
abbrev pub told_of : Passes → finmap.FinMap nat_cmp ℕ
told_of passes = filter_map_values (λ p. Some p.done) passes

pub record IsSession (w : WorldSeen) (board : Board) (r : RecorderSeen) (passes : Passes) : Type 0 where
  pub same_board : r.board ≡ board
  pub of_board : (h : ℕ) (p : PassSeen) → finmap.get passes h ≡ Some p → p.board ≡ board
  -- each open handle has a pass of its file, and no other pass is there
  pub handles : (h : ℕ) → option_map (λ p. p.file) (finmap.get passes h) ≡ finmap.get w.core.handles h
  pub count : finmap.len passes ≡ finmap.len w.core.handles
  pub few_files : length w.core.files ≤ MAX_FILES

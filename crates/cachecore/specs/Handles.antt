-- Inside this crate: the open handles as a vector of their files, with a place for each number.
use Rattle.std.specs.Prelude.{◌≡◌, ℕ, List, length, Option, None, is_some, slice_index_or}
use Rattle.std.specs.Ordering.{nat_cmp}
use Rattle.std.specs.FinMap as map
use Rattle.std.specs.FinSet as set
use Rattle.maps.specs.Vectors.{by_place}
use Rattle.pc_types.specs.declared.limits.TheConstants.{MAX_HANDLES}

-- each number has a place, which has a file exactly where the number is in use; and those are counted
pub record AreHandles (used : set.FinSet nat_cmp) (files : List (Option ℕ)) (count : ℕ) : Type 0 where
  pub whole : length files ≡ MAX_HANDLES
  pub numbered : (h : ℕ) → set.contains used h ≡ is_some (slice_index_or files h None)
  pub counted : count ≡ map.len (by_place files)

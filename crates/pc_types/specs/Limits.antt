-- The sizes of a cache, and their limits.
use Rattle.std.specs.Prelude.{ℕ, ◌-◌, Bool, ◌&&◌, nat_le}
use Rattle.std.specs.Int.{is_power_of_two}
use Rattle.pc_types.specs.declared.limits.TheConstants.{CLEAN_FRAMES, MAX_BLOCKS, MAX_ERR_CODE, MAX_FRAMES, MAX_PAGE_SIZE, MIN_DIRTY_LIMIT, MIN_FRAMES, MIN_PAGE_SIZE}

-- bytes of a page, frames of the cache, the most dirty pages that a write may lead to, blocks of the device
pub record Sizes : Type 0 where
  pub page : ℕ
  pub frames : ℕ
  pub dirty_limit : ℕ
  pub blocks : ℕ

-- a power of two, 16 to 4,096
abbrev pub is_page_size : ℕ → Bool
is_page_size p = is_power_of_two p && nat_le MIN_PAGE_SIZE p && nat_le p MAX_PAGE_SIZE

-- a page size, 48 to 65,536 frames, a dirty limit from 16 to 32 below the frames, 1 to 2^32 blocks
abbrev pub is_geometry : Sizes → Bool
is_geometry g =
    is_page_size g.page
    && nat_le MIN_FRAMES g.frames
    && nat_le g.frames MAX_FRAMES
    && nat_le MIN_DIRTY_LIMIT g.dirty_limit
    && nat_le g.dirty_limit (g.frames - CLEAN_FRAMES)
    && nat_le 1 g.blocks
    && nat_le g.blocks MAX_BLOCKS

-- 1 to 4,095
abbrev pub is_err_code : ℕ → Bool
is_err_code c = nat_le 1 c && nat_le c MAX_ERR_CODE

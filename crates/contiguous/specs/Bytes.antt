-- Where the bytes of the file are on the device, over every run.
--
-- k is a moment of the run, x a byte of a page and of its block.
use Rattle.std.specs.Prelude.{◌≡◌, ℕ, ◌+◌, ◌*◌, ◌<◌, false, slice_index}
use Rattle.machine.specs.State.{tags_at, valid_at}
use Rattle.runs.specs.Plain.{plain_file}
use Rattle.runs.specs.Runs.{EveryRun, core_at, plain_at, world_at}
use Rattle.runs.specs.World.{block_bytes}
use Rattle.contiguous.specs.Contiguous.{IsOneExtent}

-- byte x of block p is byte p * P + x of the plain file, where page p is neither DIRTY nor under WRITEBACK and that byte is valid
abbrev pub BytesAreInPlace : Type 0
BytesAreInPlace = EveryRun (λ w run. (k f n p x : ℕ)
    → let s = core_at w run k in
    IsOneExtent s f n → p < n → x < s.sizes.page → x < valid_at s f p
    → (tags_at s f p).dirty ≡ false → (tags_at s f p).writeback ≡ false
    → slice_index (block_bytes (world_at w run k) p) x
    ≡ slice_index (plain_file (plain_at w run k) f) (p * s.sizes.page + x))

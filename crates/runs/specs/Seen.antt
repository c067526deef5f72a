-- The plain files that are seen in a world: of each page the bytes that are cached, or else those on the device.
use Rattle.std.specs.Prelude.{ℕ, ◌/◌, ◌%◌, List, map, length, Option, Some, None, slice_index}
use Rattle.std.specs.List.{range_with_len}
use Rattle.machine.specs.State.{Page, file_at, page_at}
use Rattle.runs.specs.Plain.{Plain}
use Rattle.runs.specs.World.{World, on_device}

-- the bytes of a page: those that are cached, or else those on the device
abbrev pub cached_or : List ℕ → Option Page → List ℕ
cached_or b None = b
cached_or b (Some page) = page.bytes

-- byte k of a file: byte k mod P of page k / P
abbrev pub byte_seen : World → ℕ → ℕ → ℕ
byte_seen w f k =
    let P = w.core.sizes.page in
    slice_index (cached_or (on_device w f (k / P)) (page_at w.core f (k / P))) (k % P)

-- a file: these bytes, up to its size
abbrev pub file_seen : World → ℕ → List ℕ
file_seen w f = map (byte_seen w f) (range_with_len 0 (file_at w.core f).size)

-- all files
abbrev pub files_seen : World → Plain
files_seen w = record { files = map (file_seen w) (range_with_len 0 (length w.core.files)); handles = w.core.handles }

-- The cache and the device hold the plain files at every moment.
use Rattle.std.proofs.Common.{◌∙◌}
use Rattle.runs.specs.Plain.{Plain}
use Rattle.runs.specs.World.{World}
use Rattle.runs.specs.Runs.{world_at, plain_at}
use Rattle.runs.specs.Reading.{HoldsFiles, FilesAreHeld}
use Rattle.runs.proofs.events.Coupled.{Coupled, held_is}
use Rattle.runs.proofs.moments.Moments.{coupled_at}

pub holds_files : (w : World) (plain : Plain) → Coupled w plain → HoldsFiles w plain
holds_files w plain c = record {
  count = c.count;
  handles = c.handles;
  sizes = c.sizes;
  cached = λ f p page is. (c.good.pages f p).bytes page is;
  clean = λ f p not_dirty not_writeback. held_is w plain f p ∙ (c.good.pages f p).clean not_dirty not_writeback;
}

pub files_are_held : FilesAreHeld
files_are_held w run first r k = holds_files (world_at w run k) (plain_at w run k) (coupled_at w run first r k)

-- A page that a device fills.
use Rattle.std.specs.Prelude.{◌≡◌, ℕ, List, length, OnOk, OnErr}
use Rattle.std.specs.FinMap as map
use Rattle.std.specs.FinSet as set
use Rattle.pc_types.specs.Spots.{shown}
use Rattle.pc_types.specs.Tags.{no_tags}
use Rattle.blockdev.specs.Device.{Outcome, Reads}
use Rattle.blockdev.specs.Watching.{Watch}
use Rattle.pagestore.specs.Store.{Store, stored_at, with_pages}

-- the store after page p of file f, which was filling, is cached with these bytes
abbrev pub filled : Store → ℕ → ℕ → List ℕ → Store
filled s f p bytes =
    record (with_pages s f (map.insert (stored_at s f).pages p (record { bytes = bytes; tags = no_tags })) s.free)
    { filling = set.remove s.filling (f, p) }

-- the device reads block b for page p of file f, over bytes of no matter, and the page is what the block shows of it
pub record FillsBy (old : Store) (f p : ℕ) (from : Watch) (b valid : ℕ) (r : Outcome) (new : Store) (to : Watch) : Type 0 where
  pub before : List ℕ
  pub after : List ℕ
  pub size : (length before ≡ old.page) × (length after ≡ old.page)
  pub reads : Reads from.device b before r after to.device
  pub unflushed : to.unflushed ≡ from.unflushed
  pub done : OnOk r (new ≡ filled old f p (shown old.page valid after))
  pub failed : OnErr r (new ≡ old)

-- Pages that leave the store, by eviction and by truncation.
use Rattle.std.specs.Prelude.{◌≡◌, ◌+◌, ◌==◌, ◌&&◌, ℕ, Bool, true, false, not, nat_le, nat_lt, List, Option, Some, None}
use Rattle.std.specs.List.{list_any}
use Rattle.std.specs.Ordering.{nat_cmp}
use Rattle.std.specs.FinMap as map
use Rattle.std.specs.FinSet as set
use Rattle.pc_types.specs.declared.ids.FileId.{FileId}
use Rattle.pc_types.specs.declared.ids.PageIndex.{PageIndex}
use Rattle.frames.specs.Table.{Table, is_aside, owner_of}
use Rattle.pagestore.specs.declared.kept.KeptFile.{KeptFile}
use Rattle.machine.specs.State.{Page, is_idle}
use Rattle.machine.specs.PageLists.{Listed, left, cut_off}
use Rattle.machine.specs.ListChanges.{is_idle_page}
use Rattle.pagestore.specs.Store.{Store, is_idle_entry, entry_at, stored_at, stored_page, is_awaited, with_pages}
use Rattle.pagestore.specs.Store.{with_lists}

-- whether the page that a frame was taken for is idle
abbrev pub is_idle_owner : List Bool → List KeptFile → Option (FileId × PageIndex) → Bool
is_idle_owner up files None = false
is_idle_owner up files (Some owner) = is_idle_entry up (entry_at files owner.0.0 owner.1.0)

abbrev pub is_idle_frame : Table → List Bool → List KeptFile → ℕ → Bool
is_idle_frame t up files frame = is_idle_owner up files (owner_of t frame)

-- no frame that is set aside has an idle page
abbrev pub AreBusy : Table → List Bool → List KeptFile → Type 0
AreBusy t up files = (frame : ℕ) → is_aside t frame ≡ true → is_idle_frame t up files frame ≡ false

-- whether a listed page is idle
abbrev pub is_idle_at : Store → Listed → Bool
is_idle_at s e = is_idle_page (stored_page s e.file e.page)

-- an idle page is taken away; none is where no page is idle
abbrev pub Evicts : Store → Option (FileId × PageIndex) → Store → Type 0
Evicts old None new = (list_any (λ file. list_any (λ e. is_idle e.1) (map.entries file.pages)) old.files ≡ false)
    × (new ≡ old)
Evicts old (Some e) new =
    (page : Page) × (stored_page old e.0.0 e.1.0 ≡ Some page) × (is_idle page ≡ true)
    × (new ≡ with_lists (with_pages old e.0.0 (map.remove (stored_at old e.0.0).pages e.1.0) (old.free + 1))
    (left e.0.0 e.1.0 old.lists))

-- the cached pages of file f below n
abbrev pub pages_below : Store → ℕ → ℕ → map.FinMap nat_cmp Page
pages_below s f n = map.retain_keys (stored_at s f).pages (λ p. nat_lt p n)

-- the pages of file f from n on are neither cached nor filling any more, and their frames are free
pub record RemovesFrom (old new : Store) (f n : ℕ) : Type 0 where
  pub pages : new ≡ record (with_pages old f (pages_below old f n) new.free)
      { filling = new.filling; lists = cut_off f n old.lists }
  pub filling : (g q : ℕ) → is_awaited new g q ≡ (is_awaited old g q && not (g == f && nat_le n q))
  pub freed : new.free + map.len (pages_below old f n) + set.len new.filling ≡ old.free
      + map.len (stored_at old f).pages + set.len old.filling

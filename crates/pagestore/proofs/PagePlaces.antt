-- A page of a file among all pages, as a call finds them.
use Rattle.std.proofs.Common.{◌≡◌, ℕ, ◌<◌, length}
use Rattle.std.proofs.lemmas.List.{get_or_read}
use Rattle.std.specs.Prelude.{slice_index_or}
use Rattle.pagestore.specs.declared.kept.KeptFile.{KeptFile}
use Rattle.pagestore.specs.declared.pages.Pages.TheInside.{Inside}
use Rattle.pagestore.specs.Store.{Store, IsStore, store_of, none_kept, kept_at}
use Rattle.pagestore.proofs.StoreFacts.{here_kept}

pub record FilePage : Type 0 where
  pub pages : Inside
  pub kept : IsStore pages.frames pages.uptodate.items pages.files.items pages.dirty
  pub store : Store
  pub seen : store_of pages.frames pages.uptodate.items pages.files.items ≡ store
  pub file : ℕ
  pub page : ℕ
  pub here : file < length store.files

pub file_here : (w : FilePage) → w.file < length w.pages.files.items
file_here w = here_kept w.pages.frames w.pages.uptodate.items w.pages.files.items w.file w.store w.seen w.here

-- a file that was looked up is the file there
pub file_entry : (w : FilePage) (k : KeptFile) → k ≡ slice_index_or w.pages.files.items w.file k
    → k ≡ kept_at w.pages.files.items w.file
file_entry w k value = get_or_read w.pages.files.items w.file k (file_here w) value none_kept

-- A page is evicted; and the table of syncs is no part of what is looked up.
use Rattle.std.proofs.Common.{◌≡◌, ℕ, ◌<◌, Bool, true, false, not, length, refl, ap, ◌∙◌, ◌&&◌, Some, None, is_some}
use Rattle.std.proofs.Common.{nat_cmp}
use Rattle.std.specs.FinMap as finmap
use Rattle.machine.specs.State.{State, File, Page, Sync, file_at, page_at, is_idle}
use Rattle.machine.specs.Changes.{put_file}
use Rattle.runs.specs.Plain.{Plain}
use Rattle.runs.specs.World.{World}
use Rattle.runs.proofs.views.View.{put2, dirty, writeback, towrite, no_gone, stays}
use Rattle.runs.proofs.events.Lookups.{cached_within, page_at-removed, size-put, failures-put}
use Rattle.runs.proofs.events.Coupled.{view, Coupled, After, with_core, file_changed}
use Rattle.runs.proofs.views.Evict.{evict}

module _ (w : World) (plain : Plain) (c : Coupled w plain) where
  abbrev s : State
  s = w.core

  pub other_syncs : (syncs : finmap.FinMap nat_cmp Sync)
      → After w plain no_gone (with_core w (record s { syncs = syncs })) plain
  other_syncs syncs = assumption (stays no_gone (view w plain))

  -- ---- an eviction

  module _ (f p : ℕ) (page : Page) (is : page_at s f p ≡ Some page) (idle : is_idle page ≡ true) where
    here : f < length s.files
    here = cached_within s f p (ap is_some is)

    abbrev file : File
    file = record (file_at s f) { pages = finmap.remove (file_at s f).pages p }

    abbrev without : State
    without = put_file s f file

    evicted_view : view (with_core w without) plain ≡ record (view w plain) { page = put2 (page_at s) f p None }
    evicted_view = λ i. record (view w plain) {
      page = λ g q. page_at-removed s f p here g q i;
      size = λ g. size-put s f (file) here refl g i;
      failures = λ g. failures-put s f (file) here refl g i;
    }

    untagged : (a b d : Bool) → (not a && not b && not d) ≡ true → (a ≡ false) × (b ≡ false) × (d ≡ false)
    untagged true b d e = absurd cc
    untagged false true d e = absurd cc
    untagged false false true e = absurd cc
    untagged false false false e = (refl, refl, refl)

    pub evicted : After w plain no_gone (with_core w without) plain
    evicted = let no = untagged page.tags.dirty page.tags.writeback page.tags.towrite idle in
        file_changed w plain c (with_core w without) f file here refl refl refl refl refl evicted_view
        (evict (view w plain) c.good f p (ap dirty is ∙ no.0) (ap writeback is ∙ no.1) (ap towrite is ∙ no.2)) c.tables

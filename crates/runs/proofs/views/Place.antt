-- What a change of many pages does to each.
use Rattle.std.proofs.Common.{◌≡◌, ℕ, ◌<◌, ◌≢◌, Bool, true, false, cond, List, [], ◌⊎◌, Option, Some, None, is_some}
use Rattle.pc_types.specs.Files.{cut}
use Rattle.machine.specs.State.{Page}
use Rattle.pc_types.specs.Spots.{Spot}
use Rattle.runs.proofs.views.View.{View, Flight, writeback, towrite}
use Rattle.pc_types.specs.declared.kind.Kind.TheVariants.{Fill}

module _ (v : View) (page : ℕ → ℕ → Option Page) (spot : ℕ → ℕ → Option Spot) (content : ℕ → ℕ → List ℕ) where
  -- nothing changes
  pub record IsSame (g q : ℕ) : Type 0 where
    pub on_page : page g q ≡ v.page g q
    pub on_spot : spot g q ≡ v.spot g q
    pub on_content : content g q ≡ v.content g q

  -- nothing is left
  pub record IsGone (g q : ℕ) : Type 0 where
    pub on_page : page g q ≡ None
    pub on_spot : spot g q ≡ None
    pub on_content : content g q ≡ cut [] v.page_size

  -- the block is new, and was free
  pub record IsNew (g q : ℕ) : Type 0 where
    pub block : ℕ
    pub is : spot g q ≡ Some (record { block = block; valid = 0 })
    pub was : v.spot g q ≡ None
    pub within : block < v.blocks
    pub free_spot : (h k : ℕ) (s : Spot) → v.spot h k ≡ Some s → s.block ≢ block
    pub free_request : (t : ℕ) (r : Flight) → v.request t ≡ Some r → r.block ≢ block

  -- the page has new bytes and is DIRTY
  pub record IsPut (g q : ℕ) : Type 0 where
    pub new : Page
    pub is : page g q ≡ Some new
    pub bytes : new.bytes ≡ content g q
    pub dirty : new.tags.dirty ≡ true
    pub writeback : new.tags.writeback ≡ writeback (v.page g q)
    pub towrite : new.tags.towrite ≡ towrite (v.page g q)
    pub no_fill : (t : ℕ) (r : Flight) → v.request t ≡ Some r → r.dropped ≡ false → r.kind ≡ Fill → r.file ≡ g
        → r.page ≡ q → ⊥
    pub block : ((spot g q ≡ v.spot g q) × (is_some (v.spot g q) ≡ true)) ⊎ IsNew g q

-- a request of a page that is gone is dropped
abbrev pub dropped_where : (ℕ → ℕ → Bool) → Flight → Flight
dropped_where gone r = cond (gone r.file r.page) (record r { dropped = true }) r

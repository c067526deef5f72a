-- An eviction is a step of the machine, and the tables still fit after it.
use Rattle.std.proofs.Common.{◌≡◌, ℕ, zero, suc, ◌+◌, ◌<◌, Bool, true, false, cond, eqb, List, [], ◌∷◌, length, get_or}
use Rattle.std.proofs.Common.{refl, ap, sym, subst, ◌∙◌, arith, map}
use Rattle.std.specs.Prelude.{◌||◌, Option, Some, None, is_some, option_map, unwrap_or}
use Rattle.std.specs.List.{list_any}
use Rattle.std.specs.Ordering.{nat_cmp}
use Rattle.std.specs.FinMap as finmap
use Rattle.std.specs.FinMap.{FinMap, get-entries, get-empty}
use Rattle.pc_types.specs.Limits.{Sizes}
use Rattle.pc_types.specs.Tags.{no_tags}
use Rattle.pc_types.specs.declared.ids.FileId.{FileId}
use Rattle.pc_types.specs.declared.ids.PageIndex.{PageIndex}
use Rattle.blockmap.specs.Blocks.{Blocks}
use Rattle.writeback.specs.Flights.{Flights}
use Rattle.machine.specs.State.{Sync, State, File, Page, no_file, file_at, is_idle, page_at}
use Rattle.machine.specs.declared.event.Event.TheVariants as event
use Rattle.machine.specs.declared.event.Reply.TheVariants as reply
use Rattle.pagestore.specs.Cuts.{Evicts}
use Rattle.pagestore.specs.Ranges.{AreSized}
use Rattle.cachecore.specs.Replies.{evicted}
use Rattle.machine.specs.Changes.{put_pages}
use Rattle.machine.specs.Sound.{Sound}
use Rattle.machine.proofs.sound.Pages.{removed_sound}
use Rattle.machine.proofs.steps.Choices.{at_false, at_true}
use Rattle.cachecore.proofs.StepLemmas.{by_change, by_test}
use Rattle.machine.specs.Step.{Step}
use Rattle.pagestore.specs.Store.{Store, stored_at, stored_page, is_awaited}
use Rattle.pagestore.specs.Syncing.{failed_of}
use Rattle.cachecore.specs.Tables.{IsCore, state_of}
use Rattle.machine.specs.Tests.{has_idle}
use Rattle.cachecore.proofs.FileChanges.{core-changed}
use Rattle.cachecore.proofs.HandleLemmas.{len_one_less}
use Rattle.maps.proofs.MapLaws.{any_value, no_entries}
use Rattle.maps.proofs.Maps.{get-remove_nat}
use Rattle.cachecore.proofs.SyncLaws.{files_failed}

-- ---- whether some page is idle

any_entry : (es : List (ℕ × Page)) → list_any is_idle (map (λ (e : ℕ × Page). e.1) es)
    ≡ list_any (λ (e : ℕ × Page). is_idle e.1) es
any_entry [] = refl
any_entry (e ∷ es) = ap (λ b. is_idle e.1 || b) (any_entry es)

abbrev idle_in : File → Bool
idle_in file = list_any (λ (e : ℕ × Page). is_idle e.1) (finmap.entries file.pages)

none_idle : idle_in no_file ≡ true → ⊥
none_idle h =
    absurd (let e : idle_in no_file ≡ false = ap (list_any (λ (e : ℕ × Page). is_idle e.1)) (no_entries nat_cmp) in cc)

any_file : (files : List File) (f : ℕ) → idle_in (get_or files f no_file) ≡ true → list_any idle_in files ≡ true
any_file [] f h = absurd (none_idle h)
any_file (x ∷ files) zero h = ap (λ b. b || list_any idle_in files) h
any_file (x ∷ files) (suc f) h = or_later (idle_in x) (list_any idle_in files) (any_file files f h)
  where
    or_later : (a b : Bool) → b ≡ true → (a || b) ≡ true
    or_later true b e = refl
    or_later false b e = e

some_idle : (s : State) (f p : ℕ) (page : Page) → page_at s f p ≡ Some page → is_idle page ≡ true → has_idle s ≡ true
some_idle s f p page is idle =
    any_file s.files f (sym (any_entry (finmap.entries (file_at s f).pages))
    ∙ any_value nat_cmp is_idle p page (finmap.entries (file_at s f).pages)
    (sym (get-entries (file_at s f).pages p) ∙ is) idle)

-- a page of a file that is not there is not cached
within : (files : List File) (f p : ℕ) → is_some (finmap.get (get_or files f no_file).pages p) ≡ true → f < length files
within [] f p h = absurd (let e = get-empty {X = Page} nat_cmp p in let none = ap is_some e in cc)
within (x ∷ files) zero p h = omega arith
within (x ∷ files) (suc f) p h = let more = within files f p h in omega arith

-- the failures of no file change
pub evicted_failed : (old now : Store) (r : Option (FileId × PageIndex)) → Evicts old r now → (g : ℕ)
    → failed_of now.files g ≡ failed_of old.files g
evicted_failed old now None h g = ap (λ (x : Store). failed_of x.files g) h.1
evicted_failed old now (Some e) h g = files_failed now.files old e.0.0 _ 0 (ap (λ (x : Store). x.files) h.3) g

module _ (sizes : Sizes) (name : ℕ) (handles : FinMap nat_cmp ℕ) (old now : Store) (blocks : Blocks) (flight : Flights)
    (syncs : FinMap nat_cmp Sync) where
  abbrev s : State
  s = state_of sizes name old.files handles blocks flight syncs

  abbrev t : State
  t = state_of sizes name now.files handles blocks flight syncs

  pub evict_step : (r : Option (FileId × PageIndex)) → Evicts old r now → Step s event.Evict (evicted r) t
  evict_step None h = subst (Step s event.Evict reply.NoneIdle) (sym same)
      (by_test s event.Evict reply.NoneIdle (at_false _ _ _ h.0))
    where
      same : t ≡ s
      same = ap (λ (x : Store). state_of sizes name x.files handles blocks flight syncs) h.1
  evict_step (Some e) h =
      by_change s event.Evict (reply.Evicted e.0 e.1) t (at_true _ _ _ (some_idle s e.0.0 e.1.0 h.0 h.1 h.2))
      (ap (option_map is_idle) h.1 ∙ ap Some h.2)
      (ap (λ (x : Store). state_of sizes name x.files handles blocks flight syncs) h.3)

  -- ---- the tables

  pub core-evicted : (r : Option (FileId × PageIndex)) → Evicts old r now → IsCore s old blocks → IsCore t now blocks
  core-evicted None h c =
      subst (λ (x : Store). IsCore (state_of sizes name x.files handles blocks flight syncs) x blocks) (sym h.1) c
  core-evicted (Some e) h c =
      let f = e.0.0 in
      let p = e.1.0 in
      let page = h.0 in
      let there : is_some (stored_page old f p) ≡ true = ap is_some h.1 in
      let here : f < length old.files = within old.files f p there in
      let file : File = record (stored_at old f) { pages = finmap.remove (stored_at old f).pages p } in
      let fewer = len_one_less (stored_at old f).pages p there in
      let free : now.free ≡ old.free + 1 = ap (λ (x : Store). x.free) h.3 in
      let sound : Sound (put_pages s f (finmap.remove (file_at s f).pages p)) =
      removed_sound s c.sound f p page h.1 h.2 in
      let all : t ≡ put_pages s f (finmap.remove (file_at s f).pages p) =
      ap (λ (x : Store). state_of sizes name x.files handles blocks flight syncs) h.3 in
      subst (λ x. IsCore x now blocks) (sym all)
      (core-changed c f here file s.spots s.requests s.syncs now blocks
      (fewer_sized sizes.page p (stored_at old f).pages (c.sized f)) (c.bounded f) (ap (λ (x : Store). x.page) h.3)
      (omega (arith, fewer, free)) (λ g q. ap (λ (x : Store). is_awaited x g q) h.3 ∙ c.filling g q) refl c.holds
      (λ t r e. (c.within t r e, c.filed t r e)) refl refl sound)
    where
      fewer_sized : (P k : ℕ) (m : FinMap nat_cmp Page) → AreSized P m → AreSized P (finmap.remove m k)
      fewer_sized P k m sized =
          record { each = λ q there. one q (eqb q k) (finmap.get m q) refl (get-remove_nat m k q) there }
        where
          one : (q : ℕ) (b : Bool) (o : Option Page) → finmap.get m q ≡ o
              → finmap.get (finmap.remove m k) q ≡ cond b None o → is_some (finmap.get (finmap.remove m k) q) ≡ true
              → length (unwrap_or (finmap.get (finmap.remove m k) q) (record { bytes = []; tags = no_tags })).bytes ≡ P
          one q true o is now there = absurd (let none = ap is_some now in cc)
          one q false o is now there =
              ap (λ (x : Option Page). length (unwrap_or x (record { bytes = []; tags = no_tags })).bytes)
              (now ∙ sym is) ∙ sized.each q (ap is_some (is ∙ sym now) ∙ there)

-- Each step of the machine keeps a state sound, and so does a legal history.
use Rattle.std.proofs.Common.{◌≡◌, ℕ, Bool, true, false, List, [], ◌∷◌, refl, ap, sym, subst, ◌∙◌, inl, inr, ◌&&◌, ◌||◌}
use Rattle.std.proofs.Common.{Option, Some, None, option_map, nat_cmp}
use Rattle.std.specs.FinMap as finmap
use Rattle.std.specs.FinMap.{get-empty}
use Rattle.pc_types.specs.Limits.{Sizes}
use Rattle.pc_types.specs.Spots.{Spot}
use Rattle.machine.specs.declared.event.Event.{Event}
use Rattle.machine.specs.declared.event.Reply.{Reply}
use Rattle.machine.specs.State.{State, Page, Request, Sync, file_at, handle_file, page_at, block_at, tags_of, in_range}
use Rattle.machine.specs.Changes.{to_write, new_sync, sync_begun, is_left}
use Rattle.maps.specs.Maps.{each_value}
use Rattle.machine.specs.Catalogs.{Catalog, IsCatalog, adopted, no_catalog}
use Rattle.machine.specs.History as history
use Rattle.machine.specs.Step.{Step}
use Rattle.machine.specs.Sound.{Sound, StepsStaySound, HistoriesAreSound}
use Rattle.machine.proofs.steps.Cases.{Cases, by_cases}
use Rattle.machine.proofs.steps.Choices.{and_true, mapped_some}
use Rattle.maps.proofs.Maps.{get-each_value}
use Rattle.machine.proofs.changes.Adopted.{no_catalog_is, none_cached}
use Rattle.machine.proofs.sound.Changes.{lookups, TagsFit, IsRetagged, dirty, towrite, tags_fit, not_retagged}
use Rattle.machine.proofs.sound.Changes.{pages_retagged, same_lookups}
use Rattle.machine.proofs.sound.Cuts.{shrunk_sound}
use Rattle.machine.proofs.sound.Lookups.{put_file_tells, page_at-same, page_at-create}
use Rattle.machine.proofs.sound.Pages.{removed_sound, ended_sound, filled_sound, flush_failed_sound, flushed_sound}
use Rattle.machine.proofs.sound.Pages.{makes_zeros_sound, filling_sound, started_sound}
use Rattle.machine.proofs.sound.Writes.{written_sound}

-- a DIRTY page of the range becomes TOWRITE
to_write_retagged : (y : Sync) (q : ℕ) (block : Option ℕ) (page : Option Page) → TagsFit block page
    → IsRetagged block page (option_map (to_write y q) page)
to_write_retagged y q block None fit = not_retagged block None None fit refl
to_write_retagged y q block (Some page) fit =
    record {
      cached = refl;
      writeback = refl;
      towrite = λ e. tagged page.tags.towrite page.tags.dirty (in_range y q) fit.towrite_dirty e;
      dirty = fit.dirty_block;
    }
  where
    tagged : (a b c : Bool) → (a ≡ true → b ≡ true) → (a || b && c) ≡ true → b ≡ true
    tagged true b c old e = old refl
    tagged false true c old e = refl
    tagged false false c old e = absurd cc

module _ (s : State) (ok : Sound s) where
  begun_sound : (f m : ℕ) (y : Sync) → Sound (sync_begun s f m y)
  begun_sound f m y = pages_retagged (lookups s) ok (page_at (sync_begun s f m y))
      (λ g q. elim (put_file_tells s f (record (file_at s f) { pages = each_value (to_write y) (file_at s f).pages }) g
      q) [
        | inl e ↦ subst (IsRetagged (block_at s g q) (page_at s g q))
            (sym (e.1 ∙ get-each_value (to_write y) (file_at s f).pages q
            ∙ ap (λ k. option_map (to_write y q) (page_at s k q)) (sym e.0)))
            (to_write_retagged y q (block_at s g q) (page_at s g q) (tags_fit (lookups s) ok g q))
        | inr e ↦ not_retagged (block_at s g q) (page_at s g q) _ (tags_fit (lookups s) ok g q) e.0
      ])

  -- the page that a sync starts is DIRTY
  left_dirty : (y : Sync) (f p : ℕ) (page : Page) → page_at s f p ≡ Some page → is_left y (p, page) ≡ true
      → page.tags.dirty ≡ true
  left_dirty y f p page is left = sym (ap dirty is)
      ∙ ok.towrite_dirty f p (ap towrite is
      ∙ (and_true page.tags.towrite (in_range y p) (and_true (page.tags.towrite && in_range y p) _ left).0).0)

  -- a record, so that each case determines its state
  record After (new : State) : Type 0 where
    pub sound : Sound new

  cases : Cases s (λ e r new. After new)
  cases = record {
    same = λ e r step q. record { sound = ok };
    writes_none = λ e h o is step. record { sound = ok };
    creates =
        λ f room is. record { sound = same_lookups (lookups s) _ (page_at-create s) (λ g q. refl) (λ t. refl) refl ok };
    opens = λ f h in_files room low. record { sound = ok };
    closes = λ h opened free. record { sound = ok };
    writes = λ e h o b is may. record { sound = written_sound s ok h.0 o b may };
    shrinks = λ h z may less. record { sound = shrunk_sound s ok (handle_file s h.0) z };
    grows = λ h z may more. record {
      sound = same_lookups (lookups s) _ (page_at-same s (handle_file s h.0) _ refl)
          (λ g q. refl) (λ t. refl) refl ok;
    };
    makes_zeros =
        λ h p may unwritten. record { sound = makes_zeros_sound s ok (handle_file s h.0) p.0 may.absent may.idle };
    evicts = λ f p page is idle. record { sound = removed_sound s ok f.0 p.0 page is idle };
    fills = λ h p t may written full is.
        record { sound = filling_sound s ok (handle_file s h.0) p.0 may.absent may.idle written };
    flushes = λ f p page t may is. record { sound = started_sound s ok f.0 p page may.is may.dirty may.clean };
    drops = λ kind end x may dropped. record { sound = ended_sound s ok end.serial.0 };
    fill_fails = λ end x c may live o. record { sound = ended_sound s ok end.serial.0 };
    fill_ends = λ end x b may live o. record { sound = filled_sound s ok end.serial.0 x may.is live _ };
    flush_fails = λ end x c may live o. record { sound = flush_failed_sound s ok end.serial.0 x may.is live c };
    flush_ends = λ end x may live o. record { sound = flushed_sound s ok end.serial.0 x may.is live };
    begins =
        λ h first last m may low. record {
          sound =
              begun_sound (handle_file s h.0) m.0 (new_sync s h.0 first.0 last.0);
        };
    starts =
        λ m y p page t is may given. record {
          sound = started_sound s ok (handle_file s y.handle) p page may.is
              (left_dirty y (handle_file s y.handle) p page may.is may.left) may.clean;
        };
    waits = λ m y e p is pick first page. record { sound = ok };
    over = λ m y r is pick first verdict. record { sound = ok };
    sync_drops = λ m y is. record { sound = ok };
  }

  sound_after : (e : Event) (r : Reply) (new : State) → Step s e r new → Sound new
  sound_after e r new step = (by_cases s (λ e r new. After new) cases e r new step).sound

pub steps_stay_sound : StepsStaySound
steps_stay_sound old new e r step ok = sound_after old ok e r new step

-- a cache whose files stand on the device
first_sound : (catalog : Catalog) (sizes : Sizes) (name : ℕ) → IsCatalog sizes catalog
    → Sound (adopted sizes name catalog)
first_sound catalog sizes name ok = record {
  serial = λ t r e. absurd (let n = get-empty {X = Request} nat_cmp t in cc);
  mapped = λ t r e. absurd (let n = get-empty {X = Request} nat_cmp t in cc);
  unmapped = λ t r e. absurd (let n = get-empty {X = Request} nat_cmp t in cc);
  requests_apart = λ t u r q e. absurd (let n = get-empty {X = Request} nat_cmp t in cc);
  spots_apart = λ f p g q b e k.
      let x = mapped_some (λ (y : Spot). y.block) (finmap.get catalog.spots (f, p)) b e in
      let z = mapped_some (λ (y : Spot). y.block) (finmap.get catalog.spots (g, q)) b k in
      ok.apart f p g q x.0 z.0 x.1 z.1 (x.2 ∙ sym z.2);
  fill = λ t r e. absurd (let n = get-empty {X = Request} nat_cmp t in cc);
  flush = λ t r e. absurd (let n = get-empty {X = Request} nat_cmp t in cc);
  dirty_block = λ f p e. absurd (let n = ap dirty (none_cached sizes name catalog f p) in cc);
  writeback_block =
      λ f p e. absurd (let n = ap (λ (o : Option Page). (tags_of o).writeback) (none_cached sizes name catalog f p) in
      cc);
  towrite_dirty = λ f p e. absurd (let n = ap towrite (none_cached sizes name catalog f p) in cc);
}

leads_sound : (old : State) (es : List (Event × Reply)) (new : State) → Sound old → history.Leads old es new → Sound new
leads_sound old [] new ok h = subst Sound (sym h) ok
leads_sound old (e ∷ es) new ok h = leads_sound h.0 es new (steps_stay_sound old h.0 e.0 e.1 h.1 ok) h.2

pub histories_are_sound : HistoriesAreSound
histories_are_sound catalog sizes name es new ok h =
    leads_sound (adopted sizes name catalog) es new (first_sound catalog sizes name ok) h

-- and so does one from a cache without files
pub blank_sound : (sizes : Sizes) (name : ℕ) (es : List (Event × Reply)) (new : State) → history.After sizes name es new
    → Sound new
blank_sound sizes name es new h = histories_are_sound no_catalog sizes name es new (no_catalog_is sizes) h

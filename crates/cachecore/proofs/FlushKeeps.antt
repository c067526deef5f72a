-- What a cache keeps as the write of a page begins.
use Rattle.std.proofs.Common.{◌≡◌, ℕ, ◌+◌, ◌<◌, ◌≤◌, true, false, length, refl, ap, sym, subst, ◌∙◌, arith, inl}
use Rattle.std.proofs.Common.{inr}
use Rattle.std.specs.Prelude.{nat_le, Option, Some, None, is_some, unwrap_or}
use Rattle.std.specs.FinMap as finmap
use Rattle.std.specs.FinSet as set
use Rattle.std.proofs.lemmas.Bool.Decides.{nat_tests}
use Rattle.pc_types.specs.Spots.{place_cmp}
use Rattle.pc_types.specs.declared.limits.TheConstants.{MAX_IN_FLIGHT, SERIAL_END}
use Rattle.pc_types.specs.declared.kind.Kind.TheVariants.{Flush}
use Rattle.mapping.proofs.MapLemmas.{len_insert_new}
use Rattle.blockmap.specs.Blocks.{Blocks}
use Rattle.blockmap.specs.Keys.{IsPage}
use Rattle.maps.specs.Maps.{change_at}
use Rattle.maps.proofs.Lengths.{len_changed}
use Rattle.maps.proofs.Maps.{get_inserted}
use Rattle.machine.specs.State.{State, File, Page, Request, file_at, page_at, fills, block_at}
use Rattle.machine.specs.Changes.{started, under_write}
use Rattle.machine.specs.Tests.{is_full}
use Rattle.machine.proofs.sound.Changes.{dirty, writeback}
use Rattle.machine.proofs.sound.Lookups.{block_is}
use Rattle.machine.proofs.sound.Pages.{started_sound}
use Rattle.machine.proofs.steps.Choices.{neither}
use Rattle.pagestore.specs.Store.{Store}
use Rattle.cachecore.specs.Tables.{IsCore}
use Rattle.cachecore.proofs.EndKeeps.{sized_changed}
use Rattle.cachecore.proofs.FileKeeps.{all_frames, count_files, each_file, cached_after, file_core, page_here}
use Rattle.cachecore.proofs.HoldLaws.{Holds-begun, not_held}
use Rattle.cachecore.proofs.RequestLaws.{any-begun, not_fill}
use Rattle.cachecore.proofs.SoundFacts.{unheld}

module _ {s : State} {store : Store} {blocks : Blocks} (c : IsCore s store blocks) where
  -- no request has the next serial
  pub fresh : finmap.get s.requests s.next ≡ None
  fresh = go (finmap.get s.requests s.next) refl
    where
      go : (o : Option Request) → finmap.get s.requests s.next ≡ o → o ≡ None
      go None e = refl
      go (Some r) e = absurd (let a = c.sound.serial s.next r e in omega arith)

  -- a request may begin
  module _ (room : is_full s ≡ false) where
    pub held_room : finmap.len blocks.held < 64
    held_room = below (finmap.len s.requests) (finmap.len blocks.held)
        (neither (nat_le MAX_IN_FLIGHT (finmap.len s.requests)) (nat_le SERIAL_END s.next) room).0 c.holds.counted
      where
        below : (n m : ℕ) → nat_le MAX_IN_FLIGHT n ≡ false → m ≡ n → m < 64
        below n m e k = grind (arith, nat_tests)

    pub serials_left : s.next < SERIAL_END
    serials_left =
        less s.next (neither (nat_le MAX_IN_FLIGHT (finmap.len s.requests)) (nat_le SERIAL_END s.next) room).1
      where
        less : (n : ℕ) → nat_le SERIAL_END n ≡ false → n < SERIAL_END
        less n e = grind (arith, nat_tests)

  module _ (f p : ℕ) (page : Page) (at : page_at s f p ≡ Some page) (is_dirty : page.tags.dirty ≡ true)
      (idle : page.tags.writeback ≡ false) where
    abbrev pub block : ℕ
    block = unwrap_or (block_at s f p) 0

    pub has_block : block_at s f p ≡ Some block
    has_block = block_is s f p (c.sound.dirty_block f p (ap dirty at ∙ is_dirty))

    pub unheld_here : finmap.get blocks.held block ≡ None
    unheld_here =
        not_held blocks.held s.requests c.holds block
        (unheld s c.sound f p block has_block (ap is_some at) (ap writeback at ∙ idle))

    module _ (place : IsPage f p) (room : s.next < SERIAL_END) where
      abbrev new : Request
      new = record { kind = Flush; file = f; page = p; block = block; dropped = false }

      abbrev begun_file : File
      begun_file = record (file_at s f) { pages = change_at p under_write (file_at s f).pages }

      here : f < length s.files
      here = page_here s f p page at

      pub flush_begun_core : (now : Store) → now.page ≡ store.page → now.filling ≡ store.filling → now.free ≡ store.free
          → IsCore (started s f p) now (record blocks { spots = s.spots; held = finmap.insert blocks.held block false })
      flush_begun_core now same places free =
          let requests = finmap.insert s.requests s.next new in
          let count = len_changed p under_write (file_at s f).pages in
          let more = len_insert_new s.requests s.next new fresh in
          let left = ap set.len places in
          let all = all_frames c in
          let files = count_files c f begun_file here s.spots (s.next + 1) requests s.syncs in
          let cached = cached_after c f begun_file here s.spots (s.next + 1) requests s.syncs in
          file_core c f begun_file here s.spots (s.next + 1) requests s.syncs now
          (finmap.insert blocks.held block false) refl
          (sized_changed s.sizes.page p under_write (file_at s f).pages (λ page. refl) (c.sized f))
          (record {
            page = same ∙ c.page;
            filling = λ g q. ap (λ (x : set.FinSet place_cmp). set.contains x (g, q)) places ∙ c.filling g q
                ∙ sym (any-begun (fills g q) s.requests s.next new fresh (not_fill new refl g q));
            counted = omega arith;
            holds = Holds-begun blocks.held s.requests c.holds s.next new fresh unheld_here refl;
            within = λ t r e. elim (get_inserted s.requests s.next new t) [
              | inl k ↦ subst (λ (x : Request). IsPage x.file x.page)
                  (let both : Some new ≡ Some r = sym k.1 ∙ e in let a : new ≡ r = cc in a) place
              | inr k ↦ c.within t r (sym k.1 ∙ e)
            ];
            filed = λ t r e. elim (get_inserted s.requests s.next new t) [
              | inl k ↦ (let both : Some new ≡ Some r = sym k.1 ∙ e in let a : new ≡ r = cc in
                  let b : f ≡ r.file = ap (λ (x : Request). x.file) a in let h = here in omega arith)
              | inr k ↦ (let a = c.filed t r (sym k.1 ∙ e) in omega arith)
            ];
            failed = each_file c f begun_file here s.spots (s.next + 1) requests s.syncs
                (λ x. x.failures + finmap.len requests ≤ s.next + 1)
                (let a = c.failed f in omega arith)
                (λ g. (let a = c.failed g in omega arith));
            serials = omega arith;
            sound = started_sound s c.sound f p page at is_dirty idle;
          })

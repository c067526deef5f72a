-- What a cache keeps as a page begins to be read from its block.
use Rattle.std.proofs.Common.{◌≡◌, ℕ, ◌+◌, ◌-◌, ◌<◌, Bool, true, false, cond, eqb, eqb-true, eq-eqb, length, refl}
use Rattle.std.proofs.Common.{ap, sym, subst, ◌∙◌, arith, inl, inr}
use Rattle.std.specs.Prelude.{◌&&◌, Option, Some, None, nat_lt, option_map, unwrap_or}
use Rattle.std.proofs.lemmas.Bool.Decides.{nat_tests}
use Rattle.std.specs.FinMap as finmap
use Rattle.std.specs.FinMap.{FinMap}
use Rattle.std.specs.FinSet as set
use Rattle.std.specs.FinSet.{len-insert}
use Rattle.std.proofs.lemmas.Bool.{false≢true, false_from_ne_true}
use Rattle.pc_types.specs.Spots.{Spot, place_cmp}
use Rattle.pc_types.specs.declared.kind.Kind.TheVariants.{Fill}
use Rattle.pc_types.specs.declared.limits.TheConstants.{SERIAL_END}
use Rattle.mapping.proofs.MapLemmas.{len_insert_new}
use Rattle.blockmap.specs.Blocks.{Blocks, is_mapped, has_block}
use Rattle.blockmap.specs.Keys.{IsPage}
use Rattle.blockmap.proofs.MapLemmas.{mapped_at}
use Rattle.machine.specs.State.{State, Request, fills, is_cached, is_filling, spot_at, block_at}
use Rattle.machine.specs.Changes.{requested}
use Rattle.machine.specs.PageLists.{entered}
use Rattle.pagestore.specs.Store.{Store, is_awaited}
use Rattle.cachecore.specs.Tables.{IsCore}
use Rattle.machine.proofs.steps.Choices.{and_true}
use Rattle.cachecore.proofs.FileKeeps.{all_frames, requests_core}
use Rattle.cachecore.proofs.FlushKeeps.{fresh}
use Rattle.cachecore.proofs.HoldLaws.{Holds-begun, not_held}
use Rattle.maps.proofs.MapLaws.{places_total}
use Rattle.cachecore.proofs.RequestLaws.{any-begun, shown-begun, fills_of}
use Rattle.cachecore.proofs.SoundFacts.{unheld_absent}
use Rattle.maps.proofs.Maps.{get_inserted}
use Rattle.machine.proofs.sound.Pages.{filling_sound}
use Rattle.pagestore.proofs.StoreEntries.{contains-put_in}

-- as a test has it
pub lt_true : (a b : ℕ) → a < b → nat_lt a b ≡ true
lt_true a b h = grind (arith, nat_tests)

module _ {s : State} {store : Store} {blocks : Blocks} (c : IsCore s store blocks) (f p : ℕ)
    (absent : is_cached s f p ≡ false) (idle : is_filling s f p ≡ false) (spot : Spot)
    (at : spot_at s f p ≡ Some spot) where
  has : block_at s f p ≡ Some spot.block
  has = ap (option_map (λ (x : Spot). x.block)) at

  -- the block of the page
  abbrev pub block : ℕ
  block = unwrap_or (block_at s f p) 0

  pub block_is : block ≡ spot.block
  block_is = ap (λ o. unwrap_or (option_map (λ (x : Spot). x.block) o) 0) at

  pub mapped_here : s.spots ≡ blocks.spots → is_mapped blocks.spots spot.block ≡ true
  mapped_here spots =
      mapped_at blocks.spots (f, p) spot.block
      (ap (λ o. has_block o spot.block) (ap (λ (m : FinMap place_cmp Spot). finmap.get m (f, p)) (sym spots) ∙ at)
      ∙ eq-eqb spot.block spot.block refl)

  pub unheld_here : finmap.get blocks.held spot.block ≡ None
  unheld_here = not_held blocks.held s.requests c.holds spot.block
      (unheld_absent s c.sound f p spot.block has absent idle)

  abbrev new : Request
  new = record { kind = Fill; file = f; page = p; block = block; dropped = false }

  abbrev pub filling_store : Store
  filling_store =
      record store { filling = set.insert store.filling (f, p); free = store.free - 1; lists = entered f p store.lists }

  fills_here : (g q : ℕ) (b : Bool) → (eqb g f && eqb q p) ≡ b
      → cond b true (is_awaited store g q) ≡ is_filling (requested s Fill f p) g q
  fills_here g q true e =
      let parts = and_true (eqb g f) (eqb q p) e in
      sym (shown-begun (fills g q) s.requests s.next new
      (λ i. eq-eqb f g (sym (eqb-true g f parts.0)) i && eq-eqb p q (sym (eqb-true q p parts.1)) i))
  fills_here g q false e = c.filling g q
      ∙ sym (any-begun (fills g q) s.requests s.next new (fresh c)
      (false_from_ne_true (fills g q new) (λ passes.
      let h = fills_of g q new passes in
      false≢true (sym e ∙ (λ i. eq-eqb g f (sym h.2) i && eq-eqb q p (sym h.3) i)))))

  module _ (place : IsPage f p) (here : f < length s.files) (written : 0 < spot.valid) (some : 0 < store.free)
      (room : s.next < SERIAL_END) where
    pub fill_begun_core : IsCore (requested s Fill f p) filling_store
        (record blocks { spots = s.spots; held = finmap.insert blocks.held (block) false })
    fill_begun_core =
        let more = len_insert_new s.requests s.next new (fresh c) in
        let waits : set.len (set.insert store.filling (f, p)) ≡ set.len store.filling + 1 =
        len-insert places_total store.filling (f, p)
        ∙ ap (λ b. cond b (set.len store.filling) (set.len store.filling + 1)) (c.filling f p ∙ idle) in
        let all = all_frames c in
        requests_core c s.spots (s.next + 1) (finmap.insert s.requests s.next new) s.syncs filling_store
        (finmap.insert blocks.held (block) false)
        (record {
          page = c.page;
          filling = λ g q. contains-put_in store.filling f p true g q ∙ fills_here g q (eqb g f && eqb q p) refl;
          counted = omega arith;
          holds = Holds-begun blocks.held s.requests c.holds s.next new (fresh c)
              (ap (finmap.get blocks.held) block_is ∙ unheld_here) refl;
          within = λ t r e. elim (get_inserted s.requests s.next new t) [
            | inl k ↦ subst (λ (x : Request). IsPage x.file x.page)
                (let both : Some new ≡ Some r = sym k.1 ∙ e in let a : new ≡ r = cc in a) place
            | inr k ↦ c.within t r (sym k.1 ∙ e)
          ];
          filed = λ t r e. elim (get_inserted s.requests s.next new t) [
            | inl k ↦ (let both : Some new ≡ Some r = sym k.1 ∙ e in let a : new ≡ r = cc in
                let b : f ≡ r.file = ap (λ (x : Request). x.file) a in let h = here in omega arith)
            | inr k ↦ c.filed t r (sym k.1 ∙ e)
          ];
          failed = λ g. (let a = c.failed g in omega arith);
          serials = omega arith;
          sound = filling_sound s c.sound f p absent idle
              (ap (λ (o : Option Spot). nat_lt 0 (unwrap_or (option_map (λ (x : Spot). x.valid) o) 0)) at ∙ lt_true 0 spot.valid written);
        })

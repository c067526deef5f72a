-- The requests in flight hold their blocks after a truncation: those of the pages cut off are dropped, and their blocks
-- are cut.
use Rattle.std.proofs.Common.{◌≡◌, ℕ, Bool, true, false, cond, eqb, eqb-true, eq-eqb}
use Rattle.std.proofs.Common.{refl, ap, sym, ◌∙◌}
use Rattle.std.specs.Prelude.{◌&&◌, ◌||◌, Option, Some, None, is_some, option_map, nat_le}
use Rattle.std.specs.Ordering.{nat_cmp}
use Rattle.std.specs.FinMap as finmap
use Rattle.std.specs.FinMap.{FinMap}
use Rattle.std.proofs.lemmas.Bool.{and_parts, and_from, false_from_ne_true, false≢true}
use Rattle.pc_types.specs.Spots.{Spot}
use Rattle.blockmap.specs.Blocks.{Blocks, Spots, CutsFrom, has_block, is_from, is_cut}
use Rattle.blockmap.proofs.MapLemmas.{any_key, any_some}
use Rattle.machine.specs.State.{State, Request, page_count, block_at}
use Rattle.maps.specs.Maps.{each_value}
use Rattle.machine.specs.Changes.{cut_request}
use Rattle.cachecore.specs.Holding.{Holds}
use Rattle.machine.specs.Sound.{Sound}
use Rattle.maps.proofs.Maps.{get-each_value}
use Rattle.maps.proofs.MapLaws.{len-each_value, same_nat_map}
use Rattle.machine.proofs.steps.Choices.{mapped_some}

-- as many are held
len-keyed : (old new : FinMap nat_cmp Bool) (x : ℕ → Bool)
    → ((b : ℕ) → finmap.get new b ≡ option_map (λ was. was || x b) (finmap.get old b))
    → finmap.len new ≡ finmap.len old
len-keyed old new x is =
    let g : ℕ → Bool → Bool = λ b was. was || x b in
    ap finmap.len (same_nat_map new (each_value g old) (λ b. is b ∙ sym (get-each_value g old b)))
    ∙ len-each_value g old

-- ---- which are cut

has_of : (o : Option Spot) (b : ℕ) → option_map (λ (x : Spot). x.block) o ≡ Some b → has_block o b ≡ true
has_of None b e = absurd cc
has_of (Some x) b e = eq-eqb x.block b (let same : x.block ≡ b = cc in same)

block_of_has : (o : Option Spot) (b : ℕ) → has_block o b ≡ true → option_map (λ (x : Spot). x.block) o ≡ Some b
block_of_has None b e = absurd (false≢true e)
block_of_has (Some x) b e = ap Some (eqb-true x.block b e)

some_has : (o : Option Spot) (b : ℕ) → has_block o b ≡ true → is_some o ≡ true
some_has None b e = e
some_has (Some x) b e = refl

module _ (s : State) (ok : Sound s) (f z : ℕ) where
  abbrev n : ℕ
  n = page_count s.sizes.page z

  abbrev cut : Request → Request
  cut = cut_request f n

  abbrev gone : Request → Bool
  gone r = eqb r.file f && nat_le n r.page

  cut_block : (r : Request) → (cut r).block ≡ r.block
  cut_block r = elim (gone r) as (λ b. let q : Request = cond b (record r { dropped = true }) r in q.block ≡ r.block)
      [ true ↦ refl | false ↦ refl ]

  abbrev is_cut_now : ℕ → Bool
  is_cut_now b = is_cut s.spots f n b

  shows : (t : ℕ) (r : Request) → finmap.get s.requests t ≡ Some r → r.dropped ≡ false → gone r ≡ true
      → is_cut_now r.block ≡ true
  shows t r is live off =
      let has = has_of (finmap.get s.spots (r.file, r.page)) r.block (ok.mapped t r is live) in
      any_key s.spots (λ place. is_from f n place && has_block (finmap.get s.spots place) r.block) (r.file, r.page)
      (some_has (finmap.get s.spots (r.file, r.page)) r.block has) (and_from _ _ off has)

  hides : (t : ℕ) (r : Request) → finmap.get s.requests t ≡ Some r → r.dropped ≡ false → gone r ≡ false
      → is_cut_now r.block ≡ false
  hides t r is live off = false_from_ne_true (is_cut_now r.block) (λ c.
      let w = any_some (λ place. is_from f n place && has_block (finmap.get s.spots place) r.block)
      (finmap.keys s.spots) c in
      let both = and_parts (is_from f n w.0) (has_block (finmap.get s.spots w.0) r.block) w.1 in
      let there : block_at s w.0.0 w.0.1 ≡ Some r.block = block_of_has (finmap.get s.spots w.0) r.block both.1 in
      let same = ok.spots_apart w.0.0 w.0.1 r.file r.page r.block there (ok.mapped t r is live) in
      let from : (eqb w.0.0 f && nat_le n w.0.1) ≡ true = both.0 in
      let here : gone r ≡ true = sym (λ i. eqb (same.0 i) f && nat_le n (same.1 i)) ∙ from in
      false≢true (sym off ∙ here))

  cut_drops : (t : ℕ) (r : Request) → finmap.get s.requests t ≡ Some r
      → (r.dropped || is_cut_now r.block) ≡ (cut r).dropped
  cut_drops t r is = go r.dropped (gone r) refl refl
    where
      go : (d g : Bool) → r.dropped ≡ d → gone r ≡ g
          → (d || is_cut_now r.block) ≡ (let q : Request = cond g (record r { dropped = true }) r in q.dropped)
      go true true a b = refl
      go true false a b = sym a
      go false true a b = shows t r is a b
      go false false a b = hides t r is a b ∙ sym a

  pub Holds-cut : (old new : Blocks) → s.spots ≡ old.spots → CutsFrom old new f n → Holds old.held s.requests
      → Holds new.held (each_value (λ _. cut) s.requests)
  Holds-cut old new spots c h = record {
    held_is = λ t r e.
        let w = mapped_some cut (finmap.get s.requests t) r (sym (get-each_value (λ _. cut) s.requests t) ∙ e) in
        let block : r.block ≡ w.0.block = sym (ap (λ (x : Request). x.block) w.2) ∙ cut_block w.0 in
        ap (finmap.get new.held) block ∙ now w.0.block
        ∙ ap (option_map (λ was. was || is_cut_now w.0.block)) (h.held_is t w.0 w.1) ∙ ap Some (cut_drops t w.0 w.1)
        ∙ ap (λ (x : Request). Some x.dropped) w.2;
    holder = λ b d e.
        let w = mapped_some (λ was. was || is_cut_now b) (finmap.get old.held b) d (sym (now b) ∙ e) in
        let k = h.holder b w.0 w.1 in
        (k.0, cut k.1, get-each_value (λ _. cut) s.requests k.0 ∙ ap (option_map cut) k.2, cut_block k.1 ∙ k.3);
    alone = λ t u r q a b same.
        let x = mapped_some cut (finmap.get s.requests t) r (sym (get-each_value (λ _. cut) s.requests t) ∙ a) in
        let y = mapped_some cut (finmap.get s.requests u) q (sym (get-each_value (λ _. cut) s.requests u) ∙ b) in
        let one : x.0.block ≡ r.block = sym (cut_block x.0) ∙ ap (λ (k : Request). k.block) x.2 in
        let two : q.block ≡ y.0.block = sym (ap (λ (k : Request). k.block) y.2) ∙ cut_block y.0 in
        h.alone t u x.0 y.0 x.1 y.1 (one ∙ same ∙ two);
    counted = len-keyed old.held new.held is_cut_now now ∙ h.counted ∙ sym (len-each_value (λ _. cut) s.requests);
  }
    where
      now : (b : ℕ) → finmap.get new.held b ≡ option_map (λ was. was || is_cut_now b) (finmap.get old.held b)
      now b = c.held b ∙ ap (λ (m : Spots). option_map (λ was. was || is_cut m f n b) (finmap.get old.held b))
          (sym spots)

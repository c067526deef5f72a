-- A DIRTY page is cached and has its block, so a write of this page alone passes every test, and takes neither a frame
-- nor a block.
use Rattle.std.proofs.Common.{◌≡◌, ℕ, ◌+◌, Bool, true, false, cond, not, [], ◌∷◌, length, refl, ap, sym, ◌∙◌, arith}
use Rattle.std.specs.Prelude.{◌&&◌, ◌||◌, Option, Some, None, is_some, option_map, if◌then◌else◌, nat_lt, find}
use Rattle.std.specs.Prelude.{count_by}
use Rattle.std.specs.FinMap as finmap
use Rattle.std.specs.FinMap.{get-entries, entries_sorted}
use Rattle.std.proofs.lemmas.Bool.{false≢true}
use Rattle.std.proofs.lemmas.Bool.Decides.{nat_tests}
use Rattle.std.proofs.lemmas.List.Sums.{length-filter, sum_by-cons}
use Rattle.pc_types.specs.declared.kind.Kind.{Kind}
use Rattle.pc_types.specs.declared.kind.Kind.TheVariants.{Fill, Flush}
use Rattle.pc_types.specs.declared.refusal.Refusal.TheVariants.{DirtyLimit, NoFrame, NoSpace}
use Rattle.pc_types.specs.Kinds.{is_fill}
use Rattle.pc_types.specs.Spots.{Spot}
use Rattle.machine.specs.declared.event.Reply.{Reply}
use Rattle.machine.specs.State.{State, Page, dirty_total, fills, free_blocks, free_frames, is_cached, is_filling}
use Rattle.machine.specs.State.{page_at, spot_at, tags_at, tags_of, touched, without_block, is_written}
use Rattle.machine.specs.Tests.{covers, must_fill, refuse, room_tests, write_stop}
use Rattle.machine.specs.Sound.{Sound}
use Rattle.cachecore.proofs.FillPlaces.{fills_parts, passing}

tagged_some : (o : Option Page) → (tags_of o).dirty ≡ true → is_some o ≡ true
tagged_some None h = absurd (false≢true h)
tagged_some (Some page) h = refl

block_some : (o : Option Spot) → is_some (option_map (λ spot. spot.block) o) ≡ true → is_some o ≡ true
block_some None h = absurd (false≢true h)
block_some (Some spot) h = refl

count_one : (test : ℕ → Bool) (p : ℕ) → test p ≡ false → count_by test (p ∷ []) ≡ 0
count_one test p e = sum_by-cons (λ q. cond (test q) 1 0) p [] ∙ ap (λ b. cond b 1 0 + count_by test []) e

live : (k : Kind) (d : Bool) → (is_fill k && not d) ≡ true → (k ≡ Fill) × (d ≡ false)
live Fill false h = (refl, refl)
live Fill true h = absurd (false≢true h)
live Flush d h = absurd (false≢true h)

-- a page that is cached is not filling
pub cached_unfilled : (s : State) → Sound s → (f p : ℕ) → is_cached s f p ≡ true → is_filling s f p ≡ false
cached_unfilled s ok f p cached = go (is_filling s f p) refl
  where
    go : (b : Bool) → is_filling s f p ≡ b → is_filling s f p ≡ false
    go false e = e
    go true e =
        let x = passing (fills f p) (finmap.entries s.requests) (entries_sorted s.requests) e in
        let of = fills_parts f p x.1 x.3 in
        let kind = live x.1.kind x.1.dropped of.0 in
        let none : page_at s x.1.file x.1.page ≡ None = ok.fill x.0 x.1 (get-entries s.requests x.0 ∙ x.2) kind.1
        kind.0 in
        absurd (false≢true (ap is_some (sym none) ∙ (λ i. is_cached s (of.1 i) (of.2 i)) ∙ cached))

module _ (s : State) (ok : Sound s) (f p : ℕ) (dirty : (tags_at s f p).dirty ≡ true) where
  pub dirty_cached : is_cached s f p ≡ true
  dirty_cached = tagged_some (page_at s f p) dirty

  pub dirty_placed : is_some (spot_at s f p) ≡ true
  dirty_placed = block_some (spot_at s f p) (ok.dirty_block f p dirty)

  pub dirty_unfilled : is_filling s f p ≡ false
  dirty_unfilled = cached_unfilled s ok f p dirty_cached

  -- n bytes that touch this page alone
  module _ (o n : ℕ) (alone : touched s.sizes.page o n ≡ p ∷ []) where
    pub dirty_unstopped : write_stop s f o n ≡ None
    dirty_unstopped =
        let stops = λ (q : ℕ). is_filling s f q || (must_fill s f q && not (covers s.sizes.page o n q)) in
        let goes : stops p ≡ false =
        λ i. dirty_unfilled i || ((not (dirty_cached i) && is_written s f p) && not (covers s.sizes.page o n p)) in
        ap (find stops) alone ∙ ap (λ b. cond b (Some p) None) goes

    pub dirty_room : room_tests s f o n ≡ None
    dirty_room =
        let dirtied = ap (count_by (λ q. not (tags_at s f q).dirty)) alone
        ∙ count_one (λ q. not (tags_at s f q).dirty) p (ap not dirty) in
        let made = ap (count_by (λ q. not (is_cached s f q))) alone
        ∙ count_one (λ q. not (is_cached s f q)) p (ap not dirty_cached) in
        let placed = ap (λ ps. length (without_block s f ps)) alone
        ∙ length-filter (λ q. not (is_some (spot_at s f q))) (p ∷ [])
        ∙ count_one (λ q. not (is_some (spot_at s f q))) p (ap not dirty_placed) in
        (λ i. left (dirtied i) (made i) (placed i)) ∙ none
      where
        left : ℕ → ℕ → ℕ → Option Reply
        left d m b =
            if nat_lt 0 d && nat_lt s.sizes.dirty_limit (dirty_total s + d) then refuse DirtyLimit
            else if nat_lt (free_frames s) m then refuse NoFrame
            else if nat_lt (length (free_blocks s)) b then refuse NoSpace
            else None

        none : left 0 0 0 ≡ None
        none =
            let frames : nat_lt (free_frames s) 0 ≡ false = grind (arith, nat_tests) in
            let blocks : nat_lt (length (free_blocks s)) 0 ≡ false = grind (arith, nat_tests) in
            (λ i. cond (frames i) (refuse NoFrame) (cond (blocks i) (refuse NoSpace) None))

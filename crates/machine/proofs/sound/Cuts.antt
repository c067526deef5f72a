-- A truncation keeps a state sound: the pages that are cut off lose their blocks, and their requests are dropped.
use Rattle.std.proofs.Common.{◌≡◌, ℕ, ◌/◌, Bool, true, false, cond, eqb, eqb-true, eq-eqb, refl, ap, sym, subst, inl}
use Rattle.std.proofs.Common.{inr, ◌&&◌, Option, Some, None, is_some, option_map, nat_le}
use Rattle.std.specs.FinMap as finmap
use Rattle.pc_types.specs.Spots.{Spot}
use Rattle.machine.specs.State.{State, File, Page, Request, file_at, page_at, spot_at, page_count, has_block, block_at}
use Rattle.machine.specs.Changes.{boundary, cut_page, cut_request, shrunk}
use Rattle.machine.specs.Sound.{Sound}
use Rattle.machine.proofs.steps.Choices.{and_true}
use Rattle.maps.proofs.Maps.{get-each_value}
use Rattle.machine.proofs.changes.ChangeLaws.{cut_pages, get-cut_pages}
use Rattle.machine.proofs.sound.Changes.{lookups, TagsFit, IsRetagged, IsAfterCut, tags_fit, not_retagged}
use Rattle.machine.proofs.sound.Changes.{pages_retagged, pages_cut, same_lookups}
use Rattle.machine.proofs.sound.Lookups.{put_file_tells, cut_off, block_at-shrunk}

-- the page that the cut falls into becomes DIRTY where it has a block
cut_retagged : (P z : ℕ) (has : Bool) (block : Option ℕ) → is_some block ≡ has → (page : Option Page)
    → TagsFit block page → IsRetagged block page (option_map (cut_page P z has) page)
cut_retagged P z has block e None fit = not_retagged block None None fit refl
cut_retagged P z true block e (Some x) fit =
    record { cached = refl; writeback = refl; towrite = λ _. refl; dirty = λ _. e }
cut_retagged P z false block e (Some x) fit = not_retagged block (Some x) (Some x) fit refl

nothing_fits : TagsFit None None
nothing_fits = record { dirty_block = λ e. e; writeback_block = λ e. e; towrite_dirty = λ e. e }

mapped_some : (o : Option Spot) → is_some (option_map (λ (x : Spot). x.block) o) ≡ is_some o
mapped_some None = refl
mapped_some (Some x) = refl

module _ (s : State) (ok : Sound s) (f z : ℕ) where
  abbrev P : ℕ
  P = s.sizes.page

  abbrev gone : ℕ → ℕ → Bool
  gone = cut_off s f z

  abbrev cut_file : File
  cut_file = record (file_at s f) { size = z; pages = cut_pages s f z }

  after_cut : (r : Request) → IsAfterCut gone r (cut_request f (page_count P z) r)
  after_cut r = go (gone r.file r.page) refl
    where
      go : (b : Bool) → gone r.file r.page ≡ b → IsAfterCut gone r (cond b (record r { dropped = true }) r)
      go true e =
          record { kind = refl; file = refl; page = refl; block = refl; dropped = λ _. refl; as_was = λ k. absurd cc }
      go false e =
          record { kind = refl; file = refl; page = refl; block = refl; dropped = λ k. absurd cc; as_was = λ _. refl }

  abbrev Retagged : ℕ → ℕ → Option Page → Type 0
  Retagged g q page = IsRetagged (cond (gone g q) None (block_at s g q)) (cond (gone g q) None (page_at s g q)) page

  of_file : (q : ℕ) → Retagged f q (finmap.get (cut_pages s f z) q)
  of_file q = subst (Retagged f q) (sym (get-cut_pages s f z q))
      (go (gone f q) (ap (λ b. b && nat_le (page_count P z) q) (eq-eqb f f refl))
      (eqb (z / P) q && is_some (boundary s f z)))
    where
      fit : TagsFit (block_at s f q) (page_at s f q)
      fit = tags_fit (lookups s) ok f q

      go : (c : Bool) → c ≡ nat_le (page_count P z) q → (b : Bool)
          → IsRetagged (cond c None (block_at s f q)) (cond c None (page_at s f q))
          (cond (nat_le (page_count P z) q) None
          (cond b (option_map (cut_page P z (has_block s f q)) (page_at s f q)) (page_at s f q)))
      go c e b =
          subst (λ k. IsRetagged (cond c None (block_at s f q)) (cond c None (page_at s f q))
          (cond k None (cond b (option_map (cut_page P z (has_block s f q)) (page_at s f q)) (page_at s f q)))) e
          (each c b)
        where
          each : (c b : Bool) → IsRetagged (cond c None (block_at s f q)) (cond c None (page_at s f q))
              (cond c None (cond b (option_map (cut_page P z (has_block s f q)) (page_at s f q)) (page_at s f q)))
          each true b = not_retagged None None None nothing_fits refl
          each false true = cut_retagged P z (has_block s f q) (block_at s f q) (mapped_some (spot_at s f q))
              (page_at s f q) fit
          each false false = not_retagged (block_at s f q) (page_at s f q) (page_at s f q) fit refl

  retagged : (g q : ℕ) → Retagged g q (page_at (shrunk s f z) g q)
  retagged g q = elim (put_file_tells s f cut_file g q) [
    | inl h ↦ subst (Retagged g q) (sym h.1)
        (subst (λ k. Retagged k q (finmap.get (cut_pages s f z) q)) (sym h.0) (of_file q))
    | inr h ↦ subst (Retagged g q) (sym h.0) (go h.1 (gone g q) refl)
  ]
    where
      go : (g ≡ f → page_at s g q ≡ None) → (b : Bool) → gone g q ≡ b
          → IsRetagged (cond b None (block_at s g q)) (cond b None (page_at s g q)) (page_at s g q)
      go none true e = not_retagged None None (page_at s g q) nothing_fits
          (none (eqb-true g f (and_true (eqb g f) (nat_le (page_count P z) q) e).0))
      go none false e = not_retagged (block_at s g q) (page_at s g q) (page_at s g q) (tags_fit (lookups s) ok g q) refl

  pub shrunk_sound : Sound (shrunk s f z)
  shrunk_sound = same_lookups _ (lookups (shrunk s f z)) (λ g q. refl) (block_at-shrunk s f z)
      (get-each_value (λ _. cut_request f (page_count P z)) s.requests) refl
      (pages_retagged _ (pages_cut (lookups s) ok gone (cut_request f (page_count P z)) after_cut)
      (page_at (shrunk s f z)) retagged)

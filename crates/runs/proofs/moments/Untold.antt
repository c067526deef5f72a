-- Bytes of blocks that are not valid are never told.
use Rattle.std.proofs.Common.{◌≡◌, ℕ, ◌/◌, ◌%◌, List, [], ◌∷◌, length, get_or, refl, ap, sym, ◌∙◌, arith, map, Option, Some}
use Rattle.std.proofs.Common.{None}
use Rattle.std.specs.FinMap as finmap
use Rattle.std.specs.List.{range_with_len}
use Rattle.std.proofs.lemmas.List.{take_all}
use Rattle.pc_types.specs.Files.{cut}
use Rattle.pc_types.specs.Spots.{Spot}
use Rattle.machine.specs.Catalogs.{Catalog}
use Rattle.machine.specs.State.{State, File, file_at, page_at, spot_at}
use Rattle.machine.proofs.changes.Adopted.{adopted_file, none_cached}
use Rattle.runs.specs.Plain.{Plain}
use Rattle.runs.specs.Seen.{cached_or, byte_seen, file_seen, files_seen}
use Rattle.runs.specs.Runs.{Adopts, Steps, plain_at, plain_from, plain_move}
use Rattle.runs.specs.Untold.{moves, ValidAlike, OtherBytesAreUntold}
use Rattle.runs.specs.World.{World, Move, block_bytes, on_device}
use Rattle.runs.proofs.views.View.{held_by}

-- ---- two first worlds of one catalog

module _ (catalog : Catalog) (w v : World) (a : Adopts catalog w) (b : Adopts catalog v)
    (page : w.core.sizes.page ≡ v.core.sizes.page) (alike : ValidAlike catalog w v) where
  shows_alike : (f p : ℕ) (o : Option Spot) → finmap.get catalog.spots (f, p) ≡ o
      → held_by (block_bytes w) w.core.sizes.page o ≡ held_by (block_bytes v) v.core.sizes.page o
  shows_alike f p None is = ap (cut []) page
  shows_alike f p (Some x) is = λ i. cut (alike f p x is i) (page i)

  same_device : (f p : ℕ) → on_device w f p ≡ on_device v f p
  same_device f p =
      ap (λ (s : State). held_by (block_bytes w) w.core.sizes.page (spot_at s f p)) a.core
      ∙ shows_alike f p (finmap.get catalog.spots (f, p)) refl
      ∙ sym (ap (λ (s : State). held_by (block_bytes v) v.core.sizes.page (spot_at s f p)) b.core)

  same_page : (f p : ℕ) → page_at w.core f p ≡ page_at v.core f p
  same_page f p =
      ap (λ (s : State). page_at s f p) a.core ∙ none_cached w.core.sizes w.core.name catalog f p
      ∙ sym (ap (λ (s : State). page_at s f p) b.core ∙ none_cached v.core.sizes v.core.name catalog f p)

  same_size : (f : ℕ) → (file_at w.core f).size ≡ (file_at v.core f).size
  same_size f =
      ap (λ (s : State). (file_at s f).size) a.core
      ∙ ap (λ (x : File). x.size) (adopted_file w.core.sizes w.core.name catalog f)
      ∙ sym (ap (λ (s : State). (file_at s f).size) b.core
      ∙ ap (λ (x : File). x.size) (adopted_file v.core.sizes v.core.name catalog f))

  same_byte : (f k : ℕ) → byte_seen w f k ≡ byte_seen v f k
  same_byte f k = λ i. get_or (cached_or (same_device f (k / page i) i) (same_page f (k / page i) i)) (k % page i) 0

  same_file : (f : ℕ) → file_seen w f ≡ file_seen v f
  same_file f = λ i. map (λ k. same_byte f k i) (range_with_len 0 (same_size f i))

  same_count : length w.core.files ≡ length v.core.files
  same_count = ap (λ (s : State). length s.files) a.core ∙ sym (ap (λ (s : State). length s.files) b.core)

  pub same_files : files_seen w ≡ files_seen v
  same_files = λ i. record {
    files = map (λ f. same_file f i) (range_with_len 0 (same_count i));
    handles = (ap (λ (s : State). s.handles) a.core ∙ sym (ap (λ (s : State). s.handles) b.core)) i;
  }

-- ---- plain files are by the moves alone

abbrev after_moves : Plain → List Move → Plain
after_moves plain [] = plain
after_moves plain (move ∷ more) = after_moves (plain_move plain move) more

by_moves : (run : Steps) (plain : Plain) → plain_from plain run ≡ after_moves plain (moves run)
by_moves [] plain = refl
by_moves (step ∷ steps) plain = by_moves steps (plain_move plain step.0)

pub other_bytes_are_untold : OtherBytesAreUntold
other_bytes_are_untold catalog w v ok a b page alike run other same =
    at_end w run ∙ (λ i. after_moves (same_files catalog w v a b page alike i) (same i)) ∙ sym (at_end v other)
  where
    at_end : (w : World) (run : Steps) → plain_at w run (length run) ≡ after_moves (files_seen w) (moves run)
    at_end w run = ap (plain_from (files_seen w)) (take_all (length run) run (omega arith)) ∙ by_moves run (files_seen w)

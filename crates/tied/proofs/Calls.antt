-- What a device call leaves, as a fate of its request, and as the device.
use Rattle.std.proofs.Common.{◌≡◌, ◌≢◌, ℕ, true, false, cond, not, List, [], ◌∷◌}
use Rattle.std.proofs.Common.{get_or, zero, suc, refl, ap, sym, ◌∙◌, inl, inr}
use Rattle.std.specs.Prelude.{◌&&◌, ◌||◌, ◌⊎◌, Bool, Option, Some, None, is_some, Ok, Err, slice_get, slice_set}
use Rattle.std.specs.FinMap as finmap
use Rattle.std.specs.Ordering.{nat_cmp}
use Rattle.std.proofs.lemmas.Option.{none-some, same_Some}
use Rattle.pc_types.specs.Kinds.{is_fill, is_flush}
use Rattle.pc_types.specs.declared.kind.Kind.{Kind}
use Rattle.pc_types.specs.declared.kind.Kind.TheVariants.{Fill, Flush}
use Rattle.blockdev.specs.Device as device
use Rattle.cachecore.specs.Replies as replies
use Rattle.deeds.specs.Comes.{Leaves}
use Rattle.machine.specs.declared.event.Outcome.{Outcome}
use Rattle.machine.specs.declared.event.Outcome.TheVariants as outcome
use Rattle.machine.specs.State.{Request}
use Rattle.maps.specs.Maps.{put_some}
use Rattle.runs.specs.World.{World, block_bytes, device_after, outcome_of}
use Rattle.runs.proofs.events.Lookups.{get-insert1}
use Rattle.runs.proofs.views.View.{put1_else}
use Rattle.trail.specs.Honest.{Fate}
use Rattle.trail.proofs.RunLaws.{bytes_of, reaches}

-- ---- the fate of a call

pub record Fated (w : World) (t : ℕ) (x : Request) (call : Outcome) (left : List ℕ) : Type 0 where
  pub fate : Fate
  pub outcome : call ≡ outcome_of w x fate.fault
  pub leaves : cond (reaches x fate) (bytes_of w t) (block_bytes w x.block) ≡ left

abbrev goes : Option ℕ → Bool → Fate
goes fault lasts = record { fault = fault; lasts = lasts }

module _ (w : World) (t : ℕ) (x : Request) where
  -- the block's bytes after a call with this fate of a request of this kind
  abbrev after_call : Fate → Kind → List ℕ
  after_call fate k =
      cond (is_flush k && (not (is_some fate.fault) || fate.lasts)) (bytes_of w t) (block_bytes w x.block)

  -- what a call without a fault comes to
  abbrev told_well : Kind → Outcome
  told_well k = cond (is_fill k) (outcome.Read (block_bytes w x.block)) outcome.Written

  pub fated : (kind : Kind) → x.kind ≡ kind → (o : device.Outcome) (before bytes after left : List ℕ)
      → before ≡ block_bytes w x.block → (kind ≡ Flush → bytes_of w t ≡ bytes)
      → Leaves kind before bytes o after left → Fated w t x (replies.outcome_of kind o after) left
  fated Fill is (Ok u) before bytes after left here writes c = record {
    fate = goes None false;
    outcome = ap outcome.Read (c.1 ∙ here) ∙ sym (ap told_well is);
    leaves = ap (after_call (goes None false)) is ∙ sym here ∙ sym c.0;
  }
  fated Fill is (Err code) before bytes after left here writes c = record {
    fate = goes (Some code) false;
    outcome = refl;
    leaves = ap (after_call (goes (Some code) false)) is ∙ sym here ∙ sym c.0;
  }
  fated Flush is (Ok u) before bytes after left here writes c = record {
    fate = goes None false;
    outcome = sym (ap told_well is);
    leaves = ap (after_call (goes None false)) is ∙ writes refl ∙ sym c.1;
  }
  fated Flush is (Err code) before bytes after left here writes c = failed c.2
    where
      failed : (left ≡ before) ⊎ (left ≡ bytes) → Fated w t x (replies.outcome_of Flush (Err code) after) left
      failed (inl d) = record {
        fate = goes (Some code) false;
        outcome = refl;
        leaves = ap (after_call (goes (Some code) false)) is ∙ sym here ∙ sym d;
      }
      failed (inr d) = record {
        fate = goes (Some code) true;
        outcome = refl;
        leaves = ap (after_call (goes (Some code) true)) is ∙ writes refl ∙ sym d;
      }

set_self : (blocks : List (List ℕ)) (k : ℕ) → blocks ≡ slice_set blocks k (get_or blocks k [])
set_self [] k = refl
set_self (b ∷ bs) zero = refl
set_self (b ∷ bs) (suc k) = ap (λ xs. b ∷ xs) (set_self bs k)

-- the device after the call: what it left in its block, and the rest as before
pub device_left : (w : World) (t : ℕ) (x : Request) (fate : Fate) (left : List ℕ)
    → cond (reaches x fate) (bytes_of w t) (block_bytes w x.block) ≡ left
    → device_after w t x fate.fault fate.lasts ≡ slice_set w.device x.block left
device_left w t x fate left is =
    elim (reaches x fate) as (λ c. cond c (bytes_of w t) (block_bytes w x.block) ≡ left
    → cond c (slice_set w.device x.block (bytes_of w t)) w.device ≡ slice_set w.device x.block left) [
      | true ↦ λ e. ap (slice_set w.device x.block) e
      | false ↦ λ e. set_self w.device x.block ∙ ap (slice_set w.device x.block) e
    ] is

pub get_there : (blocks : List (List ℕ)) (k : ℕ) (b : List ℕ) → slice_get blocks k ≡ Some b → get_or blocks k [] ≡ b
get_there [] k b e = absurd (none-some b e)
get_there (x ∷ xs) zero b e = same_Some x b e
get_there (x ∷ xs) (suc k) b e = get_there xs k b e

-- the bytes of another request are as they were
pub still_writing : (m : finmap.FinMap nat_cmp (List ℕ)) (t : ℕ) (o : Option (List ℕ)) (u : ℕ) → u ≢ t
    → finmap.get (put_some t o m) u ≡ finmap.get m u
still_writing m t None u n = refl
still_writing m t (Some b) u n = get-insert1 m t b u ∙ put1_else (finmap.get m) t (Some b) u n

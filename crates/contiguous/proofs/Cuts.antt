-- A truncation of the file: its extent ends where the file does, and what requests in flight hold they hold still.
use Rattle.std.proofs.Common.{◌≡◌, ℕ, ◌<◌, Bool, true, false, cond, not, eqb, refl, ap, sym, subst, ◌∙◌}
use Rattle.std.proofs.Common.{arith, inl, inr, min, ◌&&◌, Option, Some, None}
use Rattle.std.specs.Prelude.{nat_lt, nat_le}
use Rattle.std.specs.FinMap as finmap
use Rattle.std.proofs.lemmas.Bool.Decides.{nat_tests}
use Rattle.machine.specs.declared.event.Event.TheVariants as event
use Rattle.machine.specs.declared.event.Reply.TheVariants as reply
use Rattle.machine.specs.State.{State, Request, file_at, page_count}
use Rattle.machine.specs.Changes.{cut_request, put_file, shrunk, truncated}
use Rattle.machine.proofs.sound.Lookups.{block_at-shrunk, cut_off}
use Rattle.machine.proofs.steps.Cases.{happened}
use Rattle.machine.proofs.steps.Choices.{mapped_some}
use Rattle.maps.proofs.Maps.{get-each_value}
use Rattle.contiguous.specs.Contiguous.{IsContiguous, IsHeld, IsOneExtent}
use Rattle.contiguous.specs.Promises.{KeepsTheExtent, TruncationsKeepTheExtent, TruncationsStayContiguous, left}

cut_holds : (f n : ℕ) (x : Request) → (cut_request f n x).block ≡ x.block
cut_holds f n x = go (eqb x.file f && nat_le n x.page)
  where
    go : (b : Bool) → (cond b (record x { dropped = true }) x).block ≡ x.block
    go true = refl
    go false = refl

-- a block that is held after the cut was held before
pub held_before : (s : State) (f z b : ℕ) → IsHeld (shrunk s f z) b → IsHeld s b
held_before s f z b h =
    let was = mapped_some (cut_request f (page_count s.sizes.page z)) (finmap.get s.requests h.0) h.1
    (sym (get-each_value (λ _. cut_request f (page_count s.sizes.page z)) s.requests h.0) ∙ h.2) in (
      h.0,
      was.0,
      was.1,
      sym (cut_holds f (page_count s.sizes.page z) was.0) ∙ ap (λ (x : Request). x.block) was.2 ∙ h.3,
    )

-- the pages that are left
extent_cut : (s : State) (f n z : ℕ) → IsOneExtent s f n → IsOneExtent (shrunk s f z) f (min n (page_count s.sizes.page z))
extent_cut s f n z is g q = block_at-shrunk s f z g q ∙ ap (cond (cut_off s f z g q) None) (is g q)
    ∙ go (eqb g f) (page_count s.sizes.page z)
  where
    both : (k p : ℕ) (x : Option ℕ) → (past low less : Bool) → less ≡ (low && not past)
        → cond past None (cond low x None) ≡ cond less x None
    both k p x true low less e = ap (λ b. cond b x None) (sym (e ∙ never low))
      where
        never : (b : Bool) → (b && not true) ≡ false
        never true = refl
        never false = refl
    both k p x false low less e = ap (λ b. cond b x None) (sym (e ∙ ever low))
      where
        ever : (b : Bool) → (b && not false) ≡ b
        ever true = refl
        ever false = refl

    go : (a : Bool) (k : ℕ) → cond (a && nat_le k q) None (cond (a && nat_lt q n) (Some q) None)
        ≡ cond (a && nat_lt q (min n k)) (Some q) None
    go true k = both k q (Some q) (nat_le k q) (nat_lt q n) (nat_lt q (min n k)) (grind (arith, nat_tests))
    go false k = refl

truncated_keeps : (s : State) (f n z : ℕ) → IsOneExtent s f n → KeepsTheExtent s (truncated s f z) f (left s f n z)
truncated_keeps s f n z is = go (nat_lt z (file_at s f).size)
  where
    go : (b : Bool) → KeepsTheExtent s (cond b (shrunk s f z) (put_file s f (record (file_at s f) { size = z }))) f
        (cond b (min n (page_count s.sizes.page z)) n)
    go true = record { extent = extent_cut s f n z is; held = λ b h. inl (held_before s f z b h) }
    go false = record { extent = is; held = λ b h. inl h }

pub truncations_keep_the_extent : TruncationsKeepTheExtent
truncations_keep_the_extent old new f n h z step of is =
    let it = happened old (event.Truncate h z) reply.Done new step refl (λ k o e. absurd cc) in
    subst (λ x. KeepsTheExtent old x f (left old f n z)) (sym (it.is ∙ ap (λ g. truncated old g z) of))
    (truncated_keeps old f n z is)

-- where what is held stays below the extent's end
pub still_contiguous : (old new : State) (f m : ℕ) → KeepsTheExtent old new f m → ((b : ℕ) → IsHeld old b → b < m)
    → IsContiguous new f m
still_contiguous old new f m keeps held = record {
  extent = keeps.extent;
  held = λ b h. elim (keeps.held b h) [ inl a ↦ held b a | inr a ↦ a ];
}

pub truncations_stay_contiguous : TruncationsStayContiguous
truncations_stay_contiguous old new f n h z step of is held =
    still_contiguous old new f (left old f n z) (truncations_keep_the_extent old new f n h z step of is.extent) held

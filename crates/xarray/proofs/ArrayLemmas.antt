-- From the nodes' array to the array as its caller sees it, with the room that was made.
use Rattle.std.proofs.Common.{◌≡◌, ℕ, Bool, true, false, Option, Some, None, MatchBool, IsSome, sym, ap, ◌∙◌, subst, Result, Ok, Err, OnErr, IfErr}
use Rattle.std.proofs.lemmas.Bool.{true≢false}
use Rattle.pc_types.specs.declared.refusal.Refusal.{Refusal}
use Rattle.pc_types.specs.declared.refusal.Refusal.TheVariants.{Memory}
use Rattle.slab.specs.Slab.{Slab}
use Rattle.radix.specs.declared.node.Node.{Node}
use Rattle.xarray.specs.MarkedArray.{Array, Ranges, after_refusal}
use Rattle.xarray.specs.View.{array_of, ranges_of}
use Rattle.xarray.proofs.CallLemmas.{some_none}

-- an array with no room made
abbrev pub idle : Ranges → Array
idle m = record { ranges = m; ready = None }

-- what a call that puts an entry below tells, where `meets` is what its range meets
abbrev pub Puts : {X : Type 0} → Slab Node → Slab Node → Option X → Ranges → Bool → Type 0
Puts old new meets now is_new = MatchBool is_new ((meets ≡ None) × (ranges_of new ≡ now)) (IsSome meets × (new ≡ old))

module _ (s : Slab Node) (ready : Option (ℕ × ℕ)) (a : Array) (same : array_of s ready ≡ a) where
  pub ranges-are : ranges_of s ≡ a.ranges
  ranges-are = ap (λ (z : Array). z.ranges) same

  pub told : {T : Type 0} (f : Ranges → T) (x : T) → x ≡ f (ranges_of s) → x ≡ f a.ranges
  told f x is = is ∙ ap f ranges-are

  pub changed-is : (f : Ranges → Ranges) (new : Slab Node) → ranges_of new ≡ f (ranges_of s) → array_of new None ≡ idle (f a.ranges)
  changed-is f new is = ap idle (is ∙ ap f ranges-are)

  pub kept : (new : Slab Node) → ranges_of new ≡ ranges_of s → ranges_of new ≡ a.ranges
  kept new p = p ∙ ranges-are

  -- a refusal for want of memory takes the room that was made
  pub refused : (new : Slab Node) → ranges_of new ≡ ranges_of s → (why : Refusal) → why ≡ Memory → array_of new None ≡ after_refusal why a
  refused new p why is = ap idle (kept new p) ∙ ap (λ z. after_refusal z a) (sym is)

  pub refused-all : {T : Type 0} (r : Result T Refusal) (new : Slab Node) → OnErr r (ranges_of new ≡ ranges_of s) → IfErr r (λ why. why ≡ Memory) → IfErr r (λ why. array_of new None ≡ after_refusal why a)
  refused-all (Ok x) new p is = is
  refused-all (Err why) new p is = refused new p why is

  pub reserved-is : (new : Slab Node) → ranges_of new ≡ ranges_of s → (index order : ℕ) → array_of new (Some (index, order)) ≡ record { ranges = a.ranges; ready = Some (index, order) }
  reserved-is new p index order = ap (λ (m : Ranges). record { ranges = m; ready = Some (index, order) }) (kept new p)

  module _ {X : Type 0} (f : Ranges → Option X) where
    pub held : IsSome (f a.ranges) → IsSome (f (ranges_of s))
    held some = subst (λ m. IsSome (f m)) (sym ranges-are) some

    pub free : f a.ranges ≡ None → f (ranges_of s) ≡ None
    free none = ap f ranges-are ∙ none

    -- ---- a call that puts an entry

    module _ (new : Slab Node) (g : Ranges → Ranges) (r : Bool) where
      pub put-is : r ≡ true → Puts s new (f (ranges_of s)) (g (ranges_of s)) r → array_of new None ≡ idle (g a.ranges)
      put-is is p = by_result r is p
        where
          by_result : (r : Bool) → r ≡ true → Puts s new (f (ranges_of s)) (g (ranges_of s)) r → array_of new None ≡ idle (g a.ranges)
          by_result true e q = changed-is g new q.1
          by_result false e q = absurd (true≢false (sym e))

      pub put-free : r ≡ true → Puts s new (f (ranges_of s)) (g (ranges_of s)) r → IsSome (f a.ranges) → ⊥
      put-free is p some = by_result r is p
        where
          by_result : (r : Bool) → r ≡ true → Puts s new (f (ranges_of s)) (g (ranges_of s)) r → ⊥
          by_result true e q = some_none _ (held some) q.0
          by_result false e q = true≢false (sym e)

      pub busy-held : r ≡ false → Puts s new (f (ranges_of s)) (g (ranges_of s)) r → f a.ranges ≡ None → ⊥
      busy-held is p none = by_result r is p
        where
          by_result : (r : Bool) → r ≡ false → Puts s new (f (ranges_of s)) (g (ranges_of s)) r → ⊥
          by_result true e q = true≢false e
          by_result false e q = some_none _ q.0 (free none)

    pub refused-free : f (ranges_of s) ≡ None → IsSome (f a.ranges) → ⊥
    refused-free none some = some_none _ (held some) none

    module _ (new : Slab Node) (g : Ranges → Ranges) (r : Bool) where
      pub set-is : r ≡ true → MatchBool r (IsSome (f (ranges_of s)) × (ranges_of new ≡ g (ranges_of s))) ((f (ranges_of s) ≡ None) × (new ≡ s)) → array_of new None ≡ idle (g a.ranges)
      set-is is p = by_result r is p
        where
          by_result : (r : Bool) → r ≡ true → MatchBool r (IsSome (f (ranges_of s)) × (ranges_of new ≡ g (ranges_of s))) ((f (ranges_of s) ≡ None) × (new ≡ s)) → array_of new None ≡ idle (g a.ranges)
          by_result true e q = changed-is g new q.1
          by_result false e q = absurd (true≢false (sym e))

      pub set-held : r ≡ false → MatchBool r (IsSome (f (ranges_of s)) × (ranges_of new ≡ g (ranges_of s))) ((f (ranges_of s) ≡ None) × (new ≡ s)) → IsSome (f a.ranges) → ⊥
      set-held is p some = by_result r is p
        where
          by_result : (r : Bool) → r ≡ false → MatchBool r (IsSome (f (ranges_of s)) × (ranges_of new ≡ g (ranges_of s))) ((f (ranges_of s) ≡ None) × (new ≡ s)) → ⊥
          by_result true e q = true≢false e
          by_result false e q = some_none _ (held some) q.0

      pub set-free : r ≡ true → MatchBool r (IsSome (f (ranges_of s)) × (ranges_of new ≡ g (ranges_of s))) ((f (ranges_of s) ≡ None) × (new ≡ s)) → f a.ranges ≡ None → ⊥
      set-free is p none = by_result r is p
        where
          by_result : (r : Bool) → r ≡ true → MatchBool r (IsSome (f (ranges_of s)) × (ranges_of new ≡ g (ranges_of s))) ((f (ranges_of s) ≡ None) × (new ≡ s)) → ⊥
          by_result true e q = some_none _ q.0 (free none)
          by_result false e q = true≢false (sym e)

-- A shard may do what its world may do alone.
use Rattle.std.proofs.Common.{◌≡◌, ◌≢◌, ◌∙◌, sym, ap, subst, refl, ℕ, zero, suc, ◌+◌, ◌*◌, ◌<◌, ◌≤◌, ◌⊎◌, inl, inr, ◌==◌, ◌&&◌, ◌||◌, not, if◌then◌else◌, Bool, true, false, List, [], ◌∷◌, length, take, drop, Option, Some, None, is_some, slice_get, slice_set, unwrap_or, arith, length-set, length-take}
use Rattle.std.specs.FinMap as map
use Rattle.std.proofs.lemmas.Bool.Decides.{nat_tests}
use Rattle.pc_types.specs.Kinds.{is_flush}
use Rattle.machine.specs.declared.event.Outcome.{Outcome}
use Rattle.machine.specs.declared.event.Reply.{Reply}
use Rattle.machine.specs.State.{Request}
use Rattle.runs.specs.World.{World, Move, Act, Call, Finish, WorldStep, Calls, Ends}
use Rattle.sharded.specs.Shards.{Shard, Sharded, ShardStep, part, world_of}
use Rattle.sharded.specs.Promises.{ShardsAreFree}

-- ---- a step keeps the device's length

written_length : (device : List (List ℕ)) (b : ℕ) (bytes : List ℕ) (is : Bool) → length (if is then slice_set device b bytes else device) ≡ length device
written_length device b bytes true = length-set device b bytes
written_length device b bytes false = refl

call_length : (w : World) (t : ℕ) (x : Option Request) (call : Option Outcome) (fault : Option ℕ) (effect : Bool) (new : World)
    → Calls w t x call fault effect new → length new.device ≡ length w.device
call_length w t (Some x) None fault effect new e =
    ap (λ (v : World). length v.device) e
    ∙ written_length w.device x.block (unwrap_or (map.get w.writing t) []) (is_flush x.kind && (not (is_some fault) || effect))
call_length w t (Some x) (Some call) fault effect new e = absurd e
call_length w t None call fault effect new e = absurd e

end_length : (w : World) (t : ℕ) (x : Option Request) (call : Option Outcome) (r : Reply) (new : World)
    → Ends w t x call r new → length new.device ≡ length w.device
end_length w t (Some x) (Some call) r new e = ap (λ (v : World). length v.device) e.1
end_length w t (Some x) None r new e = absurd e
end_length w t None call r new e = absurd e

same_length : (w : World) (move : Move) (new : World) → WorldStep w move new → length new.device ≡ length w.device
same_length w (Act e r) new s = ap (λ (v : World). length v.device) s.1.1
same_length w (Call t fault effect) new s = call_length w t (map.get w.core.requests t) (map.get w.outcomes t) fault effect new s
same_length w (Finish t r) new s = end_length w t (map.get w.core.requests t) (map.get w.outcomes t) r new s

-- ---- a device with one part changed

abbrev over_first : List (List ℕ) → List (List ℕ) → List (List ℕ)
over_first [] device = device
over_first (x ∷ xs) [] = []
over_first (x ∷ xs) (y ∷ ys) = x ∷ over_first xs ys

abbrev over_at : ℕ → List (List ℕ) → List (List ℕ) → List (List ℕ)
over_at zero mine device = over_first mine device
over_at (suc n) mine [] = []
over_at (suc n) mine (y ∷ ys) = y ∷ over_at n mine ys

nothing : (xs : List (List ℕ)) → length xs ≡ 0 → [] ≡ xs
nothing [] e = refl
nothing (x ∷ xs) e = absurd (omega arith)

take-over_first : (size : ℕ) (mine device : List (List ℕ)) → length mine ≡ length (take size device) → take size (over_first mine device) ≡ mine
take-over_first zero mine device e = nothing mine e
take-over_first (suc size) [] [] e = refl
take-over_first (suc size) [] (y ∷ ys) e = absurd (omega arith)
take-over_first (suc size) (x ∷ xs) [] e = absurd (omega arith)
take-over_first (suc size) (x ∷ xs) (y ∷ ys) e = ap (λ (zs : List (List ℕ)). x ∷ zs) (take-over_first size xs ys (omega arith))

past-over_first : (mine device : List (List ℕ)) (b : ℕ) → length mine ≤ b → slice_get (over_first mine device) b ≡ slice_get device b
past-over_first [] device b h = refl
past-over_first (x ∷ xs) [] b h = refl
past-over_first (x ∷ xs) (y ∷ ys) zero h = absurd (omega arith)
past-over_first (x ∷ xs) (y ∷ ys) (suc b) h = past-over_first xs ys b (omega arith)

abbrev no_blocks : List (List ℕ)
no_blocks = []

take_nothing : (size : ℕ) → take size no_blocks ≡ no_blocks
take_nothing zero = refl
take_nothing (suc size) = refl

part-over_at : (n size : ℕ) (mine device : List (List ℕ)) → length mine ≡ length (take size (drop n device)) → take size (drop n (over_at n mine device)) ≡ mine
part-over_at zero size mine device e = take-over_first size mine device e
part-over_at (suc n) size mine [] e =
    take_nothing size ∙ nothing mine (e ∙ ap (λ (xs : List (List ℕ)). length xs) (take_nothing size))
part-over_at (suc n) size mine (y ∷ ys) e = part-over_at n size mine ys e

get-over_at : (n : ℕ) (mine device : List (List ℕ)) (b : ℕ) → (b < n) ⊎ (n + length mine ≤ b) → slice_get (over_at n mine device) b ≡ slice_get device b
get-over_at zero mine device b (inl h) = absurd (omega arith)
get-over_at zero mine device b (inr h) = past-over_first mine device b (omega arith)
get-over_at (suc n) mine [] b h = refl
get-over_at (suc n) mine (y ∷ ys) zero h = refl
get-over_at (suc n) mine (y ∷ ys) (suc b) (inl h) = get-over_at n mine ys b (inl (omega arith))
get-over_at (suc n) mine (y ∷ ys) (suc b) (inr h) = get-over_at n mine ys b (inr (omega arith))

-- ---- a step among the others

-- the shards, where k has gone on to the world w
abbrev gone_on : Sharded → ℕ → World → Sharded
gone_on s k w = record {
  shard = λ j. if j == k then record { core = w.core; outcomes = w.outcomes; writing = w.writing } else s.shard j;
  device = over_at (k * s.blocks) w.device s.device;
  blocks = s.blocks;
}

its_own : (x y : Shard) (k : ℕ) → (if k == k then x else y) ≡ x
its_own x y k = by (k == k) (grind (arith, nat_tests)) where
  by : (b : Bool) → b ≡ true → (if b then x else y) ≡ x
  by true e = refl
  by false e = absurd cc

not_its : (x y : Shard) (j k : ℕ) → j ≢ k → (if j == k then x else y) ≡ y
not_its x y j k other = by (j == k) (grind (arith, nat_tests)) where
  by : (b : Bool) → b ≡ false → (if b then x else y) ≡ y
  by false e = refl
  by true e = absurd cc

abbrev over : Shard → List (List ℕ) → World
over x device = record { core = x.core; device = device; outcomes = x.outcomes; writing = x.writing }

-- that is its world then
its_world : (s : Sharded) (k : ℕ) (w : World) → length w.device ≡ length (part s k) → world_of (gone_on s k w) k ≡ w
its_world s k w e =
    let mine : Shard = record { core = w.core; outcomes = w.outcomes; writing = w.writing } in
    ap (λ (x : Shard). over x (part (gone_on s k w) k)) (its_own mine (s.shard k) k)
    ∙ ap (λ (d : List (List ℕ)). over mine d) (part-over_at (k * s.blocks) s.blocks w.device s.device e)

pub shards_are_free : ShardsAreFree
shards_are_free s k move w step =
    let same = same_length (world_of s k) move w step in
    let is = its_world s k w same in
    let P : World → Type 0 = λ v. WorldStep (world_of s k) move v in
    let small : length w.device ≤ s.blocks = omega (arith, same, length-take s.blocks (drop (k * s.blocks) s.device)) in
    let step : ShardStep s k move (gone_on s k w) = record {
      moves = subst P (sym is) step;
      others = λ j other. not_its _ (s.shard j) j k other;
      elsewhere = λ b h. get-over_at (k * s.blocks) w.device s.device b (elim h [ inl below ↦ inl below | inr above ↦ inr (omega arith) ]);
      blocks = refl;
    } in
    (gone_on s k w, step, is)

-- The steps of a shard are a run.
use Rattle.std.proofs.Common.{◌≡◌, ◌≢◌, ◌∙◌, sym, ap, subst, refl, ℕ, zero, suc, ◌+◌, ◌*◌, ◌≤◌, ◌==◌, if◌then◌else◌, Bool, true, false, List, [], ◌∷◌, length, take, drop, arith}
use Rattle.std.proofs.lemmas.Bool.Decides.{nat_tests}
use Rattle.runs.specs.World.{World, Move, WorldStep}
use Rattle.runs.specs.Runs.{Steps, Run, last}
use Rattle.sharded.specs.Shards.{Shard, Sharded, Turn, ShardStep, ShardedRun, left, part, world_of, steps_of, moment_of}
use Rattle.sharded.specs.Promises.{ShardsAreRuns}
use Rattle.sharded.proofs.Parts.{same_part, apart}

-- a step of one shard leaves the world of another as it is
other_part : (old new : Sharded) (k j : ℕ) (move : Move) → ShardStep old k move new → j ≢ k → part new j ≡ part old j
other_part old new k j move step other =
    ap (λ (n : ℕ). take n (drop (j * n) new.device)) step.blocks
    ∙ same_part (j * old.blocks) old.blocks old.device new.device (λ b h. step.elsewhere (j * old.blocks + b) (apart j k b old.blocks other h))

over : Shard → List (List ℕ) → World
over x device = record { core = x.core; device = device; outcomes = x.outcomes; writing = x.writing }

other_world : (old new : Sharded) (k j : ℕ) (move : Move) → ShardStep old k move new → j ≢ k → world_of new j ≡ world_of old j
unfolding over
other_world old new k j move step other =
    ap (λ (x : Shard). over x (part new j)) (step.others j other)
    ∙ ap (λ (d : List (List ℕ)). over (old.shard j) d) (other_part old new k j move step other)

-- the steps of shard k, where the first of all is its or another's
abbrev begun : (k : ℕ) (step : Turn) → Steps → Bool → Steps
begun k step more b = if b then (step.move, world_of step.after k) ∷ more else more

-- shard k makes the step
its_step : (s : Sharded) (k : ℕ) (step : Turn) → (step.shard == k) ≡ true → ShardStep s step.shard step.move step.after
    → WorldStep (world_of s k) step.move (world_of step.after k)
its_step s k step e r =
    let same : step.shard ≡ k = grind (arith, nat_tests) in
    let P : ℕ → Type 0 = λ n. WorldStep (world_of s n) step.move (world_of step.after n) in
    subst P same r.moves

-- another makes it
no_step : (s : Sharded) (k : ℕ) (step : Turn) → (step.shard == k) ≡ false → ShardStep s step.shard step.move step.after
    → world_of step.after k ≡ world_of s k
no_step s k step e r =
    let other : k ≢ step.shard = (λ x. grind (arith, nat_tests)) in
    other_world s step.after step.shard k step.move r other

run_next : (s : Sharded) (k : ℕ) (step : Turn) (more : Steps) (b : Bool) → (step.shard == k) ≡ b → ShardStep s step.shard step.move step.after
    → Run (world_of step.after k) more → Run (world_of s k) (begun k step more b)
run_next s k step more true e r rest = (its_step s k step e r, rest)
run_next s k step more false e r rest =
    let P : World → Type 0 = λ w. Run w more in
    subst P (no_step s k step e r) rest

run_from : (s : Sharded) (steps : List Turn) (k : ℕ) → ShardedRun s steps → Run (world_of s k) (steps_of k steps)
run_from s [] k r = tt
run_from s (step ∷ steps) k r = run_next s k step (steps_of k steps) (step.shard == k) refl r.0 (run_from step.after steps k r.1)

-- what its steps lead to
leads_next : (s : Sharded) (k : ℕ) (step : Turn) (more : Steps) (end : World) (b : Bool) → (step.shard == k) ≡ b → ShardStep s step.shard step.move step.after
    → end ≡ last (world_of step.after k) more → end ≡ last (world_of s k) (begun k step more b)
leads_next s k step more end true e r rest = rest
leads_next s k step more end false e r rest = rest ∙ ap (λ (w : World). last w more) (no_step s k step e r)

pub leads : (s : Sharded) (steps : List Turn) (k : ℕ) → ShardedRun s steps → world_of (left s steps) k ≡ last (world_of s k) (steps_of k steps)
leads s [] k r = refl
leads s (step ∷ steps) k r =
    leads_next s k step (steps_of k steps) (world_of (left step.after steps) k) (step.shard == k) refl r.0 (leads step.after steps k r.1)

-- the first steps of a run
run_take : (s : Sharded) (steps : List Turn) (n : ℕ) → ShardedRun s steps → ShardedRun s (take n steps)
run_take s steps zero r = tt
run_take s [] (suc n) r = tt
run_take s (step ∷ steps) (suc n) r = (r.0, run_take step.after steps n r.1)

-- the shard's steps among the first n are the first of its own
first_next : (k : ℕ) (step : Turn) (some all : Steps) (b : Bool) → take (length some) all ≡ some → take (length (begun k step some b)) (begun k step all b) ≡ begun k step some b
first_next k step some all true e = ap (λ (more : Steps). (step.move, world_of step.after k) ∷ more) e
first_next k step some all false e = e

own_first : (k : ℕ) (steps : List Turn) (n : ℕ) → take (moment_of k steps n) (steps_of k steps) ≡ steps_of k (take n steps)
own_first k steps zero = refl
own_first k [] (suc n) = refl
own_first k (step ∷ steps) (suc n) = first_next k step (steps_of k (take n steps)) (steps_of k steps) (step.shard == k) (own_first k steps n)

pub shards_are_runs : ShardsAreRuns
shards_are_runs s steps k r = record {
  run = run_from s steps k r;
  worlds = λ n. leads s (take n steps) k (run_take s steps n r) ∙ ap (λ (own : Steps). last (world_of s k) own) (sym (own_first k steps n));
}

-- ---- moments of a shard

counted : (k : ℕ) (step : Turn) (more : Steps) (b : Bool) → length (begun k step more b) ≡ length more + (if b then 1 else 0)
counted k step more true = omega arith
counted k step more false = omega arith

rise_next : (k : ℕ) (step : Turn) (some more : Steps) (b : Bool) → length some ≤ length more → length (begun k step some b) ≤ length (begun k step more b)
rise_next k step some more b h = omega (arith, counted k step some b, counted k step more b)

-- later moments of all are no earlier ones of the shard
pub moments_rise : (k : ℕ) (steps : List Turn) (m n : ℕ) → m ≤ n → moment_of k steps m ≤ moment_of k steps n
moments_rise k steps zero n h = omega arith
moments_rise k steps (suc m) zero h = absurd (omega arith)
moments_rise k [] (suc m) (suc n) h = omega arith
moments_rise k (step ∷ steps) (suc m) (suc n) h =
    rise_next k step (steps_of k (take m steps)) (steps_of k (take n steps)) (step.shard == k) (moments_rise k steps m n (omega arith))

-- and all steps of the shard are among all
pub moment_end : (k : ℕ) (steps : List Turn) (n : ℕ) → moment_of k steps n ≤ length (steps_of k steps)
moment_end k steps zero = omega arith
moment_end k [] (suc n) = omega arith
moment_end k (step ∷ steps) (suc n) =
    rise_next k step (steps_of k (take n steps)) (steps_of k steps) (step.shard == k) (moment_end k steps n)

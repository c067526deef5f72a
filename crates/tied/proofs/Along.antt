-- The worlds that such a history leads to are those of runs, with each device call right before its request's end.
use Rattle.std.proofs.Common.{◌≡◌, ℕ, List, [], ◌∷◌, refl, ap, sym, subst, ◌∙◌, inl, inr}
use Rattle.std.specs.Prelude.{Option, Some, None}
use Rattle.std.specs.FinMap as finmap
use Rattle.std.specs.FinMap.{get-empty}
use Rattle.std.specs.Ordering.{nat_cmp}
use Rattle.pc_types.specs.Limits.{Sizes}
use Rattle.machine.specs.declared.event.End.{End}
use Rattle.machine.specs.declared.event.Outcome.{Outcome}
use Rattle.machine.proofs.steps.Steady.{steady}
use Rattle.maps.proofs.MapLaws.{same_nat_map}
use Rattle.machine.specs.Catalogs.{Catalog}
use Rattle.runs.specs.Always.{Always}
use Rattle.runs.specs.Reached.{IsReached}
use Rattle.runs.specs.World.{World, Act, Call, Finish, outcome_of}
use Rattle.runs.proofs.events.Lookups.{get-insert1, get-remove1}
use Rattle.runs.proofs.moments.Reached.{reached_always, reached_first, reached_step}
use Rattle.runs.proofs.views.View.{put1_else, put1_here, put1_tells}
use Rattle.trail.specs.declared.entry.Entry.{Entry}
use Rattle.trail.specs.Honest.{MayBegin, end_made, world_over}
use Rattle.trail.proofs.Weaving.{first_world}
use Rattle.trail.proofs.TrailMoves.{acted, act_moves, called, call_moves, end_moves, finished}
use Rattle.tied.specs.Tied.{IsToldOnce, GoesTo}

abbrev outcomes : Type 0
outcomes = finmap.FinMap nat_cmp Outcome

abbrev with_one : ℕ → Outcome → outcomes
with_one t o = finmap.insert finmap.empty t o

-- what is put into an empty map and taken out again leaves it empty
put_out : (t : ℕ) (o : Outcome) → finmap.remove (with_one t o) t ≡ finmap.empty
put_out t o = same_nat_map _ _ (λ u. elim (put1_tells (finmap.get (with_one t o)) t None u) [
  | inl a ↦ get-remove1 (with_one t o) t u ∙ a.1 ∙ sym (get-empty nat_cmp u)
  | inr a ↦ get-remove1 (with_one t o) t u ∙ a.1 ∙ get-insert1 finmap.empty t o u
      ∙ put1_else (finmap.get finmap.empty) t (Some o) u a.0
])

-- a world of a run of this cache, in which no call is made ahead of its request's end
pub record IsAlong (sizes : Sizes) (name : ℕ) (w : World) : Type 0 where
  pub reached : IsReached w
  pub outcomes : w.outcomes ≡ finmap.empty
  pub sizes_are : w.core.sizes ≡ sizes
  pub name_is : w.core.name ≡ name

module _ (sizes : Sizes) (name : ℕ) where
  told_along : (e : Entry) (o : Option End) (w new : World) → end_made e.event e.reply ≡ o → IsToldOnce w e o new
      → IsAlong sizes name w → IsAlong sizes name new
  told_along e None w new made told a =
      let same = steady w.core e.event e.reply new.core told.0 in record {
        reached = subst IsReached (sym told.1) (reached_step w (acted w e.reply new.core) (Act e.event e.reply) a.reached
            (act_moves w new.core e.event e.reply made told.0));
        outcomes = ap (λ (x : World). x.outcomes) told.1 ∙ a.outcomes;
        sizes_are = same.sizes ∙ a.sizes_are;
        name_is = same.name ∙ a.name_is;
      }
  told_along e (Some end) w new made told a =
      let t = end.serial.0 in
      let fate = told.0 in
      let x = told.1 in
      let step = told.3.1 in
      let same = steady w.core e.event e.reply new.core step in
      let w2 = called w t x fate in
      let call = outcome_of w x fate.fault in
      let none : finmap.get w.outcomes t ≡ None = ap (λ m. finmap.get m t) a.outcomes ∙ get-empty nat_cmp t in
      let r2 = reached_step w w2 (Call t fate.fault fate.lasts) a.reached (call_moves w t x fate told.2 none) in
      let noted : finmap.get w2.outcomes t ≡ Some end.outcome =
      get-insert1 w.outcomes t call t ∙ put1_here (finmap.get w.outcomes) t (Some call) ∙ ap Some (sym told.3.0) in
      let w3 = finished w2 new.core t in
      let r3 = reached_step w2 w3 (Finish t e.reply) r2 (end_moves w2 new.core e.event e.reply end made noted step) in
      let back : finmap.remove (finmap.insert w.outcomes t call) t ≡ w.outcomes =
      ap (λ m. finmap.remove (finmap.insert m t call) t) a.outcomes ∙ put_out t call ∙ sym a.outcomes in
      let is : w3 ≡ new = ap (λ m. record w3 { outcomes = m }) back ∙ sym told.3.2 in
      record {
        reached = subst IsReached is r3;
        outcomes = ap (λ (x : World). x.outcomes) told.3.2 ∙ a.outcomes;
        sizes_are = same.sizes ∙ a.sizes_are;
        name_is = same.name ∙ a.name_is;
      }

  goes_along : (es : List Entry) (w new : World) → GoesTo w es new → IsAlong sizes name w → IsAlong sizes name new
  goes_along [] w new is a = subst (IsAlong sizes name) (sym is) a
  goes_along (e ∷ es) w new g a =
      goes_along es g.0 new g.2 (told_along e (end_made e.event e.reply) w g.0 refl g.1 a)

  pub along : (files : Catalog) (blocks : List (List ℕ)) (es : List Entry) (new : World) → MayBegin files sizes name blocks
      → GoesTo (world_over files sizes name blocks) es new → IsAlong sizes name new
  along files blocks es new first g =
      let w = world_over files sizes name blocks in
      let may = first_world files sizes name blocks first in
      goes_along es w new g
      (record { reached = reached_first w may; outcomes = refl; sizes_are = refl; name_is = refl })

  -- what holds of each world of a run
  pub always_along : (w : World) → IsAlong sizes name w → Always w
  always_along w a = reached_always w a.reached

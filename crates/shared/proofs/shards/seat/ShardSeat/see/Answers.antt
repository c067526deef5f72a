use Rattle.std.proofs.Common.{rules, tests, arith, ap, sym, subst, ⊎_elim, ◌∙◌, ◌≡◌, ◌≢◌, ◌<◌, ◌≤◌, ◌⊎◌, ℕ, List, Result, length, slice_index_or, slice_set}
use Rattle.std.specs.Prelude.{All, IfErr, OnOk, MatchOption}
use Rattle.std.specs.List.{AllWithin, HoldsAt}
use Rattle.std.proofs.lemmas.Iterator.{IsFirst-from_position, YieldsList-from_slice}
use Rattle.std.proofs.lemmas.List.{get_or-set_same}
use Rattle.std.proofs.lemmas.Result.{IfErr-weaker, on_ok_weaker}
use mathlib.Core.List.{IsPrefix}
use Rattle.held.specs.Shown.{SeatSeen}
use Rattle.held.specs.declared.log.Slip.{Slip}
use Rattle.pc_types.specs.declared.refusal.Refusal.{Refusal}
use Rattle.pc_types.specs.declared.refusal.Refusal.TheVariants.{Stranger}
use Rattle.shared.specs.ShardSeats.{OnlyAt, Sees, SeesMore, no_seat, part}
use Rattle.shared.proofs.ShardSeated.{at_part, seated_seeing, sees_after}
use Rattle.shared.proofs.shards.seat.ShardSeat.see.Goals as goal

-- the first that is found is the one
the_first : (name : ℕ) (seats : List SeatSeen) (shard k : ℕ) → (shard < length seats) × HoldsAt (λ s. s.name ≡ name) seats shard × AllWithin (λ s. s.name ≢ name) seats 0 shard
    → (part seats k).name ≡ name → ((j : ℕ) → j < k → (part seats j).name ≢ name) → shard ≡ k
the_first name seats shard k found named first =
    let before : k < shard → ⊥ = λ less. found.2 k no_seat (omega arith) less named in
    let after : shard < k → ⊥ = λ less. first shard less (found.1 no_seat) in
    omega (arith, before, after)

-- where none has the name nothing is found
foreign : (name : ℕ) (now inside : List SeatSeen) (shard : ℕ) → inside ≡ now → All (λ s. s.name ≢ name) now → shard < length inside
    → HoldsAt (λ s. s.name ≡ name) inside shard → ⊥
foreign name now inside shard same all less named =
    subst (All (λ (s : SeatSeen). s.name ≢ name)) (sym same) all shard no_seat less (named no_seat)

sees_by : (slip : Slip) (own new : SeatSeen) (result : Result Unit Refusal) → own.name ≡ slip.name
    → (new.table ≡ own.table) × (new.name ≡ own.name) × (new.number ≡ own.number) × (new.count ≡ own.count)
    → IsPrefix own.list new.list → OnOk result ((slip.name ≡ own.name) × (slip.place < length new.list))
    → IfErr result (λ e. (e ≡ Stranger) × ((slip.name ≢ own.name) ⊎ (length new.list ≤ slip.place)))
    → Sees slip own new result
sees_by slip own new result named same grows ok err = record {
  same = same;
  grows = grows;
  ok = on_ok_weaker result (λ h. h.1) ok;
  err = IfErr-weaker result _ _ (λ e h. (h.0, ⊎_elim (λ not. absurd (not (sym named))) (λ short. short) h.1)) err;
}

sees_there : (slip : Slip) (now inside : List SeatSeen) (shard k : ℕ) (own new : SeatSeen) (result : Result Unit Refusal) → inside ≡ now
    → (shard < length inside) × HoldsAt (λ s. s.name ≡ slip.name) inside shard × AllWithin (λ s. s.name ≢ slip.name) inside 0 shard
    → own ≡ slice_index_or inside shard own → (own.name ≡ slip.name → Sees slip own new result)
    → (part now k).name ≡ slip.name → ((j : ℕ) → j < k → (part now j).name ≢ slip.name)
    → OnlyAt k now (slice_set inside shard new) × Sees slip (part now k) (part (slice_set inside shard new) k) result
sees_there slip now inside shard k own new result same found is sees named first =
    subst (λ seats. OnlyAt k seats (slice_set inside shard new) × Sees slip (part seats k) (part (slice_set inside shard new) k) result) same
    (subst (λ n. OnlyAt n inside (slice_set inside shard new) × Sees slip (part inside n) (part (slice_set inside shard new) n) result) at (
      ap (λ s. slice_set inside shard s) (sym (get_or-set_same inside shard new no_seat found.0)),
      at_part (λ a b. Sees slip a b result) inside shard own new found.0 is
          (sees (ap (λ (s : SeatSeen). s.name) is ∙ found.1 own)),
    ))
  where
    at : shard ≡ k
    at = the_first slip.name inside shard k found (ap (λ seats. (part seats k).name) same ∙ named)
        (λ j less of. first j less (ap (λ seats. (part seats j).name) (sym same) ∙ of))

pub returns-in-Some : goal.returns-in-Some
returns-in-Some c =
    let name = c.args.slip.now.name in
    let seats = c.self.inside.seats.items in
    let found : MatchOption c.position.result (AllWithin (λ (s : SeatSeen). s.name ≢ name) seats 0 (length seats)) (λ i. (i < length seats) × HoldsAt (λ (s : SeatSeen). s.name ≡ name) seats i × AllWithin (λ (s : SeatSeen). s.name ≢ name) seats 0 i) =
    IsFirst-from_position _ _ c.position.result (λ (s : SeatSeen). s.name ≡ name) (λ (s : SeatSeen). s.name ≢ name) c.position.ensures.ran (YieldsList-from_slice seats cc) (λ x q k. search (rules, tests)) (λ x q k. search (rules, tests)) in
    let here = subst (λ o. MatchOption o (AllWithin (λ (s : SeatSeen). s.name ≢ name) seats 0 (length seats)) (λ i. (i < length seats) × HoldsAt (λ (s : SeatSeen). s.name ≡ name) seats i × AllWithin (λ (s : SeatSeen). s.name ≢ name) seats 0 i)) c.in-Some.is found in
    let more : SeesMore c.index_mut.result.now c.see.new.self = record { same = c.see.ensures.same; grows = c.see.ensures.grows } in
    record {
      none = λ all. absurd (foreign name c.args.self.now seats c.in-Some.shard c.self.view_is all here.0 here.1);
      one = λ k less named first.
          sees_there c.args.slip.now c.args.self.now seats c.in-Some.shard k c.index_mut.result.now c.see.new.self c.see.result c.self.view_is here c.index_mut.ensures.value
          (λ of. sees_by c.args.slip.now c.index_mut.result.now c.see.new.self c.see.result of c.see.ensures.same c.see.ensures.grows c.see.ensures.ok c.see.ensures.err)
          named first;
      same = sees_after c.args.self.now seats c.in-Some.shard c.index_mut.result.now c.see.new.self c.self.view_is here.0 c.index_mut.ensures.value more;
      seated = λ names seated.
          seated_seeing names c.args.self.now seats c.in-Some.shard c.index_mut.result.now c.see.new.self c.self.view_is here.0 c.index_mut.ensures.value more seated;
    }

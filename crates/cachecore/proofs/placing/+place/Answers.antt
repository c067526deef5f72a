use Rattle.std.proofs.Common.{arith, inl, inr, ap, sym, subst, ◌∙◌, ◌≡◌, ◌-◌, ◌≤◌, ℕ, not, length, false}
use Rattle.std.specs.Prelude.{is_some, option_map, IfSome, None}
use Rattle.std.specs.List.{range_with_len}
use Rattle.std.specs.FinMap as map
use Rattle.blockmap.specs.Blocks.{Blocks, free_blocks}
use Rattle.blockmap.specs.Told.{told}
use Rattle.cachecore.specs.Placing.{HasBare, with_placed}
use Rattle.pagestore.proofs.PairLemmas.{on_ok, when_err, when_ok}
use Rattle.pagestore.proofs.StoreLaws.{some_mapped}
use Rattle.pagestore.proofs.RangeLemmas.{err_map, ne_less, none_of, on_err_of, ok_map}
use Rattle.cachecore.proofs.PlaceLemmas.{IsGiven, is_given, count_past, placed_past, placed_none, room_given}
use Rattle.cachecore.proofs.PlaceLemmas.{placed_given, given_unwritten, given_unheld, undone}
use Rattle.cachecore.proofs.placing.+place.Goals as goal
use Rattle.cachecore.proofs.placing.+place.Goals.{Else-is_err}

-- the page got a block
block_given : (t : ℕ) (c : Else-is_err t) → IsGiven c.args.blocks.now c.args.span.file c.args.next c.assign.new.self
block_given t c =
    let b = c.args.blocks.now in
    let none = none_of (map.get b.spots (c.args.span.file, c.args.next)) (c.if-is_some.ensures ∙ ap is_some c.map.ensures
    ∙ some_mapped told (map.get b.spots (c.args.span.file, c.args.next))) in
    is_given b c.assign.new.self c.args.span.file c.args.next c.assign.result none c.if-is_err.ensures.value
    c.assign.ensures.lowest c.assign.ensures.given

pub returns-then-next-span-clause-placed : goal.returns-then-next-span-clause-placed
returns-then-next-span-clause-placed t c =
    on_ok c.write.result _ (λ _. sym
    (ap (λ n. with_placed c.args.blocks.now c.args.span.file (range_with_len c.args.next (n - c.args.next)))
    (sym c.if-next-span.true) ∙ placed_none c.args.blocks.now c.args.span.file c.args.next))

pub place-requires : goal.place-requires
place-requires t c =
    let b = c.args.blocks.now in
    let less = ne_less c.args.next c.args.span.end c.requires.order c.if-next-span.false in
    let has = c.if-is_some.ensures ∙ ap is_some c.map.ensures
    ∙ some_mapped told (map.get b.spots (c.args.span.file, c.args.next)) in
    let room =
    subst (λ n. n ≤ length (free_blocks b))
    (count_past b c.args.span.file c.args.next c.args.span.end less (ap not (sym has))) c.requires.room in
    (omega (arith, less), (c.requires.file, (c.requires.here, (c.requires.size, (c.requires.positive, (c.requires.small, (c.requires.some, (c.requires.bound, (c.requires.from, (omega (arith, c.requires.begun), (omega (arith, less), (c.requires.to, (c.requires.below, (c.requires.sized, (c.requires.idle, (c.requires.flags, (c.requires.frames, room)))))))))))))))))

pub returns-then-is_some-clause-placed : goal.returns-then-is_some-clause-placed
returns-then-is_some-clause-placed t c =
    let b = c.args.blocks.now in
    let less = ne_less c.args.next c.args.span.end c.requires.order c.if-next-span.false in
    let has = c.if-is_some.ensures ∙ ap is_some c.map.ensures
    ∙ some_mapped told (map.get b.spots (c.args.span.file, c.args.next)) in
    ok_map c.place.result _ _ c.place.ensures.placed
    (λ e. e ∙ placed_past b c.args.span.file c.args.next c.args.span.end less (ap not (sym has)))

pub place-rest-requires : goal.place-rest-requires
place-rest-requires t c =
    let b = c.args.blocks.now in
    let less = ne_less c.args.next c.args.span.end c.requires.order c.if-next-span.false in
    let none = none_of (map.get b.spots (c.args.span.file, c.args.next)) (c.if-is_some.ensures ∙ ap is_some c.map.ensures
    ∙ some_mapped told (map.get b.spots (c.args.span.file, c.args.next))) in
    let given : IsGiven b c.args.span.file c.args.next c.assign.new.self =
    is_given b c.assign.new.self c.args.span.file c.args.next c.assign.result none c.if-is_err.ensures.value
    c.assign.ensures.lowest c.assign.ensures.given in
    (omega (arith, less), (c.requires.file, (c.requires.here, (c.requires.size, (c.requires.positive, (c.requires.small, (c.requires.some, (c.requires.bound, (c.requires.from, (omega (arith, c.requires.begun), (omega (arith, less), (c.requires.to, (c.requires.below, (c.requires.sized, (c.requires.idle, (c.requires.flags, (c.requires.frames, room_given b c.assign.new.self c.args.span.file c.args.next c.args.span.end less given c.requires.room)))))))))))))))))

pub unassign-requires-clause-unwritten : goal.unassign-requires-clause-unwritten
unassign-requires-clause-unwritten t c =
    let b = c.args.blocks.now in
    let less = ne_less c.args.next c.args.span.end c.requires.order c.if-next-span.false in
    let given = block_given t (goal.at.unassign-requires-clause-unwritten t c).Else-is_err in
    let same = when_err c.place-rest.result _ c.if-is_err-2.ensures.value c.place-rest.ensures.not_placed in
    subst (λ (n : Blocks). IfSome (map.get n.spots (c.args.span.file, c.args.next)) (λ spot. spot.valid ≡ 0))
    (sym same) (given_unwritten b c.assign.new.self c.args.span.file c.args.next c.args.span.end less given)

pub unassign-requires-clause-not_held : goal.unassign-requires-clause-not_held
unassign-requires-clause-not_held t c =
    let b = c.args.blocks.now in
    let less = ne_less c.args.next c.args.span.end c.requires.order c.if-next-span.false in
    let given = block_given t (goal.at.unassign-requires-clause-not_held t c).Else-is_err in
    let same = when_err c.place-rest.result _ c.if-is_err-2.ensures.value c.place-rest.ensures.not_placed in
    subst (λ (n : Blocks). IfSome (map.get n.spots (c.args.span.file, c.args.next))
    (λ spot. map.get n.held spot.block ≡ None)) (sym same)
    (given_unheld b c.assign.new.self c.args.span.file c.args.next c.args.span.end less given)

pub returns-then-is_err-2-clause-not_placed : goal.returns-then-is_err-2-clause-not_placed
returns-then-is_err-2-clause-not_placed t c =
    let b = c.args.blocks.now in
    let less = ne_less c.args.next c.args.span.end c.requires.order c.if-next-span.false in
    let given = block_given t (goal.at.returns-then-is_err-2-clause-not_placed t c).Else-is_err in
    let same = when_err c.place-rest.result _ c.if-is_err-2.ensures.value c.place-rest.ensures.not_placed in
    on_err_of c.place-rest.result _
    (undone b c.place-rest.new.blocks c.args.span.file c.args.next c.args.span.end less
    (subst (IsGiven b c.args.span.file c.args.next) (sym same) given) c.unassign.result c.unassign.new.self
    c.unassign.ensures.freed c.unassign.ensures.none.0 c.unassign.ensures.only)

pub returns-else-is_err-2-clause-placed : goal.returns-else-is_err-2-clause-placed
returns-else-is_err-2-clause-placed t c =
    let b = c.args.blocks.now in
    let less = ne_less c.args.next c.args.span.end c.requires.order c.if-next-span.false in
    let given = block_given t (goal.at.returns-else-is_err-2-clause-placed t c).Else-is_err in
    on_ok c.place-rest.result _ (λ _. placed_given b c.assign.new.self c.args.span.file c.args.next c.args.span.end less given
    c.place-rest.new.blocks (when_ok c.place-rest.result _ c.if-is_err-2.ensures.value c.place-rest.ensures.placed))

-- ---- a write that is refused

-- the page has no block
bare_next : (b : Blocks) (f next end : ℕ) → next ≤ end → (next ≡ end → ⊥)
    → false ≡ is_some (option_map told (map.get b.spots (f, next))) → HasBare f next end b
bare_next b f next end order other none = record {
  page = next;
  from = omega arith;
  before = ne_less next end order other;
  bare = ap not (sym (none ∙ some_mapped told (map.get b.spots (f, next))));
}

pub returns-then-next-span-clause-wanting : goal.returns-then-next-span-clause-wanting
returns-then-next-span-clause-wanting t c = err_map c.write.result _ _ c.write.ensures.absent (λ h. inl h)

pub returns-then-is_some-clause-wanting : goal.returns-then-is_some-clause-wanting
returns-then-is_some-clause-wanting t c =
    err_map c.place.result _ _ c.place.ensures.wanting (λ h. elim h [
      | inl a ↦ inl a
      | inr a ↦ inr (record { page = a.page; from = omega (arith, a.from); before = a.before; bare = a.bare })
    ])

pub returns-then-is_err-clause-wanting : goal.returns-then-is_err-clause-wanting
returns-then-is_err-clause-wanting t c =
    inr (bare_next c.args.blocks.now c.args.span.file c.args.next c.args.span.end c.requires.order c.if-next-span.false
    (c.if-is_some.ensures ∙ ap is_some c.map.ensures))

pub returns-then-is_err-2-clause-wanting : goal.returns-then-is_err-2-clause-wanting
returns-then-is_err-2-clause-wanting t c =
    on_err_of c.place-rest.result _
    (inr (bare_next c.args.blocks.now c.args.span.file c.args.next c.args.span.end c.requires.order c.if-next-span.false
    (c.if-is_some.ensures ∙ ap is_some c.map.ensures)))

pub returns-else-is_err-2-clause-wanting : goal.returns-else-is_err-2-clause-wanting
returns-else-is_err-2-clause-wanting t c =
    on_err_of c.place-rest.result _
    (inr (bare_next c.args.blocks.now c.args.span.file c.args.next c.args.span.end c.requires.order c.if-next-span.false
    (c.if-is_some.ensures ∙ ap is_some c.map.ensures)))

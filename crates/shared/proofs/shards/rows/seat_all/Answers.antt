use Rattle.std.proofs.Common.{rules, arith, refl, sym, ◌∙◌, ap, subst, ◌≡◌, ◌-◌, ◌++◌, ◌∷◌, [], length, slice_set}
use Rattle.shared.proofs.ShardRowing.{AreSeatedFrom, last_fresh, others_fresh, seated_none, seated_one, seated_each}
use Rattle.shared.proofs.shards.rows.seat_all.Goals as goal

pub loop-seat-init : goal.loop-seat-init
loop-seat-init c = (
  c.requires ∙ sym c.len-row.ensures,
  refl,
  omega (arith, c.len-row.ensures),
  λ names n rows seats.
      (seats, seated_none c.len-row.result names n c.args.rows.now.items (omega (arith, c.len-row.ensures, c.args.rows.now.ok.0)) rows),
)

pub loop-seat-preserved : goal.loop-seat-preserved
loop-seat-preserved c =
    let i = c.loop-seat.invariant in
    let row = c.loop-seat.row - 1 in
    let shorter = c.in-Some.ensures.cases in
    let popped : length c.pop.new.self.items ≡ row = omega (arith, i.0, shorter, c.pop.new.self.ok.0) in (
      omega (arith, i.0, shorter),
      i.1,
      omega (arith, i.2),
      λ names n rows seats.
          let here = i.3 names n rows seats in
          let is = c.in-Some.ensures.items in
          let grown = c.in_ok-add.ensures ∙ ap (λ seats. seats ++ c.in-Some.seat ∷ []) c.index_mut.ensures.value in (
            others_fresh n.table n.name c.loop-seat.seats.items c.pop.new.self.items c.in-Some.seat is here.0,
            subst (λ seats. AreSeatedFrom row names n (slice_set c.loop-seat.rows.items row seats)) (sym grown)
                (seated_one c.loop-seat.row row names n c.loop-seat.rows.items c.in-Some.seat c.index_mut.result.now (omega (arith, i.0, shorter))
                (omega (arith, i.0, i.2, shorter, c.loop-seat.rows.ok.0)) here.1
                (last_fresh n.table n.name row c.loop-seat.seats.items c.pop.new.self.items c.in-Some.seat is popped here.0)),
          ),
    )

pub returns-clause-seated : goal.returns-clause-seated
returns-clause-seated c = λ names n rows seats.
    seated_each c.loop-seat.row names n c.loop-seat.rows.items (search (rules, arith)) (c.loop-seat.invariant.3 names n rows seats).1

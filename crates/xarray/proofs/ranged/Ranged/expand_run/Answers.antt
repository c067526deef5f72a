use Rattle.std.proofs.Common.{◌+◌, ◌-◌, ◌*◌, refl, sym, arith, subst}
use Rattle.std.proofs.lemmas.Nat.{pow_pos}
use Rattle.radix.specs.Entries.{StandsAt}
use Rattle.xarray.specs.View.{ranges_of}
use Rattle.xarray.proofs.RowLemmas.{node_at, room_for, row_at, row_gone, row_here, row_one, row_top, row_within}
use Rattle.xarray.proofs.ranged.Ranged.expand_run.Goals as goal

pub unreachable-requires : goal.unreachable-requires
unreachable-requires c = row_gone c.self.inside.nodes c.self.invariant c.args.first c.args.level c.args.count (rw (sym c.self.view_is) at c.requires.row) c.requires.some c.in_default.ensures

pub overflow_add-at : goal.overflow_add-at
overflow_add-at c =
    let shape = rw (c.self.view_is) at c.self.invariant.stands.shape in
    let row = c.requires.row in
    let e = row_at (ranges_of c.args.self.now) shape c.args.first c.args.level c.args.count row.range row.row c.slots.slot c.slots-test.true in
    let w = row_within (ranges_of c.args.self.now) shape c.args.first c.args.level c.args.count row.range row.row c.slots.slot c.slots-test.true in
    omega (arith, e, w, pow_pos (6 * c.args.level))

pub expand_one-requires-clause-whole : goal.expand_one-requires-clause-whole
expand_one-requires-clause-whole c =
    let shape = rw (c.self.view_is) at c.self.invariant.stands.shape in
    let row = c.requires.row in
    let e = row_at (ranges_of c.args.self.now) shape c.args.first c.args.level c.args.count row.range row.row c.slots.slot c.slots-test.true in
    record {
      range = record row.range { order = 6 * c.args.level };
      there = row_here c.args.level c.args.step c.requires.inner c.requires.step (ranges_of c.args.self.now) c.args.first c.args.count row.range row.row (ranges_of c.slots.self) c.slots.slot _ e (c.slots.invariant.parts row.range row.row) c.slots-test.true;
      order_is = refl;
      level_is = omega arith;
      top = row_top (ranges_of c.args.self.now) shape c.args.first c.args.level c.args.count row.range row.row c.slots.slot c.slots-test.true;
    }

pub expand_one-requires-clause-stands : goal.expand_one-requires-clause-stands
expand_one-requires-clause-stands c =
    let shape = rw (c.self.view_is) at c.self.invariant.stands.shape in
    let row = c.requires.row in
    let e = row_at (ranges_of c.args.self.now) shape c.args.first c.args.level c.args.count row.range row.row c.slots.slot c.slots-test.true in
    subst (StandsAt c.slots.self c.in-Some.cursor c.args.level) (node_at c.args.first c.args.level c.slots.slot _ c.args.count e c.requires.within c.slots-test.true) c.slots.invariant.stands

pub expand_one-requires-clause-room : goal.expand_one-requires-clause-room
expand_one-requires-clause-room c = room_for c.slots.self (0 + (c.args.count - c.slots.slot)) 1 (let low = c.slots-test.true in omega (arith, low)) (c.slots.invariant.room 0 (room_for c.args.self.now c.args.count (0 + c.args.count) (omega arith) c.requires.room))

pub slots-preserved : goal.slots-preserved
slots-preserved c =
    let shape = rw (c.self.view_is) at c.self.invariant.stands.shape in
    let low = c.slots-test.true in
    let row = c.requires.row in
    let e = row_at (ranges_of c.args.self.now) shape c.args.first c.args.level c.args.count row.range row.row c.slots.slot low in
    record {
      parts = λ r row. row_one c.args.level c.args.step c.requires.inner c.requires.step (ranges_of c.args.self.now) c.args.first c.args.count r row (ranges_of c.slots.self) c.slots.slot _ e (c.slots.invariant.parts r row) low (ranges_of c.expand_one.new.self) c.expand_one.ensures.parts;
      stands = subst (StandsAt c.expand_one.new.self c.in-Some.cursor c.args.level) (sym (node_at c.args.first c.args.level c.slots.slot _ c.args.count e c.requires.within low)) c.expand_one.ensures.stands;
      room = λ more had. c.expand_one.ensures.room (more + (c.args.count - (c.slots.slot + 1))) (room_for c.slots.self (more + (c.args.count - c.slots.slot)) (more + (c.args.count - (c.slots.slot + 1)) + 1) (omega (arith, low)) (c.slots.invariant.room more had));
    }

pub returns-clause-room : goal.returns-clause-room
returns-clause-room c = λ more had. room_for c.slots.self (more + (c.args.count - c.slots.slot)) more (omega arith) (c.slots.invariant.room more had)

use Rattle.std.proofs.Common.{◌≡◌, ◌+◌, ◌-◌, ◌*◌, ◌/◌, ◌%◌, ◌^◌, ap, ◌∙◌, arith}
use Rattle.xarray.specs.Rows.{tree_of}
use Rattle.xarray.specs.View.{ranges_of}
use Rattle.xarray.proofs.RowLemmas.{room_for}
use Rattle.xarray.proofs.SplitLemmas.{level_down, parts_at, rooms, row_of}
use Rattle.xarray.proofs.ranged.Ranged.split_down.Goals as goal

pub levels-init : goal.levels-init
levels-init c =
    let from = c.args.from in
    let top = from / 6 in
    let e : 2 ^ (from % 6) * tree_of (top - c.args.order / 6) ≡ 2 ^ (from - 6 * top) * tree_of (top - c.args.order / 6) = ap (λ k. 2 ^ k * tree_of (top - c.args.order / 6)) (let e : from % 6 ≡ from - 6 * top = omega arith in e) in
    record {
      low = omega (arith, c.requires.lower);
      high = omega arith;
      parts = λ r is. c.cut.ensures.parts r is ∙ parts_at (ranges_of c.args.self.now) c.args.first from (6 * top + 0) (6 * top) r (omega arith);
      room = c.cut.ensures.room _ (room_for c.args.self.now _ _ (omega (arith, e)) c.requires.room);
    }

pub expand_level-requires-clause-row : goal.expand_level-requires-clause-row
expand_level-requires-clause-row c = record {
  range = c.requires.whole.range;
  row = row_of (ranges_of c.args.self.now) (ranges_of c.levels.self) c.args.first (6 * c.levels.level) (2 ^ (c.args.from - 6 * c.levels.level)) c.requires.whole.range (c.levels.invariant.parts c.requires.whole.range c.requires.whole.there);
}

pub expand_level-requires-clause-room : goal.expand_level-requires-clause-room
expand_level-requires-clause-room c =
    let e = rooms c.args.from c.levels.level (c.args.order / 6) (omega (arith, c.levels-test.true)) c.levels.invariant.high in
    room_for c.levels.self _ _ (omega (arith, e)) c.levels.invariant.room

pub levels-preserved : goal.levels-preserved
levels-preserved c =
    let m = ranges_of c.args.self.now in
    let level = c.levels.level in
    let from = c.args.from in
    let test = c.levels-test.true in
    let e = rooms from level (c.args.order / 6) (omega (arith, test)) c.levels.invariant.high in
    record {
      low = omega (arith, test);
      high = omega (arith, c.levels.invariant.high);
      parts = λ r is.
          level_down m (ranges_of c.levels.self) (ranges_of c.expand_level.new.self) c.args.first from (6 * (level - 1) + 0) (6 * level) r (omega arith) c.levels.invariant.high (c.levels.invariant.parts r is)
          (c.expand_level.ensures.parts r (row_of m (ranges_of c.levels.self) c.args.first (6 * level) (2 ^ (from - 6 * level)) r (c.levels.invariant.parts r is)))
          ∙ parts_at m c.args.first from (6 * (level - 1) + 0) (6 * (level - 1)) r (omega arith);
      room = c.expand_level.ensures.room _ (room_for c.levels.self _ _ (omega (arith, e)) c.levels.invariant.room);
    }

pub expand_level-requires-2-clause-row : goal.expand_level-requires-2-clause-row
expand_level-requires-2-clause-row c =
    let last = c.args.order / 6 + 1 in
    let same : 6 * c.levels.level ≡ 6 * last = omega (arith, c.levels-test.false, c.levels.invariant.low) in
    record {
      range = c.requires.whole.range;
      row = row_of (ranges_of c.args.self.now) (ranges_of c.levels.self) c.args.first (6 * last) (2 ^ (c.args.from - 6 * last)) c.requires.whole.range (c.levels.invariant.parts c.requires.whole.range c.requires.whole.there ∙ parts_at (ranges_of c.args.self.now) c.args.first c.args.from (6 * c.levels.level) (6 * last) c.requires.whole.range same);
    }

pub returns : goal.returns
returns c = λ r is.
    let m = ranges_of c.args.self.now in
    let from = c.args.from in
    let last = c.args.order / 6 + 1 in
    let same : 6 * c.levels.level ≡ 6 * last = omega (arith, c.levels-test.false, c.levels.invariant.low) in
    let so_far = c.levels.invariant.parts r is ∙ parts_at m c.args.first from (6 * c.levels.level) (6 * last) r same in
    level_down m (ranges_of c.levels.self) (ranges_of c.expand_level-2.new.self) c.args.first from (6 * (last - 1) + c.args.order % 6) (6 * last) r (omega arith) (let high = c.levels.invariant.high in omega (arith, high, same)) so_far
    (c.expand_level-2.ensures.parts r (row_of m (ranges_of c.levels.self) c.args.first (6 * last) (2 ^ (from - 6 * last)) r so_far))
    ∙ parts_at m c.args.first from (6 * (last - 1) + c.args.order % 6) c.args.order r (omega arith)

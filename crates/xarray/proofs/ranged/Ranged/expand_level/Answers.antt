use Rattle.std.proofs.Common.{◌≡◌, ◌+◌, ◌-◌, ◌*◌, ◌^◌, refl, sym, ap, ◌∙◌, arith}
use Rattle.xarray.specs.MarkedArray.{parts}
use Rattle.xarray.specs.View.{ranges_of}
use Rattle.xarray.proofs.RowLemmas.{down_all, room_for, row_left, row_run, run_all, run_at, run_fits, run_is, run_left, run_within}
use Rattle.xarray.proofs.ranged.Ranged.expand_level.Goals as goal

pub overflow_add-at-in-nodes : goal.overflow_add-at-in-nodes
overflow_add-at-in-nodes c = omega (arith, run_fits (ranges_of c.args.self.now) (rw (c.self.view_is) at c.self.invariant.stands.shape) c.args.first c.args.from c.args.level c.min-width.result _ c.requires.top c.requires.fits c.requires.aligned c.min-width.ensures refl c.requires.row.range c.requires.row.row c.nodes.node c.nodes-test.true)

pub expand_run-requires-clause-within : goal.expand_run-requires-clause-within
expand_run-requires-clause-within c = run_within (ranges_of c.args.self.now) (rw (c.self.view_is) at c.self.invariant.stands.shape) c.args.first c.args.from c.args.level c.min-width.result _ c.requires.top c.requires.fits c.requires.aligned c.min-width.ensures refl c.requires.row.range c.requires.row.row c.nodes.node c.nodes-test.true

pub expand_run-requires-clause-row : goal.expand_run-requires-clause-row
expand_run-requires-clause-row c =
    let row = c.requires.row in
    let width = c.min-width.result in
    let at = run_at (ranges_of c.args.self.now) (rw (c.self.view_is) at c.self.invariant.stands.shape) c.args.first c.args.from c.args.level c.min-width.result _ c.requires.top c.requires.fits c.requires.aligned c.min-width.ensures refl c.requires.row.range c.requires.row.row c.nodes.node c.nodes-test.true in
    let left = run_left (ranges_of c.args.self.now) (rw (c.self.view_is) at c.self.invariant.stands.shape) c.args.first c.args.from c.args.level c.min-width.result _ c.requires.top c.requires.fits c.requires.aligned c.min-width.ensures refl c.requires.row.range c.requires.row.row c.nodes.node c.nodes-test.true in
    let is = run_is (ranges_of c.args.self.now) (rw (c.self.view_is) at c.self.invariant.stands.shape) c.args.first c.args.from c.args.level c.min-width.result _ c.requires.top c.requires.fits c.requires.aligned c.min-width.ensures refl c.requires.row.range c.requires.row.row in
    record {
      range = row.range;
      row = row_left c.args.level c.args.step c.requires.inner c.requires.step (ranges_of c.args.self.now) c.args.first (2 ^ (c.args.from - 6 * c.args.level)) row.range row.row (ranges_of c.nodes.self) (c.nodes.node * 2 ^ width) _ at (c.nodes.invariant.parts row.range row.row) _ (2 ^ width) is left;
    }

pub expand_run-requires-clause-room : goal.expand_run-requires-clause-room
expand_run-requires-clause-room c =
    let all = 2 ^ (c.args.from - 6 * c.args.level) in
    let left = run_left (ranges_of c.args.self.now) (rw (c.self.view_is) at c.self.invariant.stands.shape) c.args.first c.args.from c.args.level c.min-width.result _ c.requires.top c.requires.fits c.requires.aligned c.min-width.ensures refl c.requires.row.range c.requires.row.row c.nodes.node c.nodes-test.true in
    let is = run_is (ranges_of c.args.self.now) (rw (c.self.view_is) at c.self.invariant.stands.shape) c.args.first c.args.from c.args.level c.min-width.result _ c.requires.top c.requires.fits c.requires.aligned c.min-width.ensures refl c.requires.row.range c.requires.row.row in
    room_for c.nodes.self (0 + (all - c.nodes.node * 2 ^ c.min-width.result)) _ (omega (arith, left, is)) (c.nodes.invariant.room 0 (room_for c.args.self.now all (0 + all) (omega arith) c.requires.room))

pub nodes-preserved : goal.nodes-preserved
nodes-preserved c =
    let m = ranges_of c.args.self.now in
    let width = c.min-width.result in
    let all = 2 ^ (c.args.from - 6 * c.args.level) in
    let done = c.nodes.node * 2 ^ width in
    let at = run_at (ranges_of c.args.self.now) (rw (c.self.view_is) at c.self.invariant.stands.shape) c.args.first c.args.from c.args.level c.min-width.result _ c.requires.top c.requires.fits c.requires.aligned c.min-width.ensures refl c.requires.row.range c.requires.row.row c.nodes.node c.nodes-test.true in
    let left = run_left (ranges_of c.args.self.now) (rw (c.self.view_is) at c.self.invariant.stands.shape) c.args.first c.args.from c.args.level c.min-width.result _ c.requires.top c.requires.fits c.requires.aligned c.min-width.ensures refl c.requires.row.range c.requires.row.row c.nodes.node c.nodes-test.true in
    let is = run_is (ranges_of c.args.self.now) (rw (c.self.view_is) at c.self.invariant.stands.shape) c.args.first c.args.from c.args.level c.min-width.result _ c.requires.top c.requires.fits c.requires.aligned c.min-width.ensures refl c.requires.row.range c.requires.row.row in
    let more_is : (c.nodes.node + 1) * 2 ^ width ≡ done + 2 ^ width = omega arith in
    record {
      parts = λ r row.
          row_run c.args.level c.args.step c.requires.inner c.requires.step m c.args.first all r row (ranges_of c.nodes.self) done _ at (c.nodes.invariant.parts r row) _ (2 ^ width) is left (ranges_of c.expand_run.new.self) c.expand_run.ensures.parts
          ∙ ap (λ n. parts m c.args.first (6 * (c.args.level - 1) + c.args.step) r (n * 2 ^ (6 - c.args.step))) (sym more_is);
      room = λ more had. c.expand_run.ensures.room (more + (all - (c.nodes.node + 1) * 2 ^ width)) (room_for c.nodes.self (more + (all - done)) _ (omega (arith, left, is, more_is)) (c.nodes.invariant.room more had));
    }

pub returns-clause-parts : goal.returns-clause-parts
returns-clause-parts c = λ r row.
    let width = c.min-width.result in
    let all : c.nodes.node * 2 ^ width ≡ 2 ^ (c.args.from - 6 * c.args.level) = ap (λ n. n * 2 ^ width) (let e : c.nodes.node ≡ _ = omega (arith, c.nodes-test.false, c.nodes.auto.node-end) in e) ∙ run_all (ranges_of c.args.self.now) (rw (c.self.view_is) at c.self.invariant.stands.shape) c.args.first c.args.from c.args.level c.min-width.result _ c.requires.top c.requires.fits c.requires.aligned c.min-width.ensures refl c.requires.row.range c.requires.row.row in
    c.nodes.invariant.parts r row
    ∙ ap (λ n. parts (ranges_of c.args.self.now) c.args.first (6 * (c.args.level - 1) + c.args.step) r n) (ap (λ n. n * 2 ^ (6 - c.args.step)) all ∙ down_all c.args.from c.args.level c.args.step c.requires.inner c.requires.step c.requires.fits)

pub returns-clause-room : goal.returns-clause-room
returns-clause-room c = λ more had. room_for c.nodes.self (more + (2 ^ (c.args.from - 6 * c.args.level) - c.nodes.node * 2 ^ c.min-width.result)) more (omega arith) (c.nodes.invariant.room more had)

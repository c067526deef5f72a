use Rattle.std.proofs.Common.{rules, ◌≡◌, arith, true, false}
use Rattle.trail.specs.Replay.{plain_of}
use Rattle.trail.proofs.ReplayLaws.{fronts_on, is_first_odd, fronts_all}
use Rattle.trail.proofs.replay.odd_from.Goals as goal

pub loop-place-init : goal.loop-place-init
loop-place-init c = λ n l. (λ x. x, λ x. x)

pub returns-then-not-branch-clause-odd : goal.returns-then-not-branch-clause-odd
returns-then-not-branch-clause-odd c =
    let no : c.in_ok-replay.field-0 ≡ false = search rules in
    is_first_odd (plain_of c.args.plain) c.args.trail.now.entries c.loop-place.place c.line.result.0.now c.line.result.1.now
    c.line.result.2.now c.line.ensures (plain_of c.loop-place.plain) c.loop-place.invariant c.in_ok-replay.field-0
    (plain_of c.replay.new.self) no c.in_ok-replay.ensures.answered
    (let a = c.loop-place-test.true in let b = c.lines.ensures in omega arith)

pub loop-place-smaller : goal.loop-place-smaller
loop-place-smaller c = let a = c.loop-place-test.true in let b = c.lines.ensures in omega arith

pub loop-place-preserved : goal.loop-place-preserved
loop-place-preserved c =
    let yes : c.in_ok-replay.field-0 ≡ true = search rules in
    fronts_on (plain_of c.args.plain) c.args.trail.now.entries c.loop-place.place c.line.result.0.now c.line.result.1.now c.line.result.2.now
    c.line.ensures (plain_of c.loop-place.plain) c.loop-place.invariant c.in_ok-replay.field-0
    (plain_of c.replay.new.self) yes c.in_ok-replay.ensures.answered

pub returns-clause-none : goal.returns-clause-none
returns-clause-none c =
    fronts_all (plain_of c.args.plain) c.args.trail.now.entries c.loop-place.place (plain_of c.loop-place.plain) c.loop-place.invariant
    (let a = c.loop-place-test.false in let b = c.lines.ensures in omega arith)

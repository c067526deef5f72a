use Rattle.std.proofs.Common.{◌≡◌, suc, ◌+◌, ◌-◌, Some, arith}
use Rattle.frames.proofs.ScanLemmas.{first_here, first_later, at_walk, later_walk}
use Rattle.frames.proofs.ring.find_back.Goals as goal

pub test-requires : goal.test-requires
test-requires g c =
    let more : c.args.len - c.loop-passed.passed ≡ suc (c.args.len - (c.loop-passed.passed + 1)) = omega arith in
    c.requires.callable c.loop-passed.at (c.loop-passed.invariant.members c.loop-passed.at (at_walk c.args.links.now _ _ c.loop-passed.at more))

pub returns-then-test : goal.returns-then-test
returns-then-test g c =
    let more : c.args.len - c.loop-passed.passed ≡ suc (c.args.len - (c.loop-passed.passed + 1)) = omega arith in
    c.loop-passed.invariant.answers (Some c.loop-passed.at) (first_here (λ f a. goal.F-post g c.args.test.now (record { 0 = f }) a) c.args.links.now _ _ c.loop-passed.at more c.if-test.ensures)

pub prev_link-at-requires-in-loop-passed : goal.prev_link-at-requires-in-loop-passed
prev_link-at-requires-in-loop-passed g c =
    let more : c.args.len - c.loop-passed.passed ≡ suc (c.args.len - (c.loop-passed.passed + 1)) = omega arith in
    c.requires.within c.loop-passed.at (c.loop-passed.invariant.members c.loop-passed.at (at_walk c.args.links.now _ _ c.loop-passed.at more))

pub loop-passed-preserved : goal.loop-passed-preserved
loop-passed-preserved g c =
    let more : c.args.len - c.loop-passed.passed ≡ suc (c.args.len - (c.loop-passed.passed + 1)) = omega arith in
    record {
      answers = λ r h. c.loop-passed.invariant.answers r (first_later (λ f a. goal.F-post g c.args.test.now (record { 0 = f }) a) c.args.links.now _ _ c.loop-passed.at _ r more c.prev_link-at-in-loop-passed.ensures c.if-test.ensures h);
      members = λ f h. c.loop-passed.invariant.members f (later_walk c.args.links.now _ _ c.loop-passed.at _ f more c.prev_link-at-in-loop-passed.ensures h);
    }

use Rattle.std.proofs.Common.{arith, ◌+◌, length, take, ◌<◌, ◌≡◌, ◌∷◌, ◌++◌, [], List, ap, sym, ◌∙◌, subst}
use Rattle.std.proofs.lemmas.List.{take_more}
use Rattle.world.specs.declared.step.Step.{Step}
use Rattle.world.specs.Stepping.{Plays}
use Rattle.world.proofs.PlayLemmas.{plays-snoc}
use Rattle.world.proofs.world.World.play.Goals as goal

pub loop-step-preserved : goal.loop-step-preserved
loop-step-preserved g c =
    let i = c.loop-step.step-index in
    let steps = c.args.steps.now in
    let s = c.step-item.result in
    let before : i < length steps = omega arith in
    let front : take i steps ++ s ∷ [] ≡ take (i + 1) steps = ap (λ (x : Step). take i steps ++ x ∷ []) c.step-item.is
    ∙ sym (take_more steps i s before) in
    record {
      played =
          rw c.push_reserved.ensures.items
          (subst (λ (ss : List Step). Plays c.args.self.now ss (c.loop-step.replies.items ++ c.step.result ∷ [])
          c.step.new.self) front
          (plays-snoc (take i steps) c.loop-step.replies.items c.args.self.now c.loop-step.self c.step.new.self s
          c.step.result c.loop-step.invariant.played c.step.ensures));
      room = omega (arith, c.push_reserved.ensures.len, c.push_reserved.ensures.capacity);
    }

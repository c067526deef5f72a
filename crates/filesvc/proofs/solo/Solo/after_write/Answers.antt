use Rattle.std.proofs.Common.{◌≡◌, Some, None, true, refl, rules, sym, subst}
use Rattle.cachecore.specs.Replies.{wrote}
use Rattle.machine.specs.declared.event.Reply.{Reply}
use Rattle.machine.specs.declared.event.Reply.TheVariants as reply
use Rattle.filesvc.specs.Attempts.{Follows}
use Rattle.filesvc.specs.Made.{asked}
use Rattle.std.specs.Prelude.{is_some}
use Rattle.filesvc.specs.Service.{wants}
use Rattle.filesvc.proofs.Attempts.{follows_again, follows_over, settled_unless}
use Rattle.filesvc.proofs.Needs.{less_needed}
use Rattle.filesvc.proofs.solo.Solo.after_write.Goals as goal
use Rattle.filesvc.proofs.solo.Solo.after_write.Goals.{in-Ok+in-Ok-Miss+in_ok-fill-in-Ok-Miss, in-Err-NoFrame+in_ok-make_way-in-Err-NoFrame, in-Err-DirtyLimit+in_ok-make_way-in-Err-DirtyLimit}

pub returns-in-Ok-Wrote-clause-follows : goal.returns-in-Ok-Wrote-clause-follows
returns-in-Ok-Wrote-clause-follows g c =
    let got : Reply = reply.Wrote c.in-Ok-Wrote.count c.in-Ok-Wrote.end in
    let is : wrote c.args.answer ≡ got = search rules in
    subst (λ r. Follows c.args.self.now c.args.handle r (wants true c.args.self.now.world.core c.args.handle.0 c.args.offset c.args.count) (Some got) c.args.self.now) (sym is)
    (follows_over c.args.self.now c.args.handle got _ c.args.self.now refl refl)

pub returns-in-Err : goal.returns-in-Err
returns-in-Err g c = record {
  follows = rw c.in-Err.is
      (follows_over c.args.self.now c.args.handle (reply.Refused c.in-Err.refusal) _ c.args.self.now refl
      (settled_unless c.in-Err.refusal (search rules) (search rules)));
  gains = λ is. absurd cc;
}

pub returns-in_err-make_way-in-Err-NoFrame-clause-follows : goal.returns-in_err-make_way-in-Err-NoFrame-clause-follows
returns-in_err-make_way-in-Err-NoFrame-clause-follows g c =
    let helps = c.in_err-make_way-in-Err-NoFrame.ensures.helps (asked (wrote c.args.answer)) in search rules

pub returns-in_err-make_way-in-Err-DirtyLimit-clause-follows : goal.returns-in_err-make_way-in-Err-DirtyLimit-clause-follows
returns-in_err-make_way-in-Err-DirtyLimit-clause-follows g c =
    let helps = c.in_err-make_way-in-Err-DirtyLimit.ensures.helps (asked (wrote c.args.answer)) in search rules

pub returns-clause-follows : goal.returns-clause-follows
returns-clause-follows g c = elim c.match-answer.branch [
  | in-Ok+in-Ok-Miss+in_ok-fill-in-Ok-Miss w ↦ search rules
  | in-Err-NoFrame+in_ok-make_way-in-Err-NoFrame w ↦
      rw (w.in-Err-NoFrame.is, w.in-Err-NoFrame.field-0-is, w.self-is)
      (follows_again c.args.self.now c.args.handle _ _ _ None refl (w.in_ok-make_way-in-Err-NoFrame.ensures.helps None)
      w.in_ok-make_way-in-Err-NoFrame.ensures.attempts refl)
  | in-Err-DirtyLimit+in_ok-make_way-in-Err-DirtyLimit w ↦
      rw (w.in-Err-DirtyLimit.is, w.in-Err-DirtyLimit.field-0-is, w.self-is)
      (follows_again c.args.self.now c.args.handle _ _ _ None refl (w.in_ok-make_way-in-Err-DirtyLimit.ensures.helps None)
      w.in_ok-make_way-in-Err-DirtyLimit.ensures.attempts refl)
]

pub returns-clause-gains : goal.returns-clause-gains
returns-clause-gains g c =
    let h = c.args.handle.0 in
    let o = c.args.offset in
    let n = c.args.count in
    elim c.match-answer.branch [
      | in-Ok+in-Ok-Miss+in_ok-fill-in-Ok-Miss w ↦ rw w.self-is (λ _. w.in_ok-fill-in-Ok-Miss.ensures.gains)
      | in-Err-NoFrame+in_ok-make_way-in-Err-NoFrame w ↦
          (let some : is_some (wants true c.args.self.now.world.core h o n) ≡ true = rw (w.in-Err-NoFrame.is, w.in-Err-NoFrame.field-0-is) at c.requires in
          let none : wants true (c.match-answer.self).world.core h o n ≡ None = rw w.self-is w.in_ok-make_way-in-Err-NoFrame.ensures.made in
          λ _. less_needed true c.args.self.now c.match-answer.self h o n
          (rw w.self-is (w.in_ok-make_way-in-Err-NoFrame.ensures.helps None).serves) none some)
      | in-Err-DirtyLimit+in_ok-make_way-in-Err-DirtyLimit w ↦
          (let some : is_some (wants true c.args.self.now.world.core h o n) ≡ true = rw (w.in-Err-DirtyLimit.is, w.in-Err-DirtyLimit.field-0-is) at c.requires in
          let none : wants true (c.match-answer.self).world.core h o n ≡ None = rw w.self-is w.in_ok-make_way-in-Err-DirtyLimit.ensures.made in
          λ _. less_needed true c.args.self.now c.match-answer.self h o n
          (rw w.self-is (w.in_ok-make_way-in-Err-DirtyLimit.ensures.helps None).serves) none some)
    ]

use Rattle.std.proofs.Common.{◌≡◌, refl, false, Some, None, inl, inr, rules, subst, sym, ap, ◌∙◌}
use Rattle.std.specs.FinMap as finmap
use Rattle.std.specs.Prelude.{◌⊎◌, Ok, Err, IfErr}
use Rattle.cachecore.proofs.StepLemmas.{err_is}
use Rattle.filesvc.specs.Made.{is_for_sync}
use Rattle.filesvc.specs.Saving.{Ends, IsUnflushed, SaveEnds, Saves}
use Rattle.filesvc.specs.Seen.{HandleSeen, SoloSeen}
use Rattle.filesvc.specs.Service.{AreOnDevice, IsPolled, IsSyncRefusal, IsTold, Names, Reports, Serves, Tells, is_reported}
use Rattle.filesvc.specs.Syncs.{service_of}
use Rattle.filesvc.proofs.Laws.{moves_refl, serves_counted, since_same}
use Rattle.filesvc.proofs.Polled.{but_polled, serves_but, since_polled}
use Rattle.filesvc.proofs.Saved.{polled_ends, refused_ends, refused_reports, saved_refusal}
use Rattle.filesvc.proofs.SyncLaws.{refusal_counted, renamed_service}
use Rattle.filesvc.proofs.solo.Solo.fsync_range.Goals as goal
use Rattle.filesvc.proofs.solo.Solo.fsync_range.Goals.{in-Some, in-None}

pub save-requires-clause-service : goal.save-requires-clause-service
save-requires-clause-service g c = renamed_service _ _ _ _ c.self.invariant

pub returns-then-handle-self-clause-ends : goal.returns-then-handle-self-clause-ends
returns-then-handle-self-clause-ends g c = inr (inr (inr (record { moves = rw (← c.self.view_is) (moves_refl is_for_sync _); unreported = refl; kept = refl; untold = rw (← c.self.view_is) (since_same _ _ _ refl) })))

pub returns-in_err-failed-clause-serves : goal.returns-in_err-failed-clause-serves
returns-in_err-failed-clause-serves g c =
    let new : SoloSeen = record { world = c.save.new.world; errors = c.save.new.recorder; attempts = 1 } in
    serves_but _ _ _ (subst (λ s. Serves s new) c.self.view_is (serves_counted (service_of c.self.inside.world c.self.inside.recorder) (service_of c.save.new.world c.save.new.recorder) c.self.inside.attempts 1 c.save.ensures.serves))

pub returns-in_err-failed-clause-ends : goal.returns-in_err-failed-clause-ends
returns-in_err-failed-clause-ends g c =
    let why = c.in_err-failed.field-0.0 in
    let old : SoloSeen = record { world = c.self.inside.world; errors = c.self.inside.recorder; attempts = c.self.inside.attempts } in
    let h : HandleSeen = record { cache = c.handle.inside.cache; file = c.handle.inside.file.0; number = c.handle.inside.number.0; cursor = c.handle.inside.cursor; append = c.handle.inside.append; pass = c.handle.inside.pass } in
    let new : SoloSeen = record { world = c.save.new.world; errors = c.save.new.recorder; attempts = 1 } in
    subst (λ r. Ends c.args.first c.args.last c.args.self.now c.args.handle.now r new c.args.handle.now) (sym (err_is c.from_residual.result why c.from_residual.ensures.1))
    (subst (λ (k : HandleSeen). Ends c.args.first c.args.last c.args.self.now k (Err why) new k) c.handle.view_is
    (subst (λ (s : SoloSeen). Ends c.args.first c.args.last s h (Err why) new h) c.self.view_is
    (refused_ends c.args.first c.args.last old h new why c.in_err-failed.ensures.ends (c.save.ensures.serves.keeps.untold h.file refl))))

pub returns-in_err-failed-clause-reports : goal.returns-in_err-failed-clause-reports
returns-in_err-failed-clause-reports g c =
    let why = c.in_err-failed.field-0.0 in
    let old : SoloSeen = record { world = c.self.inside.world; errors = c.self.inside.recorder; attempts = c.self.inside.attempts } in
    let h : HandleSeen = record { cache = c.handle.inside.cache; file = c.handle.inside.file.0; number = c.handle.inside.number.0; cursor = c.handle.inside.cursor; append = c.handle.inside.append; pass = c.handle.inside.pass } in
    let new : SoloSeen = record { world = c.save.new.world; errors = c.save.new.recorder; attempts = 1 } in
    subst (λ r. Reports c.args.self.now c.args.handle.now r new ⊎ IsUnflushed c.args.first c.args.last c.args.self.now c.args.handle.now r new c.args.handle.now) (sym (err_is c.from_residual.result why c.from_residual.ensures.1))
    (subst (λ (k : HandleSeen). Reports c.args.self.now k (Err why) new ⊎ IsUnflushed c.args.first c.args.last c.args.self.now k (Err why) new k) c.handle.view_is
    (subst (λ (s : SoloSeen). Reports s h (Err why) new ⊎ IsUnflushed c.args.first c.args.last s h (Err why) new h) c.self.view_is
    (refused_reports c.args.first c.args.last old h new why c.in_err-failed.ensures.ends (c.save.ensures.serves.keeps.untold h.file refl))))

pub returns-in_err-failed-clause-refused : goal.returns-in_err-failed-clause-refused
returns-in_err-failed-clause-refused g c = λ names order unreported.
    let why = c.in_err-failed.field-0.0 in
    let mid = service_of c.save.new.world c.save.new.recorder in
    let new : SoloSeen = record { world = c.save.new.world; errors = c.save.new.recorder; attempts = 1 } in
    let is = err_is c.from_residual.result why c.from_residual.ensures.1 in
    let quiet : is_reported (Err why) ≡ false = ap is_reported (sym is) ∙ unreported in
    let x = refusal_counted mid 1 why (saved_refusal mid why quiet (c.in_err-failed.ensures.refused order)) in
    subst (λ r. IfErr r (λ why. IsSyncRefusal why new)) (sym is) x

pub returns-clause-serves : goal.returns-clause-serves
returns-clause-serves g c =
    let names : Names c.args.self.now c.args.handle.now = search rules in
    let mid : SoloSeen = record { world = c.save.new.world; errors = c.save.new.recorder; attempts = 1 } in
    let serves = subst (λ s. Serves s mid) c.self.view_is (serves_counted (service_of c.self.inside.world c.self.inside.recorder) (service_of c.save.new.world c.save.new.recorder) c.self.inside.attempts 1 c.save.ensures.serves) in
    but_polled c.args.self.now c.save.new.world c.save.new.recorder c.poll.new.self 1 c.handle.inside.pass.file c.args.handle.now.file c.poll.result _ c.poll.ensures.same c.poll.ensures.told (ap (λ (h : HandleSeen). h.pass.file) c.handle.view_is ∙ (c.requires.came names).pass) serves

pub returns-clause-synced : goal.returns-clause-synced
returns-clause-synced g c = elim c.match-or.branch [
  | in-Some w ↦ search rules
  | in-None w ↦
      (let names : Names c.args.self.now c.args.handle.now = search rules in
      let none : c.in_ok-failed.failed ≡ None = search rules in
      let came = c.requires.came names in
      let number : finmap.get c.self.inside.world.core.handles c.handle.inside.number.0 ≡ Some c.args.handle.now.file = (λ i. finmap.get (c.self.view_is i).world.core.handles (c.handle.view_is i).number) ∙ came.number in
      let mid : SoloSeen = record { world = c.save.new.world; errors = c.save.new.recorder; attempts = 1 } in
      rw w.result-is (λ tells.
      let held : AreOnDevice mid c.args.handle.now.file c.args.first c.args.last =
      c.save.ensures.synced (subst Tells (sym c.self.view_is) tells) c.args.handle.now.file number
      (c.in_ok-failed.was ∙ ap Ok none) in held))
]

pub returns-clause-durable : goal.returns-clause-durable
returns-clause-durable g c = elim c.match-or.branch [
  | in-Some w ↦ search rules
  | in-None w ↦
      (let none : c.in_ok-failed.failed ≡ None = search rules in
      let durable = c.save.ensures.durable (c.in_ok-failed.was ∙ ap Ok none) in
      rw w.result-is durable)
]

pub returns-clause-clean : goal.returns-clause-clean
returns-clause-clean g c = elim c.match-or.branch [
  | in-Some w ↦ search rules
  | in-None w ↦
      (let none : c.in_ok-failed.failed ≡ None = search rules in
      let ended : SaveEnds c.handle.inside.number c.args.first c.args.last c.self.inside.world (Ok c.in_ok-failed.failed) c.save.new.world = c.in_ok-failed.ensures.ends in
      let saved : Saves c.handle.inside.number c.args.first c.args.last c.self.inside.world (Ok tt) c.save.new.world = subst (λ o. SaveEnds c.handle.inside.number c.args.first c.args.last c.self.inside.world (Ok o) c.save.new.world) none ended in
      let named = subst (λ (h : HandleSeen). Saves (record { 0 = h.number }) c.args.first c.args.last c.self.inside.world (Ok tt) c.save.new.world) c.handle.view_is saved in
      let began = subst (λ (s : SoloSeen). Saves (record { 0 = c.args.handle.now.number }) c.args.first c.args.last s.world (Ok tt) c.save.new.world) c.self.view_is named in
      rw w.result-is began)
]

pub returns-clause-ends : goal.returns-clause-ends
returns-clause-ends g c =
    let names : Names c.args.self.now c.args.handle.now = search rules in
    let came = c.requires.came names in
    let here = ap (λ (h : HandleSeen). h.pass.file) c.handle.view_is ∙ came.pass in
    let mid : SoloSeen = record { world = c.save.new.world; errors = c.save.new.recorder; attempts = 1 } in
    let after : SoloSeen = record { world = c.save.new.world; errors = c.poll.new.self; attempts = 1 } in
    let serves = subst (λ s. Serves s mid) c.self.view_is (serves_counted (service_of c.self.inside.world c.self.inside.recorder) (service_of c.save.new.world c.save.new.recorder) c.self.inside.attempts 1 c.save.ensures.serves) in
    let new : HandleSeen = record { cache = c.handle.inside.cache; file = c.handle.inside.file.0; number = c.handle.inside.number.0; cursor = c.handle.inside.cursor; append = c.handle.inside.append; pass = c.poll.new.pass } in
    let told : IsTold after c.args.handle.now new = record { same = search rules; board = search rules; file = search rules; known = search rules; done = search rules } in
    let polled : IsPolled c.args.self.now c.args.handle.now c.poll.result after new = record {
      told = told;
      some = search rules;
      none = search rules;
      untold = since_polled c.args.self.now c.save.new.world c.save.new.recorder c.poll.new.self 1 c.handle.inside.pass.file c.args.handle.now.file c.poll.result _ c.poll.ensures.same c.poll.ensures.told here serves.keeps;
    } in
    let ended : SaveEnds c.handle.inside.number c.args.first c.args.last c.self.inside.world (Ok c.in_ok-failed.failed) c.save.new.world = c.in_ok-failed.ensures.ends in
    let named = subst (λ (h : HandleSeen). SaveEnds (record { 0 = h.number }) c.args.first c.args.last c.self.inside.world (Ok c.in_ok-failed.failed) c.save.new.world) c.handle.view_is ended in
    let began = subst (λ (s : SoloSeen). SaveEnds (record { 0 = c.args.handle.now.number }) c.args.first c.args.last s.world (Ok c.in_ok-failed.failed) c.save.new.world) c.self.view_is named in
    polled_ends c.args.first c.args.last c.args.self.now c.args.handle.now after c.in_ok-failed.failed c.poll.result c.match-or.result new began polled (search rules)

pub returns-clause-reports : goal.returns-clause-reports
returns-clause-reports g c = inl (search rules)

pub returns-clause-told : goal.returns-clause-told
returns-clause-told g c =
    let names : Names c.args.self.now c.args.handle.now = search rules in
    let came = c.requires.came names in
    let after : SoloSeen = record { world = c.save.new.world; errors = c.poll.new.self; attempts = 1 } in
    let new : HandleSeen = record { cache = c.handle.inside.cache; file = c.handle.inside.file.0; number = c.handle.inside.number.0; cursor = c.handle.inside.cursor; append = c.handle.inside.append; pass = c.poll.new.pass } in
    let told : IsTold after c.args.handle.now new = record { same = search rules; board = search rules; file = search rules; known = search rules; done = search rules } in
    inl told

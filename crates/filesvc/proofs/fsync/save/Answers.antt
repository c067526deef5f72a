use Rattle.std.proofs.Common.{◌≡◌, ap, sym, subst, ◌∙◌, None, arith, rules}
use Rattle.std.specs.Prelude.{Err, IfErr, IfOk, Ok}
use Rattle.cachecore.proofs.StepLemmas.{err_is}
use Rattle.machine.specs.declared.event.Reply.TheVariants as reply
use Rattle.filesvc.specs.Made.{Syncs}
use Rattle.filesvc.specs.Saving.{IsSaveRefusal, SaveEnds}
use Rattle.filesvc.specs.Service.{IsTallied}
use Rattle.filesvc.specs.Syncs.{clean_or, service_of}
use Rattle.filesvc.proofs.Laws.{serves_trans}
use Rattle.filesvc.proofs.Saved.{flush_serves, flush_service, flush_synced, flush_tallied, save_refused, save_why}
use Rattle.filesvc.proofs.Saved.{unmoved}
use Rattle.filesvc.proofs.fsync.save.Goals as goal

pub returns-in_err-failed : goal.returns-in_err-failed
returns-in_err-failed g c =
    let why = c.in_err-failed.field-0.0 in
    let old = service_of c.args.world.now c.args.recorder.now in
    let new = service_of c.sync_file.new.world c.sync_file.new.recorder in
    let is : c.from_residual.result ≡ Err why = err_is c.from_residual.result why c.from_residual.ensures.1 in
    let x = c.in_err-failed.ensures in
    record {
      service = x.service;
      serves = x.serves;
      turned = λ t. (let y = x.turned t in (is ∙ y.0, y.1, y.2));
      ends = subst (λ r. SaveEnds c.args.handle c.args.first c.args.last c.args.world.now r c.sync_file.new.world) (sym is)
          (save_refused c.args.handle c.args.first c.args.last c.args.world.now c.sync_file.new.world new why x.made
          (λ t. (let y = (x.turned t).0 in cc)) x.refused);
      cost = x.cost;
      durable = λ e. absurd (let y = sym is ∙ e in cc);
      tallied = λ f here. subst (λ r. IfOk r (IsTallied old f new)) (sym is) tt;
      synced = λ tells f here e. absurd (let y = sym is ∙ e in cc);
      refused = λ order. subst (λ r. IfErr r (λ why. IsSaveRefusal why new)) (sym is)
          (save_why new why (x.refused order));
    }

pub returns-in-Ok-clause-service : goal.returns-in-Ok-clause-service
returns-in-Ok-clause-service g c =
    let u = unmoved c.sync_file.new.world c.flush_written.new.self c.flush_written.result
    c.flush_written.ensures.flushed in
    flush_service c.sync_file.new.world c.flush_written.new.self u c.sync_file.new.recorder c.sync_file.ensures.service

pub returns-in-Ok-clause-serves : goal.returns-in-Ok-clause-serves
returns-in-Ok-clause-serves g c =
    let u = unmoved c.sync_file.new.world c.flush_written.new.self c.flush_written.result
    c.flush_written.ensures.flushed in
    serves_trans (service_of c.args.world.now c.args.recorder.now) (service_of c.sync_file.new.world c.sync_file.new.recorder)
    (service_of c.flush_written.new.self c.sync_file.new.recorder) c.sync_file.ensures.serves
    (flush_serves c.sync_file.new.world c.flush_written.new.self u c.sync_file.new.recorder c.flush_written.ensures.faults)

pub returns-in-Ok-clause-cost : goal.returns-in-Ok-clause-cost
returns-in-Ok-clause-cost g c = λ f here.
    let u = unmoved c.sync_file.new.world c.flush_written.new.self c.flush_written.result
    c.flush_written.ensures.flushed in
    let cost = c.sync_file.ensures.cost f here in
    let same = u.calls in
    omega arith

pub returns-in-Ok-clause-ends : goal.returns-in-Ok-clause-ends
returns-in-Ok-clause-ends g c =
    let none : c.in_ok-failed.failed ≡ None = search rules in
    let clean : Syncs c.args.handle c.args.first c.args.last c.args.world.now reply.Clean c.sync_file.new.world =
    subst (λ o. Syncs c.args.handle c.args.first c.args.last c.args.world.now (clean_or o) c.sync_file.new.world) none
    c.in_ok-failed.ensures.ends in
    record { synced = c.sync_file.new.world; syncs = clean; flushes = c.in-Ok.ensures.flushed }

pub returns-in-Ok-clause-synced : goal.returns-in-Ok-clause-synced
returns-in-Ok-clause-synced g c = λ tells f here _.
    let none : c.in_ok-failed.failed ≡ None = search rules in
    let u = unmoved c.sync_file.new.world c.flush_written.new.self c.flush_written.result
    c.flush_written.ensures.flushed in
    flush_synced c.sync_file.new.world c.flush_written.new.self u c.sync_file.new.recorder f c.args.first c.args.last
    (c.sync_file.ensures.synced tells f here (c.in_ok-failed.was ∙ ap Ok none))

pub returns-in-Ok-clause-tallied : goal.returns-in-Ok-clause-tallied
returns-in-Ok-clause-tallied g c = λ f here.
    let none : c.in_ok-failed.failed ≡ None = search rules in
    let u = unmoved c.sync_file.new.world c.flush_written.new.self c.flush_written.result
    c.flush_written.ensures.flushed in
    let old = service_of c.args.world.now c.args.recorder.now in
    let mid = service_of c.sync_file.new.world c.sync_file.new.recorder in
    let tallied : IsTallied old f mid None = subst (IsTallied old f mid) none (c.in_ok-failed.ensures.tallied f here) in
    flush_tallied c.sync_file.new.world c.flush_written.new.self u c.sync_file.new.recorder old f tallied

pub returns-in-Err-clause-service : goal.returns-in-Err-clause-service
returns-in-Err-clause-service g c =
    let u = unmoved c.sync_file.new.world c.flush_written.new.self c.flush_written.result
    c.flush_written.ensures.flushed in
    flush_service c.sync_file.new.world c.flush_written.new.self u c.sync_file.new.recorder c.sync_file.ensures.service

pub returns-in-Err-clause-serves : goal.returns-in-Err-clause-serves
returns-in-Err-clause-serves g c =
    let u = unmoved c.sync_file.new.world c.flush_written.new.self c.flush_written.result
    c.flush_written.ensures.flushed in
    serves_trans (service_of c.args.world.now c.args.recorder.now) (service_of c.sync_file.new.world c.sync_file.new.recorder)
    (service_of c.flush_written.new.self c.sync_file.new.recorder) c.sync_file.ensures.serves
    (flush_serves c.sync_file.new.world c.flush_written.new.self u c.sync_file.new.recorder c.flush_written.ensures.faults)

pub returns-in-Err-clause-cost : goal.returns-in-Err-clause-cost
returns-in-Err-clause-cost g c = λ f here.
    let u = unmoved c.sync_file.new.world c.flush_written.new.self c.flush_written.result
    c.flush_written.ensures.flushed in
    let cost = c.sync_file.ensures.cost f here in
    let same = u.calls in
    omega arith

pub returns-in-Err-clause-ends : goal.returns-in-Err-clause-ends
returns-in-Err-clause-ends g c =
    let none : c.in_ok-failed.failed ≡ None = search rules in
    let clean : Syncs c.args.handle c.args.first c.args.last c.args.world.now reply.Clean c.sync_file.new.world =
    subst (λ o. Syncs c.args.handle c.args.first c.args.last c.args.world.now (clean_or o) c.sync_file.new.world) none
    c.in_ok-failed.ensures.ends in
    record { synced = c.sync_file.new.world; syncs = clean; flushes = c.in-Err.ensures.flushed }

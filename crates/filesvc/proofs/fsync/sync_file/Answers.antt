use Rattle.std.proofs.Common.{◌≡◌, ap, inl, refl, sym, subst, ◌∙◌, arith}
use Rattle.std.specs.Prelude.{Err, IfOk, is_some}
use Rattle.std.specs.FinMap as map
use Rattle.machine.specs.declared.event.Event.TheVariants as event
use Rattle.machine.specs.declared.event.Reply.TheVariants as reply
use Rattle.world.specs.Stepping.{WorldSeen, world_of}
use Rattle.filesvc.specs.Rests.{IsService}
use Rattle.filesvc.specs.Service.{IsTallied, Serves}
use Rattle.filesvc.specs.Syncs.{clean_or, service_of}
use Rattle.world.specs.declared.step.Step.TheVariants as step
use Rattle.cachecore.proofs.StepLemmas.{err_is}
use Rattle.filesvc.specs.Made.{Syncs, is_for_sync}
use Rattle.filesvc.proofs.Laws.{moves_trans, one_move, serves_refl, serves_trans}
use Rattle.filesvc.proofs.SyncLaws.{begin_costs, begin_left, begun_of, call_ends, call_refused, call_synced}
use Rattle.filesvc.proofs.SyncLaws.{call_tallied, end_moves, ends_free, ends_serving, goes_down, in_sync, made_service}
use Rattle.filesvc.proofs.SyncLaws.{renamed, same_service, syncs_over, turn_goes, turn_next, turn_of, turn_only, turned_costs, writes_begin, writes_go, writes_moves}
use Rattle.filesvc.proofs.SyncsKept.{begun_range, only_begun}
use Rattle.filesvc.proofs.fsync.sync_file.Goals as goal

pub returns-in_err-sync : goal.returns-in_err-sync
returns-in_err-sync g c =
    let old = c.args.world.now in
    let new = c.sync_begin_range.new.self in
    let x = begin_left old new c.args.handle c.args.first c.args.last c.in_err-sync.field-0.0 c.requires.opened c.requires.service.syncs c.in_err-sync.ensures in
    let same : new ≡ old = x.0 in
    let is : c.from_residual.result ≡ Err c.in_err-sync.field-0.0 = err_is c.from_residual.result c.in_err-sync.field-0.0 c.from_residual.ensures.1 in
    record {
      service = subst (λ (w : WorldSeen). IsService w.core.name w c.args.recorder.now.board c.args.recorder.now) (sym same) c.requires.service;
      serves = subst (λ (w : WorldSeen). Serves (service_of old c.args.recorder.now) (service_of w c.args.recorder.now)) (sym same) (serves_refl _);
      turned = λ _. (is ∙ ap Err x.1.1, same, refl);
      made = one_move is_for_sync old new (step.SyncBeginRange c.args.handle c.args.first c.args.last) (reply.Refused c.in_err-sync.field-0.0) refl c.in_err-sync.ensures;
      ends = subst (λ r. IfOk r (λ failed. Syncs c.args.handle c.args.first c.args.last old (clean_or failed) new)) (sym is) tt;
      cost = λ f here. (let a : new.device.calls ≡ old.device.calls = ap (λ (w : WorldSeen). w.device.calls) same in omega arith);
      tallied = λ f here. subst
          (λ r. IfOk r (IsTallied (service_of old c.args.recorder.now) f (service_of new c.args.recorder.now)))
          (sym is) tt;
      synced = λ tells f here e. absurd (let y = sym is ∙ e in cc);
      refused = λ order. absurd (let turned = x.1.0 in omega arith);
    }

pub steps-init : goal.steps-init
steps-init g c =
    let x = made_service c.args.world.now.core.name (service_of c.args.world.now c.args.recorder.now) c.sync_begin_range.new.self c.args.recorder.now.board (event.SyncBegin c.args.handle c.args.first c.args.last) (reply.Sync c.in_ok-sync.sync) c.in_ok-sync.ensures refl refl c.requires.service.serving in
    record {
      serving = renamed _ _ _ _ x.0;
      serves = x.1;
      writes = writes_begin c.args.handle c.args.first c.args.last c.in_ok-sync.sync c.args.world.now c.sync_begin_range.new.self c.in_ok-sync.ensures;
      of = begun_of c.args.handle c.args.first c.args.last c.in_ok-sync.sync c.args.world.now c.sync_begin_range.new.self c.in_ok-sync.ensures;
      cost = λ f here. begin_costs c.args.handle c.args.first c.args.last c.in_ok-sync.sync c.args.world.now c.sync_begin_range.new.self f
          c.requires.service.serving.sound c.in_ok-sync.ensures here;
      only = only_begun c.args.world.now.core c.sync_begin_range.new.self.core c.args.handle c.args.first c.args.last c.in_ok-sync.sync c.requires.service.syncs c.in_ok-sync.ensures.0.1.0;
      syncing = λ t. in_sync c.args.handle c.args.first c.args.last c.in_ok-sync.sync c.args.world.now c.sync_begin_range.new.self (c.requires.service.serving.reached t) c.in_ok-sync.ensures;
    }

pub returns-in-Some : goal.returns-in-Some
returns-in-Some g c =
    let turn = c.in-Some.ensures.turn in
    let i = c.steps.invariant in
    let end = c.sync_end.ensures in
    let x = ends_serving c.sync_step.new.world c.sync_end.new.world c.sync_step.new.recorder c.in_ok-sync.sync c.sync_end.result end.same end.dropped c.sync_step.ensures.serving in
    let old = service_of c.args.world.now c.args.recorder.now in
    let now = service_of c.steps.world c.steps.recorder in
    let mid = service_of c.sync_step.new.world c.sync_step.new.recorder in
    let new = service_of c.sync_end.new.world c.sync_step.new.recorder in
    record {
      service = record { serving = x.0; syncs = call_ends c.steps.world c.sync_step.new.world c.sync_end.new.world c.in_ok-sync.sync i.only c.in-Some.reply c.sync_end.result (inl turn.1) end.end end.same end.dropped };
      serves = serves_trans old now new i.serves (serves_trans now mid new c.sync_step.ensures.serves x.1);
      turned = λ turned. absurd (begun_range c.args.world.now.core c.sync_begin_range.new.self.core c.args.handle c.args.first c.args.last c.in_ok-sync.sync c.in_ok-sync.ensures.0.1.0 turned);
      made = moves_trans is_for_sync _ c.steps.world _ (writes_moves c.args.handle c.args.first c.args.last c.in_ok-sync.sync c.args.world.now c.steps.world i.writes)
          (moves_trans is_for_sync c.steps.world c.sync_step.new.world c.sync_end.new.world
          (one_move is_for_sync c.steps.world c.sync_step.new.world (step.SyncStep c.in_ok-sync.sync) c.in-Some.reply refl (inl turn.1))
          (end_moves c.sync_step.new.world c.sync_end.new.world c.in_ok-sync.sync c.sync_end.result end.same end.dropped));
      ends = syncs_over c.args.handle c.args.first c.args.last c.in_ok-sync.sync c.args.world.now c.steps.world c.sync_step.new.world c.sync_end.new.world i.writes c.in-Some.reply c.sync_end.result (inl turn.1) end.end end.same;
      cost = λ f here.
          (let x = i.cost f here in
          let y = ends_free c.steps.world c.sync_step.new.world c.sync_end.new.world c.in_ok-sync.sync
          c.in-Some.reply c.sync_end.result (inl turn.1) end.same end.dropped in
          omega arith);
      tallied = λ f here. call_tallied old now mid new c.args.handle c.args.first c.args.last c.in_ok-sync.sync f here
          i.serves c.sync_step.ensures.serves c.in-Some.reply c.sync_end.result i.of (inl turn.1) end.end
          (same_service c.sync_step.new.world c.sync_end.new.world c.sync_step.new.recorder c.sync_end.result end.same);
      synced = λ tells f here. call_synced old now mid new c.args.handle c.args.first c.args.last c.in_ok-sync.sync f here i.serves c.sync_step.ensures.serves c.in-Some.reply c.sync_end.result (i.syncing tells) (inl turn.1) end.end (same_service c.sync_step.new.world c.sync_end.new.world c.sync_step.new.recorder c.sync_end.result end.same);
      refused = λ _. call_refused now mid new c.in_ok-sync.sync i.serving.rests i.serving.orderly i.only c.in-Some.reply
          c.sync_end.result turn.0 turn.1 end.end end.dropped;
    }

pub steps-smaller : goal.steps-smaller
steps-smaller g c = let x = turn_next c.in_ok-sync.sync c.steps.world c.sync_step.new.world c.in_default.ensures.turn in goes_down _ _ _ x.0 x.1

pub steps-preserved : goal.steps-preserved
steps-preserved g c =
    let i = c.steps.invariant in
    let opened = ap (λ m. is_some (map.get m c.args.handle.0)) i.serves.keeps.handles ∙ c.requires.opened in
    record {
      serving = c.sync_step.ensures.serving;
      serves = serves_trans _ _ _ i.serves c.sync_step.ensures.serves;
      writes = writes_go c.args.handle c.args.first c.args.last c.in_ok-sync.sync c.args.world.now c.steps.world c.sync_step.new.world c.in_default.ensures.turn i.writes;
      of = turn_of c.args.handle c.args.first c.args.last c.in_ok-sync.sync c.args.world.now.core c.steps.world c.sync_step.new.world opened
          c.in_default.ensures.turn i.of;
      cost = λ f here. turned_costs c.args.handle c.args.first c.args.last c.in_ok-sync.sync c.args.world.now c.steps.world
          c.sync_step.new.world f i.serves.keeps.handles here i.serving.counted c.in_default.ensures.turn i.of
          (i.cost f here);
      only = turn_only c.in_ok-sync.sync c.steps.world c.sync_step.new.world c.in_default.ensures.turn i.only;
      syncing = λ t. turn_goes c.args.handle c.args.first c.args.last c.in_ok-sync.sync (world_of c.args.world.now) c.steps.world c.sync_step.new.world (i.serves.keeps.tells ∙ t) opened c.in_default.ensures.turn (i.syncing t);
    }

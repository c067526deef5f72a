use Rattle.std.proofs.Common.{arith, sym, ap, subst, refl, ◌∙◌, ◌≡◌, ◌<◌, ◌≤◌, ◌+◌, ℕ, List, length, true, false}
use Rattle.std.specs.Prelude.{Some, unwrap_or}
use Rattle.std.specs.FinMap as map
use Rattle.pc_types.specs.declared.ids.HandleId.{HandleId}
use Rattle.pc_types.specs.declared.limits.TheConstants.{MAX_FILE_SIZE, MAX_TOUCHED}
use Rattle.pc_types.specs.declared.refusal.Refusal.TheVariants.{Memory}
use Rattle.machine.specs.declared.event.Event.TheVariants as event
use Rattle.machine.specs.State.{State, touched_count}
use Rattle.cachecore.specs.Core.{Core}
use Rattle.machine.specs.declared.event.Reply.TheVariants as reply
use Rattle.machine.specs.Step.{Step}
use Rattle.cachecore.specs.Replies.{wrote}
use Rattle.cachecore.proofs.StepLemmas.{err_is, write_stopped, write_passed, write_no_room, write_no_memory, write_step}
use Rattle.pagestore.proofs.Spans.{not_less}
use Rattle.cachecore.proofs.CoreViews.{state_is}
use Rattle.cachecore.proofs.cache.CacheCore.write.Goals as goal
use Rattle.cachecore.proofs.cache.CacheCore.write.Goals.{After-overwrite, Else-overwrite}

-- what has been tested before anything is written
record Facts (s : State) (handle : HandleId) (offset file : ℕ) (bytes : List ℕ) : Type 0 where
  found : Some file ≡ map.get s.handles handle.0
  some : 0 < length bytes
  short : touched_count s.sizes.page offset (length bytes) ≤ MAX_TOUCHED
  small : offset + length bytes ≤ MAX_FILE_SIZE

facts : (c : After-overwrite)
    → Facts c.args.self.now.state c.args.handle c.args.offset c.in-Some.file c.args.bytes.now
facts c =
    let page = c.page.ensures.value ∙ ap (λ s. s.sizes.page) (state_is c.self.view_is) in
    let few : touched_count c.page.result c.args.offset (length c.args.bytes.now) ≤ MAX_TOUCHED =
    not_less MAX_TOUCHED (touched_count c.page.result c.args.offset (length c.args.bytes.now))
    (sym c.is_too_long.ensures ∙ c.if-is_too_long.false) in
    record {
      found = c.in-Some.ensures ∙ ap (λ s. map.get s.handles c.args.handle.0) (state_is c.self.view_is);
      some = omega arith;
      short = subst (λ n. touched_count n c.args.offset (length c.args.bytes.now) ≤ MAX_TOUCHED) page few;
      small = omega (arith, c.saturating_add-end.ensures);
    }

-- the same past the attempt in place, which changed nothing
past : (c : Else-overwrite)
    → Facts c.args.self.now.state c.args.handle c.args.offset c.in-Some.file c.args.bytes.now
    → Facts c.overwrite.new.self.state c.args.handle c.args.offset c.in-Some.file c.args.bytes.now
past c = subst (λ (k : Core). Facts k.state c.args.handle c.args.offset c.in-Some.file c.args.bytes.now)
    (sym (c.if-overwrite.ensures.same refl))

pub returns-then-is_filling-clause-step : goal.returns-then-is_filling-clause-step
returns-then-is_filling-clause-step c =
    let at = goal.at.returns-then-is_filling-clause-step c in
    let w = past at.Else-overwrite (facts at.After-overwrite) in
    let s = c.overwrite.new.self.state in
    subst (λ (k : Core). Step k.state (event.Write c.args.handle c.args.offset c.args.bytes.now)
    (reply.Wait (record { 0 = c.in-Some-write_stop.page })) s)
    (c.if-overwrite.ensures.same refl)
    (write_stopped s c.args.handle c.args.offset c.in-Some.file c.args.bytes.now w.found w.some w.short w.small
    c.in-Some-write_stop.page true (sym c.if-is_filling.true ∙ c.is_filling.ensures) c.in-Some-write_stop.ensures)

pub returns-in-Some-write_stop-clause-step : goal.returns-in-Some-write_stop-clause-step
returns-in-Some-write_stop-clause-step c =
    let at = goal.at.returns-in-Some-write_stop-clause-step c in
    let w = past at.Else-overwrite (facts at.After-overwrite) in
    let s = c.overwrite.new.self.state in
    subst (λ (k : Core). Step k.state (event.Write c.args.handle c.args.offset c.args.bytes.now)
    (reply.Miss (record { 0 = c.in-Some-write_stop.page })) s)
    (c.if-overwrite.ensures.same refl)
    (write_stopped s c.args.handle c.args.offset c.in-Some.file c.args.bytes.now w.found w.some w.short w.small
    c.in-Some-write_stop.page false (sym c.if-is_filling.false ∙ c.is_filling.ensures) c.in-Some-write_stop.ensures)

pub returns-in_err-check_room-clause-step : goal.returns-in_err-check_room-clause-step
returns-in_err-check_room-clause-step c =
    let at = goal.at.returns-in_err-check_room-clause-step c in
    let w = past at.Else-overwrite (facts at.After-overwrite) in
    let s = c.overwrite.new.self.state in
    subst (λ (k : Core). Step k.state (event.Write c.args.handle c.args.offset c.args.bytes.now)
    (wrote c.from_residual.result) s)
    (c.if-overwrite.ensures.same refl)
    (subst (λ r. Step s (event.Write c.args.handle c.args.offset c.args.bytes.now) (wrote r) s)
    (sym (err_is c.from_residual.result _ c.from_residual.ensures.1))
    (write_no_room s c.args.handle c.args.offset c.in-Some.file c.args.bytes.now w.found w.some w.short w.small
    c.in_default-write_stop.ensures _ c.in_err-check_room.ensures))

pub write_pages-requires-clause-passed : goal.write_pages-requires-clause-passed
write_pages-requires-clause-passed c =
    let at = goal.at.write_pages-requires-clause-passed c in
    let w = past at.Else-overwrite (facts at.After-overwrite) in
    let s = c.overwrite.new.self.state in (
      c.args.handle.0,
      ap (λ o. unwrap_or o 0) (sym w.found),
      write_passed s c.args.handle c.args.offset c.in-Some.file
          c.args.bytes.now w.found w.some w.short w.small c.in_default-write_stop.ensures c.in_ok-check_room.ensures,
    )

pub returns-in_err-write_pages-clause-step : goal.returns-in_err-write_pages-clause-step
returns-in_err-write_pages-clause-step c =
    let at = goal.at.returns-in_err-write_pages-clause-step c in
    let w = past at.Else-overwrite (facts at.After-overwrite) in
    let s = c.overwrite.new.self.state in
    subst (λ (k : Core). Step k.state (event.Write c.args.handle c.args.offset c.args.bytes.now)
    (wrote c.from_residual-in_err-write_pages.result) c.write_pages.new.self.state)
    (c.if-overwrite.ensures.same refl)
    (subst (λ r. Step s (event.Write c.args.handle c.args.offset c.args.bytes.now) (wrote r)
    c.write_pages.new.self.state) (sym
    (err_is c.from_residual-in_err-write_pages.result Memory c.from_residual-in_err-write_pages.ensures.1))
    (write_no_memory s c.args.handle c.args.offset c.in-Some.file c.args.bytes.now w.found w.some w.short w.small
    c.in_default-write_stop.ensures c.write_pages.new.self.state c.in_ok-check_room.ensures
    c.in_err-write_pages.ensures.wanting (state_is c.in_err-write_pages.ensures.err)))

pub returns-clause-step : goal.returns-clause-step
returns-clause-step c =
    let at = goal.at.returns-clause-step c in
    let w = past at.Else-overwrite (facts at.After-overwrite) in
    let s = c.overwrite.new.self.state in
    subst (λ (k : Core). Step k.state (event.Write c.args.handle c.args.offset c.args.bytes.now)
    (reply.Wrote (length c.args.bytes.now) c.saturating_add-end.result) c.write_pages.new.self.state)
    (c.if-overwrite.ensures.same refl)
    (write_step s c.args.handle c.args.offset c.in-Some.file c.args.bytes.now w.found w.some w.short w.small
    c.in_default-write_stop.ensures _ _ c.write_pages.new.self.state c.in_ok-check_room.ensures refl
    (omega (arith, c.saturating_add-end.ensures)) c.in_ok-write_pages.ensures.ok)

pub overwrite-requires-clause-open : goal.overwrite-requires-clause-open
overwrite-requires-clause-open c =
    (c.args.handle.0, sym (c.in-Some.ensures ∙ ap (λ s. map.get s.handles c.args.handle.0) (state_is c.self.view_is)))

pub returns-then-overwrite-clause-step : goal.returns-then-overwrite-clause-step
returns-then-overwrite-clause-step c =
    let w = facts (goal.at.returns-then-overwrite-clause-step c).After-overwrite in
    let s = c.args.self.now.state in
    write_step s c.args.handle c.args.offset c.in-Some.file c.args.bytes.now w.found w.some w.short w.small
    (sym (c.if-overwrite.ensures.unstopped refl)) _ _ c.overwrite.new.self.state
    (sym (c.if-overwrite.ensures.room refl)) refl (omega (arith, c.saturating_add-end.ensures))
    (c.if-overwrite.ensures.done refl)

use Rattle.std.proofs.Common.{arith, ◌≡◌, ◌<◌, ◌≤◌, length, ap, sym, subst, ◌∙◌}
use Rattle.std.specs.Prelude.{Some}
use Rattle.machine.specs.State.{State, file_at}
use Rattle.machine.specs.Changes.{flush_pick}
use Rattle.machine.specs.Tests.{is_full}
use Rattle.cachecore.proofs.CoreViews.{state_is}
use Rattle.cachecore.proofs.FlushCalls.{begun_step, flush_startable, full_step, no_file_step, nothing_step}
use Rattle.cachecore.proofs.cache.CacheCore.page_to_flush.Goals as goal
use Rattle.cachecore.proofs.cache.CacheCore.page_to_flush.Goals.{Else-file-file_count, In-Some}

file_here : (c : Else-file-file_count) → c.args.file.0 < length c.args.self.now.state.files
file_here c = subst (λ (s : State). c.args.file.0 < length s.files) (state_is c.self.view_is)
    (omega (arith, c.file_count.ensures, c.if-file-file_count.false))

picked : (c : In-Some) → Some c.in-Some.number ≡ flush_pick (file_at c.args.self.now.state c.args.file.0)
picked c = c.in-Some.ensures.pick ∙ ap (λ s. flush_pick (file_at s c.args.file.0)) (state_is c.self.view_is)

pub returns-then-file-file_count-clause-refused : goal.returns-then-file-file_count-clause-refused
returns-then-file-file_count-clause-refused c =
    let s = c.args.self.now.state in
    let past : length s.files ≤ c.args.file.0 = subst (λ (s : State). length s.files ≤ c.args.file.0)
    (state_is c.self.view_is) (omega (arith, c.file_count.ensures, c.if-file-file_count.true)) in
    (no_file_step s c.args.file past, λ e. cc)

pub returns-in_default-clause-none : goal.returns-in_default-clause-none
returns-in_default-clause-none c =
    let s = c.args.self.now.state in
    let here = file_here (goal.at.returns-in_default-clause-none c).Else-file-file_count in
    nothing_step s c.args.file here
    (c.in_default.ensures.pick ∙ ap (λ s. flush_pick (file_at s c.args.file.0)) (state_is c.self.view_is))

pub returns-then-is_full-clause-refused : goal.returns-then-is_full-clause-refused
returns-then-is_full-clause-refused c =
    let s = c.args.self.now.state in
    let here = file_here (goal.at.returns-then-is_full-clause-refused c).Else-file-file_count in
    let pick = picked (goal.at.returns-then-is_full-clause-refused c).In-Some in (
      full_step s c.args.file here c.in-Some.number pick
          (ap is_full (sym (state_is c.self.view_is)) ∙ sym c.is_full.ensures ∙ c.if-is_full.true),
      λ e. cc,
    )

pub returns-clause-some : goal.returns-clause-some
returns-clause-some c =
    let s = c.args.self.now.state in
    let here = file_here (goal.at.returns-clause-some c).Else-file-file_count in
    let pick = picked (goal.at.returns-clause-some c).In-Some in
    let room = ap is_full (sym (state_is c.self.view_is)) ∙ sym c.is_full.ensures ∙ c.if-is_full.false in
    record {
      can = record {
        here = here;
        startable = flush_startable s c.args.file here c.in-Some.number pick room;
        below = c.in-Some.ensures.numbered;
        room = room;
      };
      begins = begun_step s c.args.file here c.in-Some.number pick room;
    }

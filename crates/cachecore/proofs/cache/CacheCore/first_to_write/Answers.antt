use Rattle.std.proofs.Common.{◌∙◌, ◌≤◌, ap, sym, subst, length, arith}
use Rattle.std.specs.Prelude.{is_some}
use Rattle.machine.specs.Changes.{flush_pick}
use Rattle.machine.specs.State.{State, file_at}
use Rattle.cachecore.proofs.CoreViews.{state_is}
use Rattle.cachecore.proofs.ToWrite.{none_at_all, none_on, none_yet}
use Rattle.cachecore.proofs.cache.CacheCore.first_to_write.Goals as goal
use Rattle.cachecore.proofs.cache.CacheCore.first_to_write.Goals.{Else-is_some, Then-is_some}

pub files-init : goal.files-init
files-init c = none_yet c.args.self.now.state

pub returns-then-is_some-clause-some : goal.returns-then-is_some-clause-some
returns-then-is_some-clause-some c = (
  sym (c.is_some.ensures
      ∙ ap is_some (c.flush_pick.ensures.pick ∙ ap (λ s. flush_pick (file_at s c.files.file)) (state_is c.self.view_is)))
      ∙ c.if-is_some.true,
  c.files.invariant,
)

pub files-preserved : goal.files-preserved
files-preserved c =
    none_on c.args.self.now.state c.files.file c.files.invariant
    (sym (c.is_some.ensures
    ∙ ap is_some (c.flush_pick.ensures.pick ∙ ap (λ s. flush_pick (file_at s c.files.file)) (state_is c.self.view_is)))
    ∙ c.if-is_some.false)

pub returns-clause-none : goal.returns-clause-none
returns-clause-none c =
    let all : length c.args.self.now.state.files ≤ c.files.file =
    subst (λ (s : State). length s.files ≤ c.files.file) (state_is c.self.view_is)
    (omega (arith, c.file_count-file-end.ensures, c.files-test.false)) in
    none_at_all c.args.self.now.state c.files.file c.files.invariant all

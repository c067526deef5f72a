use Rattle.std.proofs.Common.{arith, ap, sym, ◌∙◌, ◌≤◌}
use Rattle.std.specs.FinMap as map
use Rattle.pc_types.specs.declared.limits.TheConstants.{MAX_FILE_SIZE}
use Rattle.cachecore.proofs.StepLemmas.{cut_too_large, cut_waits, cut_misses, cut_into, cut_whole}
use Rattle.cachecore.proofs.CoreViews.{state_is}
use Rattle.cachecore.proofs.cache.CacheCore.truncate.Goals as goal
use Rattle.cachecore.proofs.cache.CacheCore.truncate.Goals.{in-Some-boundary+else-is_filling+else-must_fill}
use Rattle.cachecore.proofs.cache.CacheCore.truncate.Goals.{in_default-boundary}

pub returns-then-size-gt-MAX_FILE_SIZE-clause-step : goal.returns-then-size-gt-MAX_FILE_SIZE-clause-step
returns-then-size-gt-MAX_FILE_SIZE-clause-step c =
    let found = c.in-Some.ensures ∙ ap (λ s. map.get s.handles c.args.handle.0) (state_is c.self.view_is) in
    cut_too_large c.args.self.now.state c.args.handle c.args.size c.in-Some.file found (omega arith)

pub returns-then-is_filling-clause-step : goal.returns-then-is_filling-clause-step
returns-then-is_filling-clause-step c =
    let found = c.in-Some.ensures ∙ ap (λ s. map.get s.handles c.args.handle.0) (state_is c.self.view_is) in
    let small : c.args.size ≤ MAX_FILE_SIZE = omega arith in
    cut_waits c.args.self.now.state c.args.handle c.args.size c.in-Some.file found small c.in-Some-boundary.page
    c.in-Some-boundary.ensures.page (sym c.is_filling.ensures ∙ c.if-is_filling.true)

pub returns-then-must_fill-clause-step : goal.returns-then-must_fill-clause-step
returns-then-must_fill-clause-step c =
    let found = c.in-Some.ensures ∙ ap (λ s. map.get s.handles c.args.handle.0) (state_is c.self.view_is) in
    let small : c.args.size ≤ MAX_FILE_SIZE = omega arith in
    cut_misses c.args.self.now.state c.args.handle c.args.size c.in-Some.file found small c.in-Some-boundary.page
    c.in-Some-boundary.ensures.page (sym c.is_filling.ensures ∙ c.if-is_filling.false)
    (sym c.must_fill.ensures ∙ c.if-must_fill.true)

pub returns-clause-step : goal.returns-clause-step
returns-clause-step c =
    let s = c.args.self.now.state in
    let f = c.in-Some.file in
    let found = c.in-Some.ensures ∙ ap (λ s. map.get s.handles c.args.handle.0) (state_is c.self.view_is) in
    let small : c.args.size ≤ MAX_FILE_SIZE = omega arith in
    elim c.match-boundary.branch [
      | in-Some-boundary+else-is_filling+else-must_fill w ↦ cut_into s c.args.handle c.args.size f found small
          w.in-Some-boundary.page w.in-Some-boundary.ensures.page c.resize.new.self.state
          (sym w.is_filling.ensures ∙ w.if-is_filling.false) (sym w.must_fill.ensures ∙ w.if-must_fill.false)
          c.resize.ensures.state
      | in_default-boundary w ↦ cut_whole s c.args.handle c.args.size f found small c.resize.new.self.state
          w.in_default-boundary.ensures.page c.resize.ensures.state
    ]

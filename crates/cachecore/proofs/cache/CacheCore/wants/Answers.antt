use Rattle.std.proofs.Common.{◌≡◌, ◌-◌, false, not, ap, subst, sym, ◌∙◌, inl, inr}
use Rattle.std.specs.Prelude.{count_by, is_some}
use Rattle.std.specs.List.{range_with_len}
use Rattle.pagestore.specs.Store.{stored_page}
use Rattle.machine.specs.State.{State, free_frames, is_cached}
use Rattle.cachecore.specs.Wants.{demanded, lacks_frames}
use Rattle.cachecore.proofs.CoreLemmas.{free_frames_are}
use Rattle.cachecore.proofs.CoreViews.{state_is}
use Rattle.cachecore.proofs.Wanted.{enough_is, over_is, wants_clean, wants_none}
use Rattle.cachecore.proofs.cache.CacheCore.wants.Goals as goal
use Rattle.cachecore.proofs.cache.CacheCore.wants.Goals.{Else-short-gt0, else-demand-via-then-demand+else-is_over_limit, else-demand-via-else-demand}

-- no frame is short
enough_at : (c : Else-short-gt0) → lacks_frames c.args.self.now.state c.args.demand.handle.0 c.args.demand.offset
    (demanded c.args.self.now.state c.args.demand) ≡ false
enough_at c =
    let s = c.args.self.now.state in
    let d = c.args.demand in
    let t = c.in_ok-file.field-0 in
    let free = free_frames_are c.self.invariant.core in
    let short : c.frames_short-short.result ≡ count_by (λ p. not (is_cached s t.file p)) (range_with_len t.first (t.end - t.first)) - free_frames s =
    subst (λ (x : State). c.frames_short-short.result ≡ count_by (λ p. not (is_cached x t.file p)) (range_with_len t.first (t.end - t.first)) - free_frames x)
    (state_is c.self.view_is)
    (c.frames_short-short.ensures ∙ ap (λ k. count_by (λ p. not (is_some (stored_page c.self.inside.pages t.file p))) (range_with_len t.first (t.end - t.first)) - k) (sym free)) in
    enough_is s d.handle.0 d.offset (demanded s d) t.file t.first t.end c.frames_short-short.result
    c.in_ok-file.ensures.file.0 c.in_ok-file.ensures.first c.in_ok-file.ensures.end short c.if-short-gt0.false

pub returns-then-is_over_limit : goal.returns-then-is_over_limit
returns-then-is_over_limit c =
    let s = c.args.self.now.state in
    let d = c.args.demand in
    let t = c.in_ok-file.field-0 in
    sym (wants_clean s d (enough_at (goal.at.returns-then-is_over_limit c).Else-short-gt0) c.if-demand.true
    (sym (over_is s d.handle.0 d.offset (demanded s d) t.file t.first t.end c.is_over_limit.result c.in_ok-file.ensures.some
    c.in_ok-file.ensures.file.0 c.in_ok-file.ensures.first c.in_ok-file.ensures.end c.is_over_limit.ensures) ∙ c.if-is_over_limit.true))

pub returns : goal.returns
returns c =
    let s = c.args.self.now.state in
    let d = c.args.demand in
    let t = c.in_ok-file.field-0 in
    let enough = enough_at (goal.at.returns c).Else-short-gt0 in
    elim c.else-demand.branch [
      | else-demand-via-then-demand+else-is_over_limit w ↦
          sym (wants_none s d enough
          (inr (sym (over_is s d.handle.0 d.offset (demanded s d) t.file t.first t.end w.is_over_limit.result c.in_ok-file.ensures.some
          c.in_ok-file.ensures.file.0 c.in_ok-file.ensures.first c.in_ok-file.ensures.end w.is_over_limit.ensures) ∙ w.if-is_over_limit.false)))
      | else-demand-via-else-demand w ↦ sym (wants_none s d enough (inl w.if-demand.false))
    ]

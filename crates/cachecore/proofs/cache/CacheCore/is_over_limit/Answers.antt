use Rattle.std.proofs.Common.{arith, ap, not, ◌≡◌, ◌+◌, ◌-◌, ◌&&◌, ◌∙◌, ℕ}
use Rattle.std.specs.Prelude.{count_by, nat_lt}
use Rattle.std.specs.List.{range_with_len}
use Rattle.std.proofs.lemmas.Bool.Decides.{nat_tests}
use Rattle.machine.specs.State.{State, dirty_total, tags_at, tags_of}
use Rattle.pagestore.specs.Store.{stored_page}
use Rattle.cachecore.proofs.CoreViews.{state_is}
use Rattle.cachecore.proofs.cache.CacheCore.is_over_limit.Goals as goal

-- none is one too many, as the limit may be passed already
over_limit : (limit dirty room k : ℕ) → room ≡ limit - dirty → nat_lt room k ≡ (nat_lt 0 k && nat_lt limit (dirty + k))
over_limit limit dirty room k e = grind (arith, nat_tests)

pub returns : goal.returns
returns c =
    let i = c.self.inside in
    let range = range_with_len c.args.first (c.args.end - c.args.first) in
    let clean = count_by (λ p. not (tags_of (stored_page i.pages c.args.file p)).dirty) range in
    c.has_more_clean.ensures
    ∙ over_limit c.dirty_limit.result c.dirty_total-dirty.result c.saturating_sub-room.result clean c.saturating_sub-room.ensures
    ∙ ap (λ (limit : ℕ). nat_lt 0 clean && nat_lt limit (c.dirty_total-dirty.result + clean)) c.dirty_limit.ensures.value
    ∙ ap (λ (dirty : ℕ). nat_lt 0 clean && nat_lt i.geometry.dirty_limit (dirty + clean)) c.dirty_total-dirty.ensures
    ∙ ap (λ (s : State). nat_lt 0 (count_by (λ p. not (tags_at s c.args.file p).dirty) range)
    && nat_lt s.sizes.dirty_limit (dirty_total s + count_by (λ p. not (tags_at s c.args.file p).dirty) range)) (state_is c.self.view_is)

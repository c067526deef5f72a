use Rattle.std.proofs.Common.{ap, cond, sym, refl, false, not, ◌≡◌, ◌+◌, ◌-◌, ◌/◌, ◌&&◌, ◌∙◌, Bool, length}
use Rattle.std.specs.Prelude.{None, count_by, nat_lt, slice_index_or}
use Rattle.pc_types.specs.declared.refusal.Refusal.TheVariants.{DirtyLimit, NoFrame, NoSpace}
use Rattle.machine.specs.State.{State, tags_at, touched, dirty_total}
use Rattle.machine.specs.Tests.{refuse, room_tests}
use Rattle.machine.proofs.steps.Choices.{at_true, at_false}
use Rattle.pagestore.proofs.Flags.{flags_unset}
use Rattle.blockmap.specs.Blocks.{free_blocks}
use Rattle.cachecore.specs.Placing.{is_bare}
use Rattle.cachecore.proofs.CoreLemmas.{room_is}
use Rattle.cachecore.proofs.CoreViews.{state_is}
use Rattle.cachecore.proofs.Parts.{parts_of, state_by}
use Rattle.cachecore.proofs.WriteFlags.{flags_by}
use Rattle.cachecore.proofs.cache.CacheCore.check_room.Goals as goal
use Rattle.cachecore.proofs.cache.CacheCore.check_room.Goals.{After-is_over_limit}

-- the machine's tests by what the code's answered
tests_are : (c : After-is_over_limit) (unframed unplaced : Bool)
    → unframed ≡ nat_lt c.self.inside.pages.free
    (count_by (λ p. not (slice_index_or c.args.cached.now (p - c.args.offset / c.page-page_size.result) false))
    (touched c.page-page_size.result c.args.offset c.args.count))
    → unplaced ≡ nat_lt (length (free_blocks c.self.inside.blocks))
    (count_by (is_bare c.self.inside.blocks c.args.file)
    (touched c.page-page_size.result c.args.offset c.args.count))
    → room_tests c.args.self.now.state c.args.file c.args.offset c.args.count
    ≡ cond c.is_over_limit.result (refuse DirtyLimit)
    (cond unframed (refuse NoFrame) (cond unplaced (refuse NoSpace) None))
tests_are c unframed unplaced unframed_is unplaced_is =
    let back = sym (state_is c.self.view_is) in
    let P = c.page-page_size.result in
    let o = c.args.offset in
    let n = c.args.count in
    let absent = flags_unset c.args.cached.now c.self.inside.pages.files c.args.file (o / P) ((o + n - 1) / P + 1)
    (flags_by c.args.cached.now (state_by (parts_of c.self.inside)) c.args.self.now.state c.args.file o n P
    (state_is c.self.view_is) c.page-page_size.ensures.value c.requires.flags) in
    ap (λ s. room_tests s c.args.file c.args.offset c.args.count) back
    ∙ room_is c.self.invariant.core refl c.args.file c.args.offset c.args.count c.page-page_size.result
    c.is_over_limit.result unframed unplaced c.page-page_size.ensures.value
    (c.is_over_limit.ensures ∙ ap (λ (s : State). nat_lt 0 (count_by (λ p. not (tags_at s c.args.file p).dirty)
    (touched c.page-page_size.result c.args.offset c.args.count)) && nat_lt s.sizes.dirty_limit
    (dirty_total s + count_by (λ p. not (tags_at s c.args.file p).dirty)
    (touched c.page-page_size.result c.args.offset c.args.count))) back)
    (unframed_is ∙ ap (nat_lt c.self.inside.pages.free) absent) unplaced_is

pub returns-then-lacks_frames : goal.returns-then-lacks_frames
returns-then-lacks_frames c =
    sym (tests_are (goal.at.returns-then-lacks_frames c).After-is_over_limit c.lacks_frames.result _
    c.lacks_frames.ensures refl
    ∙ at_false _ _ _ c.if-is_over_limit.false
    ∙ at_true _ _ _ c.if-lacks_frames.true)

pub returns-then-lacks_blocks : goal.returns-then-lacks_blocks
returns-then-lacks_blocks c =
    sym (tests_are (goal.at.returns-then-lacks_blocks c).After-is_over_limit c.lacks_frames.result
    c.lacks_blocks.result c.lacks_frames.ensures c.lacks_blocks.ensures
    ∙ at_false _ _ _ c.if-is_over_limit.false
    ∙ at_false _ _ _ c.if-lacks_frames.false
    ∙ at_true _ _ _ c.if-lacks_blocks.true)

pub returns : goal.returns
returns c =
    sym (tests_are (goal.at.returns c).After-is_over_limit c.lacks_frames.result c.lacks_blocks.result
    c.lacks_frames.ensures c.lacks_blocks.ensures
    ∙ at_false _ _ _ c.if-is_over_limit.false
    ∙ at_false _ _ _ c.if-lacks_frames.false
    ∙ at_false _ _ _ c.if-lacks_blocks.false)

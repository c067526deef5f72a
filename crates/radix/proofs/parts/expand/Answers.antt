use Rattle.std.proofs.Common.{arith, w64}
use Rattle.std.proofs.Math.Facts.{Fits-lt-pow}
use Rattle.radix.proofs.ExpandLemmas.{is_expanded}
use Rattle.radix.proofs.parts.expand.Goals as goal

pub place_at-place-requires : goal.place_at-place-requires
place_at-place-requires c =
    let s = c.requires.stands in
    let low = (c.requires.sound.tree.nodes c.args.key s.node s.there).level in
    omega (arith, low, s.level_is)

pub returns : goal.returns
returns c =
    let h = c.insert_reserved-child.ensures in
    let full = is_expanded c.args.nodes.now c.insert_reserved-child.new.self c.args.head c.args.key c.args.level c.args.index c.insert_reserved-child.result c.args.step c.place_at-place.result c.index.result.now c.index_mut-above.result.now c.full_at-full.result c.child.result
    c.requires.sound c.requires.tells c.requires.inner (Fits-lt-pow {w = w64} c.ranges.index) c.requires.stands c.requires.leaf c.index.ensures c.place_at-place.ensures c.full_at-full.ensures h.was_vacant (omega (arith, h.key_in_range, h.capacity, c.requires.small)) h.updates h.len c.index_mut-above.ensures.value c.child.ensures in
    record { sound = full.sound; tells = full.tells; parts = full.parts; stands = full.stands; below = full.below; len = full.len; capacity = h.capacity }

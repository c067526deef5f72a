use Rattle.std.proofs.Common.{◌≡◌, ◌∙◌, ap, ℕ, ◌<◌, Bool, List, length, slice_set, arith}
use Rattle.std.proofs.lemmas.List.{get_or_read}
use Rattle.frames.specs.Order.{Turns, by_frame, turn_of}
use Rattle.frames.proofs.OrderLemmas.{marked}
use Rattle.frames.proofs.order.Order.mark_active.Goals as goal

pub returns : goal.returns
returns c =
    let i = c.self.inside in
    let f = c.args.frame in
    let within : f < length i.turns.items = omega (arith, ap (λ (o : Turns). length o.turns) c.self.view_is, c.requires) in
    let turn : c.index-turn.result.now ≡ turn_of i.turns.items f = get_or_read i.turns.items f c.index-turn.result.now within c.index-turn.ensures 0 in
    let waits = c.set.ensures ∙ ap (λ (t : ℕ). slice_set i.active t c.args.waits) turn in
    let here = ap (λ (set : List Bool). by_frame set i.turns.items) waits
    ∙ marked i.turns.items i.frames.items i.next i.active i.inactive c.self.invariant i.active c.self.invariant.actives f within c.args.waits in
    ap (λ (set : List Bool). let o : Turns = record { turns = i.turns.items; active = set; inactive = by_frame i.inactive i.turns.items } in o) here
    ∙ ap (λ (o : Turns). let p : Turns = record o { active = slice_set o.active f c.args.waits } in p) c.self.view_is

use Rattle.std.proofs.Common.{◌≡◌, ◌∙◌, sym, ap, ℕ, ◌<◌, Bool, false, List, length, slice_set, arith}
use Rattle.std.proofs.lemmas.List.{get_or_read}
use Rattle.frames.specs.Order.{Turns, by_frame, turn_of}
use Rattle.frames.specs.Sets.{is_in}
use Rattle.frames.proofs.OrderLemmas.{by_frame_at, marked}
use Rattle.frames.proofs.order.Order.leave_active.Goals as goal

pub returns-clause-left : goal.returns-clause-left
returns-clause-left c =
    let i = c.self.inside in
    let f = c.args.frame in
    let within : f < length i.turns.items = omega (arith, ap (λ (o : Turns). length o.turns) c.self.view_is, c.requires) in
    let turn : c.index-turn.result.now ≡ turn_of i.turns.items f = get_or_read i.turns.items f c.index-turn.result.now within c.index-turn.ensures 0 in
    let waits = c.take.ensures.out ∙ ap (λ (t : ℕ). slice_set i.active t false) turn in
    let here = ap (λ (set : List Bool). by_frame set i.turns.items) waits
    ∙ marked i.turns.items i.frames.items i.next i.active i.inactive c.self.invariant i.active c.self.invariant.actives f within false in
    ap (λ (set : List Bool). let o : Turns = record { turns = i.turns.items; active = set; inactive = by_frame i.inactive i.turns.items } in o) here
    ∙ ap (λ (o : Turns). let p : Turns = record o { active = slice_set o.active f false } in p) c.self.view_is

pub returns-clause-waited : goal.returns-clause-waited
returns-clause-waited c =
    let i = c.self.inside in
    let f = c.args.frame in
    let within : f < length i.turns.items = omega (arith, ap (λ (o : Turns). length o.turns) c.self.view_is, c.requires) in
    let turn : c.index-turn.result.now ≡ turn_of i.turns.items f = get_or_read i.turns.items f c.index-turn.result.now within c.index-turn.ensures 0 in
    c.take.ensures.was ∙ ap (is_in i.active) turn
    ∙ sym (by_frame_at i.active i.turns.items f false within)
    ∙ ap (λ (o : Turns). is_in o.active f) c.self.view_is

use Rattle.std.proofs.Common.{◌≡◌, ◌∙◌, sym, ap, ℕ, ◌+◌, ◌<◌, List, length, get_or, arith}
use Rattle.std.proofs.lemmas.List.{get_or_read}
use Rattle.frames.specs.Order.{Turns, turn_of}
use Rattle.frames.proofs.OrderLemmas.{few_given, packed_hole, packed_is, packed_more}
use Rattle.frames.proofs.order.Order.renumber.Goals as goal
use Rattle.frames.proofs.order.Order.renumber.Goals.{then-index-turn, else-index-turn}

pub loop-turn-preserved : goal.loop-turn-preserved
loop-turn-preserved c =
    let i = c.self-in-loop-turn.inside in
    let old = c.args.self.now.turns in
    let now = c.loop-turn.self.turns in
    let t = c.loop-turn.turn in
    let end = c.self.inside.next in
    let inv = c.loop-turn.invariant in
    let turns = ap (λ (o : Turns). o.turns) c.self-in-loop-turn.view_is in
    let size = ap (λ (ts : List ℕ). length ts) turns in
    let in_t : t < length i.frames.items = omega (arith, c.loop-turn-test.true, inv.end, inv.packed.order.size, size, c.self-in-loop-turn.invariant.room) in
    let f = c.index-frame.result.now in
    let frame : f ≡ get_or i.frames.items t 0 = get_or_read i.frames.items t f in_t c.index-frame.ensures 0 in
    let in_f : f < length i.turns.items = omega (arith, c.self-in-loop-turn.invariant.of_turn t in_t) in
    let turn : c.index.result.now ≡ turn_of now f = get_or_read i.turns.items f c.index.result.now in_f c.index.ensures 0 ∙ ap (λ (ts : List ℕ). turn_of ts f) turns in
    let alone : (g : ℕ) → g < length old → turn_of now g ≡ t → g ≡ f = λ g in_g e.
    sym (c.self-in-loop-turn.invariant.of_frame g (omega (arith, size, inv.packed.order.size))).1
    ∙ ap (λ (s : ℕ). get_or i.frames.items s 0) (ap (λ (ts : List ℕ). turn_of ts g) turns ∙ e)
    ∙ sym frame in
    elim c.if-index-turn.branch [
      | then-index-turn w ↦ record {
        end = inv.end;
        packed = packed_is old (t + 1) end (c.loop-turn.given + 1) _ _ _ w.given-is (ap (λ (o : Turns). o.turns) (w.self-is ∙ w.advance.ensures))
            (packed_more old t end c.loop-turn.given now f inv.packed (omega (arith, size, inv.packed.order.size)) (sym turn ∙ w.if-index-turn.true) alone);
        active = ap (λ (o : Turns). o.active) (w.self-is ∙ w.advance.ensures) ∙ inv.active;
        inactive = ap (λ (o : Turns). o.inactive) (w.self-is ∙ w.advance.ensures) ∙ inv.inactive;
      }
      | else-index-turn w ↦ record {
        end = inv.end;
        packed = packed_is old (t + 1) end c.loop-turn.given _ _ _ w.given-is (ap (λ (o : Turns). o.turns) w.self-is)
            (packed_hole old t end c.loop-turn.given now inv.packed
            (λ g in_g e. w.if-index-turn.false (turn ∙ ap (turn_of now) (sym (alone g in_g e)) ∙ e)));
        active = ap (λ (o : Turns). o.active) w.self-is ∙ inv.active;
        inactive = ap (λ (o : Turns). o.inactive) w.self-is ∙ inv.inactive;
      }
    ]

pub returns-clause-within : goal.returns-clause-within
returns-clause-within c =
    few_given c.loop-turn.self.turns (length c.args.self.now.turns) c.loop-turn.given c.loop-turn.invariant.packed.dense

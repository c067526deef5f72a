use Rattle.std.proofs.Common.{◌≡◌, ◌∙◌, ap, ℕ, ◌*◌, ◌<◌, Bool, List, length, false, arith}
use Rattle.frames.specs.Sets.{is_in}
use Rattle.frames.specs.Order.{Turns, by_frame, turn_of}
use Rattle.frames.proofs.OrderLemmas.{appended, free_of, renamed_nothing, renumbered}
use Rattle.frames.proofs.order.Order.append.Goals as goal

pub invariant_of-self : goal.invariant_of-self
invariant_of-self c =
    let i = c.self.inside in
    let f = c.args.frame in
    let t = c.free_turn-turn.result in
    let turns = ap (λ (o : Turns). o.turns) c.self.view_is in
    let size : length i.turns.items ≡ length c.args.self.now.turns = ap (λ (ts : List ℕ). length ts) turns ∙ c.free_turn-turn.ensures.order.size in
    let within : f < length i.turns.items = omega (arith, size, c.requires.within) in
    let in_t : t < length i.turns.items * 4 = omega (arith, size, c.free_turn-turn.ensures.within) in
    let later : (g : ℕ) → g < length i.turns.items → turn_of i.turns.items g < t = λ g h.
    omega (arith, ap (λ (ts : List ℕ). turn_of ts g) turns, c.free_turn-turn.ensures.later g (omega (arith, size))) in
    let n = c.self.invariant in
    let idle_active : is_in (by_frame i.active i.turns.items) f ≡ false = ap (λ (o : Turns). is_in o.active f) c.self.view_is ∙ ap (λ (s : List Bool). is_in s f) c.free_turn-turn.ensures.active ∙ c.requires.active in
    let idle_inactive : is_in (by_frame i.inactive i.turns.items) f ≡ false = ap (λ (o : Turns). is_in o.inactive f) c.self.view_is ∙ ap (λ (s : List Bool). is_in s f) c.free_turn-turn.ensures.inactive ∙ c.requires.inactive in
    renumbered i.turns.items i.frames.items i.next i.active i.inactive n f t within
    (free_of i.turns.items i.frames.items i.next i.active i.inactive n f t within later in_t) in_t
    _ (omega arith) (omega (arith, in_t, n.room)) (λ g h ne. omega (arith, later g h)) _ _
    (renamed_nothing i.turns.items i.frames.items i.next i.active i.inactive n f t within later in_t i.active n.actives idle_active)
    (renamed_nothing i.turns.items i.frames.items i.next i.active i.inactive n f t within later in_t i.inactive n.inactives idle_inactive)

pub returns-clause-active : goal.returns-clause-active
returns-clause-active c =
    let i = c.self.inside in
    let f = c.args.frame in
    let t = c.free_turn-turn.result in
    let turns = ap (λ (o : Turns). o.turns) c.self.view_is in
    let size : length i.turns.items ≡ length c.args.self.now.turns = ap (λ (ts : List ℕ). length ts) turns ∙ c.free_turn-turn.ensures.order.size in
    let within : f < length i.turns.items = omega (arith, size, c.requires.within) in
    let in_t : t < length i.turns.items * 4 = omega (arith, size, c.free_turn-turn.ensures.within) in
    let later : (g : ℕ) → g < length i.turns.items → turn_of i.turns.items g < t = λ g h.
    omega (arith, ap (λ (ts : List ℕ). turn_of ts g) turns, c.free_turn-turn.ensures.later g (omega (arith, size))) in
    let n = c.self.invariant in
    let was : by_frame i.active i.turns.items ≡ c.args.self.now.active = ap (λ (o : Turns). o.active) c.self.view_is ∙ c.free_turn-turn.ensures.active in
    appended i.turns.items i.frames.items i.next i.active i.inactive n f t within later in_t i.active n.actives
    (ap (λ (s : List Bool). is_in s f) was ∙ c.requires.active) ∙ was

pub returns-clause-inactive : goal.returns-clause-inactive
returns-clause-inactive c =
    let i = c.self.inside in
    let f = c.args.frame in
    let t = c.free_turn-turn.result in
    let turns = ap (λ (o : Turns). o.turns) c.self.view_is in
    let size : length i.turns.items ≡ length c.args.self.now.turns = ap (λ (ts : List ℕ). length ts) turns ∙ c.free_turn-turn.ensures.order.size in
    let within : f < length i.turns.items = omega (arith, size, c.requires.within) in
    let in_t : t < length i.turns.items * 4 = omega (arith, size, c.free_turn-turn.ensures.within) in
    let later : (g : ℕ) → g < length i.turns.items → turn_of i.turns.items g < t = λ g h.
    omega (arith, ap (λ (ts : List ℕ). turn_of ts g) turns, c.free_turn-turn.ensures.later g (omega (arith, size))) in
    let n = c.self.invariant in
    let was : by_frame i.inactive i.turns.items ≡ c.args.self.now.inactive = ap (λ (o : Turns). o.inactive) c.self.view_is ∙ c.free_turn-turn.ensures.inactive in
    appended i.turns.items i.frames.items i.next i.active i.inactive n f t within later in_t i.inactive n.inactives
    (ap (λ (s : List Bool). is_in s f) was ∙ c.requires.inactive) ∙ was

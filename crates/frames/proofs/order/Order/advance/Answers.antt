use Rattle.std.proofs.Common.{◌≡◌, ◌∙◌, sym, ap, ℕ, ◌<◌, ◌≤◌, Bool, false, List, length, slice_set, arith}
use Rattle.std.proofs.lemmas.List.{get_or_read}
use Rattle.frames.specs.Sets.{is_in}
use Rattle.frames.specs.Order.{Turns, by_frame, turn_of}
use Rattle.frames.proofs.OrderLemmas.{renumbered, renamed_same}
use Rattle.frames.proofs.order.Order.advance.Goals as goal

pub invariant_of-self : goal.invariant_of-self
invariant_of-self c =
    let i = c.self.inside in
    let f = c.args.frame in
    let t = c.args.turn in
    let turns = ap (λ (o : Turns). o.turns) c.self.view_is in
    let size = ap (λ (ts : List ℕ). length ts) turns in
    let within : f < length i.turns.items = omega (arith, size, c.requires.frame) in
    let old : c.index-old.result.now ≡ turn_of i.turns.items f = get_or_read i.turns.items f c.index-old.result.now within c.index-old.ensures 0 in
    let n = c.self.invariant in
    let earlier : t ≤ turn_of i.turns.items f = omega (arith, c.requires.earlier, ap (λ (ts : List ℕ). turn_of ts f) turns) in
    let before = (n.of_frame f within).0 in
    renumbered i.turns.items i.frames.items i.next i.active i.inactive n f t within
    (λ g h e. c.requires.free g (omega (arith, size)) (ap (λ (ts : List ℕ). turn_of ts g) (sym turns) ∙ e))
    (omega (arith, earlier, before, n.given, n.room)) i.next (omega (arith, earlier, before)) n.given
    (λ g h ne. (n.of_frame g h).0) _ _
    (c.rename.ensures ∙ ap (λ (o : ℕ). slice_set (slice_set i.active o false) t (is_in i.active o)) old)
    (c.rename-2.ensures ∙ ap (λ (o : ℕ). slice_set (slice_set i.inactive o false) t (is_in i.inactive o)) old)

pub returns : goal.returns
returns c =
    let i = c.self.inside in
    let f = c.args.frame in
    let t = c.args.turn in
    let turns = ap (λ (o : Turns). o.turns) c.self.view_is in
    let size = ap (λ (ts : List ℕ). length ts) turns in
    let within : f < length i.turns.items = omega (arith, size, c.requires.frame) in
    let old : c.index-old.result.now ≡ turn_of i.turns.items f = get_or_read i.turns.items f c.index-old.result.now within c.index-old.ensures 0 in
    let free = λ (g : ℕ) (h : g < length i.turns.items) (e : turn_of i.turns.items g ≡ t).
    c.requires.free g (omega (arith, size)) (ap (λ (ts : List ℕ). turn_of ts g) (sym turns) ∙ e) in
    let earlier : t ≤ turn_of i.turns.items f = omega (arith, c.requires.earlier, ap (λ (ts : List ℕ). turn_of ts f) turns) in
    let in_t : t < length i.frames.items = omega (arith, earlier, (c.self.invariant.of_frame f within).0, c.self.invariant.given) in
    let actives = ap (λ (set : List Bool). by_frame set (slice_set i.turns.items f t))
    (c.rename.ensures ∙ ap (λ (o : ℕ). slice_set (slice_set i.active o false) t (is_in i.active o)) old)
    ∙ renamed_same i.turns.items i.frames.items i.next i.active i.inactive c.self.invariant i.active c.self.invariant.actives f t within free in_t in
    let inactives = ap (λ (set : List Bool). by_frame set (slice_set i.turns.items f t))
    (c.rename-2.ensures ∙ ap (λ (o : ℕ). slice_set (slice_set i.inactive o false) t (is_in i.inactive o)) old)
    ∙ renamed_same i.turns.items i.frames.items i.next i.active i.inactive c.self.invariant i.inactive c.self.invariant.inactives f t within free in_t in
    ap (λ (set : List Bool). let o : Turns = record { turns = slice_set i.turns.items f t; active = set; inactive = by_frame c.rename-2.new.self (slice_set i.turns.items f t) } in o) actives
    ∙ ap (λ (set : List Bool). let o : Turns = record { turns = slice_set i.turns.items f t; active = by_frame i.active i.turns.items; inactive = set } in o) inactives
    ∙ ap (λ (o : Turns). let p : Turns = record o { turns = slice_set o.turns f t } in p) c.self.view_is

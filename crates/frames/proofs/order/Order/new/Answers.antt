use Rattle.std.proofs.Common.{◌≡◌, ◌∙◌, sym, ap, subst, ℕ, ◌*◌, List, length, get_or, take, drop, ◌++◌, replicate, rules, arith}
use Rattle.std.proofs.lemmas.List.{take_at}
use Rattle.frames.specs.Order.{IsNumbered}
use Rattle.frames.proofs.OrderLemmas.{numbered_new, waits_none}
use Rattle.frames.proofs.SetLemmas.{slice_index_zeros}
use Rattle.frames.proofs.order.Order.new.Goals as goal

pub invariant_of-result : goal.invariant_of-result
invariant_of-result c =
    let count = c.args.count in
    let turns = c.number.new.numbers in
    let frames = c.number-2.new.numbers in
    let none : c.in_ok-frames.frames.items ≡ replicate (count * 4) 0 = search rules in
    let size : length turns ≡ count = search rules in
    let room : length frames ≡ count * 4 = search rules in
    let turns_are : take c.in_ok-turns.turns.len (turns ++ drop (length turns) c.in_ok-turns.turns.items) ≡ turns =
    take_at turns (drop (length turns) c.in_ok-turns.turns.items) c.in_ok-turns.turns.len (omega (arith, c.number.auto.numbers, c.deref_mut.ensures.len)) in
    let frames_are : take c.in_ok-frames.frames.len (frames ++ drop (length frames) c.in_ok-frames.frames.items) ≡ frames =
    take_at frames (drop (length frames) c.in_ok-frames.frames.items) c.in_ok-frames.frames.len (omega (arith, c.number-2.auto.numbers, c.deref_mut-2.ensures.len)) in
    let P : List ℕ → Type 0 = λ (ts : List ℕ). IsNumbered ts frames count c.in_ok-active.active c.in_ok-inactive.inactive in
    let Q : List ℕ → Type 0 = λ (fs : List ℕ). IsNumbered (take c.in_ok-turns.turns.len (turns ++ drop (length turns) c.in_ok-turns.turns.items)) fs count c.in_ok-active.active c.in_ok-inactive.inactive in
    subst Q (sym frames_are) (subst P (sym turns_are)
    (numbered_new count turns frames c.in_ok-active.active c.in_ok-inactive.inactive c.requires size room c.number.ensures.numbers c.number-2.ensures.numbers
    (λ k past. c.number-2.ensures.others k past ∙ ap (λ (xs : List ℕ). get_or xs k 0) (c.deref_mut-2.ensures.value ∙ none) ∙ slice_index_zeros (count * 4) k)
    c.in_ok-active.ensures.none c.in_ok-inactive.ensures.none))

pub returns-clause-new : goal.returns-clause-new
returns-clause-new c =
    let count = c.args.count in
    let turns = c.number.new.numbers in
    let size : length turns ≡ count = search rules in
    let turns_are : take c.in_ok-turns.turns.len (turns ++ drop (length turns) c.in_ok-turns.turns.items) ≡ turns =
    take_at turns (drop (length turns) c.in_ok-turns.turns.items) c.in_ok-turns.turns.len (omega (arith, c.number.auto.numbers, c.deref_mut.ensures.len)) in
    let size_is = ap (λ (ts : List ℕ). length ts) turns_are ∙ size in
    record {
      size = size_is;
      active = waits_none (count * 4) count c.in_ok-active.active _ c.in_ok-active.ensures.none size_is;
      inactive = waits_none (count * 4) count c.in_ok-inactive.inactive _ c.in_ok-inactive.ensures.none size_is;
    }

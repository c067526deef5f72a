use Rattle.std.proofs.Common.{◌≡◌, ◌+◌, ap, sym, ◌∙◌, arith, lit<, false, w64}
use Rattle.std.proofs.lemmas.List.Sums.{count_by-le-length}
use Rattle.pc_types.specs.Kinds.{is_fill}
use Rattle.std.proofs.Math.Facts.{Fits-of_lt}
use Rattle.writeback.proofs.Counts.{fills_pushed, is_fill_of, one_if, one_if-le}
use Rattle.machine.specs.State.{Request}
use Rattle.writeback.specs.Flights.{Flights, begun, is_full}
use Rattle.writeback.proofs.TableLemmas.{room, push_rises, push_begins}
use Rattle.writeback.proofs.requests.Requests.begin.Goals as goal

pub push-requires : goal.push-requires
push-requires c = (
  lit< tt,
  room c.self.inside.next c.self.inside.in_flight.items c.self.invariant.0
      (ap is_full c.self.view_is ∙ c.requires),
)

pub invariant_of-self : goal.invariant_of-self
invariant_of-self c =
    let key : c.next_serial-serial.result.0 ≡ c.self.inside.next = c.next_serial-serial.ensures.value
    ∙ sym (ap (λ (t : Flights). t.next) c.self.view_is) in (
      push_rises c.self.inside.next c.self.inside.in_flight.items c.push.new.self.items _ key c.push.ensures.items
          c.self.invariant.0,
      ap (λ n. c.self.inside.fills + n) c.fills_of.ensures
          ∙ ap (λ n. n + one_if (is_fill c.args.kind)) c.self.invariant.1
          ∙ sym (fills_pushed c.self.inside.in_flight.items c.push.new.self.items _ c.push.ensures.items),
    )

pub returns-clause-begun : goal.returns-clause-begun
returns-clause-begun c =
    let key : c.next_serial-serial.result.0 ≡ c.self.inside.next = c.next_serial-serial.ensures.value
    ∙ sym (ap (λ (t : Flights). t.next) c.self.view_is) in
    push_begins c.self.inside.next c.self.inside.in_flight.items c.push.new.self.items _ key c.push.ensures.items
    c.self.invariant.0
    ∙ ap (λ (t : Flights). begun t
    (let r : Request =
    record {
      kind = c.args.kind;
      file = c.args.file.0;
      page = c.args.page.0;
      block = c.args.block.0;
      dropped = false;
    } in r)) c.self.view_is

pub overflow_add-self : goal.overflow_add-self
overflow_add-self c =
    let few = room c.self.inside.next c.self.inside.in_flight.items c.self.invariant.0 (ap is_full c.self.view_is ∙ c.requires) in
    Fits-of_lt {w = w64} (omega (
      arith,
      few,
      count_by-le-length is_fill_of c.self.inside.in_flight.items,
      c.self.invariant.1,
      c.fills_of.ensures,
      one_if-le (is_fill c.args.kind),
    ))

use Rattle.std.proofs.Common.{◌≡◌, ap, sym, ◌∙◌, arith, eqb, Some, option_map, position, None}
use Rattle.std.specs.FinMap as map
use Rattle.writeback.specs.declared.requests.Entry.{Entry}
use Rattle.writeback.specs.Flights.{Flights, ended}
use Rattle.writeback.specs.Requests.{request_of}
use Rattle.writeback.proofs.Counts.{fills_removed}
use Rattle.writeback.proofs.TableLemmas.{absent_get, absent_ends, found_get, found_inside, remove_rises, remove_ends}
use Rattle.writeback.proofs.requests.Requests.end.Goals as goal

pub returns-in_err-at-clause-request : goal.returns-in_err-at-clause-request
returns-in_err-at-clause-request c =
    let none : position (λ (e : Entry). eqb e.serial.0 c.args.serial.0) c.self.inside.in_flight.items ≡ None =
    sym (c.position_of.ensures ∙ ap (position (λ (e : Entry). eqb e.serial.0 c.args.serial.0)) c.deref.ensures.0)
    ∙ c.in_err-at.was in
    ap (option_map request_of) c.from_residual.ensures
    ∙ sym (absent_get c.self.inside.next c.self.inside.in_flight.items c.args.serial.0 none)
    ∙ ap (λ (t : Flights). map.get t.requests c.args.serial.0) c.self.view_is

pub returns-in_err-at-clause-ended : goal.returns-in_err-at-clause-ended
returns-in_err-at-clause-ended c =
    let none : position (λ (e : Entry). eqb e.serial.0 c.args.serial.0) c.self.inside.in_flight.items ≡ None =
    sym (c.position_of.ensures ∙ ap (position (λ (e : Entry). eqb e.serial.0 c.args.serial.0)) c.deref.ensures.0)
    ∙ c.in_err-at.was in
    sym c.self.view_is ∙ absent_ends c.self.inside.next c.self.inside.in_flight.items c.args.serial.0 none
    ∙ ap (λ (t : Flights). ended t c.args.serial.0) c.self.view_is

pub invariant_of-self : goal.invariant_of-self
invariant_of-self c =
    let at : position (λ (e : Entry). eqb e.serial.0 c.args.serial.0) c.self.inside.in_flight.items
    ≡ Some c.in_ok-at.at =
    sym (c.position_of.ensures ∙ ap (position (λ (e : Entry). eqb e.serial.0 c.args.serial.0)) c.deref.ensures.0)
    ∙ c.in_ok-at.was in
    let inside = found_inside c.self.inside.in_flight.items c.args.serial.0 c.in_ok-at.at c.remove-entry.result at in
    let taken = fills_removed c.self.inside.in_flight.items c.remove-entry.new.self.items c.in_ok-at.at c.remove-entry.result
    inside c.remove-entry.ensures.items c.remove-entry.ensures.value in (
      remove_rises c.self.inside.next c.self.inside.in_flight.items c.remove-entry.new.self.items c.args.serial.0
          c.in_ok-at.at c.remove-entry.result at c.remove-entry.ensures.items c.self.invariant.0,
      omega (arith, taken, c.fills_of.ensures, c.self.invariant.1),
    )

pub returns-clause-request : goal.returns-clause-request
returns-clause-request c =
    let at : position (λ (e : Entry). eqb e.serial.0 c.args.serial.0) c.self.inside.in_flight.items
    ≡ Some c.in_ok-at.at =
    sym (c.position_of.ensures ∙ ap (position (λ (e : Entry). eqb e.serial.0 c.args.serial.0)) c.deref.ensures.0)
    ∙ c.in_ok-at.was in
    found_get c.self.inside.next c.self.inside.in_flight.items c.args.serial.0 c.in_ok-at.at c.remove-entry.result at
    c.remove-entry.ensures.value ∙ ap (λ (t : Flights). map.get t.requests c.args.serial.0) c.self.view_is

pub returns-clause-ended : goal.returns-clause-ended
returns-clause-ended c =
    let at : position (λ (e : Entry). eqb e.serial.0 c.args.serial.0) c.self.inside.in_flight.items
    ≡ Some c.in_ok-at.at =
    sym (c.position_of.ensures ∙ ap (position (λ (e : Entry). eqb e.serial.0 c.args.serial.0)) c.deref.ensures.0)
    ∙ c.in_ok-at.was in
    remove_ends c.self.inside.next c.self.inside.in_flight.items c.remove-entry.new.self.items c.args.serial.0
    c.in_ok-at.at c.remove-entry.result at c.remove-entry.ensures.items c.self.invariant.0
    ∙ ap (λ (t : Flights). ended t c.args.serial.0) c.self.view_is

use Rattle.std.proofs.Common.{◌≡◌, ℕ, ap, sym, ◌∙◌, eqb, List, Option, arith, position}
use Rattle.std.specs.FinMap as map
use Rattle.world.specs.declared.jobs.Flight.{Flight}
use Rattle.world.specs.Flights.{Jobs, serial_of}
use Rattle.world.proofs.JobTable.{absent_get, absent_removes, found_at, found_get, len_table, take_once, take_removes}
use Rattle.world.proofs.jobs.Jobs.take.Goals as goal

there : (flights items : List Flight) (t : ℕ) (found o : Option ℕ)
    → found ≡ position (λ (x : Flight). eqb (serial_of x) t) flights → flights ≡ items → found ≡ o
    → position (λ (x : Flight). eqb (serial_of x) t) items ≡ o
there flights items t found o is same was =
    sym (is ∙ ap (position (λ (x : Flight). eqb (serial_of x) t)) same) ∙ was

pub returns-in_err-at-clause-job : goal.returns-in_err-at-clause-job
returns-in_err-at-clause-job c =
    let none = there _ _ c.args.serial.0 _ _ c.position_of.ensures c.deref.ensures.value c.in_err-at.was in
    c.from_residual.ensures ∙ sym (absent_get c.self.inside.flights.items c.args.serial.0 none)
    ∙ ap (λ (t : Jobs). map.get t c.args.serial.0) c.self.view_is

pub returns-in_err-at-clause-rest : goal.returns-in_err-at-clause-rest
returns-in_err-at-clause-rest c =
    let none = there _ _ c.args.serial.0 _ _ c.position_of.ensures c.deref.ensures.value c.in_err-at.was in
    sym c.self.view_is ∙ absent_removes c.self.inside.flights.items c.args.serial.0 none
    ∙ ap (λ (t : Jobs). map.remove t c.args.serial.0) c.self.view_is

pub invariant_of-self : goal.invariant_of-self
invariant_of-self c =
    let at = there _ _ c.args.serial.0 _ _ c.position_of.ensures c.deref.ensures.value c.in_ok-at.was in (
      take_once c.self.inside.flights.items c.args.serial.0 c.in_ok-at.at c.remove.result
          (found_at _ _ _ _ at c.remove.ensures.value)
          c.self.invariant.0 c.remove.new.self.items c.remove.ensures.items,
      omega (arith, c.remove.ensures.len, c.self.invariant.1),
      omega (arith, c.remove.ensures.capacity, c.self.invariant.2),
    )

pub returns-clause-job : goal.returns-clause-job
returns-clause-job c =
    let at = there _ _ c.args.serial.0 _ _ c.position_of.ensures c.deref.ensures.value c.in_ok-at.was in
    found_get c.self.inside.flights.items c.args.serial.0 c.in_ok-at.at c.remove.result
    (found_at _ _ _ _ at c.remove.ensures.value)
    c.self.invariant.0 ∙ ap (λ (t : Jobs). map.get t c.args.serial.0) c.self.view_is

pub returns-clause-rest : goal.returns-clause-rest
returns-clause-rest c =
    let at = there _ _ c.args.serial.0 _ _ c.position_of.ensures c.deref.ensures.value c.in_ok-at.was in
    take_removes c.self.inside.flights.items c.args.serial.0 c.in_ok-at.at c.remove.result
    (found_at _ _ _ _ at c.remove.ensures.value)
    c.self.invariant.0 c.remove.new.self.items c.remove.ensures.items
    ∙ ap (λ (t : Jobs). map.remove t c.args.serial.0) c.self.view_is

pub returns-clause-serial : goal.returns-clause-serial
returns-clause-serial c =
    let at = there _ _ c.args.serial.0 _ _ c.position_of.ensures c.deref.ensures.value c.in_ok-at.was in
    (found_at _ _ _ _ at c.remove.ensures.value).serial

pub returns-clause-room : goal.returns-clause-room
returns-clause-room c =
    let at = there _ _ c.args.serial.0 _ _ c.position_of.ensures c.deref.ensures.value c.in_ok-at.was in
    let once = take_once c.self.inside.flights.items c.args.serial.0 c.in_ok-at.at c.remove.result
    (found_at _ _ _ _ at c.remove.ensures.value)
    c.self.invariant.0 c.remove.new.self.items c.remove.ensures.items in
    omega (arith, len_table c.remove.new.self.items once, c.remove.ensures.len, c.self.invariant.1)

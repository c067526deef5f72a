use Rattle.std.proofs.Common.{ap, ◌∙◌, arith}
use Rattle.std.specs.FinMap as map
use Rattle.world.specs.Flights.{Jobs, serial_of}
use Rattle.world.proofs.JobTable.{len_table, put_once, put_inserts}
use Rattle.world.proofs.jobs.Jobs.put.Goals as goal

pub push_reserved-requires : goal.push_reserved-requires
push_reserved-requires c =
    let l = len_table c.self.inside.flights.items c.self.invariant.0 ∙ ap (λ (t : Jobs). map.len t) c.self.view_is in
    omega (arith, l, c.self.invariant.2, c.requires.room)

pub invariant_of-self : goal.invariant_of-self
invariant_of-self c =
    let absent = ap (λ (t : Jobs). map.get t (serial_of c.args.flight)) c.self.view_is ∙ c.requires.apart in (
      put_once c.self.inside.flights.items c.push_reserved.new.self.items c.args.flight c.push_reserved.ensures.items
          c.self.invariant.0 absent,
      omega (
        arith,
        len_table c.self.inside.flights.items c.self.invariant.0
            ∙ ap (λ (t : Jobs). map.len t) c.self.view_is,
        c.requires.room,
        c.push_reserved.ensures.len,
      ),
      omega (arith, c.push_reserved.ensures.capacity, c.self.invariant.2),
    )

pub returns : goal.returns
returns c =
    let absent = ap (λ (t : Jobs). map.get t (serial_of c.args.flight)) c.self.view_is ∙ c.requires.apart in
    put_inserts c.self.inside.flights.items c.push_reserved.new.self.items c.args.flight c.push_reserved.ensures.items
    absent ∙ ap (λ (t : Jobs). map.insert t (serial_of c.args.flight) c.args.flight) c.self.view_is

use Rattle.std.proofs.Common.{◌≡◌, List, subst, sym}
use Rattle.std.proofs.lemmas.List.Elements.{All-pop}
use Rattle.std.specs.Prelude.{All, IfSome, Option}
use Rattle.held.specs.Shown.{SeatSeen}
use Rattle.ring.specs.declared.ring.Ring.{Ring}
use Rattle.shared.specs.Workers.{IsWorkerOf}
use Rattle.shared.proofs.Seating.{put_back}
use Rattle.tests_shared.proofs.rows.closes.Goals as goal

pub close-requires : goal.close-requires
close-requires g c = record {
  came = λ k d less named. (All-pop (λ s. s.table ≡ g.B.Naming.table) c.args.seats.items c.pop.new.self.items
      c.pop.result c.pop.ensures.items c.requires.seats).0 k d less;
  own = c.requires.own;
}

pub closes_well-is_closed-requires : goal.closes_well-is_closed-requires
closes_well-is_closed-requires g c =
    let both = All-pop (λ s. s.table ≡ g.B.Naming.table) c.args.seats.items c.pop.new.self.items c.pop.result
    c.pop.ensures.items c.requires.seats in
    let mine : c.in-Some.missing.table ≡ g.B.Naming.table =
    subst (λ (o : Option SeatSeen). IfSome o (λ s. s.table ≡ g.B.Naming.table)) c.in-Some.is both.1 in
    let same : c.in-Err.seats.items ≡ c.pop.new.self.items = cc (c.in-Err.ensures.err.3) in
    let its : c.syncs_thrice-is_synced.new.seat.table ≡ g.B.Naming.table = cc (c.syncs_thrice-is_synced.ensures, mine) in
    record {
      own = subst (λ (r : Ring). IsWorkerOf r g.B.Naming.name g.B.Naming.table g.B.NamesDeeds.deeds g.B.Naming.sizes c.in-Err.own)
          (sym c.in-Err.ensures.err.2) c.in-Err.ensures.again.0;
      seats = put_back g.B.Naming.table c.in-Err.seats.items c.push.new.self.items
          c.syncs_thrice-is_synced.new.seat _ c.push.ensures.items
          (subst (λ (ss : List SeatSeen). All (λ s. s.table ≡ g.B.Naming.table) ss) (sym same) both.0) its;
    }

use Rattle.std.proofs.Common.{ℕ, ◌∙◌, List, ap, inl, length, refl, subst, sym}
use Rattle.machine.specs.declared.event.Event.TheVariants as event
use Rattle.pc_types.specs.declared.ids.HandleId.{HandleId}
use Rattle.held.specs.Called.{Once, Only}
use Rattle.held.proofs.Seats.{goes_on, goes_same, only_same}
use Rattle.shared.specs.Own.{IsTry}
use Rattle.shared.specs.Rooms.{IsShortFor}
use Rattle.shared.specs.Seen.{HandleSeen}
use Rattle.shared.proofs.Owning.{once_try_on, only_try_on}
use Rattle.shared.proofs.Wanting.{short_admitted, short_on}
use Rattle.shared.specs.Settled.{FillsMissed, Settles}
use Rattle.shared.proofs.Settling.{missed_on, missed_same, settles_on, settles_same}
use Rattle.shared.specs.Denials.{IsDenied}
use Rattle.shared.specs.Own.{IsCallOf}
use Rattle.shared.specs.Called.{OwnFirst, Retries}
use Rattle.shared.proofs.Making.{call_on, first_on, retries_on}
use Rattle.shared.proofs.cache.SharedCache.pread.Goals as goal

pub attempts-init : goal.attempts-init
attempts-init g c =
    let seat = c.args.seat.now in
    let own = event.Read c.args.handle.now.number c.args.offset (length c.args.out.now) in record {
      goes = goes_same seat seat refl;
      tried = only_same (IsTry c.args.handle.now.number own) seat seat refl;
      first = inl refl;
      settled = settles_same g.B.Naming.name seat seat refl;
      missed = missed_same own seat seat refl;
      out = refl;
    }

pub returns-in-Ok-Some-clause-once : goal.returns-in-Ok-Some-clause-once
returns-in-Ok-Some-clause-once g c =
    let h = c.args.handle.now.number in
    once_try_on h (event.Read h c.args.offset (length c.args.out.now)) c.args.seat.now c.attempts.seat c.try_read.new.seat
    c.attempts.invariant.tried
    (subst (λ (n : HandleId). Once (IsTry n (event.Read n c.args.offset (length c.args.out.now))) c.attempts.seat
    c.try_read.new.seat) (ap (λ (x : HandleSeen). x.number) c.handle.view_is)
    (subst (λ (l : List ℕ). Once (IsTry c.handle.inside.number (event.Read c.handle.inside.number c.args.offset (length l)))
    c.attempts.seat c.try_read.new.seat) c.attempts.invariant.out (rw c.in-Ok-Some.field-0-is at c.in-Ok-Some.ensures.once)))

pub attempts-preserved : goal.attempts-preserved
attempts-preserved g c =
    let h = c.args.handle.now.number in
    record {
      goes = goes_on c.args.seat.now c.attempts.seat c.try_read.new.seat c.attempts.invariant.goes c.try_read.ensures.goes;
      tried =
          only_try_on h (event.Read h c.args.offset (length c.args.out.now)) c.args.seat.now c.attempts.seat c.try_read.new.seat
          c.attempts.invariant.tried
          (subst (λ (n : HandleId). Only (IsTry n (event.Read n c.args.offset (length c.args.out.now))) c.attempts.seat
          c.try_read.new.seat) (ap (λ (x : HandleSeen). x.number) c.handle.view_is)
          (subst (λ (l : List ℕ). Only (IsTry c.handle.inside.number (event.Read c.handle.inside.number c.args.offset (length l)))
          c.attempts.seat c.try_read.new.seat) c.attempts.invariant.out (rw c.in-Ok-None.field-0-is at c.in-Ok-None.ensures.tried)));
      first =
          retries_on (event.Read h c.args.offset (length c.args.out.now)) c.args.seat.now c.attempts.seat c.try_read.new.seat
          c.attempts.invariant.first
          (subst (λ (n : HandleId). Retries c.attempts.seat c.try_read.new.seat (event.Read n c.args.offset (length c.args.out.now)))
          (ap (λ (x : HandleSeen). x.number) c.handle.view_is)
          (subst (λ (l : List ℕ). Retries c.attempts.seat c.try_read.new.seat (event.Read c.handle.inside.number c.args.offset (length l)))
          c.attempts.invariant.out (rw c.in-Ok-None.field-0-is at c.in-Ok-None.ensures.again)))
          c.try_read.ensures.goes;
      settled = settles_on g.B.Naming.name c.args.seat.now c.attempts.seat c.try_read.new.seat c.attempts.invariant.settled
          c.in-Ok-None.ensures.settled;
      missed =
          missed_on (event.Read h c.args.offset (length c.args.out.now)) c.args.seat.now c.attempts.seat c.try_read.new.seat
          c.attempts.invariant.missed
          (subst (λ (n : HandleId). FillsMissed (event.Read n c.args.offset (length c.args.out.now)) c.attempts.seat c.try_read.new.seat)
          (ap (λ (x : HandleSeen). x.number) c.handle.view_is)
          (subst (λ (l : List ℕ). FillsMissed (event.Read c.handle.inside.number c.args.offset (length l)) c.attempts.seat
          c.try_read.new.seat) c.attempts.invariant.out c.try_read.ensures.missed));
      out = (rw c.in-Ok-None.field-0-is at c.in-Ok-None.ensures.same) ∙ c.attempts.invariant.out;
    }

pub returns-in-Err-clause-wanting : goal.returns-in-Err-clause-wanting
returns-in-Err-clause-wanting g c =
    short_admitted (event.Read c.args.handle.now.number c.args.offset (length c.args.out.now)) c.args.seat.now c.args.seat.now
    c.args.self.now.name c.args.seat.now.name c.args.handle.now.cache c.in-Err.refusal c.without_slip.result
    (sym c.admits.ensures ∙ c.in-Err.is) c.without_slip.ensures

pub returns-in-Err-try_read-clause-wanting : goal.returns-in-Err-try_read-clause-wanting
returns-in-Err-try_read-clause-wanting g c =
    let h = c.args.handle.now.number in
    short_on (event.Read h c.args.offset (length c.args.out.now)) c.args.seat.now c.attempts.seat c.try_read.new.seat
    c.in-Err-try_read.denied c.attempts.invariant.goes
    (subst (λ (n : HandleId). IsShortFor (event.Read n c.args.offset (length c.args.out.now)) c.attempts.seat
    c.try_read.new.seat c.in-Err-try_read.denied) (ap (λ (x : HandleSeen). x.number) c.handle.view_is)
    (subst (λ (l : List ℕ). IsShortFor (event.Read c.handle.inside.number c.args.offset (length l)) c.attempts.seat
    c.try_read.new.seat c.in-Err-try_read.denied) c.attempts.invariant.out c.in-Err-try_read.ensures.wanting))

pub returns-in-Ok-Some-clause-settled : goal.returns-in-Ok-Some-clause-settled
returns-in-Ok-Some-clause-settled g c =
    subst (λ n. Settles n c.args.seat.now c.try_read.new.seat) (sym c.args.self.now.named)
    (settles_on g.B.Naming.name c.args.seat.now c.attempts.seat c.try_read.new.seat c.attempts.invariant.settled
    c.in-Ok-Some.ensures.settled)

pub returns-in-Err-try_read-clause-settled : goal.returns-in-Err-try_read-clause-settled
returns-in-Err-try_read-clause-settled g c =
    subst (λ n. Settles n c.args.seat.now c.try_read.new.seat)
    (sym c.args.self.now.named)
    (settles_on g.B.Naming.name c.args.seat.now c.attempts.seat c.try_read.new.seat
    c.attempts.invariant.settled c.in-Err-try_read.ensures.settled)

pub returns-in-Ok-Some-clause-missed : goal.returns-in-Ok-Some-clause-missed
returns-in-Ok-Some-clause-missed g c =
    let h = c.args.handle.now.number in
    missed_on (event.Read h c.args.offset (length c.args.out.now)) c.args.seat.now c.attempts.seat c.try_read.new.seat
    c.attempts.invariant.missed
    (subst (λ (n : HandleId). FillsMissed (event.Read n c.args.offset (length c.args.out.now)) c.attempts.seat c.try_read.new.seat)
    (ap (λ (x : HandleSeen). x.number) c.handle.view_is)
    (subst (λ (l : List ℕ). FillsMissed (event.Read c.handle.inside.number c.args.offset (length l)) c.attempts.seat
    c.try_read.new.seat) c.attempts.invariant.out c.try_read.ensures.missed))

pub returns-in-Err-try_read-clause-missed : goal.returns-in-Err-try_read-clause-missed
returns-in-Err-try_read-clause-missed g c =
    let h = c.args.handle.now.number in
    missed_on (event.Read h c.args.offset (length c.args.out.now)) c.args.seat.now c.attempts.seat c.try_read.new.seat
    c.attempts.invariant.missed
    (subst (λ (n : HandleId). FillsMissed (event.Read n c.args.offset (length c.args.out.now)) c.attempts.seat c.try_read.new.seat)
    (ap (λ (x : HandleSeen). x.number) c.handle.view_is)
    (subst (λ (l : List ℕ). FillsMissed (event.Read c.handle.inside.number c.args.offset (length l)) c.attempts.seat
    c.try_read.new.seat) c.attempts.invariant.out c.try_read.ensures.missed))

pub returns-in-Err-try_read-clause-denied : goal.returns-in-Err-try_read-clause-denied
returns-in-Err-try_read-clause-denied g c own here =
    let h = c.args.handle.now.number in
    call_on g.B.Naming.files g.B.Naming.sizes g.B.Naming.name g.B.Naming.whole h (event.Read h c.args.offset (length c.args.out.now)) c.args.seat.now c.attempts.seat c.try_read.new.seat
    c.in-Err-try_read.denied c.attempts.invariant.goes
    (subst (λ (n : HandleId). IsDenied g.B.Naming.files g.B.Naming.sizes g.B.Naming.name g.B.Naming.whole (IsCallOf n (event.Read n c.args.offset (length c.args.out.now))) c.attempts.seat
    c.try_read.new.seat c.in-Err-try_read.denied) (ap (λ (x : HandleSeen). x.number) c.handle.view_is)
    (subst (λ (l : List ℕ). IsDenied g.B.Naming.files g.B.Naming.sizes g.B.Naming.name g.B.Naming.whole (IsCallOf c.handle.inside.number (event.Read c.handle.inside.number c.args.offset (length l)))
    c.attempts.seat c.try_read.new.seat c.in-Err-try_read.denied) c.attempts.invariant.out c.in-Err-try_read.ensures.denied))

pub returns-in-Ok-Some-clause-first : goal.returns-in-Ok-Some-clause-first
returns-in-Ok-Some-clause-first g c =
    let h = c.args.handle.now.number in
    first_on (event.Read h c.args.offset (length c.args.out.now)) c.args.seat.now c.attempts.seat c.try_read.new.seat
    c.attempts.invariant.first
    (subst (λ (n : HandleId). OwnFirst (event.Read n c.args.offset (length c.args.out.now)) c.attempts.seat c.try_read.new.seat)
    (ap (λ (x : HandleSeen). x.number) c.handle.view_is)
    (subst (λ (l : List ℕ). OwnFirst (event.Read c.handle.inside.number c.args.offset (length l)) c.attempts.seat
    c.try_read.new.seat) c.attempts.invariant.out c.try_read.ensures.first)) c.try_read.ensures.goes

pub returns-in-Err-try_read-clause-first : goal.returns-in-Err-try_read-clause-first
returns-in-Err-try_read-clause-first g c =
    let h = c.args.handle.now.number in
    first_on (event.Read h c.args.offset (length c.args.out.now)) c.args.seat.now c.attempts.seat c.try_read.new.seat
    c.attempts.invariant.first
    (subst (λ (n : HandleId). OwnFirst (event.Read n c.args.offset (length c.args.out.now)) c.attempts.seat c.try_read.new.seat)
    (ap (λ (x : HandleSeen). x.number) c.handle.view_is)
    (subst (λ (l : List ℕ). OwnFirst (event.Read c.handle.inside.number c.args.offset (length l)) c.attempts.seat
    c.try_read.new.seat) c.attempts.invariant.out c.try_read.ensures.first)) c.try_read.ensures.goes

use Rattle.std.proofs.Common.{◌≡◌, ap, true}
use Rattle.std.proofs.lemmas.Result.{IfErr-weaker}
use Rattle.machine.specs.declared.event.Event.TheVariants as event
use Rattle.held.proofs.Seats.{goes_by, goes_on}
use Rattle.held.specs.Started.{as_fill}
use Rattle.shared.specs.Denials.{IsDenied}
use Rattle.shared.specs.Own.{IsHelp, IsStillDenied}
use Rattle.shared.specs.Rooms.{IsCrammed, IsFinal, IsFinalOr, IsLost, IsUnwritten, wants_room}
use Rattle.shared.proofs.Making.{goes_denied, help_on, help_settled}
use Rattle.shared.proofs.Owning.{only_begun_on, only_fill_begin, only_relieved}
use Rattle.shared.proofs.Rooming.{final_denied, lost_denied}
use Rattle.shared.proofs.Settling.{begun_kind, fill_settles, other_filled, other_relieved, settles_denied, settles_on}
use Rattle.shared.proofs.Settling.{fill_quiet, other_begun, settles_by}
use Rattle.shared.proofs.cache.SharedCache.fill_once.Goals as goal

pub returns-in-Job-clause-denied : goal.returns-in-Job-clause-denied
returns-in-Job-clause-denied g c = IfErr-weaker c.fill_by.result
    (IsDenied g.B.Naming.files g.B.Naming.sizes g.B.Naming.name g.B.Naming.whole (IsHelp c.args.handle) c.fill_begin.new.seat c.fill_by.new.seat)
    (IsDenied g.B.Naming.files g.B.Naming.sizes g.B.Naming.name g.B.Naming.whole (IsHelp c.args.handle) c.args.seat.now c.fill_by.new.seat)
    (λ d q. help_on g.B.Naming.files g.B.Naming.sizes g.B.Naming.name g.B.Naming.whole c.args.handle c.args.seat.now c.fill_begin.new.seat c.fill_by.new.seat d
    (goes_by _ _ _ _ _ _ _ c.in-Ok-fill_begin.ensures.made) q) c.fill_by.ensures.denied

pub returns-in-Err-fill_begin-clause-goes : goal.returns-in-Err-fill_begin-clause-goes
returns-in-Err-fill_begin-clause-goes g c =
    goes_on c.args.seat.now c.fill_begin.new.seat c.relieve.new.seat
    (goes_denied g.B.Naming.files g.B.Naming.sizes g.B.Naming.name g.B.Naming.whole (event.FillBegin c.args.handle c.args.page) c.deref_mut.result.now c.fill_begin.new.self
    c.args.seat.now c.fill_begin.new.seat c.in-Err-fill_begin.denied c.in-Err-fill_begin.ensures.denied)
    c.relieve.ensures.goes

pub returns-in-Err-fill_begin-clause-only : goal.returns-in-Err-fill_begin-clause-only
returns-in-Err-fill_begin-clause-only g c =
    only_relieved g.B.Naming.files g.B.Naming.sizes g.B.Naming.name g.B.Naming.whole c.args.handle c.args.page c.deref_mut.result.now c.fill_begin.new.self c.args.seat.now
    c.fill_begin.new.seat c.relieve.new.seat c.in-Err-fill_begin.denied c.in-Err-fill_begin.ensures.denied
    c.relieve.ensures.only

pub returns-in-Err-fill_begin-clause-denied : goal.returns-in-Err-fill_begin-clause-denied
returns-in-Err-fill_begin-clause-denied g c =
    IfErr-weaker c.relieve.result (IsStillDenied g.B.Naming.files g.B.Naming.sizes g.B.Naming.name g.B.Naming.whole c.in-Err-fill_begin.denied c.fill_begin.new.seat c.relieve.new.seat)
    (IsDenied g.B.Naming.files g.B.Naming.sizes g.B.Naming.name g.B.Naming.whole (IsHelp c.args.handle) c.args.seat.now c.relieve.new.seat)
    (λ d q. help_settled g.B.Naming.files g.B.Naming.sizes g.B.Naming.name g.B.Naming.whole c.args.handle c.args.page c.deref_mut.result.now c.fill_begin.new.self c.args.seat.now
    c.fill_begin.new.seat c.relieve.new.seat c.in-Err-fill_begin.denied d c.in-Err-fill_begin.ensures.denied
    c.relieve.ensures.goes q) c.relieve.ensures.denied

pub returns-in-Err-fill_begin-clause-lost : goal.returns-in-Err-fill_begin-clause-lost
returns-in-Err-fill_begin-clause-lost g c =
    IfErr-weaker c.relieve.result (λ d. wants_room d.refusal ≡ true → (d ≡ c.in-Err-fill_begin.denied)
    × IsCrammed d.refusal c.fill_begin.new.self.core.state
    × IsUnwritten c.fill_begin.new.self.core.state c.fill_begin.new.seat c.relieve.new.seat)
    (IsLost g.B.Naming.files g.B.Naming.sizes g.B.Naming.name c.relieve.new.seat)
    (λ d q. lost_denied g.B.Naming.whole g.B.Naming.files g.B.Naming.sizes g.B.Naming.name (event.FillBegin c.args.handle c.args.page) c.deref_mut.result.now
    c.fill_begin.new.self c.args.seat.now c.fill_begin.new.seat c.relieve.new.seat c.in-Err-fill_begin.denied d
    c.relieve.ensures.within tt c.in-Err-fill_begin.ensures.denied c.relieve.ensures.legal c.relieve.ensures.goes q) c.relieve.ensures.crammed

pub returns-in-Job-clause-only : goal.returns-in-Job-clause-only
returns-in-Job-clause-only g c =
    only_begun_on c.args.handle _ _ _ _ _ _ _ _ c.in-Ok-fill_begin.ensures.made c.fill_by.ensures.only

pub returns-clause-only : goal.returns-clause-only
returns-clause-only g c = only_fill_begin c.args.handle _ _ _ _ _ _ _ c.in-Ok-fill_begin.ensures.made

pub returns-in-Err-fill_begin-clause-stands : goal.returns-in-Err-fill_begin-clause-stands
returns-in-Err-fill_begin-clause-stands g c =
    IfErr-weaker c.relieve.result
    (IsFinalOr c.in-Err-fill_begin.denied g.B.Naming.files g.B.Naming.sizes g.B.Naming.name c.fill_begin.new.self.core.state c.relieve.new.seat)
    (IsFinal g.B.Naming.files g.B.Naming.sizes g.B.Naming.name c.relieve.new.seat)
    (λ d q. final_denied g.B.Naming.whole g.B.Naming.files g.B.Naming.sizes g.B.Naming.name (event.FillBegin c.args.handle c.args.page) c.deref_mut.result.now
    c.fill_begin.new.self c.args.seat.now c.fill_begin.new.seat c.relieve.new.seat c.in-Err-fill_begin.denied d
    c.in-Err-fill_begin.ensures.denied c.relieve.ensures.legal c.relieve.ensures.goes q) c.relieve.ensures.stands

pub returns-in-Err-fill_begin-clause-settled : goal.returns-in-Err-fill_begin-clause-settled
returns-in-Err-fill_begin-clause-settled g c =
    settles_on g.B.Naming.name c.args.seat.now c.fill_begin.new.seat c.relieve.new.seat
    (settles_denied g.B.Naming.files g.B.Naming.sizes g.B.Naming.whole g.B.Naming.name (event.FillBegin c.args.handle c.args.page) c.deref_mut.result.now c.fill_begin.new.self
    c.args.seat.now c.fill_begin.new.seat c.in-Err-fill_begin.denied (λ is. is) c.in-Err-fill_begin.ensures.denied)
    c.relieve.ensures.settled

pub returns-in-Err-fill_begin-clause-page : goal.returns-in-Err-fill_begin-clause-page
returns-in-Err-fill_begin-clause-page g c =
    other_relieved g.B.Naming.files g.B.Naming.sizes g.B.Naming.name g.B.Naming.whole c.args.handle c.args.page c.deref_mut.result.now c.fill_begin.new.self c.args.seat.now
    c.fill_begin.new.seat c.relieve.new.seat c.in-Err-fill_begin.denied c.in-Err-fill_begin.ensures.denied
    c.relieve.ensures.only

pub returns-in-Job-clause-settled : goal.returns-in-Job-clause-settled
returns-in-Job-clause-settled g c =
    fill_settles g.B.Naming.name c.args.handle c.args.page _ c.in-Job.job _ _ _ _ _ _ (ap as_fill c.in-Job.is)
    c.in-Ok-fill_begin.ensures.made c.fill_by.ensures.ends

pub fill_by-requires-clause-kind : goal.fill_by-requires-clause-kind
fill_by-requires-clause-kind g c =
    begun_kind c.args.handle c.args.page _ c.in-Job.job _ _ _ _ _ (ap as_fill c.in-Job.is) c.in-Ok-fill_begin.ensures.made
    c.in-Ok-fill_begin.ensures.job

pub returns-in-Job-clause-page : goal.returns-in-Job-clause-page
returns-in-Job-clause-page g c =
    other_filled g.B.Naming.name c.args.handle c.args.page _ _ _ _ _ _ _ _ c.in-Ok-fill_begin.ensures.made c.fill_by.ensures.ends

pub returns-clause-settled : goal.returns-clause-settled
returns-clause-settled g c =
    settles_by g.B.Naming.name _ _ _ _ _ _ _ (λ x b. fill_quiet x c.args.handle c.args.page _ c.in_default.not-Job b)
    (λ is. is) c.in-Ok-fill_begin.ensures.made

pub returns-clause-page : goal.returns-clause-page
returns-clause-page g c =
    other_begun c.args.handle c.args.page _ _ _ _ _ _ c.in-Ok-fill_begin.ensures.made

use Rattle.std.proofs.Common.{◌+◌, ◌≤◌, None, inl, length, take, refl, arith}
use Rattle.std.proofs.lemmas.List.{length-take}
use Rattle.std.proofs.lemmas.Result.{err_from_is_err_and}
use Rattle.machine.specs.declared.event.Event.TheVariants as event
use Rattle.filesvc.specs.Seen.{SoloSeen}
use Rattle.runs.proofs.moments.Reached.{reached_read}
use Rattle.filesvc.proofs.Attempts.{attempt_follows, attempt_over, follows_again, follows_refused, read_asks, read_serves, read_unsettled, service_kept}
use Rattle.filesvc.proofs.CallLengths.{read_all}
use Rattle.filesvc.proofs.CallSteps.{read_settled}
use Rattle.orderly.proofs.Calls.{read_small}
use Rattle.filesvc.proofs.Gains.{read_missed}
use Rattle.filesvc.proofs.Laws.{serves_trans}
use Rattle.filesvc.proofs.solo.Solo.try_read.Goals as goal

pub invariant_of-self : goal.invariant_of-self
invariant_of-self g c = service_kept _ _ _ _ _ (event.Read c.args.handle c.args.offset (length c.args.out.now)) _ refl c.read.ensures.made.0 c.read.ensures.made.1 c.self.invariant

pub returns-in_err-count-clause-serves : goal.returns-in_err-count-clause-serves
returns-in_err-count-clause-serves g c = rw (← c.self.view_is) (read_serves _ c.args.handle c.args.offset (length c.args.out.now) _ _ c.read.ensures.made.0 c.read.ensures.made.1 c.read.ensures.made.2 c.self.invariant.serving.sound c.self.invariant.serving.reached)

pub returns-in_err-count-clause-attempt : goal.returns-in_err-count-clause-attempt
returns-in_err-count-clause-attempt g c =
    let p = err_from_is_err_and c.from_residual.result c.from_residual.ensures.1 in
    rw (p.1, p.2) (rw (← c.self.view_is)
    (attempt_over _ c.args.handle (event.Read c.args.handle c.args.offset (length c.args.out.now)) _ _ refl
    c.in_err-count.ensures.made.0 c.in_err-count.ensures.made.1 c.in_err-count.ensures.made.2
    c.self.invariant.serving.sound c.self.invariant.serving.reached c.self.invariant.serving.orderly
    (read_settled _ _ c.args.handle c.args.offset (length c.args.out.now) _ c.in_err-count.ensures.made.0.1.0)))

pub returns-in-Bytes-clause-serves : goal.returns-in-Bytes-clause-serves
returns-in-Bytes-clause-serves g c = rw (← c.self.view_is) (read_serves _ c.args.handle c.args.offset (length c.args.out.now) _ _ c.read.ensures.made.0 c.read.ensures.made.1 c.read.ensures.made.2 c.self.invariant.serving.sound c.self.invariant.serving.reached)

pub returns-in-Bytes-clause-attempt : goal.returns-in-Bytes-clause-attempt
returns-in-Bytes-clause-attempt g c =
    let m = rw c.in-Bytes.is at c.in_ok-count.ensures.made in
    rw (← c.self.view_is)
    (attempt_over _ c.args.handle (event.Read c.args.handle c.args.offset (length c.args.out.now)) _ _ refl m.0 m.1
    m.2 c.self.invariant.serving.sound c.self.invariant.serving.reached c.self.invariant.serving.orderly refl)

pub returns-in-Bytes-clause-bytes : goal.returns-in-Bytes-clause-bytes
returns-in-Bytes-clause-bytes g c =
    let m = rw c.in-Bytes.is at c.in_ok-count.ensures.made in
    rw (← c.self.view_is) (λ tells. reached_read _ _ (c.self.invariant.serving.reached tells) c.args.handle c.args.offset (length c.args.out.now) _ m.0)

pub returns-in-Bytes-clause-within : goal.returns-in-Bytes-clause-within
returns-in-Bytes-clause-within g c =
    let m = rw c.in-Bytes.is at c.in_ok-count.ensures.made in
    let count : c.in-Bytes.count ≤ length c.args.out.now = rw c.in-Bytes.is at c.in_ok-count.ensures.count in
    let len = length-take c.in-Bytes.count c.read.new.out in
    λ small. (let w = read_small _ _ c.args.handle c.args.offset (length c.args.out.now) (take c.in-Bytes.count c.read.new.out) c.self.invariant.serving.bounded m.0.1.0 small in omega arith)

pub invariant_of-self-in-Bytes : goal.invariant_of-self-in-Bytes
invariant_of-self-in-Bytes g c = service_kept _ _ _ _ _ (event.Read c.args.handle c.args.offset (length c.args.out.now)) _ refl c.read.ensures.made.0 c.read.ensures.made.1 c.self.invariant

pub invariant_of-self-in-Miss : goal.invariant_of-self-in-Miss
invariant_of-self-in-Miss g c = service_kept _ _ _ _ _ (event.Read c.args.handle c.args.offset (length c.args.out.now)) _ refl c.read.ensures.made.0 c.read.ensures.made.1 c.self.invariant

pub returns-in_err-fill-in-Miss-clause-serves : goal.returns-in_err-fill-in-Miss-clause-serves
returns-in_err-fill-in-Miss-clause-serves g c =
    rw (← c.self.view_is) (serves_trans _ _ _ (read_serves _ c.args.handle c.args.offset (length c.args.out.now) _ _ c.read.ensures.made.0 c.read.ensures.made.1 c.read.ensures.made.2 c.self.invariant.serving.sound c.self.invariant.serving.reached) c.fill.ensures.helps.serves)

pub returns-in_err-fill-in-Miss-clause-attempt : goal.returns-in_err-fill-in-Miss-clause-attempt
returns-in_err-fill-in-Miss-clause-attempt g c =
    let p = err_from_is_err_and c.from_residual-in_err-fill-in-Miss.result c.from_residual-in_err-fill-in-Miss.ensures.1 in
    rw (p.1, p.2) (rw (← c.self.view_is)
    (attempt_follows _ c.args.handle (event.Read c.args.handle c.args.offset (length c.args.out.now)) _ _ refl
    c.in_ok-count.ensures.made.0 c.in_ok-count.ensures.made.1 c.in_ok-count.ensures.made.2
    c.self.invariant.serving.sound c.self.invariant.serving.reached c.self.invariant.serving.orderly _ _ _ refl
    (follows_refused _ _ _ _ _ _ (read_asks _ _ _ c.in-Miss.is) _ c.fill.ensures.helps c.fill.ensures.attempts
    (read_unsettled _ _ _ c.in-Miss.is)
    (inl (c.in-Miss.page, read_asks _ _ _ c.in-Miss.is, c.in_err-fill-in-Miss.ensures.refused)))
    (λ _ r is. refl)
    (λ _ is. absurd cc)))

pub returns-clause-serves : goal.returns-clause-serves
returns-clause-serves g c =
    rw (← c.self.view_is) (serves_trans _ _ _ (read_serves _ c.args.handle c.args.offset (length c.args.out.now) _ _ c.read.ensures.made.0 c.read.ensures.made.1 c.read.ensures.made.2 c.self.invariant.serving.sound c.self.invariant.serving.reached) c.fill.ensures.helps.serves)

pub returns-clause-attempt : goal.returns-clause-attempt
returns-clause-attempt g c =
    rw (← c.self.view_is)
    (attempt_follows _ c.args.handle (event.Read c.args.handle c.args.offset (length c.args.out.now)) _ _ refl
    c.in_ok-count.ensures.made.0 c.in_ok-count.ensures.made.1 c.in_ok-count.ensures.made.2
    c.self.invariant.serving.sound c.self.invariant.serving.reached c.self.invariant.serving.orderly _ _ _ refl
    (follows_again _ _ _ None _ _ (read_asks _ _ _ c.in-Miss.is) c.fill.ensures.helps c.fill.ensures.attempts (read_unsettled _ _ _ c.in-Miss.is))
    (λ _ r is. absurd cc)
    (λ _ _. c.in_ok-fill-in-Miss.ensures.gains))

pub fill-requires : goal.fill-requires
fill-requires g c =
    let s : SoloSeen = record { world = c.self.inside.world; errors = c.self.inside.recorder; attempts = 0 } in
    let t : SoloSeen = record { world = c.read.new.self; errors = c.self.inside.recorder; attempts = c.self.inside.attempts + 1 } in
    record { missed = read_missed _ s _ c.self.invariant.serving t c.in_ok-count.ensures.made.1 c.args.handle c.args.offset (length c.args.out.now) c.in_ok-count.field-0 c.read.new.out c.in-Miss.page c.in_ok-count.ensures.made.0.1.0 c.in-Miss.is }

pub returns-in-Bytes-clause-all : goal.returns-in-Bytes-clause-all
returns-in-Bytes-clause-all g c =
    let m = rw c.in-Bytes.is at c.in_ok-count.ensures.made in
    let count : c.in-Bytes.count ≤ length c.args.out.now = rw c.in-Bytes.is at c.in_ok-count.ensures.count in
    let len = length-take c.in-Bytes.count c.read.new.out in
    let all = read_all _ _ c.args.handle c.args.offset (length c.args.out.now)
    (take c.in-Bytes.count c.read.new.out) m.0.1.0 in
    rw (← c.self.view_is) (omega arith)

use Rattle.std.proofs.Common.{◌∙◌, arith, refl, subst}
use Rattle.std.specs.Prelude.{if◌then◌else◌}
use Rattle.held.proofs.Seats.{goes_on, goes_same, only_any, only_same}
use Rattle.shared.specs.Own.{IsEviction}
use Rattle.shared.specs.Workers.{LetsGo}
use Rattle.shared.proofs.Letting.{last_gone, more_gone, none_gone, shown_gone}
use Rattle.shared.proofs.Making.{full_for_on}
use Rattle.shared.proofs.Owning.{eviction_on}
use Rattle.shared.proofs.cache.SharedCache.evictor_turn.Goals as goal

pub pages-preserved : goal.pages-preserved
pages-preserved g c =
    let first = c.args.worker.now.seat in
    let seat = c.has_spare.new.seat in
    let goes = goes_on first c.pages.worker.seat seat c.pages.invariant.goes c.has_spare.ensures.goes in record {
      worker = record {
        passes = c.pages.invariant.worker.passes;
        named = c.evict_one.ensures.goes.same.1 ∙ c.has_spare.ensures.goes.same.1 ∙ c.pages.invariant.worker.named;
        seated = c.evict_one.ensures.goes.same.0 ∙ c.has_spare.ensures.goes.same.0 ∙ c.pages.invariant.worker.seated;
      };
      goes = goes_on first seat c.evict_one.new.seat goes c.evict_one.ensures.goes;
      only = eviction_on first seat c.evict_one.new.seat
          (eviction_on first c.pages.worker.seat seat c.pages.invariant.only
          (only_any (λ e. IsEviction e.event) c.pages.worker.seat seat c.has_spare.ensures.only)) c.evict_one.ensures.only;
      gone = more_gone first seat c.evict_one.new.seat c.pages.gone c.saturating_add-gone.result c.saturating_add-gone.ensures
          goes
          (last_gone first c.pages.worker.seat seat c.pages.gone c.pages.invariant.goes c.pages.invariant.gone
          (shown_gone c.pages.worker.seat seat c.has_spare.ensures.only))
          (subst (λ b. LetsGo (if b then 1 else 0) seat c.evict_one.new.seat) c.in-Ok-true.field-0-test c.in-Ok-true.ensures.gone);
      ring = c.pages.invariant.ring;
      alone = c.pages.invariant.alone;
      passed = λ less. c.enter.ensures;
    }

pub returns-then-has_spare-clause-gone : goal.returns-then-has_spare-clause-gone
returns-then-has_spare-clause-gone g c =
    last_gone c.args.worker.now.seat c.pages.worker.seat c.has_spare.new.seat c.pages.gone c.pages.invariant.goes
    c.pages.invariant.gone (shown_gone c.pages.worker.seat c.has_spare.new.seat c.has_spare.ensures.only)

pub returns-in-Ok-false-clause-gone : goal.returns-in-Ok-false-clause-gone
returns-in-Ok-false-clause-gone g c =
    let first = c.args.worker.now.seat in
    let seat = c.has_spare.new.seat in
    last_gone first seat c.evict_one.new.seat c.pages.gone
    (goes_on first c.pages.worker.seat seat c.pages.invariant.goes c.has_spare.ensures.goes)
    (last_gone first c.pages.worker.seat seat c.pages.gone c.pages.invariant.goes c.pages.invariant.gone
    (shown_gone c.pages.worker.seat seat c.has_spare.ensures.only))
    (subst (λ b. LetsGo (if b then 1 else 0) seat c.evict_one.new.seat) c.in-Ok-false.field-0-test c.in-Ok-false.ensures.gone)

pub returns-in-Ok-false-clause-enough : goal.returns-in-Ok-false-clause-enough
returns-in-Ok-false-clause-enough g c = c.in-Ok-false.ensures.none c.in-Ok-false.field-0-test

pub returns-in-Err-clause-denied : goal.returns-in-Err-clause-denied
returns-in-Err-clause-denied g c =
    let first = c.args.worker.now.seat in
    let seat = c.has_spare.new.seat in
    full_for_on g.B.Naming.files g.B.Naming.sizes g.B.Naming.name g.B.Naming.whole IsEviction first seat c.evict_one.new.seat c.in-Err.denied
    (goes_on first c.pages.worker.seat seat c.pages.invariant.goes c.has_spare.ensures.goes) c.in-Err.ensures.denied

pub pages-init : goal.pages-init
pages-init g c =
    let seat = c.args.worker.now.seat in record {
      worker = c.requires.worker;
      goes = goes_same seat seat refl;
      only = only_same (λ e. IsEviction e.event) seat seat refl;
      gone = none_gone seat seat refl;
      ring = (refl, refl);
      alone = refl;
      passed = λ less. absurd (omega (arith, less));
    }

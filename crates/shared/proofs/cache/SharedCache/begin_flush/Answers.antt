use Rattle.std.proofs.Common.{◌≡◌, ◌∙◌, rules}
use Rattle.shared.proofs.Finding.{finds_shown}
use Rattle.shared.proofs.cache.SharedCache.begin_flush.Goals as goal

-- no file had a page to write in the state that the seat was shown
pub returns-in-Ok-None-clause-idle : goal.returns-in-Ok-None-clause-idle
returns-in-Ok-None-clause-idle g c =
    let none = (rw c.in-Ok-None.field-0-is at c.in-Ok-None.ensures.nothing) in
    let same : c.deref_mut-in-Ok-None.result.now ≡ c.flush_first.new.self =
    search (rules, c.deref_mut-in-Ok-None.ensures.value) in
    finds_shown g.B.Naming.files g.B.Naming.sizes g.B.Naming.name c.args.seat.now c.flush_first.new.seat c.show.new.seat
    c.deref_mut-in-Ok-None.result.now _ (same ∙ none.0) none.1 c.show.ensures.seen c.show.ensures.only
    c.show.ensures.legal none.2

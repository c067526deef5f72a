use Rattle.std.proofs.Common.{rules, ◌≡◌, ◌∙◌, ℕ, pos, Some, Ok, sym, subst, ap}
use Rattle.std.specs.Prelude.{IsOk, OnOk}
use Rattle.filesvc.specs.Service.{IsOnDevice, Tells}
use Rattle.desk.specs.Seen.{DeskSeen, handle_at}
use Rattle.pcache_c.proofs.Clauses.{some_and}
use Rattle.pcache_c.proofs.files.pcache_fsync.Goals as goal

pub returns-clause-synced : goal.returns-clause-synced
returns-clause-synced c = λ old h n is was tells counted.
    let same : c.behind-cache.inside.desk ≡ old = (let a = c.in-Some.ensures.taken in let b = c.behind-cache.view_is in let d = c.deref_mut.ensures.value in cc) in
    let plain : c.answer-result.result ≡ pos n = search rules in
    let done = c.answer-result.ensures.counted n plain in
    let well = c.nothing.ensures.well in
    let synced = c.fsync-done.ensures.synced h (subst (λ (d : DeskSeen). handle_at d c.args.handle ≡ Some h) (sym same) was) (subst (λ (d : DeskSeen). Tells d.service) (sym same) tells) in
    search rules

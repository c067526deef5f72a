use Rattle.std.proofs.Common.{rules, ◌≡◌, ◌∙◌, ℕ, pos, Some, Ok, sym, subst, ap}
use Rattle.std.specs.Prelude.{IfOk, Result}
use Rattle.machine.specs.State.{file_at}
use Rattle.desk.specs.Seen.{DeskSeen, handle_at}
use Rattle.pcache_c.proofs.files.pcache_size.Goals as goal

pub returns-clause-size : goal.returns-clause-size
returns-clause-size c = λ old h n is was counted.
    let same : c.behind-cache.inside.desk ≡ old = (let a = c.in-Some.ensures.taken in let b = c.behind-cache.view_is in let d = c.deref_mut.ensures.value in cc) in
    let plain : c.answer-result.result ≡ pos n = search rules in
    let done = c.answer-result.ensures.counted n plain in
    let size = c.size-done.ensures.size h (subst (λ (d : DeskSeen). handle_at d c.args.handle ≡ Some h) (sym same) was) in
    subst (λ r. IfOk r (λ m. m ≡ (file_at c.behind-cache.inside.desk.service.world.core h.file).size)) done size ∙ ap (λ (d : DeskSeen). (file_at d.service.world.core h.file).size) same

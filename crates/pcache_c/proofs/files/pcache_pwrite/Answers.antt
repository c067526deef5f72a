use Rattle.std.proofs.Common.{rules, ◌≡◌, ◌∙◌, ℕ, pos, Some, Ok, sym, subst, ap}
use Rattle.filesvc.specs.Service.{Tells}
use Rattle.desk.specs.Seen.{DeskSeen, handle_at}
use Rattle.pcache_c.proofs.files.pcache_pwrite.Goals as goal
use Rattle.pcache_c.proofs.files.pcache_pwrite.Goals.{then-must_wait, else-must_wait}

pub returns-clause-file : goal.returns-clause-file
returns-clause-file c = λ old h n is was tells counted. elim c.if-must_wait.branch [
  | then-must_wait w ↦ (let wrong = w.result-is in search rules)
  | else-must_wait w ↦
      let same : w.behind-cache.inside.desk ≡ old = (let a = c.in-Some.ensures.taken in let b = w.behind-cache.view_is in let d = w.deref_mut.ensures.value in cc) in
      let its = w.result-is in
      let cached = w.cache-is in
      let plain : w.answer-result.result ≡ pos n = search rules in
      let done = w.answer-result.ensures.counted n plain in
      let kept = w.answer-result.ensures.same in
      let file = w.pwrite-done.ensures.file h (subst (λ (d : DeskSeen). handle_at d c.args.handle ≡ Some h) (sym same) was) (subst (λ (d : DeskSeen). Tells d.service) (sym same) tells) in
      search rules
]

use Rattle.std.proofs.Common.{ap, ◌∙◌, ◌≡◌, ℕ, ◌<◌, cond, List}
use Rattle.pc_types.specs.Files.{cut}
use Rattle.trail.specs.Sparse.{byte_at}
use Rattle.trail.proofs.SparseLaws.{is_cut, is_below}
use Rattle.trail.proofs.sparse.PlainFile.cut.Goals.{then-size-self, else-size-self}
use Rattle.trail.proofs.sparse.PlainFile.cut.Goals as goal

pub returns : goal.returns
returns c =
    let old = byte_at c.self.inside.chunks in
    let new = byte_at c.if-size-self.self-inside.chunks in
    let same : (k : ℕ) → k < c.args.size → new k ≡ old k = λ k l. elim c.if-size-self.branch [
      | then-size-self w ↦ ap (λ x. byte_at x.chunks k) w.self-inside-is ∙ w.forget.ensures k
          ∙ ap (λ b. cond b (old k) 0) (is_below k c.args.size l)
      | else-size-self w ↦ ap (λ x. byte_at x.chunks k) w.self-inside-is
    ] in
    is_cut old c.self.inside.size c.self.invariant new c.args.size same
    ∙ ap (λ (f : List ℕ). cut f c.args.size) c.self.view_is

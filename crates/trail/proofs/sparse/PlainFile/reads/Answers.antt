use Rattle.std.proofs.Common.{◌≡◌, ap, sym, ◌∙◌, List, ℕ, min, length, ◌-◌, arith}
use Rattle.std.proofs.lemmas.Bool.Decides.{nat_tests}
use Rattle.pc_types.specs.Files.{pread}
use Rattle.trail.specs.Sparse.{byte_at}
use Rattle.trail.proofs.SparseLaws.{is_read, read_len, read_bytes}
use Rattle.trail.proofs.sparse.PlainFile.reads.Goals as goal

pub returns-then-bytes-len : goal.returns-then-bytes-len
returns-then-bytes-len c =
    let g = byte_at c.self.inside.chunks in
    let n = c.self.inside.size in
    let past = c.self.invariant in
    let o = c.args.offset in
    let b = c.args.bytes.now in
    let long : length b ≡ min c.args.count (n - o) = c.if-bytes-len.true ∙ c.min-len.ensures
    ∙ ap (min c.args.count) c.saturating_sub.ensures in (
      λ t. is_read g n past o c.args.count b long (c.holds.ensures.0 t)
          ∙ ap (λ (f : List ℕ). pread f o c.args.count) c.self.view_is,
      λ is. c.holds.ensures.1 (read_bytes g n past o c.args.count b
          (is ∙ ap (λ (f : List ℕ). pread f o c.args.count) (sym c.self.view_is))),
    )

pub returns-else-bytes-len : goal.returns-else-bytes-len
returns-else-bytes-len c =
    let g = byte_at c.self.inside.chunks in
    let n = c.self.inside.size in
    let o = c.args.offset in
    let b = c.args.bytes.now in (
      λ t. absurd (let f = c.if-bytes-len.false in grind (arith, nat_tests)),
      λ is.
          absurd
          (c.if-bytes-len.false
          (read_len g n c.self.invariant o c.args.count b
          (is ∙ ap (λ (f : List ℕ). pread f o c.args.count) (sym c.self.view_is))
          ∙ ap (min c.args.count) (sym c.saturating_sub.ensures) ∙ sym c.min-len.ensures)),
    )

use Rattle.std.proofs.Common.{rules, ◌≡◌, ap, ◌∙◌, List, ℕ, ◌<◌, length}
use Rattle.pc_types.specs.Files.{pwrite}
use Rattle.trail.specs.Sparse.{byte_at, byte_put, bytes_from}
use Rattle.trail.proofs.SparseLaws.{written}
use Rattle.trail.proofs.sparse.PlainFile.write.Goals as goal

pub returns-clause-written : goal.returns-clause-written
returns-clause-written c =
    let b = c.args.bytes.now in
    let o = c.args.offset in
    let f = byte_at c.put.new.chunks in
    let some : 0 < length b = search rules in
    let put : (i : ℕ) → f i ≡ byte_put c.self.inside.chunks o b i = search rules in
    ap (bytes_from f 0) c.max-self-inside.ensures
    ∙ written (byte_at c.self.inside.chunks) c.self.inside.size c.self.invariant f o b some put
    ∙ ap (λ (x : List ℕ). pwrite x o b) c.self.view_is

use Rattle.std.proofs.Common.{ap, sym, ◌∙◌, length}
use Rattle.trail.specs.Sparse.{byte_at}
use Rattle.trail.proofs.SparseLaws.{length-bytes_from}
use Rattle.trail.proofs.sparse.PlainFile.len.Goals as goal

pub returns : goal.returns
returns c = sym (length-bytes_from (byte_at c.self.inside.chunks) 0 c.self.inside.size) ∙ ap length c.self.view_is

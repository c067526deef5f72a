use Rattle.std.proofs.Common.{◌≡◌, true, false, true≢false, sym}
use Rattle.held.proofs.Counting.{few_files}
use Rattle.held.proofs.Replied.{opened_within}
use Rattle.held.proofs.state.Held.open.Goals as goal

pub unreachable-requires : goal.unreachable-requires
unreachable-requires g c =
    let small = opened_within c.args.self.now.core.state c.args.file c.in_ok-handle.handle c.open_bare.new.self.core.state
    c.in_ok-handle.ensures.made.step
    (few_files g.B.Naming.files c.args.self.now.log.history c.args.self.now.core.state c.core.ensures.legal) in
    let no : false ≡ true = c.in_default.ensures.made.1 small in
    true≢false (sym no)

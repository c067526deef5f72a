use Rattle.std.proofs.Common.{sym, ap, ◌∙◌, ◌≡◌}
use Rattle.std.proofs.lemmas.Bool.{true≢false}
use Rattle.std.proofs.lemmas.Result.{IfOk-at_ok}
use Rattle.std.specs.FinSet as set
use Rattle.idalloc.specs.Ids.{Ids}
use Rattle.blockmap.proofs.BlockLemmas.{ok_since}
use Rattle.blockmap.proofs.block_map.give_back.Goals as goal

pub unwrap-requires : goal.unwrap-requires
unwrap-requires c = ok_since c.free.result c.free.ensures.only (λ e. true≢false (sym c.requires ∙ c.free.ensures.unused.0 e))

pub returns : goal.returns
returns c =
    let now = IfOk-at_ok (λ _. c.free.new.self ≡ record c.args.used.now { used = set.remove c.args.used.now.used c.args.block }) c.unwrap.ensures c.free.ensures.freed in
    ap (λ (i : Ids). i.used) now

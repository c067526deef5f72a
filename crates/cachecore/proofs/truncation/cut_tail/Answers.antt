use Rattle.std.proofs.Common.{sym, ◌∙◌}
use Rattle.std.specs.Prelude.{is_some}
use Rattle.std.specs.FinMap as map
use Rattle.cachecore.proofs.CutPages.{cut_absent, cut_bare, mapped_not}
use Rattle.cachecore.proofs.truncation.cut_tail.Goals as goal
use Rattle.cachecore.proofs.truncation.cut_tail.Goals.{else-is_cached-via-then-is_cached+else-is_some}
use Rattle.cachecore.proofs.truncation.cut_tail.Goals.{else-is_cached-via-else-is_cached}

pub returns-else-is_cached : goal.returns-else-is_cached
returns-else-is_cached c =
    let has = is_some (map.get c.args.blocks.now.spots (c.args.file, c.args.page)) in
    elim c.else-is_cached.branch [
      | else-is_cached-via-then-is_cached+else-is_some w ↦ cut_bare c.args.pages.now c.args.file c.args.page c.args.from
          has (mapped_not _ w.map.result w.map.ensures (sym w.is_some.ensures ∙ w.if-is_some.false))
      | else-is_cached-via-else-is_cached w ↦ cut_absent c.args.pages.now c.args.file c.args.page c.args.from has
          (sym c.is_cached.ensures ∙ w.if-is_cached.false)
    ]

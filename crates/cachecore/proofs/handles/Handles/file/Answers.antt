use Rattle.std.proofs.Common.{sym, ap, ◌∙◌, arith, ℕ, None}
use Rattle.std.specs.FinMap as map
use Rattle.std.specs.Ordering.{nat_cmp}
use Rattle.std.proofs.lemmas.List.{get_or_read}
use Rattle.maps.proofs.Vectors.{get-by_place}
use Rattle.cachecore.proofs.HandleLemmas.{past_end}
use Rattle.cachecore.proofs.handles.Handles.file.Goals as goal

pub returns-then-handle-lt-MAX_HANDLES : goal.returns-then-handle-lt-MAX_HANDLES
returns-then-handle-lt-MAX_HANDLES c =
    let files = c.self.inside.files.items in
    get_or_read files c.args.handle c.index.result.now
    (omega (arith, c.self.invariant.whole, c.if-handle-lt-MAX_HANDLES.true)) c.index.ensures None
    ∙ sym (get-by_place files c.args.handle)
    ∙ ap (λ (m : map.FinMap nat_cmp ℕ). map.get m c.args.handle) c.self.view_is

pub returns-else-handle-lt-MAX_HANDLES : goal.returns-else-handle-lt-MAX_HANDLES
returns-else-handle-lt-MAX_HANDLES c =
    sym (past_end c.self.inside.ids.used c.self.inside.files.items c.self.inside.count c.self.invariant c.args.handle
    c.if-handle-lt-MAX_HANDLES.false)
    ∙ ap (λ (m : map.FinMap nat_cmp ℕ). map.get m c.args.handle) c.self.view_is

use Rattle.std.proofs.Common.{sym, ap, ◌∙◌, w32}
use Rattle.std.proofs.Math.Facts.{Fits-of_lt}
use Rattle.std.specs.FinMap as map
use Rattle.idalloc.specs.Bitmaps.{Bitmaps}
use Rattle.idalloc.proofs.MarkLemmas.{bitmap_fits, loaded}
use Rattle.idalloc.proofs.bitmaps.Bitmaps.get.Goals as goal

pub overflow_cast-result : goal.overflow_cast-result
overflow_cast-result c =
    let m = c.self.inside.array.ranges in
    Fits-of_lt {w = w32} (bitmap_fits m c.args.index c.in-Some.bits c.self.invariant (sym (c.in-Some.ensures ∙ loaded m c.args.index c.self.invariant)))

pub returns-in-Some : goal.returns-in-Some
returns-in-Some c = c.in-Some.ensures ∙ loaded c.self.inside.array.ranges c.args.index c.self.invariant ∙ ap (λ (b : Bitmaps). map.get b c.args.index) c.self.view_is

pub returns-in-None : goal.returns-in-None
returns-in-None c = c.in-None.ensures ∙ loaded c.self.inside.array.ranges c.args.index c.self.invariant ∙ ap (λ (b : Bitmaps). map.get b c.args.index) c.self.view_is

use Rattle.std.proofs.Common.{subst, w32}
use Rattle.std.proofs.Math.Facts.{Fits-of_lt}
use Rattle.idalloc.specs.Bitmaps.{Bitmaps, IsLowestOpen, NoneOpen}
use Rattle.idalloc.proofs.MarkLemmas.{bitmap_fits, search_found, search_none}
use Rattle.idalloc.proofs.bitmaps.Bitmaps.lowest_open.Goals as goal

pub overflow_cast-result : goal.overflow_cast-result
overflow_cast-result c =
    let m = c.self.inside.array.ranges in
    let f = c.in-Some.found in
    Fits-of_lt {w = w32} (bitmap_fits m f.first f.value c.self.invariant (search_found m c.args.from c.args.to f c.self.invariant c.in-Some.ensures).there)

pub returns-in-Some : goal.returns-in-Some
returns-in-Some c = subst (λ (b : Bitmaps). IsLowestOpen b c.args.from c.args.to c.in-Some.found.first c.in-Some.found.value) c.self.view_is (search_found c.self.inside.array.ranges c.args.from c.args.to c.in-Some.found c.self.invariant c.in-Some.ensures)

pub returns-in-None : goal.returns-in-None
returns-in-None c = subst (λ (b : Bitmaps). NoneOpen b c.args.from c.args.to) c.self.view_is (search_none c.self.inside.array.ranges c.args.from c.args.to c.self.invariant c.in-None.ensures)

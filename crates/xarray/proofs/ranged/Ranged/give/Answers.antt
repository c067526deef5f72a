use Rattle.xarray.specs.declared.entry.Mark.TheVariants.{M0, M1}
use Rattle.xarray.specs.View.{ranges_of}
use Rattle.xarray.proofs.CallLemmas.{first_remarked}
use Rattle.xarray.proofs.RangeLemmas.{given-by}
use Rattle.xarray.proofs.ranged.Ranged.give.Goals as goal

pub remark-requires-2-clause-there : goal.remark-requires-2-clause-there
remark-requires-2-clause-there c =
    let slot = c.requires.there in
    first_remarked (ranges_of c.args.self.now) (ranges_of c.remark.new.self) c.args.first c.args.level M0 c.args.marks.m0 slot (c.remark.ensures.marks slot.range slot.there)

pub remark-requires-3-clause-there : goal.remark-requires-3-clause-there
remark-requires-3-clause-there c =
    let slot = c.requires.there in
    let one = first_remarked (ranges_of c.args.self.now) (ranges_of c.remark.new.self) c.args.first c.args.level M0 c.args.marks.m0 slot (c.remark.ensures.marks slot.range slot.there) in
    first_remarked (ranges_of c.remark.new.self) (ranges_of c.remark-2.new.self) c.args.first c.args.level M1 c.args.marks.m1 one (c.remark-2.ensures.marks one.range one.there)

pub returns : goal.returns
returns c = λ r there.
    given-by (ranges_of c.args.self.now) (ranges_of c.remark.new.self) (ranges_of c.remark-2.new.self) (ranges_of c.remark-3.new.self) c.args.first c.args.marks r there c.remark.ensures.marks c.remark-2.ensures.marks c.remark-3.ensures.marks

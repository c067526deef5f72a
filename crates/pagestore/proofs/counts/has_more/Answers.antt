use Rattle.std.proofs.Common.{◌<◌, true, false, arith}
use Rattle.pagestore.proofs.CountLemmas.{counted_no, counted_yes, one_more, rest_fits}
use Rattle.pagestore.proofs.counts.has_more.Goals as goal
use Rattle.pagestore.proofs.counts.has_more.Goals.{then-test+else-spare-eq0, else-test}

pub returns-then-spare-eq0 : goal.returns-then-spare-eq0
returns-then-spare-eq0 g c passes tells =
    let page = c.loop-spare.page in
    let in_end : page < c.args.end = omega (arith, c.loop-spare-test.true) in
    let counted = c.loop-spare.invariant.counted passes tells in
    one_more passes c.args.first page c.args.end c.args.room in_end (tells page true c.loop-spare.invariant.begun in_end c.if-test.ensures)
    (omega (arith, counted, c.if-spare-eq0.true))

pub loop-spare-preserved : goal.loop-spare-preserved
loop-spare-preserved g c =
    let page = c.loop-spare.page in
    let in_end : page < c.args.end = omega (arith, c.loop-spare-test.true) in
    record {
      begun = omega (arith, c.loop-spare.invariant.begun);
      within = omega (arith, in_end);
      counted = λ passes tells.
          let counted = c.loop-spare.invariant.counted passes tells in
          elim c.if-test.branch [
            | then-test+else-spare-eq0 w ↦
                let here = counted_yes passes page c.args.end in_end (tells page true c.loop-spare.invariant.begun in_end w.if-test.ensures) in
                omega (arith, counted, here, w.spare-is, w.if-spare-eq0.false)
            | else-test w ↦
                let here = counted_no passes page c.args.end in_end (tells page false c.loop-spare.invariant.begun in_end w.if-test.ensures) in
                omega (arith, counted, here, w.spare-is)
          ];
    }

pub returns : goal.returns
returns g c passes tells =
    let page = c.loop-spare.page in
    rest_fits passes c.args.first page c.args.end c.args.room c.loop-spare.spare (omega (arith, c.loop-spare-test.false))
    (c.loop-spare.invariant.counted passes tells)

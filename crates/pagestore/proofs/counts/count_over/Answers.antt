use Rattle.std.proofs.Common.{◌<◌, inl, inr, true, false, arith}
use Rattle.pagestore.proofs.CountLemmas.{counted_no, counted_yes, over_counted}
use Rattle.pagestore.proofs.counts.count_over.Goals as goal
use Rattle.pagestore.proofs.counts.count_over.Goals.{then-test+then-spare-eq0, then-test+else-spare-eq0, else-test}

pub loop-spare-preserved : goal.loop-spare-preserved
loop-spare-preserved g c =
    let page = c.loop-spare.page in
    let in_end : page < c.args.end = omega (arith, c.loop-spare-test.true) in
    record {
      begun = omega (arith, c.loop-spare.invariant.begun);
      within = omega (arith, in_end);
      few = elim c.if-test.branch [
        | then-test+then-spare-eq0 w ↦ omega (arith, c.loop-spare.invariant.few, w.over-is)
        | then-test+else-spare-eq0 w ↦ omega (arith, c.loop-spare.invariant.few, w.over-is)
        | else-test w ↦ omega (arith, c.loop-spare.invariant.few, w.over-is)
      ];
      one = elim c.if-test.branch [
        | then-test+then-spare-eq0 w ↦ inr (omega (arith, w.spare-is, w.if-spare-eq0.true))
        | then-test+else-spare-eq0 w ↦ inl (elim c.loop-spare.invariant.one [
          | inl none ↦ omega (arith, none, w.over-is)
          | inr full ↦ omega (arith, full, w.if-spare-eq0.false)
        ])
        | else-test w ↦ elim c.loop-spare.invariant.one [
          | inl none ↦ inl (omega (arith, none, w.over-is))
          | inr full ↦ inr (omega (arith, full, w.spare-is))
        ]
      ];
      counted = λ passes tells.
          let counted = c.loop-spare.invariant.counted passes tells in
          elim c.if-test.branch [
            | then-test+then-spare-eq0 w ↦
                let here = counted_yes passes page c.args.end in_end (tells page true c.loop-spare.invariant.begun in_end w.if-test.ensures) in
                omega (arith, counted, here, w.spare-is, w.over-is)
            | then-test+else-spare-eq0 w ↦
                let here = counted_yes passes page c.args.end in_end (tells page true c.loop-spare.invariant.begun in_end w.if-test.ensures) in
                omega (arith, counted, here, w.spare-is, w.over-is, w.if-spare-eq0.false)
            | else-test w ↦
                let here = counted_no passes page c.args.end in_end (tells page false c.loop-spare.invariant.begun in_end w.if-test.ensures) in
                omega (arith, counted, here, w.spare-is, w.over-is)
          ];
    }

pub returns : goal.returns
returns g c passes tells =
    over_counted passes c.args.first c.loop-spare.page c.args.end c.args.room c.loop-spare.over c.loop-spare.spare
    (omega (arith, c.loop-spare-test.false)) c.loop-spare.invariant.one (c.loop-spare.invariant.counted passes tells)

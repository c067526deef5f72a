use Rattle.std.proofs.Common.{arith}
use Rattle.std.proofs.lemmas.List.{length-drop, take_rest}
use Rattle.textline.proofs.PrintLemmas.{part_and_more}
use Rattle.textline.proofs.print.write_text.Goals as goal

pub writes-preserved : goal.writes-preserved
writes-preserved g c =
    let rest = take_rest c.args.text.now c.writes.done in
    let within = rw rest at c.in_ok-done.ensures.within in
    let more = rw rest at c.in_ok-done.ensures.written in
    record {
      within = omega (arith, c.writes.invariant.within, within, length-drop c.writes.done c.args.text.now);
      written = part_and_more _ _ _ c.writes.done c.in_ok-done.field-0 c.args.text.now c.writes.invariant.written more;
    }

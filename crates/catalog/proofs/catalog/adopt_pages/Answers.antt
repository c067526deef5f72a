use Rattle.std.proofs.Common.{◌<◌, arith, inl, inr}
use Rattle.std.proofs.lemmas.Result.{err_from_is_err_and}
use Rattle.machine.specs.State.{page_count}
use Rattle.catalog.proofs.Adoptions.{adopts_more, taken_before}
use Rattle.catalog.proofs.catalog.adopt_pages.Goals as goal

pub returns-in_err-adopt_page-clause-why : goal.returns-in_err-adopt_page-clause-why
returns-in_err-adopt_page-clause-why c =
    let n = page_count c.args.page c.args.extent.bytes in
    let low : c.loop-number.number < n = omega arith in
    let p = err_from_is_err_and c.from_residual.result c.from_residual.ensures.1 in
    rw (p.1, p.2)
    (elim c.in_err-adopt_page.ensures.why [
      | inl memory ↦ inl memory
      | inr twice ↦ inr (twice.0, taken_before c.args.page c.args.blocks.now c.loop-number.blocks c.args.file.0 c.args.extent c.loop-number.number c.loop-number.invariant c.requires.last n low c.requires.on_device c.requires.not_held twice.1)
    ])

pub loop-number-preserved : goal.loop-number-preserved
loop-number-preserved c =
    adopts_more c.args.page c.args.blocks.now c.loop-number.blocks c.args.file.0 c.args.extent c.loop-number.number c.loop-number.invariant c.requires.last
    c.adopt_page.new.blocks c.in_ok-adopt_page.ensures.given c.in_ok-adopt_page.ensures.free

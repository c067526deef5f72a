use Rattle.std.proofs.Common.{ap, sym, ◌∙◌, arith}
use Rattle.std.specs.Prelude.{option_map}
use Rattle.std.specs.FinMap as finmap
use Rattle.mapping.specs.Pages.{FilePages, frame_of}
use Rattle.mapping.proofs.ArrayLemmas.{loads_frame, loads_none, loads_some}
use Rattle.mapping.proofs.mapping.Mapping.frame.Goals as goal

pub returns-in_err-frame : goal.returns-in_err-frame
returns-in_err-frame c =
    c.from_residual.ensures ∙ ap (option_map frame_of) (sym (loads_none c.self.inside.pages.ranges c.self.invariant.each c.args.index.0 c.in_err-frame.ensures))
    ∙ ap (λ (f : FilePages). option_map frame_of (finmap.get f.pages c.args.index.0)) c.self.view_is

pub overflow_cast-frame : goal.overflow_cast-frame
overflow_cast-frame c = omega (arith, loads_frame c.self.inside.pages.ranges c.self.invariant.each c.args.index.0 c.in_ok-frame.field-0 (sym c.in_ok-frame.ensures))

pub returns : goal.returns
returns c =
    loads_some c.self.inside.pages.ranges c.self.invariant.each c.args.index.0 c.in_ok-frame.field-0 c.in_ok-frame.ensures
    ∙ ap (λ (f : FilePages). option_map frame_of (finmap.get f.pages c.args.index.0)) c.self.view_is

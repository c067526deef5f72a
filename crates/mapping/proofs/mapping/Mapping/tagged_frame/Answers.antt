use Rattle.std.proofs.Common.{◌≡◌, ℕ, Bool, true, false, refl, ap, sym, ◌∙◌, arith}
use Rattle.std.specs.Prelude.{Option, Some, None, option_map}
use Rattle.std.specs.FinMap as finmap
use Rattle.std.proofs.lemmas.Option.{none-some}
use Rattle.xarray.specs.MarkedArray.{is_marked, entry_at}
use Rattle.mapping.specs.Pages.{FilePages, frame_of, has_at}
use Rattle.mapping.proofs.ArrayLemmas.{is_marked-pages_of, loads_frame, loads_none, loads_some}
use Rattle.mapping.proofs.mapping.Mapping.tagged_frame.Goals as goal

-- what was loaded is the entry's value, since nothing is loaded where it has no mark
loaded : (b : Bool) (v : ℕ) (o : Option ℕ) → (b ≡ true → Some v ≡ o) → (b ≡ false → Some v ≡ None) → Some v ≡ o
loaded true v o marked unmarked = marked refl
loaded false v o marked unmarked = absurd (none-some _ (sym (unmarked refl)))

pub returns-in_err-frame-clause-tagged : goal.returns-in_err-frame-clause-tagged
returns-in_err-frame-clause-tagged c h =
    let tag : is_marked c.mark_of.result (entry_at c.self.inside.pages.ranges c.args.index.0) ≡ has_at c.args.self.now.pages c.args.index.0 c.args.tag =
    ap (λ mark. is_marked mark (entry_at c.self.inside.pages.ranges c.args.index.0)) c.mark_of.ensures
    ∙ is_marked-pages_of c.self.inside.pages.ranges c.self.invariant.each c.args.index.0 c.args.tag ∙ ap (λ (f : FilePages). has_at f.pages c.args.index.0 c.args.tag) c.self.view_is in
    c.from_residual.ensures ∙ ap (option_map frame_of) (sym (loads_none c.self.inside.pages.ranges c.self.invariant.each c.args.index.0 (c.in_err-frame.ensures.marked (tag ∙ h))))
    ∙ ap (λ (f : FilePages). option_map frame_of (finmap.get f.pages c.args.index.0)) c.self.view_is

pub overflow_cast-frame : goal.overflow_cast-frame
overflow_cast-frame c =
    omega (arith, loads_frame c.self.inside.pages.ranges c.self.invariant.each c.args.index.0 c.in_ok-frame.field-0 (sym (loaded _ _ _ c.in_ok-frame.ensures.marked c.in_ok-frame.ensures.unmarked)))

pub returns-clause-tagged : goal.returns-clause-tagged
returns-clause-tagged c h =
    loads_some c.self.inside.pages.ranges c.self.invariant.each c.args.index.0 c.in_ok-frame.field-0 (loaded _ _ _ c.in_ok-frame.ensures.marked c.in_ok-frame.ensures.unmarked)
    ∙ ap (λ (f : FilePages). option_map frame_of (finmap.get f.pages c.args.index.0)) c.self.view_is

pub returns-clause-untagged : goal.returns-clause-untagged
returns-clause-untagged c h =
    let tag : is_marked c.mark_of.result (entry_at c.self.inside.pages.ranges c.args.index.0) ≡ has_at c.args.self.now.pages c.args.index.0 c.args.tag =
    ap (λ mark. is_marked mark (entry_at c.self.inside.pages.ranges c.args.index.0)) c.mark_of.ensures
    ∙ is_marked-pages_of c.self.inside.pages.ranges c.self.invariant.each c.args.index.0 c.args.tag ∙ ap (λ (f : FilePages). has_at f.pages c.args.index.0 c.args.tag) c.self.view_is in
    absurd (none-some _ (sym (c.in_ok-frame.ensures.unmarked (tag ∙ h))))

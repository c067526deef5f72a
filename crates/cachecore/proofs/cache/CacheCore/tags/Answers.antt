use Rattle.std.proofs.Common.{arith, ap, sym, ◌∙◌, length}
use Rattle.std.specs.Prelude.{is_some, option_map}
use Rattle.machine.specs.State.{State, Page, page_at, is_cached}
use Rattle.pagestore.specs.Store.{stored_page}
use Rattle.pagestore.proofs.StoreLaws.{some_mapped}
use Rattle.cachecore.proofs.CoreViews.{state_is}
use Rattle.cachecore.proofs.cache.CacheCore.tags.Goals as goal

pub returns-in-Some : goal.returns-in-Some
returns-in-Some c =
    let count = ap (λ (s : State). length s.files) (state_is c.self.view_is) in (
      omega (arith, count, c.file_count.ensures),
      sym (c.in-Some.ensures ∙ ap (λ (s : State). option_map (λ (page : Page). page.tags)
          (page_at s c.args.file.0 c.args.page.0)) (state_is c.self.view_is)),
    )

pub returns-in-None : goal.returns-in-None
returns-in-None c =
    let count = ap (λ (s : State). length s.files) (state_is c.self.view_is) in
    (omega (arith, count, c.file_count.ensures), sym c.is_filling.ensures ∙ c.if-is_filling.true)

pub returns-in-None-2 : goal.returns-in-None-2
returns-in-None-2 c =
    let count = ap (λ (s : State). length s.files) (state_is c.self.view_is) in (
      omega (arith, count, c.file_count.ensures),
      sym c.is_filling.ensures ∙ c.if-is_filling.false,
      ap (λ (s : State). is_cached s c.args.file.0 c.args.page.0) (sym (state_is c.self.view_is))
          ∙ sym (some_mapped (λ (page : Page). page.tags) (stored_page c.self.inside.pages c.args.file.0 c.args.page.0))
          ∙ ap is_some (sym c.in-None.ensures),
    )

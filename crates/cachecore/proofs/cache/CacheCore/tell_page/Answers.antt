use Rattle.std.proofs.Common.{◌≡◌, ◌-◌, ◌*◌, ◌∙◌, ap, arith, min, refl}
use Rattle.machine.specs.State.{State, file_at}
use Rattle.cachecore.proofs.CoreViews.{state_is}
use Rattle.cachecore.proofs.Standings.{page_told}
use Rattle.cachecore.proofs.cache.CacheCore.tell_page.Goals as goal

pub returns-in-Ok-clause-told : goal.returns-in-Ok-clause-told
returns-in-Ok-clause-told c =
    let s = c.args.self.now.state in
    let f = c.args.file.0 in
    let p = c.args.page.0 in
    let page : c.page-page_size.result ≡ s.sizes.page =
    c.page-page_size.ensures.value ∙ ap (λ (t : State). t.sizes.page) (state_is c.self.view_is) in
    let size : c.size.result ≡ (file_at s f).size =
    c.size.ensures ∙ ap (λ (t : State). (file_at t f).size) (state_is c.self.view_is) in
    let bytes : c.min-bytes.result ≡ min c.args.placed.valid (min ((file_at s f).size - p * s.sizes.page) s.sizes.page) =
    rw (c.min-bytes.ensures, c.from.ensures, c.min-left.ensures, c.saturating_sub.ensures, size, page) refl in
    page_told s f p c.args.placed c.args.catalog.now c.add_extent.new.self c.min-bytes.result c.requires.spot bytes
    (omega (arith, c.if-bytes-eq0.false)) c.requires.sized c.in-Ok.ensures.added

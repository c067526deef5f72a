use Rattle.std.proofs.Common.{arith, ap, ◌∙◌, ◌≡◌, ◌+◌, ◌-◌}
use Rattle.std.specs.Prelude.{◌&&◌, is_some, nat_lt}
use Rattle.pagestore.specs.Store.{stored_page}
use Rattle.pagestore.proofs.pages.Pages.which_cached.Goals as goal

pub returns : goal.returns
returns c =
    let first = c.args.first in
    let end : c.loop-page.page - first ≡ c.args.end - first =
    omega (arith, c.loop-page.invariant.low, c.loop-page.invariant.high, c.loop-page-test.false) in
    record {
      long = omega (arith, c.requires.few, c.loop-page.invariant.size);
      each = λ k. c.loop-page.invariant.each k
          ∙ ap (λ n. nat_lt k n && is_some (stored_page c.args.self.now c.args.file (first + k))) end;
    }

-- An eviction keeps what holds always.
use Rattle.std.proofs.Common.{◌≡◌, ℕ, false, refl, arith, Option, None}
use Rattle.machine.specs.State.{Page}
use Rattle.runs.proofs.views.View.{View, Good, PageIs, Goes, no_gone, quietly_evolves, request_stays, put2, put2_tells}
use Rattle.runs.proofs.views.View.{dirty, writeback, towrite, held, good_after, still_flying, one_page, one_page_in}

module _ (v : View) (ok : Good v) (f p : ℕ) (clean : dirty (v.page f p) ≡ false)
    (idle : writeback (v.page f p) ≡ false) where
  abbrev after : View
  after = record v { page = put2 v.page f p None }

  absent_is : PageIs (v.content f p) (held v f p) (v.spot f p) None
  absent_is = record {
    bytes = λ x e. absurd cc;
    towrite = λ e. absurd cc;
    dirty_block = λ e. absurd cc;
    writeback_block = λ e. absurd cc;
    clean = λ _ _. (ok.pages f p).clean clean idle;
    clean_block = λ _ _. (ok.pages f p).clean_block clean idle;
  }

  pub evict : towrite (v.page f p) ≡ false → Goes no_gone v after
  evict t = (
    good_after v ok _ _ _ _ _ (one_page v ok f p None absent_is) (one_page_in v ok f p None (λ e. absurd cc))
        (λ t r e. let old = ok.requests t r e in request_stays v _ _ _ _ _ t r old old.serial refl
        (λ d k. let a = (old.fill d k).absent in grind (arith, put2_tells {A = Option Page}))
        (λ d k. let a = (old.flush d k).writeback in grind (arith, put2_tells {A = Option Page})))
        ok.requests_apart
        (λ g q e. still_flying v after g q (ok.flushes g q (grind (arith, put2_tells {A = Option Page}))) refl)
        ok.outcomes,
    quietly_evolves no_gone v after (λ g q _ b h. h) (λ u r e k d. e) (λ u r e k d _. e)
        (λ g q _ e. grind (arith, put2_tells {A = Option Page})) (λ g. refl) refl,
  )

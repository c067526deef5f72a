-- An absent page is cached with the bytes that it has in its file, and no tags, where no fill of it is in flight.
use Rattle.std.proofs.Common.{◌≡◌, ℕ, ◌<◌, refl, arith, List, false, sym, ap, ◌∙◌, Option, Some, None}
use Rattle.pc_types.specs.Tags.{no_tags}
use Rattle.machine.specs.State.{Page, page_count}
use Rattle.runs.proofs.views.View.{View, Flight, Good, PageIs, Goes, no_gone, quietly_evolves, request_stays, put2}
use Rattle.runs.proofs.views.View.{put2_else, put2_tells, writeback, held, good_after, still_flying, one_page}
use Rattle.runs.proofs.views.View.{one_page_in, dirty}
use Rattle.pc_types.specs.declared.kind.Kind.TheVariants.{Fill}

module _ (v : View) (ok : Good v) (f p : ℕ) (absent : v.page f p ≡ None) (bytes : List ℕ)
    (right : bytes ≡ v.content f p) (within : p < page_count v.page_size (v.size f))
    (alone : (t : ℕ) (r : Flight) → v.request t ≡ Some r → r.dropped ≡ false → r.kind ≡ Fill → r.file ≡ f → r.page ≡ p
    → ⊥) where
  abbrev page : Page
  page = record { bytes = bytes; tags = no_tags }

  abbrev pub after : View
  after = record v { page = put2 v.page f p (Some page) }

  page_is : PageIs (v.content f p) (held v f p) (v.spot f p) (Some page)
  page_is = record {
    bytes = λ x e. (let a : page ≡ x = cc in sym (ap (λ (y : Page). y.bytes) a)) ∙ right;
    towrite = λ e. absurd cc;
    dirty_block = λ e. absurd cc;
    writeback_block = λ e. absurd cc;
    clean = λ _ _. (ok.pages f p).clean (ap dirty absent) (ap writeback absent);
    clean_block = λ _ _. (ok.pages f p).clean_block (ap dirty absent) (ap writeback absent);
  }

  pub fill_at_once : Goes no_gone v after
  fill_at_once = (
    good_after v ok _ _ _ _ _ (one_page v ok f p (Some page) page_is) (one_page_in v ok f p (Some page) (λ _. within))
        (λ t r e. let old = ok.requests t r e in request_stays v _ _ _ _ _ t r old old.serial refl
        (λ d k. put2_else v.page f p (Some page) r.file r.page (alone t r e d k))
        (λ d k. let a = (old.flush d k).writeback in grind (arith, put2_tells {A = Option Page})))
        ok.requests_apart
        (λ g q e. still_flying v after g q (ok.flushes g q (grind (arith, put2_tells {A = Option Page}))) refl)
        ok.outcomes,
    quietly_evolves no_gone v after (λ g q _ b h. h) (λ u r e k d. e) (λ u r e k d _. e)
        (λ g q _ e. grind (arith, put2_tells {A = Option Page})) (λ g. refl) refl,
  )

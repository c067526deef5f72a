-- A fill ends well, and its page is cached.
use Rattle.std.proofs.Common.{◌≡◌, ℕ, false, List, refl, ap, sym, ◌∙◌, arith, Option, Some, None, is_some}
use Rattle.pc_types.specs.Spots.{shown}
use Rattle.pc_types.specs.Tags.{no_tags}
use Rattle.pc_types.specs.declared.kind.Kind.TheVariants.{Fill, Flush}
use Rattle.machine.specs.declared.event.Outcome.TheVariants as outcome
use Rattle.machine.specs.State.{Page}
use Rattle.runs.proofs.views.View.{View, Flight, Good, FillIs, Goes, no_gone, quietly_evolves, put1, put2, put2_tells}
use Rattle.runs.proofs.views.View.{spot_of, valid_of}
use Rattle.runs.proofs.views.EndRequest.{others, left, none_beside}
use Rattle.runs.proofs.views.EndQuietly.{end_quietly}
use Rattle.runs.proofs.views.FillAtOnce.{fill_at_once}

module _ (v : View) (ok : Good v) (t : ℕ) (r : Flight) (is : v.request t ≡ Some r) (live : r.dropped ≡ false)
    (kind : r.kind ≡ Fill) (bytes : List ℕ) (noted : v.outcome t ≡ Some (outcome.Read bytes)) where
  -- what the page's block shows of it
  abbrev pub page : Page
  page = record { bytes = shown v.page_size (valid_of (v.spot r.file r.page)) bytes; tags = no_tags }

  abbrev pub after : View
  after = record v {
    page = put2 v.page r.file r.page (Some page);
    request = put1 v.request t None;
    outcome = put1 v.outcome t None;
  }

  fill_is : FillIs v.page_size (v.spot r.file r.page) (v.page r.file r.page) (v.content r.file r.page) (v.outcome t) r
  fill_is = (ok.requests t r is).fill live kind

  not_flush : r.kind ≡ Flush → ⊥
  not_flush k = let a = kind in cc

  -- the request ends, and then the page is cached
  pub fill_end : Goes no_gone v after
  fill_end = (
    (fill_at_once (record v { request = after.request; outcome = after.outcome })
        (end_quietly v ok t r is (λ _ k. not_flush k)).0 r.file r.page fill_is.absent page.bytes (fill_is.noted bytes noted)
        (ok.spot_in r.file r.page (ap is_some (spot_of _ _ fill_is.mapped).1))
        (λ u s e d _ f p. let k = others v ok t u s e in none_beside v ok t r is live u s k.0 k.1 d f p)).0,
    quietly_evolves no_gone v after (λ g q _ b h. h) (λ u s e k d. (others v ok t u s e).1)
        (λ u s e k d _. left v ok t r is u s e (λ same. not_flush (sym (ap (λ (x : Flight). x.kind) same) ∙ k)) ∙ e)
        (λ g q _ e. let a = fill_is.absent in grind (arith, put2_tells {A = Option Page})) (λ g. refl) refl,
  )

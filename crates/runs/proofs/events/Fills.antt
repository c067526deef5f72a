-- A fill begins, or a page without a block is cached at once.
use Rattle.std.proofs.Common.{◌≡◌, ℕ, ◌+◌, ◌<◌, true, false, cond, not, eqb, eq-eqb, List, [], length, refl, ap}
use Rattle.std.proofs.Common.{sym, subst, ◌∙◌, ◌&&◌, Option, Some, None, is_some, option_map, nat_cmp}
use Rattle.std.specs.Prelude.{unwrap_or}
use Rattle.std.specs.FinMap as finmap
use Rattle.std.proofs.lemmas.Bool.{false≢true}
use Rattle.pc_types.specs.Files.{page_of, cut}
use Rattle.pc_types.specs.Tags.{no_tags}
use Rattle.pc_types.specs.declared.ids.Serial.{Serial}
use Rattle.machine.specs.State.{State, Page, Request, file_at, page_at, spot_at, block_at, page_count, is_filling}
use Rattle.machine.specs.State.{is_cached, is_written, fills}
use Rattle.pc_types.specs.Kinds.{is_fill}
use Rattle.pc_types.specs.Spots.{Spot}
use Rattle.machine.specs.declared.event.Reply.TheVariants as reply
use Rattle.machine.specs.Changes.{put_page, requested}
use Rattle.maps.specs.Maps.{put_some}
use Rattle.machine.proofs.steps.Choices.{none_of}
use Rattle.maps.proofs.Maps.{get-insert_nat}
use Rattle.machine.proofs.changes.StateLaws.{filling_shows}
use Rattle.runs.specs.Plain.{Plain, plain_file}
use Rattle.runs.specs.World.{World, block_bytes, noted, to_write}
use Rattle.runs.proofs.views.View.{Flight, Goes, no_gone, put1, dirty, writeback, settled, is_valid, held_by, fresh, no_outcome}
use Rattle.runs.proofs.events.Coupled.{view, Coupled, After, with_core, file_changed, put_view, block_is}
use Rattle.runs.proofs.events.Tables.{writes, flight, flight_at, request_is, in_flight, flight_begun, begun_tables}
use Rattle.runs.proofs.views.FillAtOnce.{fill_at_once}
use Rattle.runs.proofs.views.FillBegin.{fill_begin}
use Rattle.pc_types.specs.declared.kind.Kind.TheVariants.{Fill}

unwritten : (o : Option Spot) → settled o ≡ true → is_valid o ≡ false → o ≡ None
unwritten None a b = refl
unwritten (Some x) a b = absurd cc

has_spot : (o : Option Spot) → is_valid o ≡ true → is_some o ≡ true
has_spot None e = absurd cc
has_spot (Some x) e = refl

mapped_is : (s : State) (f p : ℕ) → is_written s f p ≡ true
    → option_map (λ x. x.block) (spot_at s f p) ≡ Some (unwrap_or (block_at s f p) 0)
mapped_is s f p e = block_is s f p (has_spot (spot_at s f p) e)

-- a page that is not filling has no fill in flight
module _ (w : World) (plain : Plain) (c : Coupled w plain) (f p : ℕ) (not_filling : is_filling w.core f p ≡ false) where
  pub alone : (t : ℕ) (r : Flight) → flight_at w.core.requests w.writing t ≡ Some r → r.dropped ≡ false → r.kind ≡ Fill
      → r.file ≡ f → r.page ≡ p → ⊥
  alone t r e d k a b =
      let x = request_is w.core.requests w.writing t r e in
      let same = x.2 in
      let it : fills f p x.0 ≡ true =
      (λ i. is_fill ((sym (ap (λ (y : Flight). y.kind) same) ∙ k) i)
      && not ((sym (ap (λ (y : Flight). y.dropped) same) ∙ d) i)
      && (eqb ((sym (ap (λ (y : Flight). y.file) same) ∙ a) i) f
      && eqb ((sym (ap (λ (y : Flight). y.page) same) ∙ b) i) p))
      ∙ (λ i. true && true && (eq-eqb f f refl i && eq-eqb p p refl i)) in
      let shows = filling_shows w.core f p t x.0 x.1 it in false≢true (sym not_filling ∙ shows)

module _ (w : World) (plain : Plain) (c : Coupled w plain) (f p : ℕ) (here : f < length w.core.files)
    (within : p < page_count w.core.sizes.page (file_at w.core f).size) (not_filling : is_filling w.core f p ≡ false)
    (not_cached : is_cached w.core f p ≡ false) where
  abbrev s : State
  s = w.core

  abbrev zeros : Page
  zeros = record { bytes = cut [] s.sizes.page; tags = no_tags }

  absent : page_at s f p ≡ None
  absent = none_of (page_at s f p) not_cached

  pub at_once : is_written s f p ≡ false → After w plain no_gone (with_core w (put_page s f p zeros)) plain
  at_once e =
      let none = unwritten (spot_at s f p) ((c.good.pages f p).clean_block (ap dirty absent) (ap writeback absent)) e in
      let right : cut [] s.sizes.page ≡ page_of s.sizes.page (plain_file plain f) p =
      sym (ap (held_by (block_bytes w) s.sizes.page) none)
      ∙ (c.good.pages f p).clean (ap dirty absent) (ap writeback absent) in
      file_changed w plain c (with_core w (put_page s f p zeros)) f _ here refl refl refl refl refl
      (put_view w plain f p zeros here)
      (fill_at_once (view w plain) c.good f p absent (cut [] s.sizes.page) right within
      (alone w plain c f p not_filling)) c.tables

  abbrev request : Request
  request = record { kind = Fill; file = f; page = p; block = unwrap_or (block_at s f p) 0; dropped = false }

  next_free : finmap.get s.requests s.next ≡ None
  next_free =
      none_of (finmap.get s.requests s.next)
      (sym (in_flight s.requests w.writing s.next) ∙ ap is_some (fresh (view w plain) c.good))

  next_unwritten : finmap.get w.writing s.next ≡ None
  next_unwritten = none_of (finmap.get w.writing s.next) (c.tables.writes s.next ∙ ap writes next_free)

  begun_view : view (with_core w (requested s Fill f p)) plain
      ≡ record (view w plain) {
        request = put1 (flight_at s.requests w.writing) s.next (Some (flight [] request));
        next = s.next + 1;
      }
  begun_view = λ i. record (view w plain) {
    next = s.next + 1;
    request = λ t. flight_begun s.requests w.writing w.writing s.next request []
        (ap (λ o. unwrap_or o []) next_unwritten) (λ u n. refl) t i;
  }

  begins : is_written s f p ≡ true → After w plain no_gone (with_core w (requested s Fill f p)) plain
  begins e =
      let now = subst (Goes no_gone (view w plain)) (sym begun_view)
      (fill_begin (view w plain) c.good f p (unwrap_or (block_at s f p) 0) absent (mapped_is s f p e) e
      (alone w plain c f p not_filling)) in
      let tables = begun_tables s.requests w.outcomes w.writing c.tables s.next request w.writing
      (no_outcome (view w plain) c.good) (ap is_some next_unwritten) (λ u n. refl) in
      assumption

  -- a fill notes no bytes
  none_noted : (t : Serial) → t.0 ≡ s.next → noted w.writing (reply.Job t) (requested s Fill f p) ≡ w.writing
  none_noted t is = ap (λ o. put_some t.0 (to_write (requested s Fill f p) o) w.writing)
      (get-insert_nat s.requests s.next request t.0
      ∙ ap (λ b. cond b (Some request) (finmap.get s.requests t.0)) (eq-eqb t.0 s.next is))

  pub fills_begin : (t : Serial) → t.0 ≡ s.next → is_written s f p ≡ true
      → After w plain no_gone (record w
      { core = requested s Fill f p; writing = noted w.writing (reply.Job t) (requested s Fill f p) }) plain
  fills_begin t is e =
      subst (λ (x : finmap.FinMap nat_cmp (List ℕ)). After w plain no_gone
      (record w { core = requested s Fill f p; writing = x }) plain) (sym (none_noted t is)) (begins e)

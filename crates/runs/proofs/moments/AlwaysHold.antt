-- What holds at every moment.
use Rattle.std.proofs.Common.{◌≡◌, ℕ, ◌+◌, ◌*◌, Bool, true, false, cond, not, eqb, eqb-true, ltb, List, [], ◌∷◌, length}
use Rattle.std.proofs.Common.{◌≤◌, get_or, refl, ap, sym, ◌∙◌, arith, take}
use Rattle.std.specs.Prelude.{◌&&◌, ◌||◌, Option, Some, None, is_some, option_map, unwrap_or, find, map}
use Rattle.std.specs.List.{list_any}
use Rattle.std.specs.FinMap as finmap
use Rattle.std.proofs.lemmas.Bool.Decides.{nat_tests}
use Rattle.std.proofs.lemmas.List.{get_or_past}
use Rattle.pc_types.specs.Kinds.{is_fill, is_flush}
use Rattle.pc_types.specs.Spots.{Spot}
use Rattle.pc_types.specs.declared.kind.Kind.{Kind}
use Rattle.pc_types.specs.declared.kind.Kind.TheVariants.{Fill, Flush}
use Rattle.pc_types.proofs.FileLaws.{byte-page}
use Rattle.machine.specs.Sound.{Sound}
use Rattle.machine.specs.State.{State, Page, Request, page_at, spot_at, is_filling, fills}
use Rattle.machine.proofs.steps.Choices.{and_true, none_of, not_true, some_of}
use Rattle.maps.proofs.Found.{found}
use Rattle.runs.specs.Always.{Always, PageAlways, RequestAlways, HoldsAlways}
use Rattle.runs.specs.Plain.{Plain, plain_file}
use Rattle.runs.specs.Runs.{world_at, plain_at}
use Rattle.runs.specs.World.{World}
use Rattle.runs.proofs.views.View.{Flight, RequestIs, spot_of, live_spot, dirty, writeback, settled, is_valid, valid_of}
use Rattle.runs.proofs.events.Coupled.{view, Coupled}
use Rattle.runs.proofs.events.Tables.{writes, flight, flight_is, request_is, bytes_of, in_flight}
use Rattle.runs.proofs.moments.Limits.{Limits, run_limits}
use Rattle.runs.proofs.moments.Moments.{coupled_at, run_take}
use Rattle.runs.proofs.bytes.PageLaws.{length-page}

-- an element that passes is found
any_found : {X : Type 0} (test : X → Bool) (es : List (ℕ × X)) → list_any test (map (λ (e : ℕ × X). e.1) es) ≡ true
    → (e : ℕ × X) × (find (λ e. test e.1) es ≡ Some e)
any_found test [] h = absurd cc
any_found test (x ∷ es) h =
    elim (test x.1) as (λ b. (b || list_any test (map (λ (e : _). e.1) es)) ≡ true
    → (e : _) × (cond b (Some x) (find (λ e. test e.1) es) ≡ Some e))
    [ true ↦ λ _. (x, refl) | false ↦ λ k. any_found test es k ] h

fill_kind : (k : Kind) → is_fill k ≡ true → k ≡ Fill
fill_kind Fill e = refl
fill_kind Flush e = absurd cc

filling_found : (s : State) (f p : ℕ) → is_filling s f p ≡ true
    → (t : ℕ) × (r : Request) × (finmap.get s.requests t ≡ Some r) × (r.kind ≡ Fill) × (r.dropped ≡ false)
    × (r.file ≡ f) × (r.page ≡ p)
filling_found s f p e =
    let a = any_found (fills f p) (finmap.entries s.requests) e in
    let b = found s.requests (λ x. fills f p x.1) a.0 a.1 in
    let c = and_true (is_fill a.0.1.kind && not a.0.1.dropped) (eqb a.0.1.file f && eqb a.0.1.page p) b.0 in
    let d = and_true (is_fill a.0.1.kind) (not a.0.1.dropped) c.0 in
    let g = and_true (eqb a.0.1.file f) (eqb a.0.1.page p) c.1 in (
      a.0.0,
      a.0.1,
      b.1,
      fill_kind a.0.1.kind d.0,
      not_true a.0.1.dropped d.1,
      eqb-true a.0.1.file f g.0,
      eqb-true a.0.1.page p g.1,
    )

has_spot : (o : Option Spot) → is_some o ≡ true → is_some (option_map (λ x. x.block) o) ≡ true
has_spot None e = absurd cc
has_spot (Some x) e = refl

settled_written : (o : Option Spot) → settled o ≡ true → is_some o ≡ true → is_valid o ≡ true
settled_written None a b = absurd cc
settled_written (Some x) a b = a

written_some : (o : Option Request) → writes o ≡ true → is_some o ≡ true
written_some None e = absurd cc
written_some (Some x) e = refl

module _ (w : World) (plain : Plain) (c : Coupled w plain) (limits : Limits w.core) where
  abbrev s : State
  s = w.core

  -- a request with its bytes
  abbrev whole : ℕ → Request → Flight
  whole t x = flight (bytes_of w.writing t) x

  request : (t : ℕ) (x : Request) → finmap.get s.requests t ≡ Some x → RequestIs (view w plain) t (whole t x)
  request t x is = c.good.requests t (whole t x) (flight_is s.requests w.writing t x is)

  sound : Sound s
  sound = record {
    serial = λ t x is. (request t x is).serial;
    mapped = λ t x is live. live_spot (view w plain) c.good t (whole t x) (flight_is s.requests w.writing t x is) live;
    unmapped = λ t x is dead f p e. let a = spot_of (spot_at s f p) x.block e in
        (request t x is).dead dead f p a.0 a.1 a.2;
    requests_apart = λ t u x v is there same. c.good.requests_apart t u (whole t x) (whole u v)
        (flight_is s.requests w.writing t x is) (flight_is s.requests w.writing u v there) same;
    spots_apart = λ f p g q k a b. let x = spot_of (spot_at s f p) k a in let y = spot_of (spot_at s g q) k b in
        c.good.spots_apart f p g q x.0 y.0 x.1 y.1 (x.2 ∙ sym y.2);
    fill = λ t x is live kind. ((request t x is).fill live kind).absent;
    flush = λ t x is live kind. ((request t x is).flush live kind).writeback;
    dirty_block = λ f p e. has_spot (spot_at s f p) ((c.good.pages f p).dirty_block e);
    writeback_block = λ f p e. has_spot (spot_at s f p) ((c.good.pages f p).writeback_block e);
    towrite_dirty = λ f p e. (c.good.pages f p).towrite e;
  }

  page_always : (f p : ℕ) (page : Page) → page_at s f p ≡ Some page → PageAlways s f p page
  page_always f p page is =
      let g = c.good.pages f p in
      let bytes = g.bytes page is in
      let size : length page.bytes ≡ s.sizes.page = ap length bytes ∙ length-page s.sizes.page (plain_file plain f) p in
      record {
        size = size;
        zeros = λ k past. elim (ltb k s.sizes.page) as (λ b. ltb k s.sizes.page ≡ b → get_or page.bytes k 0 ≡ 0) [
          | true ↦ λ e. ap (λ x. get_or x k 0) bytes
              ∙ byte-page s.sizes.page (plain_file plain f) p k (grind (arith, nat_tests))
              ∙ get_or_past (plain_file plain f) (p * s.sizes.page + k) 0 (let a = c.sizes f in omega arith)
          | false ↦ λ e. get_or_past page.bytes k 0 (grind (arith, nat_tests))
        ] refl;
        within = c.good.page_in f p (ap is_some is);
        flush = λ d.
            let h = c.good.flushes f p (ap writeback is ∙ d) in
            let x = request_is s.requests w.writing h.serial h.request h.is in
            let same = x.2 in (
              h.serial,
              x.0.block,
              x.1 ∙ (λ i. Some (record {
                kind = (ap (λ (r : Flight). r.kind) (sym same) ∙ h.kind) i;
                file = (ap (λ (r : Flight). r.file) (sym same) ∙ h.file) i;
                page = (ap (λ (r : Flight). r.page) (sym same) ∙ h.page) i;
                block = x.0.block;
                dropped = (ap (λ (r : Flight). r.dropped) (sym same) ∙ h.live) i;
              })),
            );
      }

  request_always : (t : ℕ) (x : Request) → finmap.get s.requests t ≡ Some x → RequestAlways w t x
  request_always t x is = let g = request t x is in record {
    block = let a = g.block in let b = c.blocks in omega arith;
    bytes = λ kind. (let b = some_of (finmap.get w.writing t) (c.tables.writes t ∙ ap writes is ∙ ap is_flush kind) in
        (b.0, b.1, ap (λ o. length (unwrap_or o [])) (sym b.1) ∙ g.bytes kind));
    writes = c.tables.writes t ∙ ap writes is;
    fill = λ live kind. (g.fill live kind).valid;
  }

  pub always : Always w
  always = record {
    sound = sound;
    pages = page_always;
    absent =
        λ f p none has. settled_written (spot_at s f p)
        ((c.good.pages f p).clean_block (ap dirty (none_of (page_at s f p) none))
        (ap writeback (none_of (page_at s f p) none))) has;
    filling = λ f p e. let h = filling_found s f p e in (λ i. is_some (page_at s (sym h.5 i) (sym h.6 i)))
        ∙ ap is_some ((request h.0 h.1 h.2).fill h.4 h.3).absent;
    within = c.good.spot_in;
    on_device = λ f p k is. let a = spot_of (spot_at s f p) k is in let b = c.good.spot_block f p a.0 a.1 in
        let d = c.blocks in let e = a.2 in omega arith;
    valid = λ f p. fits (spot_at s f p) (c.good.spot_valid f p);
    requests = request_always;
    outcomes = λ t e. sym (in_flight s.requests w.writing t) ∙ c.good.outcomes t e;
    writing = λ t e. written_some (finmap.get s.requests t) (sym (c.tables.writes t) ∙ e);
    handles = c.valid;
    sync_handles = λ m y is. (limits.each_sync m y is).opened;
    sync_ranges = λ m y is. (limits.each_sync m y is).range;
    file_count = limits.files;
    handle_count = limits.handles;
    request_count = limits.requests;
    sync_count = limits.syncs;
    file_sizes = limits.sizes;
    frames = limits.frames;
    failures = limits.failures;
    serials = limits.serials;
    blocks = c.blocks;
    block_sizes = λ b l. c.good.block_sizes b (let a = c.blocks in omega arith);
  }
    where
      fits : (o : Option Spot) → ((x : Spot) → o ≡ Some x → x.valid ≤ s.sizes.page) → valid_of o ≤ s.sizes.page
      fits None h = omega arith
      fits (Some x) h = h x refl

pub holds_always : HoldsAlways
holds_always w run first r k = always (world_at w run k) (plain_at w run k) (coupled_at w run first r k)
    (run_limits (take k run) w first (run_take run w k r))

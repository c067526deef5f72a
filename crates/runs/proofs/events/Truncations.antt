-- A truncation.
use Rattle.std.proofs.Common.{◌≡◌, ℕ, ◌/◌, ◌%◌, ◌<◌, ◌≤◌, Bool, true, false, cond, not, eqb, eqb-true, eq-eqb, List, []}
use Rattle.std.proofs.Common.{length, get_or, refl, ap, sym, subst, ◌∙◌, arith, inl, inr, take}
use Rattle.std.specs.Prelude.{◌&&◌, ◌||◌, ◌⊎◌, Option, Some, None, is_some, option_map, nat_le, nat_lt}
use Rattle.std.specs.FinMap as finmap
use Rattle.std.proofs.lemmas.Bool.Decides.{nat_tests}
use Rattle.pc_types.specs.Files.{cut, page_of}
use Rattle.pc_types.specs.Spots.{Spot}
use Rattle.pc_types.proofs.FileLaws.{length-cut}
use Rattle.machine.specs.State.{State, File, Page, file_at, page_at, spot_at, no_file, page_count}
use Rattle.machine.specs.State.{is_filling, has_block}
use Rattle.machine.specs.Changes.{boundary, cut_page, put_file}
use Rattle.machine.specs.Tests.{truncate_stop, must_fill}
use Rattle.machine.proofs.changes.ChangeLaws.{Truncates}
use Rattle.machine.proofs.steps.Choices.{none_of, some_of, at_true, and_true, at_false}
use Rattle.machine.proofs.changes.StateLaws.{get_or-set, page_at-put}
use Rattle.runs.specs.Plain.{Plain, plain_file}
use Rattle.runs.specs.World.{World, block_bytes}
use Rattle.runs.proofs.views.View.{View, PageIs, Evolves, Goes, no_gone, put1, dirty, writeback, towrite, settled}
use Rattle.runs.proofs.views.View.{held_by, held, is_valid}
use Rattle.runs.proofs.events.Coupled.{view, Coupled, After, with_core, put_plain, file_set, plain_changed}
use Rattle.runs.proofs.events.Tables.{Tables, flight_at, flight_cut, cut_tables}
use Rattle.runs.proofs.events.Lookups.{size-set, failures-put}
use Rattle.runs.proofs.bytes.CutLaws.{begins_past, lies_before, cut_before, cut_past, cut_within, cut_zeros, cut_longer}
use Rattle.runs.proofs.views.Place.{IsSame, IsGone, IsPut, dropped_where}
use Rattle.runs.proofs.views.Places.{places}
use Rattle.runs.proofs.views.Grow.{grow}

-- nothing is gone, and so whatever is said to be gone
anyhow : (gone : ℕ → ℕ → Bool) (v w : View) → Evolves no_gone v w → Evolves gone v w
anyhow gone v w e =
    record {
      on_device = λ f p _. e.on_device f p refl;
      from = e.from;
      flush = λ t r i k d _. e.flush t r i k d refl;
      to_write = λ f p _ h. e.to_write f p refl h;
      failures = e.failures;
      same_size = e.same_size;
    }

module _ (w : World) (plain : Plain) (c : Coupled w plain) (f z : ℕ) (here : f < length w.core.files) where
  abbrev s : State
  s = w.core

  abbrev P : ℕ
  P = s.sizes.page

  abbrev pf : List ℕ
  pf = plain_file plain f

  abbrev after : Plain
  after = put_plain plain f (cut pf z)

  there : f < length plain.files
  there = let a = c.count in omega arith

  -- what is cut off
  abbrev cut_off : ℕ → ℕ → Bool
  cut_off g q = eqb f g && nat_le (page_count P z) q

  -- ---- the file grows

  abbrev grown : State
  grown = put_file s f (record (file_at s f) { size = z })

  grown_page : (g q : ℕ) → page_at grown g q ≡ page_at s g q
  grown_page g q = page_at-put s f (record (file_at s f) { size = z }) here g q
      ∙ elim (eqb g f) as (λ b. eqb g f ≡ b → cond b (page_at s f q) (page_at s g q) ≡ page_at s g q)
      [ true ↦ λ e. ap (λ k. page_at s k q) (sym (eqb-true g f e)) | false ↦ λ e. refl ] refl

  grown_content : (file_at s f).size ≤ z → (g q : ℕ)
      → page_of P (plain_file after g) q ≡ page_of P (plain_file plain g) q
  grown_content more g q = ap (λ x. page_of P x q) (file_set plain f (cut pf z) there g)
      ∙ elim (eqb g f) as (λ b. eqb g f ≡ b → page_of P (cond b (cut pf z) (plain_file plain g)) q
      ≡ page_of P (plain_file plain g) q) [
        | true ↦ λ e. cut_longer P z q pf (let a = c.sizes f in omega arith)
            ∙ ap (λ k. page_of P (plain_file plain k) q) (sym (eqb-true g f e))
        | false ↦ λ e. refl
      ] refl

  grown_view : (file_at s f).size ≤ z
      → view (with_core w grown) after ≡ record (view w plain) { size = put1 (λ g. (file_at s g).size) f z }
  grown_view more = λ i. record (view w plain) {
    page = λ g q. grown_page g q i;
    size = λ g. size-set s f (record (file_at s f) { size = z }) here g i;
    failures = λ g. failures-put s f (record (file_at s f) { size = z }) here refl g i;
    content = λ g q. grown_content more g q i;
  }

  pub grows : (file_at s f).size ≤ z → After w plain cut_off (with_core w grown) after
  grows more =
      let now = subst (Goes no_gone (view w plain)) (sym (grown_view more)) (grow (view w plain) c.good f z more) in
      plain_changed w plain c cut_off grown f _ (cut pf z) here (length-cut pf z) refl refl refl
      (now.0, anyhow cut_off (view w plain) _ now.1) c.tables

  -- ---- the file shrinks

  module _ (new : State) (cuts : Truncates s f z new) (less : z < (file_at s f).size)
      (stop : truncate_stop s f (boundary s f z) ≡ None) where
    abbrev n : ℕ
    n = page_count P z

    abbrev gone : ℕ → ℕ → Bool
    gone g q = eqb g f && nat_le n q

    abbrev content_now : ℕ → ℕ → List ℕ
    content_now g q = page_of P (plain_file after g) q

    abbrev Same : ℕ → ℕ → Type 0
    Same g q = IsSame (view w plain) (page_at new) (spot_at new) content_now g q

    abbrev Put : ℕ → ℕ → Type 0
    Put g q = IsPut (view w plain) (page_at new) (spot_at new) content_now g q

    abbrev Kept : ℕ → ℕ → Type 0
    Kept g q = Same g q ⊎ Put g q

    abbrev cut_file : File
    cut_file = record (file_at s f) { size = z; pages = (file_at new f).pages }

    file_now : (g : ℕ) → file_at new g ≡ cond (eqb g f) cut_file (file_at s g)
    file_now g = ap (λ fs. get_or fs g no_file) cuts.file ∙ get_or-set s.files f g cut_file no_file here

    content_here : (q : ℕ) → content_now f q ≡ page_of P (cut pf z) q
    content_here q =
        ap (λ x. page_of P x q) (file_set plain f (cut pf z) there f ∙ at_true (eqb f f) _ _ (eq-eqb f f refl))

    gone_here : (q : ℕ) → n ≤ q → IsGone (view w plain) (page_at new) (spot_at new) content_now f q
    gone_here q l = record {
      on_page = cuts.pages q ∙ at_true (nat_le n q) _ _ (grind (arith, nat_tests));
      on_spot = cuts.spots f q ∙ at_true (eqb f f && nat_le n q) _ _
          (λ i. (eq-eqb f f refl i) && (let e : nat_le n q ≡ true = grind (arith, nat_tests) in e i));
      on_content = content_here q ∙ cut_past P z q pf (begins_past P z q c.good.positive l);
    }

    is_gone : (g q : ℕ) → gone g q ≡ true → IsGone (view w plain) (page_at new) (spot_at new) content_now g q
    is_gone g q e = let a = and_true (eqb g f) (nat_le n q) e in
        subst (λ k. IsGone (view w plain) (page_at new) (spot_at new) content_now k q) (sym (eqb-true g f a.0))
        (gone_here q (let b = a.1 in grind (arith, nat_tests)))

    -- a page that is not in the file that is cut
    elsewhere : (g q : ℕ) → eqb g f ≡ false → Same g q
    elsewhere g q e = record {
      on_page = ap (λ (x : File). finmap.get x.pages q) (file_now g ∙ at_false (eqb g f) _ _ e);
      on_spot = cuts.spots g q ∙ at_false (eqb g f && nat_le n q) _ _ (ap (λ b. b && nat_le n q) e);
      on_content = ap (λ x. page_of P x q) (file_set plain f (cut pf z) there g ∙ at_false (eqb g f) _ _ e);
    }

    spot_kept : (q : ℕ) → nat_le n q ≡ false → spot_at new f q ≡ spot_at s f q
    spot_kept q e = cuts.spots f q ∙ at_false (eqb f f && nat_le n q) _ _ ((λ i. eq-eqb f f refl i && nat_le n q) ∙ e)

    page_kept : (q : ℕ) → nat_le n q ≡ false
        → page_at new f q ≡ cond (eqb (z / P) q && is_some (boundary s f z))
        (option_map (cut_page P z (has_block s f q)) (page_at s f q)) (page_at s f q)
    page_kept q e = cuts.pages q ∙ at_false (nat_le n q) _ _ e

    -- the boundary
    boundary_is : boundary s f z ≡ cond (not (eqb (z % P) 0)) (Some (z / P)) None
    boundary_is = ap (λ b. cond (b && not (eqb (z % P) 0)) (Some (z / P)) None)
        (let e : nat_lt z (file_at s f).size ≡ true = grind (arith, nat_tests) in e)

    no_boundary : is_some (boundary s f z) ≡ false → z % P ≡ 0
    no_boundary e = go (eqb (z % P) 0) refl (sym (ap is_some boundary_is) ∙ e)
      where
        go : (b : Bool) → eqb (z % P) 0 ≡ b → is_some (cond (not b) (Some (z / P)) None) ≡ false → z % P ≡ 0
        go true k e = eqb-true (z % P) 0 k
        go false k e = absurd cc

    at_boundary : is_some (boundary s f z) ≡ true → boundary s f z ≡ Some (z / P)
    at_boundary e = go (eqb (z % P) 0) boundary_is e
      where
        go : (b : Bool) → boundary s f z ≡ cond (not b) (Some (z / P)) None → is_some (boundary s f z) ≡ true
            → boundary s f z ≡ Some (z / P)
        go true k e = absurd (let a = ap is_some k in cc)
        go false k e = k

    nothing_stops : is_some (boundary s f z) ≡ true → (is_filling s f (z / P) || must_fill s f (z / P)) ≡ false
    nothing_stops e = go (is_filling s f (z / P) || must_fill s f (z / P))
        (sym (ap (truncate_stop s f) (at_boundary e)) ∙ stop)
      where
        go : (b : Bool) → cond b (Some (z / P)) None ≡ None → b ≡ false
        go true k = absurd cc
        go false k = refl

    page_is : (q : ℕ) → PageIs (page_of P (plain_file plain f) q) (held (view w plain) f q) (spot_at s f q)
        (page_at s f q)
    page_is q = c.good.pages f q

    -- a clean page without a block is zeros
    zeros_here : (q : ℕ) → spot_at s f q ≡ None → dirty (page_at s f q) ≡ false → writeback (page_at s f q) ≡ false
        → page_of P pf q ≡ cut [] P
    zeros_here q none d b = sym ((page_is q).clean d b) ∙ ap (held_by (block_bytes w) P) none

    zeros_stay : (q : ℕ) → z / P ≡ q → page_of P pf q ≡ cut [] P → content_now f q ≡ page_of P pf q
    zeros_stay q e zeros = content_here q ∙ cut_within P z q pf c.good.positive e
        ∙ ap (λ x. cut (take (z % P) x) P) zeros ∙ cut_zeros P (z % P) ∙ sym zeros

    not_written : (o : Option Page) (sp : Option Spot) (fills : Bool) → o ≡ None
        → (fills || (not (is_some o) && is_valid sp)) ≡ false → settled sp ≡ true → sp ≡ None
    not_written o None fills n e k = refl
    not_written None (Some x) true n e k = absurd cc
    not_written None (Some x) false n e k = absurd cc
    not_written (Some y) (Some x) fills n e k = absurd cc

    cut_here : (q : ℕ) → nat_le n q ≡ false → z / P ≡ q → is_some (boundary s f z) ≡ true
        → page_at new f q ≡ option_map (cut_page P z (has_block s f q)) (page_at s f q)
        → Kept f q
    cut_here q low at some is = go (page_at s f q) refl (has_block s f q) refl is
      where
        go : (o : Option Page) → page_at s f q ≡ o → (has : Bool) → has_block s f q ≡ has
            → page_at new f q ≡ option_map (cut_page P z has) o
            → Kept f q
        go None k has b is =
            let stops : (is_filling s f q || must_fill s f q) ≡ false =
            (λ i. is_filling s f (sym at i) || must_fill s f (sym at i)) ∙ nothing_stops some in
            let none : spot_at s f q ≡ None = not_written (page_at s f q) (spot_at s f q) (is_filling s f q) k stops
            ((page_is q).clean_block (ap dirty k) (ap writeback k)) in
            inl (record {
              on_page = is ∙ sym k;
              on_spot = spot_kept q low;
              on_content = zeros_stay q at (zeros_here q none (ap dirty k) (ap writeback k));
            })
        go (Some x) k true b is = inr (record {
          new = cut_page P z true x;
          is = is;
          bytes = (λ i. cut (take (z % P) ((page_is q).bytes x k i)) P)
              ∙ sym (content_here q ∙ cut_within P z q pf c.good.positive at);
          dirty = refl;
          writeback = sym (ap writeback k);
          towrite = sym (ap towrite k);
          no_fill = λ t r e d j g p. let a = ((c.good.requests t r e).fill d j).absent in
              let m : page_at s r.file r.page ≡ Some x = (λ i. page_at s (g i) (p i)) ∙ k in cc;
          block = inl (spot_kept q low, b);
        })
        go (Some x) k false b is =
            let none : spot_at s f q ≡ None = none_of (spot_at s f q) b in
            let not_dirty : dirty (page_at s f q) ≡ false = unset (dirty (page_at s f q)) (page_is q).dirty_block in
            let not_writeback : writeback (page_at s f q) ≡ false =
            unset (writeback (page_at s f q)) (page_is q).writeback_block in
            inl (record {
              on_page = is ∙ sym k;
              on_spot = spot_kept q low;
              on_content = zeros_stay q at (zeros_here q none not_dirty not_writeback);
            })
          where
            unset : (t : Bool) → (t ≡ true → is_some (spot_at s f q) ≡ true) → t ≡ false
            unset true h = absurd (let a = h refl in cc)
            unset false h = refl

    kept_here : (q : ℕ) → nat_le n q ≡ false → Kept f q
    kept_here q low =
        elim (eqb (z / P) q && is_some (boundary s f z)) as (λ b. (eqb (z / P) q && is_some (boundary s f z)) ≡ b
        → Kept f q) [
          | true ↦ λ e. (let a = and_true (eqb (z / P) q) (is_some (boundary s f z)) e in
              cut_here q low (eqb-true (z / P) q a.0) a.1 (page_kept q low ∙ at_true _ _ _ e))
          | false ↦ λ e. inl (record {
            on_page = page_kept q low ∙ at_false _ _ _ e;
            on_spot = spot_kept q low;
            on_content =
                content_here q ∙ cut_before P z q pf
                (lies_before P z q c.good.positive (grind (arith, nat_tests))
                (λ k. no_boundary (second (eqb (z / P) q) (is_some (boundary s f z)) (eq-eqb (z / P) q k) e)));
          })
        ] refl
      where
        second : (a b : Bool) → a ≡ true → (a && b) ≡ false → b ≡ false
        second true b k e = e
        second false b k e = absurd cc

    is_kept : (g q : ℕ) → gone g q ≡ false → Kept g q
    is_kept g q e =
        elim (eqb g f) as (λ b. eqb g f ≡ b → (b && nat_le n q) ≡ false
        → Kept g q) [
          | true ↦ λ k l. subst (λ h. Kept h q) (sym (eqb-true g f k)) (kept_here q l)
          | false ↦ λ k l. inl (elsewhere g q k)
        ] refl e

    -- no block is new
    old_spot : (g q : ℕ) (x : Spot) → spot_at new g q ≡ Some x → (gone g q ≡ false) × (spot_at s g q ≡ Some x)
    old_spot g q x e = elim (gone g q) as (λ b. gone g q ≡ b → (b ≡ false) × (spot_at s g q ≡ Some x)) [
      | true ↦ λ k. absurd (let a = cuts.spots g q ∙ at_true (gone g q) _ _ k in cc)
      | false ↦ λ k. (refl, sym (cuts.spots g q ∙ at_false (gone g q) _ _ k) ∙ e)
    ] refl

    size_now : (g : ℕ) → (file_at new g).size ≡ cond (eqb g f) z (file_at s g).size
    unfolding put1
    size_now g = ap (λ fs. (get_or fs g no_file).size) cuts.file ∙ size-set s f cut_file here g

    within : (g q : ℕ) → gone g q ≡ false → q < page_count P (file_at s g).size → q < page_count P (file_at new g).size
    within g q e h =
        elim (eqb g f) as (λ b. (b && nat_le n q) ≡ false → (file_at new g).size ≡ cond b z (file_at s g).size
        → q < page_count P (file_at new g).size) [
          | true ↦ λ k l. (let a : q < page_count P z = grind (arith, nat_tests) in let m = ap (page_count P) l in
              omega arith)
          | false ↦ λ k l. (let m = ap (page_count P) l in omega arith)
        ] e (size_now g)

    page_in : (g q : ℕ) → is_some (page_at new g q) ≡ true → q < page_count P (file_at new g).size
    page_in g q e = elim (gone g q) as (λ b. gone g q ≡ b → q < page_count P (file_at new g).size) [
      | true ↦ λ k. absurd (let a = ap is_some (is_gone g q k).on_page in cc)
      | false ↦ λ k. within g q k (c.good.page_in g q
          (elim (is_kept g q k) [ inl h ↦ sym (ap is_some h.on_page) ∙ e | inr h ↦ was_cached g q h ]))
    ] refl
      where
        was_cached : (g q : ℕ) → Put g q
            → is_some (page_at s g q) ≡ true
        was_cached g q h = elim (eqb g f) as (λ b. eqb g f ≡ b → is_some (page_at s g q) ≡ true) [
          | true ↦ λ k. (let same : g ≡ f = eqb-true g f k in (λ i. is_some (page_at s (same i) q))
              ∙ was (nat_le n q) refl (ap (λ h. is_some (page_at new h q)) (sym same) ∙ ap is_some h.is))
          | false ↦ λ k. (let a = (elsewhere g q k).on_page in sym (ap is_some a) ∙ ap is_some h.is)
        ] refl
          where
            mapped_some : (o : Option Page) (b : Bool) → is_some (option_map (cut_page P z b) o) ≡ is_some o
            mapped_some None b = refl
            mapped_some (Some x) b = refl

            was : (b : Bool) → nat_le n q ≡ b → is_some (page_at new f q) ≡ true → is_some (page_at s f q) ≡ true
            was true k some = absurd (let a = cuts.pages q ∙ at_true (nat_le n q) _ _ k in let d = ap is_some a in cc)
            was false k some =
                elim (eqb (z / P) q && is_some (boundary s f z)) as (λ b. page_at new f q
                ≡ cond b (option_map (cut_page P z (has_block s f q)) (page_at s f q)) (page_at s f q)
                → is_some (page_at s f q) ≡ true) [
                  | true ↦ λ j. sym (mapped_some (page_at s f q) (has_block s f q)) ∙ sym (ap is_some j) ∙ some
                  | false ↦ λ j. sym (ap is_some j) ∙ some
                ] (page_kept q k)

    spot_in : (g q : ℕ) → is_some (spot_at new g q) ≡ true → q < page_count P (file_at new g).size
    spot_in g q e = let x = some_of (spot_at new g q) e in let o = old_spot g q x.0 x.1 in
        within g q o.0 (c.good.spot_in g q (ap is_some o.1))

    failures_now : (g : ℕ) → (file_at new g).failures ≡ (file_at s g).failures
    failures_now g = ap (λ fs. (get_or fs g no_file).failures) cuts.file ∙ failures-put s f cut_file here refl g

    same_gone : gone ≡ cut_off
    same_gone = λ i g q. each g q i
      where
        each : (g q : ℕ) → (eqb g f && nat_le n q) ≡ (eqb f g && nat_le n q)
        each g q = grind (arith, nat_tests)

    same_sizes : new.sizes ≡ s.sizes
    same_sizes = ap (λ x. x.sizes) cuts.rest

    cut_view : view (with_core w new) after
        ≡ record (view w plain) {
          page = page_at new;
          spot = spot_at new;
          content = content_now;
          size = λ g. (file_at new g).size;
          request = λ u. option_map (dropped_where gone) (flight_at s.requests w.writing u);
        }
    cut_view = λ i. record (view (with_core w new) after) {
      page_size = (same_sizes i).page;
      next = (cuts.rest i).next;
      request =
          λ u. (ap (λ (x : State). flight_at x.requests w.writing u) cuts.rest ∙ flight_cut s.requests w.writing f n u)
          i;
      failures = λ g. failures_now g i;
      content = λ g q. page_of (same_sizes i).page (plain_file after g) q;
    }

    goes : Goes gone (view w plain) (view (with_core w new) after)
    goes = subst (Goes gone (view w plain)) (sym cut_view)
        (places (view w plain) c.good (page_at new) (spot_at new) content_now (λ g. (file_at new g).size) gone is_gone
        is_kept (λ f p g q i j b. absurd (let o = old_spot f p _ i.is in let a = i.was in cc)) page_in spot_in)

    pub shrinks : After w plain cut_off (with_core w new) after
    shrinks = plain_changed w plain c cut_off new f cut_file (cut pf z) here (length-cut pf z) cuts.file same_sizes
        (ap (λ x. x.handles) cuts.rest)
        (subst (λ b. Goes b (view w plain) (view (with_core w new) after)) same_gone goes)
        (subst (λ (x : State). Tables x.requests w.outcomes w.writing) (sym cuts.rest)
        (cut_tables s.requests w.outcomes w.writing c.tables f n))

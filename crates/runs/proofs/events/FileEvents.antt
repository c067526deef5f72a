-- Files are made, opened and closed.
use Rattle.std.proofs.Common.{◌≡◌, ℕ, ◌<◌, true, [], ◌∷◌, ◌++◌, length, ap, sym, subst, ◌∙◌, arith, inl, inr}
use Rattle.std.proofs.Common.{length-append}
use Rattle.std.specs.Prelude.{Some, None, is_some, unwrap_or}
use Rattle.std.specs.FinMap as finmap
use Rattle.pc_types.specs.Files.{page_of}
use Rattle.machine.specs.State.{State, File, handle_file, no_file}
use Rattle.runs.specs.Plain.{Plain}
use Rattle.runs.specs.World.{World}
use Rattle.runs.proofs.views.View.{Good, put1_tells, Evolves, no_gone, stays}
use Rattle.runs.proofs.events.Lookups.{get-insert1, get-remove1}
use Rattle.machine.proofs.sound.Lookups.{get_or-default}
use Rattle.runs.proofs.events.Coupled.{view, Coupled, After, with_core}

module _ (w : World) (plain : Plain) (c : Coupled w plain) where
  abbrev s : State
  s = w.core

  abbrev created : State
  created = record s { files = s.files ++ no_file ∷ [] }

  abbrev one_more : Plain
  one_more = record plain { files = plain.files ++ [] ∷ [] }

  same_view : view (with_core w created) one_more ≡ view w plain
  same_view = λ i. record (view w plain) {
    page = λ f p. finmap.get (get_or-default s.files no_file f i).pages p;
    size = λ f. (get_or-default s.files no_file f i).size;
    failures = λ f. (get_or-default s.files no_file f i).failures;
    content = λ f p. page_of s.sizes.page (get_or-default plain.files [] f i) p;
  }

  pub creates : After w plain no_gone (with_core w created) one_more
  creates = record {
    good = subst Good (sym same_view) c.good;
    tables = c.tables;
    blocks = c.blocks;
    handles = c.handles;
    count = omega (arith, length-append plain.files ([] ∷ []), length-append s.files (no_file ∷ []), c.count);
    valid = λ k e. omega (arith, length-append s.files (no_file ∷ []), c.valid k e);
    sizes = λ f. ap length (get_or-default plain.files [] f) ∙ c.sizes f
        ∙ sym (ap (λ (x : File). x.size) (get_or-default s.files no_file f));
    evolves = subst (Evolves no_gone (view w plain)) (sym same_view) (stays no_gone (view w plain));
  }

  -- ---- handles

  pub opens : (h f : ℕ) → f < length s.files
      → After w plain no_gone (with_core w (record s { handles = finmap.insert s.handles h f }))
      (record plain { handles = finmap.insert plain.handles h f })
  opens h f in_files = record {
    good = c.good;
    tables = c.tables;
    blocks = c.blocks;
    handles = ap (λ m. finmap.insert m h f) c.handles;
    count = c.count;
    valid = λ k o. valid_after h k o;
    sizes = c.sizes;
    evolves = stays no_gone (view w plain);
  }
    where
      valid_after : (h k : ℕ) → is_some (finmap.get (finmap.insert s.handles h f) k) ≡ true
          → unwrap_or (finmap.get (finmap.insert s.handles h f) k) 0 < length s.files
      valid_after h k o = elim (put1_tells (finmap.get s.handles) h (Some f) k) [
        | inl a ↦ (let e : finmap.get (finmap.insert s.handles h f) k ≡ Some f = get-insert1 s.handles h f k ∙ a.1 in
            let b : unwrap_or (finmap.get (finmap.insert s.handles h f) k) 0 ≡ f = ap (λ x. unwrap_or x 0) e in
            omega arith)
        | inr a ↦ (let e : finmap.get (finmap.insert s.handles h f) k ≡ finmap.get s.handles k =
            get-insert1 s.handles h f k ∙ a.1 in let b : unwrap_or (finmap.get (finmap.insert s.handles h f) k) 0
            ≡ handle_file s k = ap (λ x. unwrap_or x 0) e in let d = c.valid k (sym (ap is_some e) ∙ o) in omega arith)
      ]

  pub closes : (h : ℕ) → After w plain no_gone (with_core w (record s { handles = finmap.remove s.handles h }))
      (record plain { handles = finmap.remove plain.handles h })
  closes h = record {
    good = c.good;
    tables = c.tables;
    blocks = c.blocks;
    handles = ap (λ m. finmap.remove m h) c.handles;
    count = c.count;
    valid = λ k o. valid_after h k o;
    sizes = c.sizes;
    evolves = stays no_gone (view w plain);
  }
    where
      valid_after : (h k : ℕ) → is_some (finmap.get (finmap.remove s.handles h) k) ≡ true
          → unwrap_or (finmap.get (finmap.remove s.handles h) k) 0 < length s.files
      valid_after h k o = elim (put1_tells (finmap.get s.handles) h None k) [
        | inl a ↦ absurd (let e : finmap.get (finmap.remove s.handles h) k ≡ None = get-remove1 s.handles h k ∙ a.1 in
            let b = ap is_some e in cc)
        | inr a ↦ (let e : finmap.get (finmap.remove s.handles h) k ≡ finmap.get s.handles k = get-remove1 s.handles h k
            ∙ a.1 in let b : unwrap_or (finmap.get (finmap.remove s.handles h) k) 0 ≡ handle_file s k =
            ap (λ x. unwrap_or x 0) e in let d = c.valid k (sym (ap is_some e) ∙ o) in omega arith)
      ]

-- The file of an open handle is there, after every legal history.
use Rattle.std.proofs.Common.{◌≡◌, ℕ, ◌<◌, [], ◌∷◌, length, refl, ap, sym, subst, ◌∙◌, arith, inl, inr}
use Rattle.std.specs.Prelude.{unwrap_or}
use Rattle.std.proofs.Math.ListN.{set}
use Rattle.std.proofs.Common.{true, Some, nat_cmp, length-append}
use Rattle.std.specs.FinMap as finmap
use Rattle.std.specs.FinMap.{get-empty}
use Rattle.std.proofs.lemmas.List.{length-set}
use Rattle.pc_types.specs.Limits.{Sizes}
use Rattle.machine.specs.declared.event.Event.{Event}
use Rattle.machine.specs.declared.event.Reply.{Reply}
use Rattle.machine.specs.Catalogs.{Catalog, adopted}
use Rattle.machine.specs.State.{State, File, handle_file, is_open, no_file}
use Rattle.machine.specs.Step.{Step}
use Rattle.machine.proofs.steps.Cases.{Cases, by_cases}
use Rattle.machine.proofs.steps.Choices.{some_of}
use Rattle.maps.proofs.Maps.{get_inserted, get_left}

pub record FilesAreThere (s : State) : Type 0 where
  pub each : (h g : ℕ) → finmap.get s.handles h ≡ Some g → g < length s.files

pub none_open : (sizes : Sizes) (name : ℕ) (catalog : Catalog) → FilesAreThere (adopted sizes name catalog)
none_open sizes name catalog = record { each = λ h g e. absurd (let none = get-empty {X = ℕ} nat_cmp h in cc) }

pub file_there : (s : State) → FilesAreThere s → (h : ℕ) → is_open s h ≡ true → handle_file s h < length s.files
file_there s there h opened =
    let g = some_of (finmap.get s.handles h) opened in
    let low = there.each h g.0 g.1 in
    subst (λ o. unwrap_or o 0 < length s.files) (sym g.1) low

module _ (s : State) (there : FilesAreThere s) where
  -- one file of as many changes
  put : (g : ℕ) (file : File) (new : State) → new.files ≡ set s.files g file → new.handles ≡ s.handles
      → FilesAreThere new
  put g file new files handles = record {
    each = λ h k e. subst (λ m. k < m) (sym (ap length files ∙ length-set s.files g file))
        (there.each h k (sym (ap (λ m. finmap.get m h) handles) ∙ e));
  }

  cases : Cases s (λ e r new. FilesAreThere new)
  cases = record {
    same = λ e r step quiet. there;
    writes_none = λ e h o w step. there;
    creates = λ g room at. record {
      each = λ h k e. let l = there.each h k e in omega (arith, length-append s.files (no_file ∷ []));
    };
    opens = λ g h in_files room low. record {
      each = λ i k e. elim (get_inserted s.handles h.0 g.0 i) [
        | inl a ↦ (let one : Some g.0 ≡ Some k = sym a.1 ∙ e in let same : g.0 ≡ k = cc in omega arith)
        | inr a ↦ there.each i k (sym a.1 ∙ e)
      ];
    };
    closes = λ h opened free. record { each = λ i k e. there.each i k (get_left s.handles h.0 i k e).1 };
    writes = λ e h o b w may. put (handle_file s h.0) _ _ refl refl;
    shrinks = λ h z may less. put (handle_file s h.0) _ _ refl refl;
    grows = λ h z may more. put (handle_file s h.0) _ _ refl refl;
    makes_zeros = λ h p may unwritten. put (handle_file s h.0) _ _ refl refl;
    evicts = λ g p page at idle. put g.0 _ _ refl refl;
    fills = λ h p t may written full given. record { each = there.each };
    flushes = λ g p page t may given. put g.0 _ _ refl refl;
    drops = λ kind end x may dropped. record { each = there.each };
    fill_fails = λ end x c may live out. record { each = there.each };
    fill_ends = λ end x b may live out. put x.file _ _ refl refl;
    flush_fails = λ end x c may live out. put x.file _ _ refl refl;
    flush_ends = λ end x may live out. put x.file _ _ refl refl;
    begins = λ h first last m may low. put (handle_file s h.0) _ _ refl refl;
    starts = λ m y p page t at may given. put (handle_file s y.handle) _ _ refl refl;
    waits = λ m y e p at pick first page. record { each = there.each };
    over = λ m y r at pick first verdict. record { each = there.each };
    sync_drops = λ m y at. record { each = there.each };
  }

  pub still_there : (e : Event) (r : Reply) (new : State) → Step s e r new → FilesAreThere new
  still_there e r new step = by_cases s (λ e r new. FilesAreThere new) cases e r new step

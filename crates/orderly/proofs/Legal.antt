-- What a legal history leaves.
use Rattle.std.proofs.Common.{◌≡◌, ℕ, List, [], ◌∷◌, ap, refl, subst, sym, ◌∙◌, arith}
use Rattle.std.specs.Prelude.{IsTrue}
use Rattle.pc_types.specs.Limits.{Sizes, is_geometry}
use Rattle.machine.specs.Catalogs.{Catalog, IsCatalog, adopted, size_in}
use Rattle.machine.specs.History.{Leads}
use Rattle.machine.specs.Sound.{Sound}
use Rattle.machine.specs.State.{File, State}
use Rattle.machine.proofs.changes.Adopted.{adopted_file, same_count}
use Rattle.machine.specs.Step.{Step}
use Rattle.machine.specs.declared.event.Event.{Event}
use Rattle.machine.specs.declared.event.Reply.{Reply}
use Rattle.machine.proofs.sound.Steps.{histories_are_sound, steps_stay_sound}
use Rattle.machine.proofs.steps.Cases.{by_cases}
use Rattle.machine.proofs.steps.Steady.{steady}
use Rattle.orderly.specs.Orderly.{IsOrderly}
use Rattle.orderly.proofs.Enough.{enough_page}
use Rattle.orderly.proofs.FileSizes.{AreBounded, AreFew, bounded_cases, few_cases}
use Rattle.orderly.proofs.Orderly.{adopted_orderly, orderly_cases}

-- what each step keeps, a history keeps
leads_keep : (P : State → Type 0) → ((s : State) (e : Event) (r : Reply) (t : State) → Step s e r t → P s → P t)
    → (old : State) (es : List (Event × Reply)) (new : State) → P old → Leads old es new → P new
leads_keep P step old [] new p h = subst P (sym h) p
leads_keep P step old (e ∷ es) new p h = leads_keep P step h.0 es new (step old e.0 e.1 h.0 h.1 p) h.2

module _ (files : Catalog) (sizes : Sizes) (name : ℕ) (es : List (Event × Reply)) (s : State) (ok : IsCatalog sizes files)
    (h : Leads (adopted sizes name files) es s) where
  -- no file is longer than the limit
  pub legal_bounded : AreBounded s
  legal_bounded = leads_keep AreBounded (λ s e r t step b. by_cases s (λ e r t. AreBounded t) (bounded_cases s b) e r t step) _
      es s (λ f. let a = ap (λ (x : File). x.size) (adopted_file sizes name files f) in omega (arith, a, ok.file_sizes f)) h

  -- there are no more files than there may be
  pub legal_few : AreFew s
  legal_few = leads_keep AreFew (λ s e r t step b. by_cases s (λ e r t. AreFew t) (few_cases s b) e r t step) _ es s
      (omega (arith, ok.count, same_count files.sizes)) h

-- all that holds of the state
pub record IsKept (sizes : Sizes) (s : State) : Type 0 where
  pub sound : Sound s
  pub orderly : IsOrderly s
  pub sized : s.sizes ≡ sizes

pub legal_kept : (files : Catalog) (sizes : Sizes) (name : ℕ) (es : List (Event × Reply)) (s : State)
    → IsTrue (is_geometry sizes) → IsCatalog sizes files → Leads (adopted sizes name files) es s → IsKept sizes s
legal_kept files sizes name es s geometry ok h =
    let large = enough_page sizes geometry in
    leads_keep (IsKept sizes) (λ old e r new step k. record {
      sound = steps_stay_sound old new e r step k.sound;
      orderly = by_cases old (λ e r t. IsOrderly t) (orderly_cases old k.sound k.orderly) e r new step;
      sized = (steady old e r new step).sizes ∙ k.sized;
    }) (adopted sizes name files) es s (record {
      sound = histories_are_sound files sizes name [] (adopted sizes name files) ok refl;
      orderly = adopted_orderly sizes name files ok (omega arith);
      sized = refl;
    }) h

-- How long files are, and how many: what is no write and no truncation leaves their lengths, and no step goes past the
-- limits. Of any world.
use Rattle.std.proofs.Common.{◌≡◌, ℕ, ◌+◌, ◌<◌, ◌≤◌, Bool, true, false, cond, eqb, List, [], ◌∷◌, length, get_or, refl}
use Rattle.std.proofs.Common.{ap, sym, subst, ◌∙◌, arith, inl, inr}
use Rattle.std.specs.Prelude.{Option, Some, None, max, slice_set}
use Rattle.std.specs.FinMap as map
use Rattle.std.proofs.lemmas.List.{length-append, length-set, set_past}
use Rattle.pc_types.specs.declared.limits.TheConstants.{MAX_FILES, MAX_FILE_SIZE}
use Rattle.pc_types.specs.declared.ids.HandleId.{HandleId}
use Rattle.machine.specs.declared.event.Event.{Event}
use Rattle.machine.specs.declared.event.Event.TheVariants as event
use Rattle.machine.specs.declared.event.Reply.{Reply}
use Rattle.machine.specs.declared.event.Outcome.{Outcome}
use Rattle.machine.specs.State.{State, File, Request, file_at, handle_file, no_file}
use Rattle.machine.specs.Step.{Step}
use Rattle.machine.proofs.changes.StateLaws.{get_or-set}
use Rattle.machine.proofs.steps.Answered.{IsWrite}
use Rattle.machine.proofs.steps.Cases.{Cases, by_cases}
use Rattle.runs.specs.World.{World, Move, Act, Call, Finish, Ends, WorldStep}
use Rattle.runs.proofs.moments.Histories.{calls}
use Rattle.machine.proofs.sound.Lookups.{get_or-default}
use Rattle.runs.proofs.moments.CoreSteps.{core_cases}
use Rattle.orderly.proofs.FileSteps.{one_same, within}

abbrev size_in : List File → ℕ → ℕ
size_in fs f = (get_or fs f no_file).size

-- ---- no file gets longer than the limit

abbrev pub AreBounded : State → Type 0
AreBounded s = (f : ℕ) → (file_at s f).size ≤ MAX_FILE_SIZE

one_bounded : (fs : List File) → ((f : ℕ) → size_in fs f ≤ MAX_FILE_SIZE) → (f : ℕ) (file : File)
    → file.size ≤ MAX_FILE_SIZE → (g : ℕ) → size_in (slice_set fs f file) g ≤ MAX_FILE_SIZE
one_bounded fs all f file small g = elim (within f (length fs)) [
  | inl here ↦ subst (λ (x : File). x.size ≤ MAX_FILE_SIZE) (sym (get_or-set fs f g file no_file here)) (either (eqb g f))
  | inr past ↦ subst (λ xs. size_in xs g ≤ MAX_FILE_SIZE) (sym (set_past fs f file past)) (all g)
]
  where
    either : (b : Bool) → (cond b file (get_or fs g no_file)).size ≤ MAX_FILE_SIZE
    either true = small
    either false = all g

module _ (s : State) (c : AreBounded s) where
  longest : (a b n : ℕ) → a ≤ n → b ≤ n → max a b ≤ n
  longest a b n h k = omega arith

  -- a file whose size is as it was
  kept : (f : ℕ) (file : File) → file.size ≡ (file_at s f).size → (g : ℕ) → size_in (slice_set s.files f file) g ≤ MAX_FILE_SIZE
  kept f file same = one_bounded s.files c f file (subst (λ n. n ≤ MAX_FILE_SIZE) (sym same) (c f))

  pub bounded_cases : Cases s (λ e r t. AreBounded t)
  bounded_cases = record {
    same = λ e r step quiet. c;
    writes_none = λ e h o is step. c;
    creates = λ f room is g. subst (λ n. n ≤ MAX_FILE_SIZE) (sym (ap (λ (x : File). x.size) (get_or-default s.files no_file g))) (c g);
    opens = λ f h here room low. c;
    closes = λ h there free. c;
    writes = λ e h o b is may. one_bounded s.files c (handle_file s h.0) _ (longest (file_at s (handle_file s h.0)).size (o + length b) MAX_FILE_SIZE (c (handle_file s h.0)) may.small);
    shrinks = λ h z may less. one_bounded s.files c (handle_file s h.0) _ may.small;
    grows = λ h z may more. one_bounded s.files c (handle_file s h.0) _ may.small;
    makes_zeros = λ h p may unwritten. kept (handle_file s h.0) _ refl;
    evicts = λ f p page is idle. kept f.0 _ refl;
    fills = λ h p t may written room next. c;
    flushes = λ f p page t may next. kept f.0 _ refl;
    drops = λ kind end x may dropped. c;
    fill_fails = λ end x code may live went. c;
    fill_ends = λ end x b may live went. kept x.file _ refl;
    flush_fails = λ end x code may live went. kept x.file _ refl;
    flush_ends = λ end x may live went. kept x.file _ refl;
    begins = λ h first last m may low. kept (handle_file s h.0) _ refl;
    starts = λ m y p page t is may next. kept (handle_file s y.handle) _ refl;
    waits = λ m y e p is pick first page. c;
    over = λ m y r is pick first verdict. c;
    sync_drops = λ m y is. c;
  }

pub bounded_stays : (w new : World) (m : Move) → WorldStep w m new → AreBounded w.core → AreBounded new.core
bounded_stays w new m step c = core_cases w new AreBounded c (bounded_cases w.core c) m step

-- ---- no more files than the limit

abbrev pub AreFew : State → Type 0
AreFew s = length s.files ≤ MAX_FILES

one_few : (fs : List File) (f : ℕ) (file : File) → length fs ≤ MAX_FILES → length (slice_set fs f file) ≤ MAX_FILES
one_few fs f file few = subst (λ n. n ≤ MAX_FILES) (sym (length-set fs f file)) few

one_more : (a b m : ℕ) → a ≡ b + 1 → b < m → a ≤ m
one_more a b m e h = omega arith

module _ (s : State) (c : AreFew s) where
  pub few_cases : Cases s (λ e r t. AreFew t)
  few_cases = record {
    same = λ e r step quiet. c;
    writes_none = λ e h o is step. c;
    creates = λ f room is. one_more _ (length s.files) MAX_FILES (length-append s.files (no_file ∷ [])) room;
    opens = λ f h here room low. c;
    closes = λ h there free. c;
    writes = λ e h o b is may. one_few s.files (handle_file s h.0) _ c;
    shrinks = λ h z may less. one_few s.files (handle_file s h.0) _ c;
    grows = λ h z may more. one_few s.files (handle_file s h.0) _ c;
    makes_zeros = λ h p may unwritten. one_few s.files (handle_file s h.0) _ c;
    evicts = λ f p page is idle. one_few s.files f.0 _ c;
    fills = λ h p t may written room next. c;
    flushes = λ f p page t may next. one_few s.files f.0 _ c;
    drops = λ kind end x may dropped. c;
    fill_fails = λ end x code may live went. c;
    fill_ends = λ end x b may live went. one_few s.files x.file _ c;
    flush_fails = λ end x code may live went. one_few s.files x.file _ c;
    flush_ends = λ end x may live went. one_few s.files x.file _ c;
    begins = λ h first last m may low. one_few s.files (handle_file s h.0) _ c;
    starts = λ m y p page t is may next. one_few s.files (handle_file s y.handle) _ c;
    waits = λ m y e p is pick first page. c;
    over = λ m y r is pick first verdict. c;
    sync_drops = λ m y is. c;
  }

pub few_stays : (w new : World) (m : Move) → WorldStep w m new → AreFew w.core → AreFew new.core
few_stays w new m step c = core_cases w new AreFew c (few_cases w.core c) m step

-- ---- what leaves the lengths

abbrev leaves_size : Event → Bool
leaves_size (event.Write h o b) = false
leaves_size (event.Append h b) = false
leaves_size (event.Truncate h z) = false
leaves_size _ = true

abbrev pub leaves_lengths : Move → Bool
leaves_lengths (Act (event.Write h o b) r) = false
leaves_lengths (Act (event.Append h b) r) = false
leaves_lengths (Act (event.Truncate h z) r) = false
leaves_lengths _ = true

abbrev SameLengths : State → State → Type 0
SameLengths s t = (f : ℕ) → (file_at t f).size ≡ (file_at s f).size

record Leaves (s : State) (e : Event) (t : State) : Type 0 where
  pub lengths : leaves_size e ≡ true → SameLengths s t

no_write : (s : State) (e : Event) (h : HandleId) (o : ℕ) (b : List ℕ) → IsWrite s e h o b → leaves_size e ≡ true → ⊥
no_write s e h o b (inl is) k = (let x : false ≡ true = sym (ap leaves_size is) ∙ k in cc)
no_write s e h o b (inr is) k = (let x : false ≡ true = sym (ap leaves_size is.0) ∙ k in cc)

module _ (s : State) where
  one_left : (e : Event) (f : ℕ) (file : File) → file.size ≡ (file_at s f).size → (t : State) → t.files ≡ slice_set s.files f file → Leaves s e t
  one_left e f file same t is = record { lengths = λ _ g. ap (λ fs. size_in fs g) is ∙ one_same (λ (x : File). x.size) s.files f file same g }

  all_left : (e : Event) (t : State) → t.files ≡ s.files → Leaves s e t
  all_left e t is = record { lengths = λ _ g. ap (λ fs. size_in fs g) is }

  lengths_cases : Cases s (λ e r t. Leaves s e t)
  lengths_cases = record {
    same = λ e r step quiet. all_left e s refl;
    writes_none = λ e h o is step. all_left e s refl;
    creates = λ f room is. record { lengths = λ _ g. ap (λ (x : File). x.size) (get_or-default s.files no_file g) };
    opens = λ f h here room low. all_left _ _ refl;
    closes = λ h there free. all_left _ _ refl;
    writes = λ e h o b is may. record { lengths = λ k. absurd (no_write s e h o b is k) };
    shrinks = λ h z may less. record { lengths = λ k. absurd cc };
    grows = λ h z may more. record { lengths = λ k. absurd cc };
    makes_zeros = λ h p may unwritten. one_left _ (handle_file s h.0) _ refl _ refl;
    evicts = λ f p page is idle. one_left _ f.0 _ refl _ refl;
    fills = λ h p t may written room next. all_left _ _ refl;
    flushes = λ f p page t may next. one_left _ f.0 _ refl _ refl;
    drops = λ kind end x may dropped. all_left _ _ refl;
    fill_fails = λ end x code may live went. all_left _ _ refl;
    fill_ends = λ end x b may live went. one_left _ x.file _ refl _ refl;
    flush_fails = λ end x code may live went. one_left _ x.file _ refl _ refl;
    flush_ends = λ end x may live went. one_left _ x.file _ refl _ refl;
    begins = λ h first last m may low. one_left _ (handle_file s h.0) _ refl _ refl;
    starts = λ m y p page t is may next. one_left _ (handle_file s y.handle) _ refl _ refl;
    waits = λ m y e p is pick first page. all_left _ _ refl;
    over = λ m y r is pick first verdict. all_left _ _ refl;
    sync_drops = λ m y is. all_left _ _ refl;
  }

step_lengths : (s new : State) (e : Event) (r : Reply) → leaves_size e ≡ true → Step s e r new → SameLengths s new
step_lengths s new e r k step = (by_cases s (λ e r t. Leaves s e t) (lengths_cases s) e r new step).lengths k

same_leaves : (e : Event) (r : Reply) → leaves_lengths (Act e r) ≡ true → leaves_size e ≡ true
same_leaves (event.Write h o b) r k = absurd cc
same_leaves (event.Append h b) r k = absurd cc
same_leaves (event.Truncate h z) r k = absurd cc
same_leaves _ r k = refl

end_lengths : (w new : World) (t : ℕ) (q : Option Request) (o : Option Outcome) (r : Reply) → Ends w t q o r new → SameLengths w.core new.core
end_lengths w new t (Some x) (Some call) r h = step_lengths w.core new.core (event.End x.kind (record { cache = w.core.name; kind = x.kind; serial = record { 0 = t }; block = record { 0 = x.block }; outcome = call })) r refl h.0
end_lengths w new t (Some x) None r h = absurd h
end_lengths w new t None o r h = absurd h

pub lengths_stay : (w new : World) (m : Move) → leaves_lengths m ≡ true → WorldStep w m new → (f : ℕ) → (file_at new.core f).size ≡ (file_at w.core f).size
lengths_stay w new (Act e r) k h = step_lengths w.core new.core e r (same_leaves e r k) h.1.0
lengths_stay w new (Call t fault effect) k h = λ f. ap (λ s. (file_at s f).size) (calls w new t (map.get w.core.requests t) (map.get w.outcomes t) fault effect h)
lengths_stay w new (Finish t r) k h = end_lengths w new t (map.get w.core.requests t) (map.get w.outcomes t) r h

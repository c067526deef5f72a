-- A file that is whole stays so, step by step, and over a legal history.
use Rattle.std.proofs.Common.{not, ◌≡◌, ℕ, ◌+◌, ◌<◌, ◌≤◌, Bool, true, false, cond, eqb, eqb-true, List, []}
use Rattle.std.proofs.Common.{◌∷◌, ◌++◌, length, refl, ap, sym, subst, ◌∙◌, arith, inl, inr, max, min}
use Rattle.std.specs.Prelude.{nat_lt}
use Rattle.std.proofs.lemmas.Bool.{false≢true}
use Rattle.std.proofs.lemmas.Bool.Decides.{nat_tests}
use Rattle.pc_types.specs.declared.ids.HandleId.{HandleId}
use Rattle.machine.specs.declared.event.Event.{Event}
use Rattle.machine.specs.declared.event.Event.TheVariants as event
use Rattle.machine.specs.declared.event.Reply.{Reply}
use Rattle.machine.specs.declared.event.Reply.TheVariants as reply
use Rattle.machine.specs.Catalogs.{adopted}
use Rattle.machine.specs.Changes.{put_file, shrunk, truncated, written, written_pages}
use Rattle.machine.specs.History.{Leads}
use Rattle.machine.specs.Sound.{Sound}
use Rattle.machine.specs.State.{State, File, file_at, handle_file, page_count}
use Rattle.machine.specs.Step.{Step}
use Rattle.machine.proofs.changes.ChangeLaws.{cut_pages}
use Rattle.machine.proofs.changes.StateLaws.{file_at-here}
use Rattle.machine.proofs.sound.Steps.{histories_are_sound, steps_stay_sound}
use Rattle.machine.proofs.steps.Cases.{happened}
use Rattle.machine.proofs.steps.Passed.{may_truncate}
use Rattle.machine.proofs.steps.Steady.{steady}
use Rattle.contiguous.specs.Contiguous.{IsContiguous, IsHeld}
use Rattle.contiguous.specs.Promises.{Fits, LeavesNoneOut, HistoriesStayContiguous, IsWhole, changes_blocks, left, reached}
use Rattle.contiguous.proofs.Cuts.{truncations_stay_contiguous}
use Rattle.contiguous.proofs.Handles.{FilesAreThere, file_there, none_open, still_there}
use Rattle.contiguous.proofs.Others.{others_size, others_stay_contiguous}
use Rattle.contiguous.proofs.Pages.{end_page, max_pages, pages_grow, pages_to}
use Rattle.contiguous.proofs.Writes.{is_zero_or_more, reached_some, writes_stay_contiguous}
use Rattle.contiguous.proofs.Wrote.{WroteBytes, none_out, wrote_none, wrote_some}

module _ (s : State) (f : ℕ) (there : FilesAreThere s) (ok : Sound s) (pos : 0 < s.sizes.page) (whole : IsWhole s f) where
  abbrev P : ℕ
  P = s.sizes.page

  abbrev z : ℕ
  z = (file_at s f).size

  -- a state of the same page size, whose file has so many pages
  is_whole : (new : State) (m : ℕ) → new.sizes ≡ s.sizes → IsContiguous new f m
      → m ≡ page_count P (file_at new f).size → IsWhole new f
  is_whole new m sizes is count =
      subst (IsContiguous new f) (count ∙ ap (λ k. page_count k.page (file_at new f).size) (sym sizes)) is

  -- ---- a write

  abbrev after_write : ℕ → List ℕ → File
  after_write o b = record (file_at s f) {
    size = max z (o + length b);
    pages = written_pages P o b (file_at s f).pages;
  }

  wrote_whole : (new : State) (e : Event) (count end : ℕ) → Step s e (reply.Wrote count end) new
      → LeavesNoneOut s f (page_count P z) e → IsWhole new f
  wrote_whole new e count end step fits =
      is_whole new (reached P (page_count P z) count end) (steady s e (reply.Wrote count end) new step).sizes
      (writes_stay_contiguous s new f (page_count P z) count end e step fits whole)
      (elim (is_zero_or_more count) [
        | inl k ↦ ap (λ c. reached P (page_count P z) c end) k
            ∙ ap (λ x. page_count P (file_at x f).size)
            (sym (wrote_none s e end new (subst (λ c. Step s e (reply.Wrote c end) new) k step)))
        | inr l ↦ some (wrote_some s e count end new step l) l
      ])
    where
      some : WroteBytes s e count end new → 0 < count
          → reached P (page_count P z) count end ≡ page_count P (file_at new f).size
      some w l =
          let of = (none_out s f (page_count P z) e w.handle w.at w.bytes w.is fits).0 in
          let bytes : 0 < length w.bytes = w.may.some in
          let ends = w.ends in
          reached_some P (page_count P z) count end l
          ∙ ap (max (page_count P z)) (pages_to P end pos (let h : 0 < end = omega arith in h)
          ∙ ap (page_count P) ends)
          ∙ max_pages P z (w.at + length w.bytes) pos
          ∙ ap (page_count P) (sym (ap (λ x. (file_at x f).size) (w.becomes ∙ ap (λ g. written s g w.at w.bytes) of)
          ∙ ap (λ (x : File). x.size) (file_at-here s f (after_write w.at w.bytes)
          (subst (λ g. g < length s.files) of (file_there s there w.handle.0 w.may.opened)))))

  -- ---- a truncation

  abbrev cut_file : ℕ → File
  cut_file y = record (file_at s f) { size = y; pages = cut_pages s f y }

  cut_size : (y : ℕ) → f < length s.files → (file_at (truncated s f y) f).size ≡ y
  cut_size y here = go (nat_lt y z)
    where
      go : (b : Bool) → (file_at (cond b (shrunk s f y) (put_file s f (record (file_at s f) { size = y }))) f).size ≡ y
      go true = ap (λ (x : File). x.size) (file_at-here s f (cut_file y) here)
      go false = ap (λ (x : File). x.size) (file_at-here s f (record (file_at s f) { size = y }) here)

  left_is : (y : ℕ) → page_count P y ≤ page_count P z → left s f (page_count P z) y ≡ page_count P y
  left_is y h = go (nat_lt y z) refl
    where
      go : (b : Bool) → nat_lt y z ≡ b → cond b (min (page_count P z) (page_count P y)) (page_count P z) ≡ page_count P y
      go true e = omega arith
      go false e = let longer : z ≤ y = grind (arith, nat_tests) in let more = pages_grow P z y pos longer in omega arith

  cut_whole : (new : State) (h : HandleId) (y : ℕ) → Step s (event.Truncate h y) reply.Done new → handle_file s h.0 ≡ f
      → page_count P y ≤ page_count P z → ((b : ℕ) → IsHeld s b → b < page_count P y) → IsWhole new f
  cut_whole new h y step of fewer held =
      let it = happened s (event.Truncate h y) reply.Done new step refl (λ k o e. absurd cc) in
      let here = subst (λ g. g < length s.files) of (file_there s there h.0 (may_truncate s h y it.untested).opened) in
      is_whole new (left s f (page_count P z) y) (steady s (event.Truncate h y) reply.Done new step).sizes
      (truncations_stay_contiguous s new f (page_count P z) h y step of whole
      (λ b k. subst (λ m. b < m) (sym (left_is y fewer)) (held b k)))
      (left_is y fewer ∙ ap (page_count P) (sym (ap (λ x. (file_at x f).size) (it.is ∙ ap (λ g. truncated s g y) of)
      ∙ cut_size y here)))

  -- ---- each event

  some : (count : ℕ) → not (eqb count 0) ≡ true → 0 < count
  some count t = grind (arith, nat_tests)

  changed_whole : (e : Event) (r : Reply) (new : State) → changes_blocks s f e r ≡ true → Step s e r new → Fits f s e r
      → IsWhole new f
  changed_whole (event.Write h o b) (reply.Wrote count end) new t step fits =
      wrote_whole new (event.Write h o b) count end step (fits (some count t))
  changed_whole (event.Append h b) (reply.Wrote count end) new t step fits =
      wrote_whole new (event.Append h b) count end step (fits (some count t), end_page P z pos)
  changed_whole (event.Truncate h y) reply.Done new t step fits =
      let of : handle_file s h.0 ≡ f = eqb-true (handle_file s h.0) f t in
      let may = fits of in cut_whole new h y step of may.0 may.1
  changed_whole e r new t step fits = absurd (false≢true t)

  pub stays_whole : (e : Event) (r : Reply) (new : State) → Step s e r new → Fits f s e r → IsWhole new f
  stays_whole e r new step fits = go (changes_blocks s f e r) refl
    where
      go : (b : Bool) → changes_blocks s f e r ≡ b → IsWhole new f
      go true t = changed_whole e r new t step fits
      go false t = is_whole new (page_count P z) (steady s e r new step).sizes
          (others_stay_contiguous s new f (page_count P z) e r step t ok whole)
          (ap (page_count P) (sym (others_size s ok f (page_count P z) whole.extent e r new step t)))

-- ---- a history

leads_whole : (f : ℕ) (old : State) (es : List (Event × Reply)) (new : State) → FilesAreThere old → Sound old
    → 0 < old.sizes.page → IsWhole old f → Leads old es new
    → ((before after : List (Event × Reply)) (e : Event × Reply) (s : State) → es ≡ before ++ e ∷ after
    → Leads old before s → Fits f s e.0 e.1) → IsWhole new f
leads_whole f old [] new there ok pos whole leads fits = subst (λ s. IsWhole s f) (sym leads) whole
leads_whole f old (e ∷ es) new there ok pos whole leads fits =
    leads_whole f leads.0 es new (still_there old there e.0 e.1 leads.0 leads.1)
    (steps_stay_sound old leads.0 e.0 e.1 leads.1 ok)
    (subst (λ k. 0 < k.page) (sym (steady old e.0 e.1 leads.0 leads.1).sizes) pos)
    (stays_whole old f there ok pos whole e.0 e.1 leads.0 leads.1 (fits [] es e old refl refl)) leads.2
    (λ before after d s is l. fits (e ∷ before) after d s (ap (λ xs. e ∷ xs) is) (leads.0, leads.1, l))

pub histories_stay_contiguous : HistoriesStayContiguous
histories_stay_contiguous catalog sizes name f es new pos is whole leads fits =
    leads_whole f (adopted sizes name catalog) es new (none_open sizes name catalog)
    (histories_are_sound catalog sizes name [] (adopted sizes name catalog) is refl) pos whole leads fits

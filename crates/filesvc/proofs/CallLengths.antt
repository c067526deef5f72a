-- How long files are after an event of a call.
use Rattle.std.proofs.Common.{◌≡◌, ℕ, ◌+◌, ◌<◌, Bool, true, false, cond, not, eqb, eqb-true, List, []}
use Rattle.std.proofs.Common.{length, max, refl, ap, sym, subst, ◌∙◌, arith, inl, inr}
use Rattle.std.specs.Prelude.{◌&&◌, Option, Some, None, nat_lt, unwrap_or}
use Rattle.std.specs.FinMap as finmap
use Rattle.pc_types.specs.declared.ids.HandleId.{HandleId}
use Rattle.pc_types.specs.declared.refusal.Refusal.TheVariants.{BadHandle, TooLong}
use Rattle.machine.specs.declared.event.Event.{Event}
use Rattle.machine.specs.declared.event.Event.TheVariants as event
use Rattle.machine.specs.declared.event.Reply.{Reply}
use Rattle.machine.specs.declared.event.Reply.TheVariants as reply
use Rattle.machine.specs.State.{State, File, file_at, handle_file, is_open, touched_count}
use Rattle.machine.specs.Tests.{read_count, read_stop, stopped, tests}
use Rattle.machine.proofs.changes.ChangeLaws.{length-bytes_at}
use Rattle.pc_types.specs.declared.limits.TheConstants.{MAX_TOUCHED}
use Rattle.machine.specs.Changes.{put_file, written}
use Rattle.machine.proofs.steps.Passed.{MayWrite}
use Rattle.std.proofs.lemmas.Bool.Decides.{nat_tests}
use Rattle.machine.specs.Step.{Step}
use Rattle.machine.proofs.changes.StateLaws.{file_at-put}
use Rattle.machine.proofs.steps.Answered.{IsWrite, is_quiet, stopped_quiet}
use Rattle.machine.proofs.steps.Cases.{Cases, answered, by_cases}
use Rattle.orderly.specs.Orderly.{IsOrderly}
use Rattle.filesvc.specs.Service.{length_after}
use Rattle.filesvc.proofs.CallSteps.{is_call}

-- a reply that changes nothing changes no length
pub quiet_length : (s : State) (e : Event) (r : Reply) (f : ℕ) → is_quiet r ≡ true
    → length_after s e r f ≡ (file_at s f).size
quiet_length s (event.Write h o b) (reply.Wrote n end) f q = absurd cc
quiet_length s (event.Append h b) (reply.Wrote n end) f q = absurd cc
quiet_length s (event.Truncate h z) reply.Done f q = absurd cc
quiet_length s e r f q = refl

record Sized (s : State) (e : Event) (r : Reply) (new : State) : Type 0 where
  pub at : is_call e ≡ true → (f : ℕ) → (file_at new f).size ≡ length_after s e r f

no_bytes : (b : Bool) (x y : ℕ) → cond (b && false) x y ≡ y
no_bytes true x y = refl
no_bytes false x y = refl

turned : (a b : ℕ) → eqb a b ≡ eqb b a
turned a b = grind (arith, nat_tests)

some_bytes : (n : ℕ) → 0 < n → eqb n 0 ≡ false
some_bytes n l = grind (arith, nat_tests)

module _ (s : State) (o : IsOrderly s) where
  none : (e : Event) (h : HandleId) (off : ℕ) → IsWrite s e h off [] → Sized s e (reply.Wrote 0 off) s
  none e h off (inl is) =
      subst (λ e. Sized s e (reply.Wrote 0 off) s) (sym is)
      (record { at = λ _ f. sym (no_bytes (eqb (handle_file s h.0) f) _ _) })
  none e h off (inr is) =
      subst (λ e. Sized s e (reply.Wrote 0 off) s) (sym is.0)
      (record { at = λ _ f. sym (no_bytes (eqb (handle_file s h.0) f) _ _) })

  -- a file changes
  put_size : (g : ℕ) (file : File) → g < length s.files → (z f : ℕ) → (g ≡ f → file.size ≡ z)
      → (file_at (record s { files = (put_file s g file).files }) f).size ≡ cond (eqb g f) z (file_at s f).size
  put_size g file here z f same = ap (λ (x : File). x.size) (file_at-put s g f file here) ∙ by (eqb g f) refl
    where
      by : (b : Bool) → eqb g f ≡ b → (cond (eqb f g) file (file_at s f)).size ≡ cond b z (file_at s f).size
      by true e = ap (λ b. (cond b file (file_at s f)).size) (turned f g ∙ e) ∙ same (eqb-true g f e)
      by false e = ap (λ b. (cond b file (file_at s f)).size) (turned f g ∙ e)

  wrote : (h : HandleId) (off : ℕ) (b : List ℕ) (f : ℕ) → MayWrite s h.0 off (length b)
      → (file_at (written s (handle_file s h.0) off b) f).size
      ≡ cond (eqb (handle_file s h.0) f && not (eqb (length b) 0)) (max (file_at s f).size (off + length b))
      (file_at s f).size
  wrote h off b f may =
      put_size (handle_file s h.0) _ (o.handles h.0 may.opened) (max (file_at s f).size (off + length b)) f
      (λ e. ap (λ g. max (file_at s g).size (off + length b)) e)
      ∙ ap (λ k. cond k (max (file_at s f).size (off + length b)) (file_at s f).size)
      (both (eqb (handle_file s h.0) f) (some_bytes (length b) may.some))
    where
      both : (a : Bool) → eqb (length b) 0 ≡ false → a ≡ (a && not (eqb (length b) 0))
      both true e = sym (ap not e)
      both false e = refl

  sized_cases : Cases s (Sized s)
  sized_cases = record {
    same = λ e r step quiet. record { at = λ _ f. sym (quiet_length s e r f quiet) };
    writes_none = λ e h off is step. none e h off is;
    creates = λ f room is. record { at = λ k. absurd cc };
    opens = λ f h here room low. record { at = λ k. absurd cc };
    closes = λ h there free. record { at = λ k. absurd cc };
    writes = λ e h off b is may. elim is [
      | inl a ↦ subst (λ e. Sized s e (reply.Wrote (length b) (off + length b)) (written s (handle_file s h.0) off b))
          (sym a) (record { at = λ _ f. wrote h off b f may })
      | inr a ↦ subst (λ e. Sized s e (reply.Wrote (length b) (off + length b)) (written s (handle_file s h.0) off b))
          (sym a.0) (record { at = λ _ f. wrote h off b f may })
    ];
    shrinks = λ h z may less. record
        { at = λ _ f. put_size (handle_file s h.0) _ (o.handles h.0 may.opened) z f (λ _. refl) };
    grows = λ h z may more. record
        { at = λ _ f. put_size (handle_file s h.0) _ (o.handles h.0 may.opened) z f (λ _. refl) };
    makes_zeros = λ h p may unwritten. record { at = λ k. absurd cc };
    evicts = λ f p page is idle. record { at = λ k. absurd cc };
    fills = λ h p t may written room next. record { at = λ k. absurd cc };
    flushes = λ f p page t may next. record { at = λ k. absurd cc };
    drops = λ kind end x may dropped. record { at = λ k. absurd cc };
    fill_fails = λ end x code may live went. record { at = λ k. absurd cc };
    fill_ends = λ end x b may live went. record { at = λ k. absurd cc };
    flush_fails = λ end x code may live went. record { at = λ k. absurd cc };
    flush_ends = λ end x may live went. record { at = λ k. absurd cc };
    begins = λ h first last m may low. record { at = λ k. absurd cc };
    starts = λ m y p page t is may next. record { at = λ k. absurd cc };
    waits = λ m y e p is pick first page. record { at = λ k. absurd cc };
    over = λ m y r is pick first verdict. record { at = λ k. absurd cc };
    sync_drops = λ m y is. record { at = λ k. absurd cc };
  }

  pub step_length : (e : Event) (r : Reply) (new : State) → is_call e ≡ true → Step s e r new → (f : ℕ)
      → (file_at new f).size ≡ length_after s e r f
  step_length e r new call step = (by_cases s (Sized s) sized_cases e r new step).at call

-- with the same handles, and files as long
pub length_kept : (s t : State) → t.handles ≡ s.handles → ((f : ℕ) → (file_at t f).size ≡ (file_at s f).size)
    → (e : Event) (r : Reply) (f : ℕ)
    → length_after t e r f ≡ length_after s e r f
length_kept s t handles same (event.Write h o b) (reply.Wrote n end) f =
    λ i. cond (eqb (unwrap_or (finmap.get (handles i) h.0) 0) f && not (eqb n 0)) (max (same f i) end) (same f i)
length_kept s t handles same (event.Append h b) (reply.Wrote n end) f =
    λ i. cond (eqb (unwrap_or (finmap.get (handles i) h.0) 0) f && not (eqb n 0)) (max (same f i) end) (same f i)
length_kept s t handles same (event.Truncate h z) reply.Done f =
    λ i. cond (eqb (unwrap_or (finmap.get (handles i) h.0) 0) f) z (same f i)
length_kept s t handles same e r f = same f

-- a read answers all bytes up to the end of the file
pub read_all : (s new : State) (h : HandleId) (o n : ℕ) (bytes : List ℕ)
    → Step s (event.Read h o n) (reply.Bytes bytes) new
    → length bytes ≡ read_count s (handle_file s h.0) o n
read_all s new h o n bytes step =
    let f = handle_file s h.0 in
    elim (answered (tests s (event.Read h o n)) s (event.Read h o n) (reply.Bytes bytes) new step) [
      | inl a ↦ by (is_open s h.0) (eqb (read_count s f o n) 0) refl
          (nat_lt MAX_TOUCHED (touched_count s.sizes.page o (read_count s f o n)))
          (read_stop s f o (read_count s f o n)) a.0
      | inr a ↦ ap length a.1 ∙ length-bytes_at s f o (read_count s f o n)
    ]
  where
    none : (b : List ℕ) (k : ℕ) → Some (reply.Bytes []) ≡ Some (reply.Bytes b) → eqb k 0 ≡ true → length b ≡ k
    none b k e z = (let same : [] ≡ b = cc in let y = eqb-true k 0 z in ap length (sym same) ∙ sym y)

    by : (a b : Bool) → eqb (read_count s (handle_file s h.0) o n) 0 ≡ b → (c : Bool) (p : Option ℕ)
        → cond (not a) (Some (reply.Refused BadHandle))
        (cond b (Some (reply.Bytes [])) (cond c (Some (reply.Refused TooLong)) (stopped s (handle_file s h.0) p))) ≡
        Some (reply.Bytes bytes)
        → length bytes ≡ read_count s (handle_file s h.0) o n
    by false b z c p e = absurd cc
    by true true z c p e = none bytes _ e z
    by true false z true p e = absurd cc
    by true false z false None e = absurd cc
    by true false z false (Some p) e =
        absurd (stopped_quiet (λ r. r ≡ reply.Bytes bytes → ⊥) s (handle_file s h.0) (Some p) (λ q x. cc) (λ q x. cc)
        (reply.Bytes bytes) e refl)

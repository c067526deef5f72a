-- What a step did that answers a write.
use Rattle.std.proofs.Common.{◌≡◌, ℕ, ◌+◌, ◌/◌, ◌<◌, ◌≤◌}
use Rattle.std.proofs.Common.{List, length, refl, ap, sym, subst, ◌∙◌, arith, inl, inr}
use Rattle.pc_types.specs.declared.ids.HandleId.{HandleId}
use Rattle.machine.specs.declared.event.Event.{Event}
use Rattle.machine.specs.declared.event.Reply.{Reply}
use Rattle.machine.specs.declared.event.Reply.TheVariants as reply
use Rattle.machine.specs.State.{State, file_at, handle_file}
use Rattle.machine.specs.Changes.{written}
use Rattle.machine.specs.Step.{Step}
use Rattle.machine.proofs.steps.Answered.{IsWrite}
use Rattle.machine.proofs.steps.Cases.{Cases, IsVerdict, by_cases}
use Rattle.machine.proofs.steps.Passed.{MayWrite}
use Rattle.contiguous.specs.Promises.{LeavesNoneOut}

-- what a write of bytes did
pub record WroteBytes (s : State) (e : Event) (count end : ℕ) (new : State) : Type 0 where
  pub handle : HandleId
  pub at : ℕ
  pub bytes : List ℕ
  pub is : IsWrite s e handle at bytes
  pub may : MayWrite s handle.0 at (length bytes)
  pub counts : count ≡ length bytes
  pub ends : end ≡ at + length bytes
  pub becomes : new ≡ written s (handle_file s handle.0) at bytes

module _ (s : State) where
  record Wrote (e : Event) (r : Reply) (new : State) : Type 0 where
    pub none : (end : ℕ) → r ≡ reply.Wrote 0 end → new ≡ s
    pub some : (count end : ℕ) → r ≡ reply.Wrote count end → 0 < count → WroteBytes s e count end new

  -- the reply is another
  other : (e : Event) (r : Reply) (new : State) → ((count end : ℕ) → r ≡ reply.Wrote count end → ⊥) → Wrote e r new
  other e r new never =
      record { none = λ end k. absurd (never 0 end k); some = λ count end k l. absurd (never count end k) }

  cases : Cases s Wrote
  cases = record {
    same = λ e r step quiet. other e r s (λ count end k. absurd cc);
    writes_none = λ e h o w step. record {
      none = λ end k. refl;
      some = λ count end k l. absurd (let same : 0 ≡ count = cc in omega arith);
    };
    creates = λ g room at. other _ _ _ (λ count end k. absurd cc);
    opens = λ g h in_files room low. other _ _ _ (λ count end k. absurd cc);
    closes = λ h opened free. other _ _ _ (λ count end k. absurd cc);
    writes = λ e h o b w may. record {
      none = λ end k. absurd (let same : length b ≡ 0 = cc in let some = may.some in omega arith);
      some = λ count end k l. record {
        handle = h;
        at = o;
        bytes = b;
        is = w;
        may = may;
        counts = let same : length b ≡ count = cc in sym same;
        ends = let same : o + length b ≡ end = cc in sym same;
        becomes = refl;
      };
    };
    shrinks = λ h z may less. other _ _ _ (λ count end k. absurd cc);
    grows = λ h z may more. other _ _ _ (λ count end k. absurd cc);
    makes_zeros = λ h p may unwritten. other _ _ _ (λ count end k. absurd cc);
    evicts = λ g p page at idle. other _ _ _ (λ count end k. absurd cc);
    fills = λ h p t may written full given. other _ _ _ (λ count end k. absurd cc);
    flushes = λ g p page t may given. other _ _ _ (λ count end k. absurd cc);
    drops = λ kind end x may dropped. other _ _ _ (λ count end k. absurd cc);
    fill_fails = λ end x c may live out. other _ _ _ (λ count end k. absurd cc);
    fill_ends = λ end x b may live out. other _ _ _ (λ count end k. absurd cc);
    flush_fails = λ end x c may live out. other _ _ _ (λ count end k. absurd cc);
    flush_ends = λ end x may live out. other _ _ _ (λ count end k. absurd cc);
    begins = λ h first last m may low. other _ _ _ (λ count end k. absurd cc);
    starts = λ m y p page t at may given. other _ _ _ (λ count end k. absurd cc);
    waits = λ m y e p at pick first page. other _ _ _ (λ count end k. absurd cc);
    over = λ m y r at pick first verdict. other _ r _ (λ count end k. subst (IsVerdict s y) k verdict);
    sync_drops = λ m y at. other _ _ _ (λ count end k. absurd cc);
  }

  wrote : (e : Event) (r : Reply) (new : State) → Step s e r new → Wrote e r new
  wrote e r new step = by_cases s Wrote cases e r new step

  pub wrote_none : (e : Event) (end : ℕ) (new : State) → Step s e (reply.Wrote 0 end) new → new ≡ s
  wrote_none e end new step = (wrote e (reply.Wrote 0 end) new step).none end refl

  pub wrote_some : (e : Event) (count end : ℕ) (new : State) → Step s e (reply.Wrote count end) new → 0 < count
      → WroteBytes s e count end new
  wrote_some e count end new step some = (wrote e (reply.Wrote count end) new step).some count end refl some

-- the first page that is touched
pub none_out : (s : State) (f n : ℕ) (e : Event) (h : HandleId) (o : ℕ) (b : List ℕ) → IsWrite s e h o b
    → LeavesNoneOut s f n e → (handle_file s h.0 ≡ f) × (o / s.sizes.page ≤ n)
none_out s f n e h o b w fits = elim w [
  | inl a ↦ subst (LeavesNoneOut s f n) a fits
  | inr a ↦ (let it = subst (LeavesNoneOut s f n) a.0 fits in (
    it.0,
    subst (λ k. k / s.sizes.page ≤ n) (sym (a.1 ∙ ap (λ g. (file_at s g).size) it.0)) it.1,
  ))
]

pub out_of_none : (s : State) (f n : ℕ) (e : Event) (h : HandleId) (o : ℕ) (b : List ℕ) → IsWrite s e h o b
    → handle_file s h.0 ≡ f → o / s.sizes.page ≤ n → LeavesNoneOut s f n e
out_of_none s f n e h o b w of first = elim w [
  | inl a ↦ subst (LeavesNoneOut s f n) (sym a) (of, first)
  | inr a ↦ subst (LeavesNoneOut s f n) (sym a.0)
      (of, subst (λ k. k / s.sizes.page ≤ n) (a.1 ∙ ap (λ g. (file_at s g).size) of) first)
]

-- What a call of the device behind is, as a call of the window.
use Rattle.std.proofs.Common.{◌≡◌, ◌∙◌, sym, ap, subst, refl, ℕ, ◌+◌, ◌<◌, ◌≤◌, ◌⊎◌, inl, inr, List, Option, Some, None, option_map, IfSome, Ok, Err, OnErr}
use Rattle.std.proofs.lemmas.Bool.{cases_lt}
use Rattle.std.proofs.lemmas.Result.{on_ok_weaker}
use Rattle.blockdev.specs.declared.fault.Fault.{Fault}
use Rattle.blockdev.specs.declared.fault.FaultEffect.{FaultEffect}
use Rattle.blockdev.specs.declared.fault.FaultEffect.TheVariants.{Old, New}
use Rattle.blockdev.specs.Blocks.{block_at}
use Rattle.blockdev.specs.Device.{Told, Outcome, Settles, Calls, Reads, Writes, Flushes, told_at, with_block, left_by, kept, next_fault}
use Rattle.window.specs.Windows.{slice_of, window_of}
use Rattle.window.proofs.Slices.{told_in, told_past, with_in, block_in}

abbrev pub Contents : Type 0
Contents = Option (List (List ℕ))

pub on_err_weaker : (r : Outcome) {P Q : Type 0} → (P → Q) → OnErr r P → OnErr r Q
on_err_weaker (Ok u) f p = p
on_err_weaker (Err e) f p = f p

-- one of three, with both sides changed
pub settled : (at to : Contents → Option (Option (List ℕ))) (had was holds now : Contents)
    → ((at now ≡ at had) ⊎ ((at now ≡ at was) ⊎ (at now ≡ at holds)))
    → ((x y : Contents) → at x ≡ at y → to x ≡ to y)
    → (to now ≡ to had) ⊎ ((to now ≡ to was) ⊎ (to now ≡ to holds))
settled at to had was holds now s f = elim s [
  | inl a ↦ inl (f now had a)
  | inr b ↦ elim b [ inl a ↦ inr (inl (f now was a)) | inr a ↦ inr (inr (f now holds a)) ]
]

-- block b of a window, as it is told
abbrev at_in : ℕ → ℕ → ℕ → Contents → Option (Option (List ℕ))
at_in f c b d = told_at (option_map (slice_of f c) d) b

settles_at : (f c : ℕ) (old new : Told) → Settles old new → (b : ℕ) → (b < c) ⊎ (c ≤ b)
    → (at_in f c b new.durable ≡ at_in f c b old.durable)
    ⊎ ((at_in f c b new.durable ≡ at_in f c b old.contents) ⊎ (at_in f c b new.durable ≡ at_in f c b new.contents))
settles_at f c old new s b (inl h) =
    settled (λ d. told_at d (f + b)) (at_in f c b) old.durable old.contents new.contents new.durable (s (f + b))
    (λ x y e. told_in f c x b h ∙ e ∙ sym (told_in f c y b h))
settles_at f c old new s b (inr h) =
    settled (λ d. told_at d b) (at_in f c b) old.durable old.contents new.contents new.durable (s b)
    (λ x y e. told_past f c x b h ∙ ap (option_map (λ (x : Option (List ℕ)). None)) e ∙ sym (told_past f c y b h))

pub settles_in : (f c : ℕ) (old new : Told) → Settles old new → Settles (window_of f c old) (window_of f c new)
settles_in f c old new s b = settles_at f c old new s b (cases_lt b c)

pub calls_in : (f c : ℕ) (old : Told) (r : Outcome) (new : Told) → Calls old r new → Calls (window_of f c old) r (window_of f c new)
calls_in f c old r new k = record {
  size = k.size;
  count = refl;
  durable = settles_in f c old new k.durable;
  flush_plan = k.flush_plan;
  flushes = k.flushes;
  calls = k.calls;
  well = k.well;
  faults = k.faults;
  planned = k.planned;
  plan = k.plan;
  exhausted = λ e. ((k.exhausted e).0, ap (window_of f c) (k.exhausted e).1);
}

bytes_in : (f c : ℕ) (d : Contents) (b : ℕ) (after : List ℕ) → b < c → IfSome d (λ blocks. after ≡ block_at blocks (f + b)) → IfSome (option_map (slice_of f c) d) (λ blocks. after ≡ block_at blocks b)
bytes_in f c None b after h e = e
bytes_in f c (Some xs) b after h e = e ∙ block_in f c xs b h

reads_in : (f c : ℕ) (old : Told) (b : ℕ) (before : List ℕ) (r : Outcome) (after : List ℕ) (new : Told) → b < c → Reads old (f + b) before r after new → Reads (window_of f c old) b before r after (window_of f c new)
reads_in f c old b before r after new h k = record {
  call = calls_in f c old r new k.call;
  contents = ap (option_map (slice_of f c)) k.contents;
  bytes = on_ok_weaker r (bytes_in f c old.contents b after h) k.bytes;
  failed = k.failed;
}

pub reads_at : (f c : ℕ) (old : Told) (p b : ℕ) (before : List ℕ) (r : Outcome) (after : List ℕ) (new : Told) → p ≡ f + b → b < c → Reads old p before r after new → Reads (window_of f c old) b before r after (window_of f c new)
reads_at f c old p b before r after new e h k =
    let P : ℕ → Type 0 = λ n. Reads old n before r after new in
    reads_in f c old b before r after new h (subst P e k)

left_in : (f c : ℕ) (fault : Option Fault) (was written : Contents) → option_map (slice_of f c) (left_by fault was written) ≡ left_by fault (option_map (slice_of f c) was) (option_map (slice_of f c) written)
left_in f c None was written = refl
left_in f c (Some fault) was written = by_effect fault.effect where
  by_effect : (e : FaultEffect) → option_map (slice_of f c) (kept e was written) ≡ kept e (option_map (slice_of f c) was) (option_map (slice_of f c) written)
  by_effect Old = refl
  by_effect New = refl

effect_in : (f c : ℕ) (plan : Option (List (Option Fault))) (was written now there : Contents) → option_map (slice_of f c) written ≡ there
    → IfSome plan (λ plan. now ≡ left_by (next_fault plan) was written)
    → IfSome plan (λ plan. option_map (slice_of f c) now ≡ left_by (next_fault plan) (option_map (slice_of f c) was) there)
effect_in f c None was written now there e k = k
effect_in f c (Some plan) was written now there e k =
    ap (option_map (slice_of f c)) k ∙ left_in f c (next_fault plan) was written
    ∙ ap (left_by (next_fault plan) (option_map (slice_of f c) was)) e

writes_in : (f c : ℕ) (old : Told) (b : ℕ) (bytes : List ℕ) (r : Outcome) (new : Told) → b < c → Writes old (f + b) bytes r new → Writes (window_of f c old) b bytes r (window_of f c new)
writes_in f c old b bytes r new h k =
    let cut : Contents → Contents = option_map (slice_of f c) in
    let there = with_in f c old.contents b bytes h in
    record {
      call = calls_in f c old r new k.call;
      written = on_ok_weaker r (λ e. ap cut e ∙ there) k.written;
      whole = on_err_weaker r (λ e. elim e [ inl same ↦ inl (ap cut same) | inr done ↦ inr (ap cut done ∙ there) ]) k.whole;
      effect = λ l. effect_in f c old.plan old.contents (with_block old.contents (f + b) bytes) new.contents (with_block (cut old.contents) b bytes) there (k.effect l);
    }

pub writes_at : (f c : ℕ) (old : Told) (p b : ℕ) (bytes : List ℕ) (r : Outcome) (new : Told) → p ≡ f + b → b < c → Writes old p bytes r new → Writes (window_of f c old) b bytes r (window_of f c new)
writes_at f c old p b bytes r new e h k =
    let P : ℕ → Type 0 = λ n. Writes old n bytes r new in
    writes_in f c old b bytes r new h (subst P e k)

pub flushes_in : (f c : ℕ) (old : Told) (r : Outcome) (new : Told) → Flushes old r new → Flushes (window_of f c old) r (window_of f c new)
flushes_in f c old r new k = record {
  same = ap (window_of f c) k.same;
  durable = on_ok_weaker r (λ e. ap (option_map (slice_of f c)) e) k.durable;
  failed = on_err_weaker r (settles_in f c old new) k.failed;
  flushes = k.flushes;
  well = k.well;
  faults = k.faults;
  planned = k.planned;
  plan = k.plan;
  exhausted = λ e. ((k.exhausted e).0, ap (window_of f c) (k.exhausted e).1);
}

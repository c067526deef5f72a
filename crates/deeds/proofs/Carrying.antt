-- What a device call leaves of its block, by what the device tells before and after.
use Rattle.std.proofs.Common.{◌≡◌, ℕ, zero, suc, ◌+◌, Bool, List, [], ◌∷◌, refl, ap, sym, ◌∙◌, subst, inl, inr, ⊎_elim}
use Rattle.std.specs.Prelude.{slice_get, slice_set, Some, IfSome, Ok, Err}
use Rattle.std.proofs.lemmas.Option.{none-some, same_Some}
use Rattle.pc_types.specs.declared.kind.Kind.{Kind}
use Rattle.pc_types.specs.declared.kind.Kind.TheVariants.{Fill, Flush}
use Rattle.atomic_table.specs.Table.{Me}
use Rattle.blockdev.specs.Blocks.{block_at}
use Rattle.blockdev.specs.Device.{Outcome, Told, with_block}
use Rattle.blockdev.specs.Jobs.{Task, FinishedTask, Transfers}
use Rattle.blockdev.specs.Watching.{Watch, Makes}
use Rattle.deeds.specs.declared.views.Block.{Block}
use Rattle.deeds.specs.declared.views.Given.{Given}
use Rattle.deeds.specs.declared.views.View.{View}
use Rattle.deeds.specs.Comes.{Comes, Leaves}
use Rattle.deeds.specs.Shown.{AreTold, bytes_of, calls_of, told_at}
use Rattle.deeds.specs.Steps.{IsDevice}
use Rattle.deeds.specs.Views.{device_in}
use Rattle.deeds.proofs.Counts.{calls_set, contents_at, contents_set}
use Rattle.deeds.proofs.Lists.{set_here}

get_there : (blocks : List (List ℕ)) (k : ℕ) (b : List ℕ) → slice_get blocks k ≡ Some b → block_at blocks k ≡ b
get_there [] k b e = absurd (none-some b e)
get_there (x ∷ xs) zero b e = same_Some x b e
get_there (x ∷ xs) (suc k) b e = get_there xs k b e

set_same : (blocks : List (List ℕ)) (k : ℕ) (b : List ℕ) → slice_get blocks k ≡ Some b → slice_set blocks k b ≡ blocks
set_same [] k b e = refl
set_same (x ∷ xs) zero b e = λ i. sym (same_Some x b e) i ∷ xs
set_same (x ∷ xs) (suc k) b e = λ i. x ∷ set_same xs k b e i

module _ (old new : Told) (k : ℕ) (buffer : List ℕ) (after : List ℕ) (blocks : List (List ℕ)) (b : List ℕ)
    (tells : old.contents ≡ Some blocks) (at : slice_get blocks k ≡ Some b) where
  abbrev left : List ℕ
  left = told_at new.contents k

  -- the block is as it was
  stayed : new.contents ≡ old.contents → left ≡ b
  stayed e = ap (λ o. told_at o k) (e ∙ tells) ∙ get_there blocks k b at

  -- or has the bytes of the buffer
  wrote : new.contents ≡ with_block old.contents k buffer → left ≡ buffer
  wrote e = ap (λ o. told_at o k) (e ∙ ap (λ o. with_block o k buffer) tells)
      ∙ get_there (slice_set blocks k buffer) k buffer (set_here blocks k buffer b at)

  pub leaves_by : (kind : Kind) (r : Outcome) → Transfers kind old k buffer r after new → Leaves kind b buffer r after left
  leaves_by Fill (Ok u) t = (
    stayed t.contents,
    subst (λ o. IfSome o (λ bs. after ≡ block_at bs k)) tells t.bytes ∙ get_there blocks k b at,
    tt,
  )
  leaves_by Fill (Err c) t = (stayed t.contents, tt, t.failed)
  leaves_by Flush (Ok u) t = (t.1, wrote t.0.written, tt)
  leaves_by Flush (Err c) t = (t.1, tt, ⊎_elim (λ e. inl (stayed e)) (λ e. inr (wrote e)) t.0.whole)

  kept : new.contents ≡ old.contents → new.contents ≡ Some (slice_set blocks k left)
  kept e = e ∙ tells ∙ ap Some (sym (set_same blocks k b at) ∙ ap (slice_set blocks k) (sym (stayed e)))

  changed : new.contents ≡ with_block old.contents k buffer → new.contents ≡ Some (slice_set blocks k left)
  changed e = e ∙ ap (λ o. with_block o k buffer) tells ∙ ap (λ x. Some (slice_set blocks k x)) (sym (wrote e))

  pub told_by : (kind : Kind) (r : Outcome) → Transfers kind old k buffer r after new
      → new.contents ≡ Some (slice_set blocks k left)
  told_by Fill r t = kept t.contents
  told_by Flush (Ok u) t = changed t.0.written
  told_by Flush (Err c) t = ⊎_elim kept changed t.0.whole

module _ (told : Bool) (blocks : List Block) (task : Task) (done : FinishedTask) (old new : Watch) (before : Block)
    (tells : AreTold told old.device (bytes_of blocks)) (m : Makes old task done new)
    (at : slice_get blocks task.block ≡ Some before) where
  -- one call more, and the bytes that the device tells then
  abbrev after_call : Block
  after_call = record { bytes = told_at new.device.contents task.block; calls = before.calls + 1 }

  pub call_comes : Comes told task before done after_call
  call_comes = record {
    cache = m.performs.cache;
    serial = m.performs.serial;
    kind = m.performs.kind;
    block = m.performs.block;
    length = m.performs.length;
    calls = refl;
    leaves = λ sure. leaves_by old.device new.device task.block task.bytes done.bytes (bytes_of blocks) before.bytes (tells sure)
        (contents_at blocks task.block before at) task.kind done.outcome m.performs.call;
  }

  pub call_told : AreTold told new.device (bytes_of (slice_set blocks task.block after_call))
  call_told sure =
      told_by old.device new.device task.block task.bytes done.bytes (bytes_of blocks) before.bytes (tells sure)
      (contents_at blocks task.block before at) task.kind done.outcome m.performs.call
      ∙ ap Some (sym (contents_set blocks task.block after_call))

-- the same of the device's side, which is known by an equation
pub side_after : (told says : Bool) (me next : Me ℕ View) (side : List Block) (g : Given) (job : Task) (done : FinishedTask) (old new : Watch)
    → (device_in me.0).1 ≡ side → g.task ≡ job → slice_get (device_in me.0).1 g.task.block ≡ Some g.before → Makes old job done new
    → AreTold told old.device (bytes_of side)
    → IsDevice next says (slice_set (device_in me.0).1 g.task.block
    (record { bytes = told_at new.device.contents g.task.block; calls = g.before.calls + 1 }))
    → AreTold told new.device (bytes_of (device_in next.0).1) × (calls_of (device_in next.0).1 ≡ calls_of side + 1)
side_after told says me next side g job done old new view same at m tells is =
    let blocks : List Block = (device_in me.0).1 in
    let left : Block = record { bytes = told_at new.device.contents g.task.block; calls = g.before.calls + 1 } in
    let there : (device_in next.0).1 ≡ slice_set blocks g.task.block left = ap (λ (x : Me ℕ View). (device_in x.0).1) is in
    let here : AreTold told old.device (bytes_of blocks) =
    subst (λ (s : List Block). AreTold told old.device (bytes_of s)) (sym view) tells in
    let made : Makes old g.task done new = subst (λ (j : Task). Makes old j done new) (sym same) m in (
      subst (λ (s : List Block). AreTold told new.device (bytes_of s)) (sym there)
          (call_told told blocks g.task done old new g.before here made at),
      ap calls_of there ∙ calls_set blocks g.task.block g.before left at refl ∙ ap (λ s. calls_of s + 1) view,
    )

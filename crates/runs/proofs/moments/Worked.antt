-- A run that is written out, with a sync of a range that ends Clean: so the theorems on syncs speak of something.
use Rattle.std.proofs.Common.{◌≡◌, ℕ, zero, suc, ◌<◌, List, [], ◌∷◌, length, get_or, refl, ap, ◌∙◌, arith}
use Rattle.std.specs.Prelude.{Some, None, replicate, is_some}
use Rattle.std.specs.FinMap as finmap
use Rattle.std.specs.FinMap.{get-empty, len-empty}
use Rattle.pc_types.specs.declared.ids.FileId.{FileId}
use Rattle.pc_types.specs.declared.ids.HandleId.{HandleId}
use Rattle.pc_types.specs.declared.ids.SyncId.{SyncId}
use Rattle.maps.proofs.Maps.{get-insert_nat}
use Rattle.maps.proofs.MapLaws.{no_entries}
use Rattle.machine.specs.declared.event.Event.TheVariants as event
use Rattle.machine.specs.declared.event.Reply.TheVariants as reply
use Rattle.machine.specs.State.{State, Sync, no_file}
use Rattle.machine.specs.Step.{Step}
use Rattle.machine.specs.Changes.{sync_begun, drop_sync}
use Rattle.machine.specs.History as history
use Rattle.runs.specs.World.{World, Act}
use Rattle.runs.specs.Runs.{Steps, IsBlank, Run, world_at}
use Rattle.runs.specs.Syncing.{Begin, IsSync}

abbrev s0 : State
s0 = history.no_files (record { page = 16; frames = 48; dirty_limit = 16; blocks = 1 }) 0

abbrev s1 : State
s1 = record s0 { files = no_file ∷ [] }

abbrev s2 : State
s2 = record s1 { handles = finmap.insert finmap.empty 0 0 }

-- pages 0 to 5
abbrev y0 : Sync
y0 = record { handle = 0; first = 0; last = 5; started = None; failures = 0; bound = None }

abbrev s3 : State
s3 = sync_begun s2 0 0 y0

abbrev s4 : State
s4 = drop_sync s3 0

abbrev at : State → World
at s = record { core = s; device = replicate 16 0 ∷ []; outcomes = finmap.empty; writing = finmap.empty }

abbrev file_0 : FileId
file_0 = record { 0 = 0 }

abbrev handle_0 : HandleId
handle_0 = record { 0 = 0 }

abbrev sync_0 : SyncId
sync_0 = record { 0 = 0 }

abbrev begin : Begin
begin = record { step = 2; handle = handle_0; first = record { 0 = 0 }; last = record { 0 = 5 }; number = sync_0 }

abbrev the_run : Steps
the_run =
    (Act event.Create (reply.File file_0), at s1)
    ∷ (Act (event.Open file_0) (reply.Handle handle_0), at s2)
    ∷ (Act (event.SyncBegin handle_0 (record { 0 = 0 }) (record { 0 = 5 })) (reply.Sync sync_0), at s3)
    ∷ (Act (event.SyncStep sync_0) reply.Clean, at s4)
    ∷ []

one_block : (k : ℕ) (d : List ℕ) → k < 1 → length (get_or (replicate 16 0 ∷ []) k d) ≡ 16
one_block zero d l = refl
one_block (suc k) d l = absurd (omega arith)

is_first : IsBlank (at s0)
is_first = record {
  page_size = omega arith;
  core = refl;
  outcomes = refl;
  writing = refl;
  blocks = refl;
  block_sizes = λ k d l. one_block k d l;
}

-- ---- its steps

open_0 : finmap.get s2.handles 0 ≡ Some 0
open_0 = get-insert_nat finmap.empty 0 0 0

in_progress : finmap.get s3.syncs 0 ≡ Some y0
in_progress = get-insert_nat finmap.empty 0 _ 0

opens : Step s1 (event.Open file_0) (reply.Handle handle_0) s2
opens = simp (len-empty, get-empty) ((refl, λ k l. absurd (omega arith)), refl)

begins : Step s2 (event.SyncBegin handle_0 (record { 0 = 0 }) (record { 0 = 5 })) (reply.Sync sync_0) s3
begins = simp (open_0, len-empty, get-empty) ((refl, λ k l. absurd (omega arith)), refl)

ends : Step s3 (event.SyncStep sync_0) reply.Clean s4
ends = simp (in_progress, open_0, no_entries) (refl, refl)

is_run : Run (at s0) the_run
is_run = ((tt, ((refl, refl), refl)), ((tt, (opens, refl)), ((tt, (begins, refl)), ((tt, (ends, refl)), tt))))

-- the sync that began at step 2 answers Clean at step 3
is_sync : IsSync (at s0) the_run begin 3 reply.Clean
is_sync = record {
  begins = (at s3, refl);
  new = at s4;
  answers = refl;
  before = omega arith;
  lasts = λ k l m. let is : k ≡ 3 = omega arith in
      ap (λ j. is_some (finmap.get (world_at (at s0) the_run j).core.syncs 0)) is ∙ ap is_some in_progress;
}

-- Worlds that a run leads to: the first, and each that a step leads to from one. What holds over runs holds of each.
use Rattle.std.proofs.Common.{◌≡◌, ℕ, List, [], ◌∷◌, ◌++◌, length, refl, ap, sym, subst, ◌∙◌, arith, take_all}
use Rattle.pc_types.specs.Files.{pread}
use Rattle.pc_types.specs.declared.ids.HandleId.{HandleId}
use Rattle.machine.specs.declared.event.Event.TheVariants as event
use Rattle.machine.specs.declared.event.Reply.TheVariants as reply
use Rattle.runs.specs.Always.{Always}
use Rattle.runs.specs.Plain.{Plain, plain_file, named}
use Rattle.runs.specs.Reached.{IsReached}
use Rattle.runs.specs.Seen.{files_seen}
use Rattle.runs.specs.Reading.{HoldsFiles}
use Rattle.runs.specs.Runs.{Steps, IsFirst, Run, last, plain_move, plain_from}
use Rattle.runs.specs.World.{World, Move, Act, WorldStep}
use Rattle.runs.proofs.moments.AlwaysHold.{holds_always}
use Rattle.runs.proofs.events.Coupled.{Coupled, coupled}
use Rattle.runs.proofs.moments.FilesHeld.{holds_files}
use Rattle.runs.proofs.moments.FilesSeen.{files_are}
use Rattle.runs.proofs.moments.Moments.{first_coupled, run_coupled}
use Rattle.runs.proofs.moments.ReadsRight.{read_right}
use Rattle.runs.proofs.events.Steps.{move_kept}

pub run-snoc : (run : Steps) (w new : World) (e : Move) → Run w run → WorldStep (last w run) e new
    → Run w (run ++ (e, new) ∷ [])
run-snoc [] w new e r m = (m, tt)
run-snoc (step ∷ steps) w new e r m = (r.0, run-snoc steps step.1 new e r.1 m)

pub last-snoc : (run : Steps) (w new : World) (e : Move) → last w (run ++ (e, new) ∷ []) ≡ new
last-snoc [] w new e = refl
last-snoc (step ∷ steps) w new e = last-snoc steps step.1 new e

pub reached_coupled : (w : World) → IsReached w → Coupled w (files_seen w)
reached_coupled w r =
    let v : Plain = plain_from (files_seen r.first) r.run in
    let c : Coupled w v = subst (λ x. Coupled x v) r.leads
    (run_coupled r.run r.first (files_seen r.first) (first_coupled r.first r.is_first) r.is_run) in
    subst (Coupled w) (sym (files_are w _ c)) c

pub reached_first : (w : World) → IsFirst w → IsReached w
reached_first w first = record { first = w; run = []; is_first = first; is_run = tt; leads = refl }

pub reached_step : (w new : World) (e : Move) → IsReached w → WorldStep w e new → IsReached new
reached_step w new e r m = record {
  first = r.first;
  run = r.run ++ (e, new) ∷ [];
  is_first = r.is_first;
  is_run = run-snoc r.run r.first new e r.is_run (subst (λ x. WorldStep x e new) (sym r.leads) m);
  leads = last-snoc r.run r.first new e;
}

pub files_step : (w new : World) (e : Move) → IsReached w → WorldStep w e new
    → files_seen new ≡ plain_move (files_seen w) e
files_step w new e r m =
    files_are new _ (coupled w (files_seen w) _ new _ (move_kept w (files_seen w) (reached_coupled w r) e new m))

pub reached_always : (w : World) → IsReached w → Always w
reached_always w r = subst Always (ap (last r.first) (take_all (length r.run) r.run (omega arith)) ∙ r.leads)
    (holds_always r.first r.run r.is_first r.is_run (length r.run))

pub reached_holds : (w : World) → IsReached w → HoldsFiles w (files_seen w)
reached_holds w r = holds_files w (files_seen w) (reached_coupled w r)

-- a read answers what the plain file holds
pub reached_read : (w new : World) → IsReached w → (h : HandleId) (o n : ℕ) (bytes : List ℕ)
    → WorldStep w (Act (event.Read h o n) (reply.Bytes bytes)) new
    → bytes ≡ pread (plain_file (files_seen w) (named (files_seen w) h.0)) o n
reached_read w new r h o n bytes m = read_right w (files_seen w) (reached_coupled w r) h o n bytes new.core m.1.0

-- A session: how its passes go with its world, step by step.
use Rattle.std.proofs.Common.{◌≡◌, ◌≢◌, ℕ, ◌+◌, ◌-◌, ◌<◌, ◌≤◌, Bool, true, false, cond, eqb, eqb-true, eq-eqb, List, length, drop, refl, ap, sym, subst, ◌∙◌, arith}
use Rattle.std.specs.Prelude.{Option, Some, None, IfNone, IfSome, Ok, Err, is_some, option_map, option_and_then, unwrap_or}
use mathlib.Core.List.{IsPrefix}
use Rattle.std.specs.Ordering.{nat_cmp}
use Rattle.std.specs.Cmp.{nat_cmp_total}
use Rattle.std.specs.FinMap as finmap
use Rattle.std.specs.FinMap.{FinMap, get-empty, len-empty, len-insert, len-remove}
use Rattle.pc_types.specs.Limits.{Sizes}
use Rattle.pc_types.specs.declared.ids.FileId.{FileId}
use Rattle.pc_types.specs.declared.ids.HandleId.{HandleId}
use Rattle.pc_types.specs.declared.ids.Serial.{Serial}
use Rattle.pc_types.specs.declared.limits.TheConstants.{MAX_FILES, MAX_HANDLES}
use Rattle.pc_types.specs.declared.refusal.Refusal.TheVariants.{BadHandle}
use Rattle.errseq.specs.declared.recording.Recording.{Recording}
use Rattle.errseq.specs.Recorded.{last_code, raised}
use Rattle.errseq.specs.Samples.{StandsFor, done_at}
use Rattle.errseq.specs.Word.{IsWithinTurn, is_seen, sample_of}
use Rattle.errseq.proofs.Prefixes.{prefix_length, prefix_whole}
use Rattle.errboard.specs.Shown.{PassSeen, RecorderSeen}
use Rattle.errboard.specs.Views.{recorded_of}
use Rattle.errboard.specs.declared.board.Board.{Board}
use Rattle.cachecore.specs.Flushing.{flush_of}
use Rattle.machine.specs.declared.event.Reply.{Reply}
use Rattle.machine.specs.declared.event.Reply.TheVariants as reply
use Rattle.maps.proofs.MapLaws.{same_nat_map}
use Rattle.maps.proofs.Maps.{get-insert_nat, get-remove_nat}
use Rattle.world.specs.declared.step.Step.{Step}
use Rattle.world.specs.declared.step.Step.TheVariants as step
use Rattle.world.specs.Stepping.{WorldSeen, Steps}
use Rattle.maps.proofs.Filtered.{get-filter_map_values, filter_map_values-empty, filter_map_values-insert}
use Rattle.maps.proofs.Filtered.{filter_map_values-remove}
use Rattle.script.specs.Runs.{world_of_sizes}
use Rattle.script.specs.Sessions.{BeginsTold, Makes, Notes, Polls, Records, SessionSeen, Tells, log_of}
use Rattle.script.specs.Telling.{IsSession, Passes, told_of}
use Rattle.script.proofs.HandleLaws.{Opens, closes_core, left_by, moves_handles, not_closed, not_opened, opens_core}

-- ---- what the handles were told of

abbrev done : PassSeen → Option ℕ
done p = Some p.done

told_some : (o : Option PassSeen) → option_and_then done o ≡ option_map (λ (p : PassSeen). p.done) o
told_some None = refl
told_some (Some p) = refl

told_at : (passes : Passes) (h : ℕ)
    → finmap.get (told_of passes) h ≡ option_map (λ (p : PassSeen). p.done) (finmap.get passes h)
told_at passes h = get-filter_map_values done passes h ∙ told_some (finmap.get passes h)

pub told_empty : told_of finmap.empty ≡ finmap.empty
told_empty = filter_map_values-empty done

pub told_put : (passes : Passes) (h : ℕ) (p : PassSeen)
    → told_of (finmap.insert passes h p) ≡ finmap.insert (told_of passes) h p.done
told_put passes h p = filter_map_values-insert done passes h p p.done refl

pub told_taken : (passes : Passes) (h : ℕ) → told_of (finmap.remove passes h) ≡ finmap.remove (told_of passes) h
told_taken passes h = filter_map_values-remove done passes h

-- what was taken out and is put back is put there
again : {X : Type 0} (m : FinMap nat_cmp X) (h : ℕ) (x : X) → finmap.insert (finmap.remove m h) h x ≡ finmap.insert m h x
again {X} m h x = same_nat_map _ _ (λ q. get-insert_nat (finmap.remove m h) h x q ∙ either q (eqb q h) refl ∙ sym (get-insert_nat m h x q))
  where
    either : (q : ℕ) (b : Bool) → eqb q h ≡ b → cond (eqb q h) (Some x) (finmap.get (finmap.remove m h) q) ≡ cond (eqb q h) (Some x) (finmap.get m q)
    either q true e = ap (λ b. cond b (Some x) (finmap.get (finmap.remove m h) q)) e ∙ sym (ap (λ b. cond b (Some x) (finmap.get m q)) e)
    either q false e = ap (cond (eqb q h) (Some x)) (get-remove_nat m h q ∙ ap (λ b. cond b None (finmap.get m q)) e)

-- ---- a session that begins

pub session_begins : (sizes : Sizes) (w : WorldSeen) (board : Board) (r : RecorderSeen) (passes : Passes) → w ≡ world_of_sizes sizes → r.board ≡ board → passes ≡ finmap.empty → IsSession w board r passes
session_begins sizes w board r passes world same none = record {
  same_board = same;
  of_board = λ h p is. absurd (let e = sym is ∙ ap (λ (m : Passes). finmap.get m h) none ∙ get-empty nat_cmp h in cc);
  handles = λ h. ap (λ (m : Passes). option_map (λ (p : PassSeen). p.file) (finmap.get m h)) none ∙ ap (option_map (λ (p : PassSeen). p.file)) (get-empty nat_cmp h) ∙ sym (ap (λ (x : WorldSeen). finmap.get x.core.handles h) world ∙ get-empty nat_cmp h);
  count = ap finmap.len none ∙ len-empty nat_cmp PassSeen ∙ sym (ap (λ (x : WorldSeen). finmap.len x.core.handles) world ∙ len-empty nat_cmp ℕ);
  few_files = subst (λ (x : WorldSeen). length x.core.files ≤ MAX_FILES) (sym world) (omega arith);
}

-- ---- steps

pub other_step : (e : Step) → ((f : FileId) → e ≢ step.Open f) → ((h : HandleId) → e ≢ step.Close h) → moves_handles e ≡ false
other_step (step.Open f) opens closes = absurd (opens f refl)
other_step (step.Close h) opens closes = absurd (closes h refl)
other_step _ opens closes = refl

module _ (w : WorldSeen) (board : Board) (r : RecorderSeen) (passes : Passes) (s : IsSession w board r passes) where
  -- a step that leaves the handles
  same_handles : (new : WorldSeen) → new.core.handles ≡ w.core.handles → length new.core.files ≤ MAX_FILES → IsSession new board r passes
  same_handles new same few = record {
    same_board = s.same_board;
    of_board = s.of_board;
    handles = λ h. s.handles h ∙ sym (ap (λ m. finmap.get m h) same);
    count = s.count ∙ sym (ap finmap.len same);
    few_files = few;
  }

  pub steps_on : (new : WorldSeen) (e : Step) (a : Reply) → moves_handles e ≡ false → Steps w e a new → IsSession new board r passes
  steps_on new e a quiet m = same_handles new ((left_by w new e a m).handles quiet) ((left_by w new e a m).files s.few_files)

  -- a handle that is open has a pass, and no other has
  pass_none : (h : ℕ) (o : Option PassSeen) → option_map (λ (p : PassSeen). p.file) o ≡ None → o ≡ None
  pass_none h None e = refl
  pass_none h (Some p) e = absurd cc

  pub no_pass : (h : ℕ) → finmap.get w.core.handles h ≡ None → finmap.get passes h ≡ None
  no_pass h none = pass_none h (finmap.get passes h) (s.handles h ∙ none)

  -- ---- a file is opened

  opened : (new : WorldSeen) (f : FileId) (h : HandleId) → Steps w (step.Open f) (reply.Handle h) new → Opens w.core f.0 h.0 new.core
  opened new f h m = opens_core w.core new.core f h m.0.1.0

  pub put_apart : (new : WorldSeen) (f : FileId) (h : HandleId) → Steps w (step.Open f) (reply.Handle h) new → finmap.get passes h.0 ≡ None
  put_apart new f h m = no_pass h.0 (opened new f h m).apart

  pub put_room : (new : WorldSeen) (f : FileId) (h : HandleId) → Steps w (step.Open f) (reply.Handle h) new → finmap.len passes < MAX_HANDLES
  put_room new f h m = let room = (opened new f h m).room in omega (arith, s.count)

  pub session_opens : (new : WorldSeen) (f : FileId) (h : HandleId) (p : PassSeen) → Steps w (step.Open f) (reply.Handle h) new → p.board ≡ board → p.file ≡ f.0 → IsSession new board r (finmap.insert passes h.0 p)
  session_opens new f h p m mine file = let o = opened new f h m in record {
    same_board = s.same_board;
    of_board = λ k q is. of_either k q (eqb k h.0) (sym (get-insert_nat passes h.0 p k) ∙ is);
    handles = λ k. ap (option_map (λ (x : PassSeen). x.file)) (get-insert_nat passes h.0 p k) ∙ file_either k (eqb k h.0) ∙ sym (ap (λ m. finmap.get m k) o.handles ∙ get-insert_nat w.core.handles h.0 f.0 k);
    count = one_more passes h.0 p (no_pass h.0 o.apart) ∙ ap (λ n. n + 1) s.count ∙ sym (ap finmap.len o.handles ∙ one_more w.core.handles h.0 f.0 o.apart);
    few_files = (left_by w new (step.Open f) (reply.Handle h) m).files s.few_files;
  }
    where
      of_either : (k : ℕ) (q : PassSeen) (b : Bool) → cond b (Some p) (finmap.get passes k) ≡ Some q → q.board ≡ board
      of_either k q true e = (let same : p ≡ q = cc in ap (λ (x : PassSeen). x.board) (sym same) ∙ mine)
      of_either k q false e = s.of_board k q e

      file_either : (k : ℕ) (b : Bool) → option_map (λ (x : PassSeen). x.file) (cond b (Some p) (finmap.get passes k)) ≡ cond b (Some f.0) (finmap.get w.core.handles k)
      file_either k true = ap Some file
      file_either k false = s.handles k

      one_more : {A : Type 0} (m : FinMap nat_cmp A) (k : ℕ) (x : A) → finmap.get m k ≡ None → finmap.len (finmap.insert m k x) ≡ finmap.len m + 1
      one_more m k x none = len-insert nat_cmp_total m k x ∙ ap (λ b. cond b (finmap.len m) (finmap.len m + 1)) (ap is_some none)

  pub session_not_opened : (new : WorldSeen) (f : FileId) (a : Reply) → ((h : HandleId) → a ≢ reply.Handle h) → Steps w (step.Open f) a new → IsSession new board r passes
  session_not_opened new f a other m = same_handles new (not_opened w.core new.core f a other m.0.1.0) ((left_by w new (step.Open f) a m).files s.few_files)

  -- no file has such a number
  pub none_so_high : (new : WorldSeen) (f : FileId) (a : Reply) → MAX_FILES ≤ f.0 → Steps w (step.Open f) a new → (h : HandleId) → a ≢ reply.Handle h
  none_so_high new f a high m h e = let o = opened new f h (subst (λ x. Steps w (step.Open f) x new) e m) in absurd (omega (arith, o.here, s.few_files))

  -- ---- a handle is closed

  pub session_closes : (new : WorldSeen) (h : HandleId) → Steps w (step.Close h) reply.Closed new → IsSession new board r (finmap.remove passes h.0)
  session_closes new h m = let c = closes_core w.core new.core h m.0.1.0 in record {
    same_board = s.same_board;
    of_board = λ k q is. of_either k q (eqb k h.0) (sym (get-remove_nat passes h.0 k) ∙ is);
    handles = λ k. ap (option_map (λ (x : PassSeen). x.file)) (get-remove_nat passes h.0 k) ∙ file_either k (eqb k h.0) ∙ sym (ap (λ m. finmap.get m k) c ∙ get-remove_nat w.core.handles h.0 k);
    count = len-remove nat_cmp_total passes h.0 ∙ (λ i. cond (there i) (s.count i - 1) (s.count i)) ∙ sym (ap finmap.len c ∙ len-remove nat_cmp_total w.core.handles h.0);
    few_files = (left_by w new (step.Close h) reply.Closed m).files s.few_files;
  }
    where
      of_either : (k : ℕ) (q : PassSeen) (b : Bool) → cond b None (finmap.get passes k) ≡ Some q → q.board ≡ board
      of_either k q true e = absurd cc
      of_either k q false e = s.of_board k q e

      file_either : (k : ℕ) (b : Bool) → option_map (λ (x : PassSeen). x.file) (cond b None (finmap.get passes k)) ≡ cond b None (finmap.get w.core.handles k)
      file_either k true = refl
      file_either k false = s.handles k

      is_there : (o : Option PassSeen) → is_some (option_map (λ (x : PassSeen). x.file) o) ≡ is_some o
      is_there None = refl
      is_there (Some p) = refl

      there : finmap.contains_key passes h.0 ≡ finmap.contains_key w.core.handles h.0
      there = sym (is_there (finmap.get passes h.0)) ∙ ap is_some (s.handles h.0)

  pub session_not_closed : (new : WorldSeen) (h : HandleId) (a : Reply) → a ≢ reply.Closed → Steps w (step.Close h) a new → IsSession new board r passes
  session_not_closed new h a other m = same_handles new (not_closed w.core new.core h a other m.0.1.0) ((left_by w new (step.Close h) a m).files s.few_files)

-- ---- what the calls leave, as contracts see it

abbrev pub seen : WorldSeen → RecorderSeen → Passes → SessionSeen
seen w r passes = record { world = w; recorded = r.all; told = told_of passes }

-- a recorder that is as it was
pub same_recorder : (w : WorldSeen) (board : Board) (r after : RecorderSeen) (passes : Passes) → after ≡ r → IsSession w board r passes → IsSession w board after passes
same_recorder w board r after passes e s = subst (λ x. IsSession w board x passes) (sym e) s

-- a new pass
pub record NewPass (board : Board) (r : RecorderSeen) (f : ℕ) (p : PassSeen) : Type 0 where
  pub of_board : p.board ≡ board
  pub file : p.file ≡ f
  pub told : BeginsTold (recorded_of r.all f) p.done

pub new_pass : (board : Board) (r : RecorderSeen) (f start : ℕ) (p : PassSeen) → r.board ≡ board
    → ((p.board ≡ r.board) × (p.file ≡ f) × (p.start ≡ start) × (p.known ≡ recorded_of r.all f))
    → ((loaded : ℕ) × StandsFor p.start loaded p.known × (p.since ≡ sample_of loaded) × (p.done ≡ done_at p.known loaded))
    → NewPass board r f p
new_pass board r f start p same made (loaded, stands, since, done) =
    record { of_board = made.0 ∙ same; file = made.1; told = (is_seen loaded, done ∙ ap (λ log. done_at log loaded) made.3) }

module _ (w new : WorldSeen) (board : Board) (r after : RecorderSeen) (passes put : Passes) (s : IsSession w board r passes) (f : FileId) (h : HandleId) (a : Reply) (p : PassSeen) where
  pub open_session : a ≡ reply.Handle h → after ≡ r → put ≡ finmap.insert passes h.0 p → Steps w (step.Open f) a new → NewPass board r f.0 p → IsSession new board after put
  open_session is same e m n =
      same_recorder new board r after put same
      (subst (IsSession new board r) (sym e) (session_opens w board r passes s new f h p (subst (λ x. Steps w (step.Open f) x new) is m) n.of_board n.file))

  pub open_makes : a ≡ reply.Handle h → after ≡ r → put ≡ finmap.insert passes h.0 p → Steps w (step.Open f) a new → NewPass board r f.0 p → Makes (seen w r passes) (step.Open f) a (seen new after put)
  open_makes is same e m n = (m, subst (λ x. Notes (seen w r passes) (step.Open f) x (seen new after put)) (sym is) (ap (λ (x : RecorderSeen). x.all) same, p.done, n.told, ap told_of e ∙ told_put passes h.0 p))

-- ---- steps that leave nothing beside the world

open_notes : (old new : SessionSeen) (f : FileId) (a : Reply) → ((h : HandleId) → a ≢ reply.Handle h) → (new.recorded ≡ old.recorded) × (new.told ≡ old.told) → Notes old (step.Open f) a new
open_notes old new f (reply.Handle h) other e = absurd (other h refl)
open_notes old new f _ other e = e

close_notes : (old new : SessionSeen) (h : HandleId) (a : Reply) → a ≢ reply.Closed → (new.recorded ≡ old.recorded) × (new.told ≡ old.told) → Notes old (step.Close h) a new
close_notes old new h reply.Closed other e = absurd (other refl)
close_notes old new h _ other e = e

end_notes : (old new : SessionSeen) (t : Serial) (a : Reply) → ((c : ℕ) → a ≢ reply.Failed c) → (new.recorded ≡ old.recorded) × (new.told ≡ old.told) → Notes old (step.End t) a new
end_notes old new t (reply.Failed c) other e = absurd (other c refl)
end_notes old new t _ other e = e

module _ (w new : WorldSeen) (board : Board) (r after : RecorderSeen) (passes : Passes) (s : IsSession w board r passes) (same : after ≡ r) (a : Reply) where
  kept : ((seen new after passes).recorded ≡ (seen w r passes).recorded) × ((seen new after passes).told ≡ (seen w r passes).told)
  kept = (ap (λ (x : RecorderSeen). x.all) same, refl)

  module _ (f : FileId) (other : (h : HandleId) → a ≢ reply.Handle h) (m : Steps w (step.Open f) a new) where
    pub unopened_session : IsSession new board after passes
    unopened_session = same_recorder new board r after passes same (session_not_opened w board r passes s new f a other m)

    pub unopened_makes : Makes (seen w r passes) (step.Open f) a (seen new after passes)
    unopened_makes = (m, open_notes (seen w r passes) (seen new after passes) f a other kept)

  module _ (h : HandleId) (other : a ≢ reply.Closed) (m : Steps w (step.Close h) a new) where
    pub unclosed_session : IsSession new board after passes
    unclosed_session = same_recorder new board r after passes same (session_not_closed w board r passes s new h a other m)

    pub unclosed_makes : Makes (seen w r passes) (step.Close h) a (seen new after passes)
    unclosed_makes = (m, close_notes (seen w r passes) (seen new after passes) h a other kept)

module _ (w new : WorldSeen) (board : Board) (r after : RecorderSeen) (passes taken : Passes) (s : IsSession w board r passes) (same : after ≡ r) (h : HandleId) (a : Reply) (is : a ≡ reply.Closed) (e : taken ≡ finmap.remove passes h.0) (m : Steps w (step.Close h) a new) where
  pub close_session : IsSession new board after taken
  close_session =
      same_recorder new board r after taken same
      (subst (IsSession new board r) (sym e) (session_closes w board r passes s new h (subst (λ x. Steps w (step.Close h) x new) is m)))

  pub close_makes : Makes (seen w r passes) (step.Close h) a (seen new after taken)
  close_makes = (m, subst (λ x. Notes (seen w r passes) (step.Close h) x (seen new after taken)) (sym is) (ap (λ (x : RecorderSeen). x.all) same, ap told_of e ∙ told_taken passes h.0))

-- ---- a request ends

module _ (w new : WorldSeen) (board : Board) (r after : RecorderSeen) (passes : Passes) (s : IsSession w board r passes) (t : Serial) (a : Reply) (m : Steps w (step.End t) a new) where
  pub end_session : after.board ≡ r.board → IsSession new board after passes
  end_session same = let on = steps_on w board r passes s new (step.End t) a refl m in record {
    same_board = same ∙ on.same_board;
    of_board = on.of_board;
    handles = on.handles;
    count = on.count;
    few_files = on.few_files;
  }

  pub end_makes : after ≡ r → ((c : ℕ) → a ≢ reply.Failed c) → Makes (seen w r passes) (step.End t) a (seen new after passes)
  end_makes same other = (m, end_notes (seen w r passes) (seen new after passes) t a other (ap (λ (x : RecorderSeen). x.all) same, refl))

  -- where the request was a flush, its code is recorded, and else nothing is
  pub failed_makes : (o : Option FileId) (c : ℕ) → a ≡ reply.Failed c → option_map (λ (f : FileId). f.0) o ≡ flush_of w.core t.0 → Records r.all (option_map (λ (f : FileId). f.0) o) c after.all
      → Makes (seen w r passes) (step.End t) a (seen new after passes)
  failed_makes o c is file records =
      (m, subst (λ x. Notes (seen w r passes) (step.End t) x (seen new after passes)) (sym is) (subst (λ q. Records r.all q c after.all) file records, refl))

-- ---- a poll

-- a map without the key is the map as it was
pub not_there : {X : Type 0} (m : FinMap nat_cmp X) (h : ℕ) → finmap.get m h ≡ None → finmap.remove m h ≡ m
not_there m h none = same_nat_map _ _ (λ q. get-remove_nat m h q ∙ either q (eqb q h) refl)
  where
    either : (q : ℕ) (b : Bool) → eqb q h ≡ b → cond (eqb q h) None (finmap.get m q) ≡ finmap.get m q
    either q true e = ap (λ b. cond b None (finmap.get m q)) e ∙ sym (ap (finmap.get m) (eqb-true q h e) ∙ none)
    either q false e = ap (λ b. cond b None (finmap.get m q)) e

module _ (w : WorldSeen) (board : Board) (r : RecorderSeen) (passes taken : Passes) (s : IsSession w board r passes) (h : ℕ) (e : taken ≡ finmap.remove passes h) where
  -- a handle without a pass is not open
  module _ (none : finmap.get passes h ≡ None) where
    unchanged : taken ≡ passes
    unchanged = e ∙ not_there passes h none

    pub unpolled_session : IsSession w board r taken
    unpolled_session = subst (IsSession w board r) (sym unchanged) s

    pub unpolled : Polls (seen w r passes) h (Err BadHandle) (seen w r taken)
    unpolled = (refl, ap is_some (sym (s.handles h) ∙ ap (option_map (λ (p : PassSeen). p.file)) none), λ i. seen w r (unchanged i))

  pub taken_apart : finmap.get taken h ≡ None
  taken_apart = ap (λ (m : Passes). finmap.get m h) e ∙ get-remove_nat passes h h ∙ ap (λ b. cond b None (finmap.get passes h)) (eq-eqb h h refl)

  module _ (p : PassSeen) (there : finmap.get passes h ≡ Some p) where
    file_there : finmap.get w.core.handles h ≡ Some p.file
    file_there = sym (s.handles h) ∙ ap (option_map (λ (x : PassSeen). x.file)) there

    log_is : recorded_of r.all p.file ≡ log_of (seen w r passes) h
    log_is = ap (λ o. recorded_of r.all (unwrap_or o 0)) (sym file_there)

    module _ (after : RecorderSeen) (same : after ≡ r) (last : PassSeen) (put : Passes) (is : put ≡ finmap.insert taken h last) where
      put_is : put ≡ finmap.insert passes h last
      put_is = is ∙ ap (λ (m : Passes). finmap.insert m h last) e ∙ again passes h last

      pub polled_session : last.board ≡ board → last.file ≡ p.file → IsSession w board after put
      polled_session mine file = same_recorder w board r after put same (subst (IsSession w board r) (sym put_is) (record {
        same_board = s.same_board;
        of_board = λ k q at. of_either k q (eqb k h) (sym (get-insert_nat passes h last k) ∙ at);
        handles = λ k. ap (option_map (λ (x : PassSeen). x.file)) (get-insert_nat passes h last k) ∙ file_either k (eqb k h) refl;
        count = len-insert nat_cmp_total passes h last ∙ ap (λ b. cond b (finmap.len passes) (finmap.len passes + 1)) (ap is_some there) ∙ s.count;
        few_files = s.few_files;
      }))
        where
          of_either : (k : ℕ) (q : PassSeen) (b : Bool) → cond b (Some last) (finmap.get passes k) ≡ Some q → q.board ≡ board
          of_either k q true x = (let it : last ≡ q = cc in ap (λ (y : PassSeen). y.board) (sym it) ∙ mine)
          of_either k q false x = s.of_board k q x

          file_either : (k : ℕ) (b : Bool) → eqb k h ≡ b → option_map (λ (x : PassSeen). x.file) (cond b (Some last) (finmap.get passes k)) ≡ finmap.get w.core.handles k
          file_either k true x = ap Some file ∙ sym (ap (finmap.get w.core.handles) (eqb-true k h x) ∙ file_there)
          file_either k false x = s.handles k

      pub polled : (answer : Option ℕ) → Tells (recorded_of r.all p.file) p.done answer → last.done ≡ length (recorded_of r.all p.file) → Polls (seen w r passes) h (Ok answer) (seen w after put)
      polled answer tells done = (
        ap is_some file_there,
        p.done,
        told_at passes h ∙ ap (option_map (λ (x : PassSeen). x.done)) there,
        subst (λ log. Tells log p.done answer) log_is tells,
        λ i. record { world = w; recorded = (same i).all; told = (ap told_of put_is ∙ told_put passes h last ∙ ap (λ n. finmap.insert (told_of passes) h n) (done ∙ ap length log_is)) i },
      )

-- a pass that was polled between two moments at which it knew all that was recorded
module _ (log : List Recording) (first next last : PassSeen) (known : first.known ≡ log) (grows : IsPrefix first.known next.known) (begins : IsPrefix next.known log) (done : next.done ≡ length next.known) where
  whole : next.known ≡ log
  whole = sym (prefix_whole log next.known (subst (λ xs. IsPrefix xs next.known) known grows) (prefix_length next.known log begins))

  pub all_done : last.done ≡ next.done → last.done ≡ length log
  all_done same = same ∙ done ∙ ap length whole

  pub told_all : (n : ℕ) → first.done ≡ n → (answer : Option ℕ) → IfSome answer (λ c. (first.done < length next.known) × (c ≡ last_code next.known))
      → IfNone answer (IsWithinTurn (raised (drop first.done next.known)) → length next.known ≤ first.done) → Tells log n answer
  told_all n is None some none = subst (λ xs. IsWithinTurn (raised (drop n xs)) → length xs ≤ n) whole (subst (λ k. IsWithinTurn (raised (drop k next.known)) → length next.known ≤ k) is none)
  told_all n is (Some c) some none = subst (λ xs. (n < length xs) × (c ≡ last_code xs)) whole (subst (λ k. (k < length next.known) × (c ≡ last_code next.known)) is some)

-- For callers: a handle that came from a service is still its handle after another call.
use Rattle.std.proofs.Common.{◌≡◌, ◌≢◌, ℕ, ◌<◌, ◌≤◌, Bool, true, false, true≢false, List, [], length, refl, ap, sym, subst, ◌∙◌, arith, inl, inr}
use Rattle.std.proofs.lemmas.Grind.{get_or-set_at}
use Rattle.std.proofs.lemmas.List.FromFn.{length-map-range_with_len}
use Rattle.std.specs.Prelude.{◌⊎◌, IfOk, Result, Ok, Err, Some, None, is_some, unwrap_or, nat_le, if◌then◌else◌}
use Rattle.std.specs.FinMap as finmap
use Rattle.errboard.specs.Shown.{RecorderSeen}
use Rattle.pc_types.specs.declared.limits.TheConstants.{MAX_FILES, MAX_HANDLES}
use Rattle.pc_types.specs.declared.refusal.Refusal.{Refusal}
use Rattle.pc_types.specs.declared.refusal.Refusal.TheVariants.{NoSuchFile, TooManyHandles}
use Rattle.pc_types.specs.Files.{pwrite}
use Rattle.machine.specs.declared.event.Event.TheVariants as event
use Rattle.machine.specs.declared.event.Reply.TheVariants as reply
use Rattle.machine.specs.State.{State, is_open}
use Rattle.machine.specs.Tests.{tests, refuse}
use Rattle.machine.proofs.steps.Cases.{answered}
use Rattle.runs.proofs.events.Lookups.{get-insert1}
use Rattle.runs.proofs.views.View.{put1_else, put1_here}
use Rattle.runs.specs.Plain.{Plain, change, named, plain_file}
use Rattle.runs.specs.Seen.{file_seen}
use Rattle.world.specs.Stepping.{world_of}
use Rattle.filesvc.specs.Seen.{HandleSeen, SoloSeen}
use Rattle.filesvc.specs.Service.{CameFrom, FilesAfter, IsAsBefore, IsOpen, IsTold, KeepsBut, Names, Opened, Opens, ServesBut, Tells, files}

pub open_on : {p : ℕ → Bool} (old new : SoloSeen) (h : HandleSeen) → KeepsBut p old new → IsOpen old h → IsOpen new h
open_on old new h k o = record { board = o.board ∙ sym k.board; pass = o.pass; number = ap (λ m. finmap.get m h.number) k.handles ∙ o.number; file = (let a = k.count in let b = o.file in omega arith) }

pub came_on : {p : ℕ → Bool} (old new : SoloSeen) (h : HandleSeen) → KeepsBut p old new → CameFrom old h → CameFrom new h
came_on old new h k came names = open_on old new h k (came (names ∙ k.name))

pub names_on : {p : ℕ → Bool} (old new : SoloSeen) (h : HandleSeen) → KeepsBut p old new → Names old h → Names new h
names_on old new h k names = names ∙ sym k.name

open_at : (old new : SoloSeen) (h : HandleSeen) → new.world.core ≡ old.world.core → new.errors ≡ old.errors → IsOpen old h → IsOpen new h
open_at old new h c e o = record {
  board = o.board ∙ sym (ap (λ (r : RecorderSeen). r.board) e);
  pass = o.pass;
  number = ap (λ (s : State). finmap.get s.handles h.number) c ∙ o.number;
  file = subst (λ (s : State). h.file < length s.files) (sym c) o.file;
}

-- also where its cursor was moved
pub open_moved : (s : SoloSeen) (h : HandleSeen) (at : ℕ) → IsOpen s h → IsOpen s (record h { cursor = at })
open_moved s h at o = record { board = o.board; pass = o.pass; number = o.number; file = o.file }

-- or it was told of failed writes
pub open_told : (s t : SoloSeen) (h new : HandleSeen) → IsTold t h new → IsOpen s h → IsOpen s new
open_told s t h new told o =
    record { board = told.board ∙ o.board; pass = told.file ∙ (o.pass ∙ sym (ap (λ (x : HandleSeen). x.file) told.same)); number = ap (λ (x : HandleSeen). finmap.get s.world.core.handles x.number) told.same ∙ (o.number ∙ sym (ap (λ (x : HandleSeen). Some x.file) told.same)); file = subst (λ (n : ℕ). n < length s.world.core.files) (sym (ap (λ (x : HandleSeen). x.file) told.same)) o.file }

-- after an fsync it is told, or as it was
pub open_synced : (s : SoloSeen) (h new : HandleSeen) → IsTold s h new ⊎ (new ≡ h) → IsOpen s h → IsOpen s new
open_synced s h new (inl told) o = open_told s s h new told o
open_synced s h new (inr kept) o = subst (IsOpen s) (sym kept) o

-- of the same file
pub file_synced : (s : SoloSeen) (h new : HandleSeen) → IsTold s h new ⊎ (new ≡ h) → new.file ≡ h.file
file_synced s h new (inl told) = ap (λ (x : HandleSeen). x.file) told.same
file_synced s h new (inr kept) = ap (λ (x : HandleSeen). x.file) kept

-- and so it is one that came from the service
pub came_synced : {p : ℕ → Bool} (old s : SoloSeen) (h new : HandleSeen) → KeepsBut p old s → IsTold s h new ⊎ (new ≡ h) → CameFrom old h → CameFrom s new
came_synced old s h new k told came names = open_synced s h new told (open_on old s h k (came (sym (cache told) ∙ (names ∙ k.name))))
  where
    cache : IsTold s h new ⊎ (new ≡ h) → new.cache ≡ h.cache
    cache (inl t) = ap (λ (x : HandleSeen). x.cache) t.same
    cache (inr e) = ap (λ (x : HandleSeen). x.cache) e

-- the file that its number names
pub named_is : (s : SoloSeen) (h : HandleSeen) → IsOpen s h → named (files s) h.number ≡ h.file
named_is s h o = ap (λ x. unwrap_or x 0) o.number

-- an open handle's file is one of the plain files, and so it is as it was changed
pub changed_is : (s : SoloSeen) (h : HandleSeen) (g : List ℕ → List ℕ) → IsOpen s h → plain_file (change (files s) h.number g) h.file ≡ g (plain_file (files s) h.file)
changed_is s h g o =
    let same = named_is s h o in
    let here : named (files s) h.number < length (files s).files = (let a = o.file in let b = length-map-range_with_len (file_seen (world_of s.world)) 0 (length s.world.core.files) in omega (arith, same)) in
    get_or-set_at (files s).files (named (files s) h.number) h.file (g (plain_file (files s) (named (files s) h.number))) [] (sym same) here
    ∙ ap (λ f. g (plain_file (files s) f)) same

-- a handle is open after the call that opened it
pub opened_is : (old new : SoloSeen) (f : ℕ) (append : Bool) (h : HandleSeen) → Opens old f append h new → new.errors ≡ old.errors → IsOpen new h
opened_is old new f append h o e = elim (answered (tests old.world.core (event.Open (record { 0 = f }))) old.world.core (event.Open (record { 0 = f })) (reply.Handle (record { 0 = h.number })) new.world.core o.step) [
  | inl a ↦ absurd (refuses (nat_le (length old.world.core.files) f) (nat_le MAX_HANDLES (finmap.len old.world.core.handles)) a.0)
  | inr a ↦ record {
    board = o.board ∙ sym (ap (λ (r : RecorderSeen). r.board) e);
    pass = o.pass ∙ sym o.file;
    number = ap (λ (s : State). finmap.get s.handles h.number) a.2 ∙ get-insert1 old.world.core.handles h.number f h.number ∙ put1_here _ h.number (Some f) ∙ ap Some (sym o.file);
    file = subst (λ (s : State). h.file < length s.files) (sym a.2) (subst (λ (n : ℕ). n < length old.world.core.files) (sym o.file) o.here);
  }
]
  where
    refuses : (a b : Bool) → (if a then refuse NoSuchFile else if b then refuse TooManyHandles else None) ≡ Some (reply.Handle (record { 0 = h.number })) → ⊥
    refuses true b e = absurd cc
    refuses false true e = absurd cc
    refuses false false e = absurd cc

-- and those that were open stay open, also where it is refused
pub open_beside : (old new : SoloSeen) (f : ℕ) (append : Bool) (r : Result HandleSeen Refusal) (h : HandleSeen) → Opened old f append r new → new.errors ≡ old.errors → IsOpen old h → IsOpen new h
open_beside old new f append (Ok opened) h o e was = elim (answered (tests old.world.core (event.Open (record { 0 = f }))) old.world.core (event.Open (record { 0 = f })) (reply.Handle (record { 0 = opened.number })) new.world.core o.step) [
  | inl a ↦ open_at old new h a.1 e was
  | inr a ↦
      let apart : h.number ≢ opened.number = (λ k. (let free : is_open old.world.core opened.number ≡ false = a.1.0 in let taken : is_open old.world.core opened.number ≡ true = ap (λ n. is_open old.world.core n) (sym k) ∙ ap is_some was.number in true≢false (sym taken ∙ free))) in
      record {
        board = was.board ∙ sym (ap (λ (r : RecorderSeen). r.board) e);
        pass = was.pass;
        number = ap (λ (s : State). finmap.get s.handles h.number) a.2 ∙ get-insert1 old.world.core.handles opened.number f h.number ∙ put1_else _ opened.number (Some f) h.number apart ∙ was.number;
        file = subst (λ (s : State). h.file < length s.files) (sym a.2) was.file;
      }
]
open_beside old new f append (Err why) h o e was = elim (answered (tests old.world.core (event.Open (record { 0 = f }))) old.world.core (event.Open (record { 0 = f })) (reply.Refused why) new.world.core o) [
  | inl a ↦ open_at old new h a.1 e was
  | inr a ↦ open_at old new h a.2 e was
]

-- the file after a write, and after calls that change none
pub written_is : {p q : ℕ → Bool} (a b c : SoloSeen) (h : HandleSeen) (o : ℕ) (bytes : List ℕ) (n end : ℕ) → IsOpen a h → Tells a → FilesAfter a (event.Write (record { 0 = h.number }) o bytes) (reply.Wrote n end) b → KeepsBut p a b → ServesBut q b c → plain_file (files c) h.file ≡ pwrite (plain_file (files a) h.file) o bytes
written_is a b c h o bytes n end here tells wrote kept served =
    ap (λ (p : Plain). plain_file p h.file) (served.files (kept.tells ∙ tells) ∙ wrote tells)
    ∙ changed_is a h (λ file. pwrite file o bytes) here

-- by what its call says
pub opened_by : (old new : SoloSeen) (f : ℕ) (append : Bool) (r : Result HandleSeen Refusal) (h : HandleSeen) → r ≡ Ok h → (MAX_FILES ≤ f → (r ≡ Err NoSuchFile) × IsAsBefore old new) → (f < MAX_FILES → Opened old f append r new) → new.errors ≡ old.errors → IsOpen new h
opened_by old new f append r h is none opened e = elim (few f MAX_FILES) [
  | inl small ↦ opened_is old new f append h (subst (λ (x : Result HandleSeen Refusal). Opened old f append x new) is (opened small)) e
  | inr large ↦ absurd (let a : Ok h ≡ Err NoSuchFile = sym is ∙ (none large).0 in cc)
]
  where
    few : (a b : ℕ) → (a < b) ⊎ (b ≤ a)
    few a b = grind arith

-- the handle that an open answers is open
pub opens : (old new : SoloSeen) (f : ℕ) (append : Bool) (r : Result HandleSeen Refusal)
    → (MAX_FILES ≤ f → (r ≡ Err NoSuchFile) × IsAsBefore old new) → (f < MAX_FILES → Opened old f append r new)
    → new.errors ≡ old.errors → IfOk r (IsOpen new)
opens old new f append (Ok h) none opened e = opened_by old new f append (Ok h) h refl none opened e
opens old new f append (Err why) none opened e = tt

-- What a call wants, needs and lacks by its demand: that is for as many bytes before and after steps that help the call.
use Rattle.std.proofs.Common.{◌≡◌, ℕ, ◌+◌, ◌-◌, ◌<◌, ◌≤◌, Bool, true, false, refl, ap, sym, subst, ◌∙◌, arith}
use Rattle.std.specs.Prelude.{◌&&◌, ◌⊎◌, Some, None, min, nat_le, nat_lt, unwrap_or, if◌then◌else◌}
use Rattle.std.specs.FinMap as finmap
use Rattle.std.proofs.lemmas.Bool.Decides.{nat_tests}
use Rattle.pc_types.specs.declared.ids.HandleId.{HandleId}
use Rattle.pc_types.specs.declared.ids.PageIndex.{PageIndex}
use Rattle.pc_types.specs.declared.limits.TheConstants.{MAX_FILE_SIZE, MAX_TOUCHED}
use Rattle.pc_types.specs.declared.refusal.Refusal.{Refusal}
use Rattle.pc_types.specs.declared.refusal.Refusal.TheVariants.{DirtyLimit, NoFrame}
use Rattle.cachecore.specs.declared.answers.Demand.{Demand}
use Rattle.cachecore.specs.Wants.{demanded, frames_short}
use Rattle.machine.specs.declared.event.Event.TheVariants as event
use Rattle.machine.specs.State.{State, file_at, free_frames, handle_file, is_open, touched_count}
use Rattle.filesvc.specs.Attempts.{need_of}
use Rattle.filesvc.specs.Rooms.{FailsFlush, IsClean, IsMissed, IsWayRefusal, Misses, StaysAbsent, Suffices, need, needed, wanted}
use Rattle.filesvc.specs.Seen.{SoloSeen}
use Rattle.filesvc.specs.Service.{Serves, wanted_by, wants}
use Rattle.filesvc.proofs.Needs.{no_more_needed, short_after, short_some, still_missed, wanted_room, wants_frames}
use Rattle.filesvc.proofs.RoomLaws.{way_refused}

pub size_same : (s t : SoloSeen) (h : ℕ) → Serves s t → (file_at t.world.core (handle_file t.world.core h)).size ≡ (file_at s.world.core (handle_file s.world.core h)).size
size_same s t h k = ap (λ m. (file_at t.world.core (unwrap_or (finmap.get m h) 0)).size) k.keeps.handles ∙ k.lengths (handle_file s.world.core h)

module _ (s t : SoloSeen) (d : Demand) (k : Serves s t) where
  pub demanded_same : demanded t.world.core d ≡ demanded s.world.core d
  demanded_same = ap (λ size. if d.dirties then d.count else min d.count (size - d.offset)) (size_same s t d.handle.0 k)

  -- a page that it lacks it lacks still
  pub still_misses : (p : PageIndex) → Misses s d p → StaysAbsent s.world.core t.world.core → Misses t d p
  still_misses p m a =
      subst (λ n. IsMissed t d.handle.0 d.offset n p.0) (sym demanded_same)
      (still_missed s t d.handle.0 d.offset (demanded s.world.core d) p.0 m k a)

  -- where a frame more is free at most, and no page has become cached, it is short of one less at most
  pub short_after_for : StaysAbsent s.world.core t.world.core → free_frames t.world.core ≤ free_frames s.world.core + 1
      → frames_short s.world.core d.handle.0 d.offset (demanded s.world.core d) ≤ frames_short t.world.core d.handle.0 d.offset (demanded t.world.core d) + 1
  short_after_for absent free =
      subst (λ n. frames_short s.world.core d.handle.0 d.offset (demanded s.world.core d) ≤ frames_short t.world.core d.handle.0 d.offset n + 1)
      (sym demanded_same) (short_after s t d.handle.0 d.offset (demanded s.world.core d) k absent free)

  -- after room is made it needs no more than before
  pub no_more : wanted t.world.core d ≡ None → (wanted s.world.core d ≡ None → t ≡ s) → needed t.world.core d ≤ needed s.world.core d
  no_more none same =
      subst (λ n. need d.dirties t.world.core d.handle.0 d.offset n ≤ needed s.world.core d) (sym demanded_same)
      (no_more_needed d.dirties s t d.handle.0 d.offset (demanded s.world.core d) k
      (subst (λ n. wants d.dirties t.world.core d.handle.0 d.offset n ≡ None) demanded_same none) same)

-- where frames are short, it wants them
pub short_wants : (s : State) (d : Demand) → 0 < frames_short s d.handle.0 d.offset (demanded s d) → wanted s d ≡ Some NoFrame
short_wants s d some =
    let n = demanded s d in
    wants_frames d.dirties s d.handle.0 d.offset n (short_some s d.handle.0 d.offset n _ refl some)

-- the room that it wants could not be made, which would be there if no device call had failed, and it wants that room still
pub way_refused_for : (old mid new : SoloSeen) (d : Demand) → Serves old mid → Serves mid new → (want r : Refusal) → wanted mid.world.core d ≡ Some want
    → r ≡ want → (want ≡ NoFrame → r ≡ NoFrame → FailsFlush mid new ⊎ Suffices mid)
    → (want ≡ DirtyLimit → r ≡ DirtyLimit → FailsFlush mid new ⊎ IsClean mid) → IsWayRefusal old (wanted new.world.core d) r new
way_refused_for old mid new d before after want r way is frames clean =
    let n = demanded mid.world.core d in
    subst (λ n. IsWayRefusal old (wants d.dirties new.world.core d.handle.0 d.offset n) r new) (sym (demanded_same mid new d after))
    (way_refused old mid new before d.dirties d.handle.0 d.offset n want r way
    (wanted_room d.dirties mid.world.core d.handle.0 d.offset n mid refl want way) is frames clean)

-- ---- a truncation demands the one byte behind the new end

module _ (s t : SoloSeen) (h : HandleId) (z : ℕ) (p : PageIndex) (k : Serves s t) where
  abbrev cut : Demand
  cut = record { handle = h; offset = z; count = 1; dirties = false }

  one_byte : Misses s cut p → demanded s.world.core cut ≡ 1
  one_byte m = one (is_open s.world.core h.0) (demanded s.world.core cut) (touched_count s.world.core.sizes.page z (demanded s.world.core cut)) (file_at s.world.core (handle_file s.world.core h.0)).size refl m.may
    where
      some : (a b c d : Bool) → (a && b && c && d) ≡ true → b ≡ true
      some true true c d e = refl
      some false b c d e = absurd cc
      some true false c d e = absurd cc

      one : (opened : Bool) (n pages size : ℕ) → n ≡ min 1 (size - z) → (opened && nat_lt 0 n && nat_le pages MAX_TOUCHED && nat_le (z + n) MAX_FILE_SIZE) ≡ true → n ≡ 1
      one opened n pages size is may =
          let b = some opened (nat_lt 0 n) (nat_le pages MAX_TOUCHED) (nat_le (z + n) MAX_FILE_SIZE) may in
          let more : 0 < n = grind (arith, nat_tests) in
          omega arith

  pub cut_gains : Misses s cut p → needed t.world.core cut < needed s.world.core cut → need_of t.world.core (event.Truncate h z) < need_of s.world.core (event.Truncate h z)
  cut_gains m less =
      subst (λ n. need false t.world.core h.0 z n < need false s.world.core h.0 z 1) (demanded_same s t cut k ∙ one_byte m)
      (subst (λ n. needed t.world.core cut < need false s.world.core h.0 z n) (one_byte m) less)

  pub cut_wants : Misses s cut p → wanted t.world.core cut ≡ wanted_by t.world.core (event.Truncate h z)
  cut_wants m = ap (wants false t.world.core h.0 z) (demanded_same s t cut k ∙ one_byte m)

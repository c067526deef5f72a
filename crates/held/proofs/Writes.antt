-- The entries of events that read or write bytes.
use Rattle.std.proofs.Common.{◌≡◌, ℕ, ◌≤◌, true, List, length, take, refl, ap, ◌∙◌, arith}
use Rattle.std.specs.Prelude.{Result, Ok, Err}
use Rattle.std.proofs.lemmas.List.{length-take}
use Rattle.pc_types.specs.declared.refusal.Refusal.{Refusal}
use Rattle.pc_types.specs.declared.ids.HandleId.{HandleId}
use Rattle.cachecore.specs.declared.answers.WriteAnswer.{WriteAnswer}
use Rattle.cachecore.specs.declared.answers.WriteAnswer.TheVariants as write
use Rattle.machine.specs.declared.event.Event.TheVariants as event
use Rattle.machine.specs.declared.event.Reply.{Reply}
use Rattle.cachecore.specs.Replies.{wrote}
use Rattle.machine.specs.ListChanges.{lists_after}
use Rattle.atomic_table.specs.Seated.{TableId}
use Rattle.pc_types.specs.Limits.{Sizes}
use Rattle.machine.specs.Catalogs.{Catalog}
use Rattle.machine.specs.Step.{Step}
use Rattle.held.specs.declared.log.Slip.{Slip}
use Rattle.held.specs.Entered.{Entered, Made}
use Rattle.trail.specs.Entries.{entry_of, entry_with, reply_bytes, reply_with}
use Rattle.trail.specs.Room.{Room, fits_beside, less, reserved}
use Rattle.held.specs.Shown.{HeldSeen, SeatSeen}
use Rattle.held.proofs.Holds.{Whole, went}
use Rattle.held.proofs.Sizes.{append_in, read_in, write_in}

wrote_bare : (a : Result WriteAnswer Refusal) (b : List ℕ) → reply_with (wrote a) b ≡ wrote a
wrote_bare (Ok (write.Wrote n end)) b = refl
wrote_bare (Ok (write.Wait p)) b = refl
wrote_bare (Ok (write.Miss p)) b = refl
wrote_bare (Err r) b = refl

write_entry : (seat : ℕ) (h : HandleId) (o : ℕ) (none b : List ℕ) (a : Result WriteAnswer Refusal) (r : Reply)
    → r ≡ wrote a → entry_with (record { seat = seat; event = event.Write h o none; reply = r }) b
    ≡ entry_of seat (event.Write h o b) (wrote a)
write_entry seat h o none b a r e = ap (λ x. record { seat = seat; event = event.Write h o b; reply = x })
    (ap (λ x. reply_with x b) e ∙ wrote_bare a b)

append_entry : (seat : ℕ) (h : HandleId) (none b : List ℕ) (a : Result WriteAnswer Refusal) (r : Reply) → r ≡ wrote a
    → entry_with (record { seat = seat; event = event.Append h none; reply = r }) b ≡ entry_of seat (event.Append h b)
    (wrote a)
append_entry seat h none b a r e = ap (λ x. record { seat = seat; event = event.Append h b; reply = x })
    (ap (λ x. reply_with x b) e ∙ wrote_bare a b)

read_entry : (seat : ℕ) (h : HandleId) (o n : ℕ) (bytes : List ℕ) (r is : Reply) → reply_with r bytes ≡ is
    → entry_with (record { seat = seat; event = event.Read h o n; reply = r }) bytes ≡ entry_of seat (event.Read h o n)
    is
read_entry seat h o n bytes r is e = ap (λ x. record { seat = seat; event = event.Read h o n; reply = x }) e

pub take_le : (k : ℕ) (xs : List ℕ) (n : ℕ) → k ≤ n → length (take k xs) ≤ n
take_le k xs n h = grind (arith, length-take)

self_le : (n : ℕ) → n ≤ n
self_le n = omega arith

module _ (name : ℕ) (table board : TableId) (files : Catalog) (sizes : Sizes) (seats : ℕ) (whole : Room) (old new : HeldSeen) (before after : SeatSeen)
    (slip : Slip) (i : Whole name table board files sizes seats whole old) where
  pub write_went : (h : HandleId) (o : ℕ) (none b : List ℕ) (a : Result WriteAnswer Refusal) (r : Reply)
      → fits_beside old.log.room old.core.state.sizes.page (reserved old.core.state) 1 (length b) ≡ true
      → Step old.core.state (event.Write h o b) (wrote a) new.core.state
      → new.core.lists ≡ lists_after old.core.state (event.Write h o b) (wrote a) old.core.lists → r ≡ wrote a
      → Entered (entry_with (record { seat = before.number; event = event.Write h o none; reply = r }) b) old.log new.log
      before after slip → new.log.room ≡ less old.log.room (length b) → new.errors ≡ old.errors
      → Made (event.Write h o b) (wrote a) old new before after slip × Whole name table board files sizes seats whole new
  write_went h o none b a r fits s lists is entered room errors =
      went name table board files sizes seats whole old new before after slip i (event.Write h o b) (wrote a) _ (length b) fits
      (self_le (length b)) (write_entry before.number h o none b a r is) (write_in before.number h o b a) s lists entered
      room errors

  pub append_went : (h : HandleId) (none b : List ℕ) (a : Result WriteAnswer Refusal) (r : Reply)
      → fits_beside old.log.room old.core.state.sizes.page (reserved old.core.state) 1 (length b) ≡ true
      → Step old.core.state (event.Append h b) (wrote a) new.core.state
      → new.core.lists ≡ lists_after old.core.state (event.Append h b) (wrote a) old.core.lists → r ≡ wrote a
      → Entered (entry_with (record { seat = before.number; event = event.Append h none; reply = r }) b) old.log new.log
      before after slip → new.log.room ≡ less old.log.room (length b) → new.errors ≡ old.errors
      → Made (event.Append h b) (wrote a) old new before after slip × Whole name table board files sizes seats whole new
  append_went h none b a r fits s lists is entered room errors =
      went name table board files sizes seats whole old new before after slip i (event.Append h b) (wrote a) _ (length b) fits
      (self_le (length b)) (append_entry before.number h none b a r is) (append_in before.number h b a) s lists entered
      room errors

  pub read_went : (h : HandleId) (o n : ℕ) (bytes : List ℕ) (r is : Reply)
      → fits_beside old.log.room old.core.state.sizes.page (reserved old.core.state) 1 n ≡ true → length bytes ≤ n
      → Step old.core.state (event.Read h o n) is new.core.state
      → new.core.lists ≡ lists_after old.core.state (event.Read h o n) is old.core.lists → reply_with r bytes ≡ is
      → bytes ≡ reply_bytes is
      → Entered (entry_with (record { seat = before.number; event = event.Read h o n; reply = r }) bytes) old.log new.log
      before after slip → new.log.room ≡ less old.log.room (length bytes) → new.errors ≡ old.errors
      → Made (event.Read h o n) is old new before after slip × Whole name table board files sizes seats whole new
  read_went h o n bytes r is fits le s lists e got entered room errors =
      went name table board files sizes seats whole old new before after slip i (event.Read h o n) is _ (length bytes) fits le
      (read_entry before.number h o n bytes r is e) (read_in before.number h o n bytes is got) s lists entered room errors

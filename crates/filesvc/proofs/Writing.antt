-- Every page of every file is written back.
use Rattle.std.proofs.Common.{◌≡◌, ℕ, ◌∙◌, List, length, refl, ap}
use Rattle.std.specs.Prelude.{◌≢◌, Option, None, find, nat_le, option_map}
use Rattle.std.specs.Ordering.{nat_cmp}
use Rattle.std.proofs.lemmas.List.{get_or_past}
use Rattle.pc_types.specs.declared.ids.FileId.{FileId}
use Rattle.pc_types.specs.declared.refusal.Refusal.TheVariants.{NoSuchFile}
use Rattle.maps.proofs.MapLaws.{no_entries}
use Rattle.machine.specs.Changes.{flush_pick}
use Rattle.machine.specs.PageTags.{is_flushable}
use Rattle.machine.specs.State.{File, Page, file_at, no_file}
use Rattle.machine.specs.Tests.{is_full}
use Rattle.machine.specs.declared.event.Reply.{Reply}
use Rattle.machine.specs.declared.event.Reply.TheVariants as reply
use Rattle.cachecore.specs.Wants.{IsFirstToWrite}
use Rattle.orderly.proofs.Enough.{no_pick}
use Rattle.filesvc.specs.Rooms.{IsFlush}
use Rattle.filesvc.specs.Seen.{SoloSeen}
use Rattle.filesvc.specs.Service.{Faulted}

-- a flush of a file that has a page to write fails, where it does not write it
pub flush_fails : (s new : SoloSeen) (f : FileId) (r : Reply) → IsFirstToWrite s.world.core f.0 → r ≢ reply.Written → IsFlush s f r new
    → Faulted s new
flush_fails s new f reply.Written first other h = absurd (other refl)
flush_fails s new f reply.Nothing first other h =
    absurd (let none = no_pick (nat_le (length s.world.core.files) f.0) (is_full s.world.core) (flush_pick (file_at s.world.core f.0)) h.0 in
    let some = first.0 in cc)
flush_fails s new f (reply.Refused NoSuchFile) first other h =
    absurd (let none = no_file_picked (file_at s.world.core f.0) (get_or_past s.world.core.files f.0 no_file h.0) in
    let some = first.0 in cc)
  where
    no_file_picked : (file : File) → file ≡ no_file → flush_pick file ≡ None
    no_file_picked file e = ap flush_pick e
        ∙ ap (λ (es : List (ℕ × Page)). option_map (λ (x : ℕ × Page). x.0) (find (λ x. is_flushable x.1.tags) es)) (no_entries nat_cmp)
flush_fails s new f r first other h = h.faulted

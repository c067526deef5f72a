-- What a line of a script prints.
use Rattle.std.specs.Prelude.{ℕ, Bool, false, if◌then◌else◌, List, [], ◌∷◌, ◌++◌, Option, Some, None, Result, Ok, Err, codes, decimal}
use Rattle.hex.specs.Hex.{encode_lower}
use Rattle.pc_types.specs.declared.refusal.Refusal.{Refusal}
use Rattle.pc_types.specs.declared.refusal.Refusal.TheVariants.{Io}
use Rattle.pc_types.specs.Refusals.{refusal_number}
use Rattle.pc_types.specs.Tags.{TagSet}
use Rattle.pc_types.specs.TagBits.{tag_set}
use Rattle.machine.specs.declared.event.Reply.{Reply}
use Rattle.machine.specs.declared.event.Reply.TheVariants.{Refused, File, Handle, Closed, Size, Bytes, Wait, Miss, Wrote, Done, Gone, Present, Filled, Job, Dropped, Failed, Nothing, Written, Evicted, NoneIdle, Aged, Sync, Clean}
use Rattle.cachecore.specs.declared.answers.PageTags.{PageTags}
use Rattle.cachecore.specs.declared.answers.PageTags.TheVariants.{Absent, Filling, Cached}

-- two digits a byte, in lower case, or `-` for no byte
abbrev pub hex_text : List ℕ → List ℕ
hex_text [] = codes "-"
hex_text (b ∷ bytes) = encode_lower (b ∷ bytes)

-- a refusal by its number, and that of a failed device call with its code
abbrev pub refusal_text : Refusal → List ℕ
refusal_text (Io code) = codes "refused 14 " ++ decimal code
refusal_text r = codes "refused " ++ decimal (refusal_number r)

abbrev pub answer_of : Reply → List ℕ
answer_of (Refused refusal) = refusal_text refusal
answer_of (File file) = codes "file " ++ decimal file.0
answer_of (Handle handle) = codes "handle " ++ decimal handle.0
answer_of Closed = codes "closed"
answer_of (Size size) = codes "size " ++ decimal size
answer_of (Bytes bytes) = codes "bytes " ++ hex_text bytes
answer_of (Wait page) = codes "wait " ++ decimal page.0
answer_of (Miss page) = codes "miss " ++ decimal page.0
answer_of (Wrote count end) = codes "wrote " ++ decimal count
answer_of Done = codes "ok"
answer_of Gone = codes "gone"
answer_of Present = codes "present"
answer_of Filled = codes "filled"
answer_of (Job serial) = codes "job " ++ decimal serial.0
answer_of Dropped = codes "dropped"
answer_of (Failed code) = codes "failed " ++ decimal code
answer_of Nothing = codes "nothing"
answer_of Written = codes "written"
answer_of (Evicted file page) = codes "evicted " ++ decimal file.0 ++ codes " " ++ decimal page.0
answer_of NoneIdle = codes "none"
answer_of (Aged count) = codes "aged " ++ decimal count
answer_of (Sync sync) = codes "sync " ++ decimal sync.0
answer_of Clean = codes "clean"

-- D for dirty, W for under writeback, T for to be written by a sync, or `-`
abbrev pub letters_of : TagSet → List ℕ
letters_of t = letters t.dirty t.writeback t.towrite
  where
    letters : Bool → Bool → Bool → List ℕ
    letters false false false = codes "-"
    letters d w t = (if d then codes "D" else []) ++ (if w then codes "W" else []) ++ (if t then codes "T" else [])

-- what is known of a page
abbrev pub tags_text : PageTags → List ℕ
tags_text Absent = codes "absent"
tags_text Filling = codes "filling"
tags_text (Cached tags) = letters_of (tag_set tags)

-- what a poll tells, or the refusal
abbrev pub polled_text : Result (Option ℕ) Refusal → List ℕ
polled_text (Ok (Some code)) = codes "error " ++ decimal code
polled_text (Ok None) = codes "none"
polled_text (Err refusal) = refusal_text refusal

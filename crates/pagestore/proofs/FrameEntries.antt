-- The entry of a page whose frame is known.
use Rattle.std.proofs.Common.{◌≡◌, ap, sym}
use Rattle.std.specs.Prelude.{Option, Some, None, is_some, option_map, unwrap_or}
use Rattle.std.proofs.lemmas.Bool.{false≢true}
use Rattle.pc_types.specs.declared.ids.FrameId.{FrameId}
use Rattle.pc_types.specs.Tags.{no_tags}
use Rattle.mapping.specs.Pages.{Mapped, frame_of}

-- the entry with this frame in place of its own
abbrev pub framed : Option Mapped → FrameId → Mapped
framed o frame = record { frame = frame.0; tags = (unwrap_or o (record { frame = 0; tags = no_tags })).tags }

-- where the frame is the entry's, that is the entry
pub framed_entry : (o : Option Mapped) (frame : FrameId) → Some frame ≡ option_map frame_of o
    → o ≡ Some (framed o frame)
framed_entry None frame e = absurd (false≢true (ap (λ (o : Option FrameId). is_some o) (sym e)))
framed_entry (Some x) frame e =
    ap (λ (o : Option FrameId). let y : Mapped = record { frame = (unwrap_or o frame).0; tags = x.tags } in Some y)
    (sym e)

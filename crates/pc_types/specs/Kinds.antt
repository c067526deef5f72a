-- The two kinds of request: a fill reads a page from the device, and a flush writes it there.
use Rattle.std.specs.Prelude.{Bool, true, false}
use Rattle.pc_types.specs.declared.kind.Kind.{Kind}
use Rattle.pc_types.specs.declared.kind.Kind.TheVariants.{Fill, Flush}

abbrev pub is_fill : Kind → Bool
is_fill Fill = true
is_fill Flush = false

abbrev pub is_flush : Kind → Bool
is_flush Fill = false
is_flush Flush = true

-- whether the kinds are the same
abbrev pub same_kind : Kind → Kind → Bool
same_kind Fill k = is_fill k
same_kind Flush k = is_flush k

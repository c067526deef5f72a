-- Inside this crate: the passes of the open handles, as a finite map.
use Rattle.std.specs.Prelude.{ℕ}
use Rattle.errboard.specs.Shown.{PassSeen}
use Rattle.script.specs.declared.passes.Entry.{Entry}

abbrev pub entry_of : Entry → ℕ × PassSeen
entry_of e = (e.handle.0, e.pass)

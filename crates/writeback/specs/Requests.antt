-- The program's requests as those of the machine.
use Rattle.std.specs.Prelude.{ℕ, true, ◌&&◌, ◌==◌, nat_le, if◌then◌else◌}
use Rattle.machine.specs.State as machine
use Rattle.writeback.specs.declared.requests.Request.{Request}
use Rattle.writeback.specs.declared.requests.Entry.{Entry}

abbrev pub request_of : Request → machine.Request
request_of x = record { kind = x.kind; file = x.file.0; page = x.page.0; block = x.block.0; dropped = x.dropped }

-- a place of the table, as a serial with its request
abbrev pub entry_of : Entry → ℕ × machine.Request
entry_of e = (e.serial.0, request_of e.request)

-- a place whose request is dropped where it is of a page of f from n on
abbrev pub cut_entry : ℕ → ℕ → Entry → Entry
cut_entry f n e =
    if e.request.file.0 == f && nat_le n e.request.page.0
    then record e { request = record e.request { dropped = true } }
    else e

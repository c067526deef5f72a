-- The requests in flight, and what becomes of them. A request, what one fills and what a sync awaits are those of the
-- machine.
use Rattle.std.specs.Prelude.{ℕ, ◌+◌, Bool, ◌&&◌, ◌||◌, ◌==◌, nat_le, if◌then◌else◌, Option, Some, None, find, refl}
use Rattle.std.specs.Coded.{Coded, code_by, coded×, coded_ℕ}
use Rattle.std.specs.Ordering.{nat_cmp}
use Rattle.std.specs.FinMap as map
use Rattle.pc_types.specs.Kinds.{same_kind}
use Rattle.pc_types.specs.declared.kind.Kind.{Kind}
use Rattle.pc_types.specs.declared.limits.TheConstants.{MAX_IN_FLIGHT, SERIAL_END}
use Rattle.machine.specs.State.{Request, Sync, awaits}
use Rattle.machine.specs.inside.Codes.{request_code}

-- the next serial, and the requests in flight by their serials
pub record Flights : Type 0 where
  pub next : ℕ
  pub requests : map.FinMap nat_cmp Request

-- whether no request may begin: too many are in flight, or no serial is left
abbrev pub is_full : Flights → Bool
is_full t = nat_le MAX_IN_FLIGHT (map.len t.requests) || nat_le SERIAL_END t.next

-- a request begins, with the next serial
abbrev pub begun : Flights → Request → Flights
begun t x = record { next = t.next + 1; requests = map.insert t.requests t.next x }

-- the request with this serial ends
abbrev pub ended : Flights → ℕ → Flights
ended t serial = record t { requests = map.remove t.requests serial }

-- a request of this kind, whose device call is of this block
abbrev pub of_call : Kind → ℕ → Option Request → Option Request
of_call kind block None = None
of_call kind block (Some x) = if same_kind kind x.kind && block == x.block then Some x else None

-- the first request that a sync of file f with this bound awaits
abbrev pub first_awaited : ℕ → Sync → ℕ → map.FinMap nat_cmp Request → Option (ℕ × Request)
first_awaited f y bound requests = find (awaits f y bound) (map.entries requests)

-- how the table is stored: as the tuple of its fields. A model's value needs it, and nothing else speaks of it
abbrev pub flights_code : Coded Flights
flights_code =
    code_by (ℕ × map.FinMap nat_cmp Request) (coded× coded_ℕ (map.code coded_ℕ request_code))
    (λ t. (t.next, t.requests))
    (λ v. record { next = v.0; requests = v.1 }) (λ _. refl)

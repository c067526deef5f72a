use Rattle.std.proofs.Common.{◌≡◌, ℕ, ◌-◌, ◌<◌, Bool, true, false, ap, cond, sym, ◌∙◌, arith, eqb, get_or, length, List, Some, option_map, position, None}
use Rattle.std.specs.Prelude.{◌&&◌, count_by, remove, slice_index_or}
use Rattle.std.specs.FinMap as map
use Rattle.std.proofs.lemmas.List.{get_or_default}
use Rattle.pc_types.specs.Kinds.{is_fill, same_kind}
use Rattle.pc_types.specs.declared.kind.Kind.{Kind}
use Rattle.writeback.specs.declared.requests.Entry.{Entry}
use Rattle.writeback.specs.Flights.{Flights, ended, of_call}
use Rattle.writeback.specs.Requests.{request_of}
use Rattle.writeback.proofs.Counts.{fills_removed, is_fill_of, one_if}
use Rattle.writeback.proofs.TableLemmas.{absent_get, found_get, found_inside, remove_rises, remove_ends, table}
use Rattle.writeback.proofs.requests.Requests.end_of.Goals as goal
use Rattle.writeback.proofs.requests.Requests.end_of.Goals.{After-is_call}

pub returns-in_err-at-clause-request : goal.returns-in_err-at-clause-request
returns-in_err-at-clause-request c =
    let none : position (λ (e : Entry). eqb e.serial.0 c.args.serial.0) c.self.inside.in_flight.items ≡ None =
    sym (c.position_of.ensures ∙ ap (position (λ (e : Entry). eqb e.serial.0 c.args.serial.0)) c.deref.ensures.0)
    ∙ c.in_err-at.was in
    ap (option_map request_of) c.from_residual.ensures
    ∙ ap (of_call c.args.kind c.args.block.0)
    (sym (absent_get c.self.inside.next c.self.inside.in_flight.items c.args.serial.0 none)
    ∙ ap (λ (t : Flights). map.get t.requests c.args.serial.0) c.self.view_is)

found : (c : After-is_call) → position (λ (e : Entry). eqb e.serial.0 c.args.serial.0) c.self.inside.in_flight.items
    ≡ Some c.in_ok-at.at
found c =
    sym (c.position_of.ensures ∙ ap (position (λ (e : Entry). eqb e.serial.0 c.args.serial.0)) c.deref.ensures.0)
    ∙ c.in_ok-at.was

-- the entry at i, as the code looks at it
module _ (items seen : List Entry) (i : ℕ) (d : Entry) (same : seen ≡ items) where
  abbrev looked : Entry
  looked = slice_index_or seen i d

  looked_is : (e : Entry) → i < length items → looked ≡ get_or items i e
  looked_is e inside = ap (λ (l : List Entry). slice_index_or l i d) same ∙ get_or_default items i d e inside

  -- it is the one with the serial s, and is of the call or not
  called : (next s : ℕ) (kind : Kind) (block : ℕ) (answer is : Bool) → position (λ (e : Entry). eqb e.serial.0 s) items ≡ Some i
      → answer ≡ (same_kind kind looked.request.kind && eqb block looked.request.block.0) → answer ≡ is
      → cond is (Some (request_of looked.request)) None ≡ of_call kind block (map.get (table next items).requests s)
  called next s kind block answer is at told answered =
      ap (λ b. cond b (Some (request_of looked.request)) None) (sym answered ∙ told)
      ∙ ap (of_call kind block) (found_get next items s i looked at (looked_is looked (found_inside items s i d at)))

  -- it leaves
  counted : (new : List Entry) (e : Entry) (fills one : ℕ) → i < length items → new ≡ remove items i → e ≡ get_or items i e
      → one ≡ one_if (is_fill looked.request.kind) → fills ≡ count_by is_fill_of items → fills - one ≡ count_by is_fill_of new
  counted new e fills one inside is at one_is fills_is =
      let kind = ap (λ (x : Entry). one_if (is_fill x.request.kind)) (looked_is e inside ∙ sym at) in
      omega (arith, fills_removed items new i e inside is at, one_is ∙ kind)

pub returns-then-not-is_call-clause-request : goal.returns-then-not-is_call-clause-request
returns-then-not-is_call-clause-request c =
    called c.self.inside.in_flight.items c.deref-2.result.now c.in_ok-at.at _ c.deref-2.ensures.0 c.self.inside.next
    c.args.serial.0 c.args.kind c.args.block.0 c.is_call.result false
    (found (goal.at.returns-then-not-is_call-clause-request c).After-is_call) c.is_call.ensures c.if-not-is_call.true
    ∙ ap (λ (t : Flights). of_call c.args.kind c.args.block.0 (map.get t.requests c.args.serial.0)) c.self.view_is

pub invariant_of-self : goal.invariant_of-self
invariant_of-self c =
    let items = c.self.inside.in_flight.items in
    let at = found (goal.at.invariant_of-self c).After-is_call in
    let inside = found_inside items c.args.serial.0 c.in_ok-at.at c.remove.result at in (
      remove_rises c.self.inside.next items c.remove.new.self.items c.args.serial.0
          c.in_ok-at.at c.remove.result at c.remove.ensures.items c.self.invariant.0,
      counted items c.deref-2.result.now c.in_ok-at.at _ c.deref-2.ensures.0 c.remove.new.self.items c.remove.result
          c.self.inside.fills c.fills_of.result inside c.remove.ensures.items c.remove.ensures.value c.fills_of.ensures c.self.invariant.1,
    )

pub returns-clause-request : goal.returns-clause-request
returns-clause-request c =
    called c.self.inside.in_flight.items c.deref-2.result.now c.in_ok-at.at _ c.deref-2.ensures.0 c.self.inside.next
    c.args.serial.0 c.args.kind c.args.block.0 c.is_call.result true
    (found (goal.at.returns-clause-request c).After-is_call) c.is_call.ensures c.if-not-is_call.false
    ∙ ap (λ (t : Flights). of_call c.args.kind c.args.block.0 (map.get t.requests c.args.serial.0)) c.self.view_is

pub returns-clause-ended : goal.returns-clause-ended
returns-clause-ended c =
    remove_ends c.self.inside.next c.self.inside.in_flight.items c.remove.new.self.items c.args.serial.0
    c.in_ok-at.at c.remove.result (found (goal.at.returns-clause-ended c).After-is_call) c.remove.ensures.items c.self.invariant.0
    ∙ ap (λ (t : Flights). ended t c.args.serial.0) c.self.view_is

use Rattle.std.proofs.Common.{◌≡◌, ℕ, ap, sym, ◌∙◌, Some, option_map, find, None}
use Rattle.writeback.specs.declared.requests.Entry.{Entry}
use Rattle.writeback.specs.Flights.{Flights, first_awaited}
use Rattle.machine.specs.State.{Request, awaits}
use Rattle.writeback.specs.Requests.{entry_of}
use Rattle.writeback.specs.Slots.{sync_of}
use Rattle.writeback.proofs.TableLemmas.{first_table}
use Rattle.writeback.proofs.requests.Requests.first_awaited.Goals as goal

pub returns-in_err-entry : goal.returns-in_err-entry
returns-in_err-entry c =
    let none : find (λ (e : Entry). awaits c.args.file.0 (sync_of c.args.progress.now) c.args.bound.0 (entry_of e))
    c.self.inside.in_flight.items ≡ None =
    sym (c.awaited_in.ensures ∙ ap
    (find (λ (e : Entry). awaits c.args.file.0 (sync_of c.args.progress.now) c.args.bound.0 (entry_of e)))
    c.deref.ensures.0) ∙ c.in_err-entry.was in
    ap (option_map {U = ℕ × ℕ} (λ e. (e.0.0, e.1.0))) c.from_residual.ensures
    ∙ ap (option_map {U = ℕ × ℕ} (λ (e : Entry). (e.serial.0, e.request.page.0))) (sym none)
    ∙ first_table c.self.inside.next c.args.file.0 c.args.bound.0 (sync_of c.args.progress.now)
    c.self.inside.in_flight.items c.self.invariant.0
    ∙ ap (λ (t : Flights). option_map {U = ℕ × ℕ} (λ (e : ℕ × Request). (e.0, e.1.page))
    (first_awaited c.args.file.0 (sync_of c.args.progress.now) c.args.bound.0 t.requests)) c.self.view_is

pub returns : goal.returns
returns c =
    let some : find (λ (e : Entry). awaits c.args.file.0 (sync_of c.args.progress.now) c.args.bound.0 (entry_of e))
    c.self.inside.in_flight.items ≡ Some c.in_ok-entry.entry =
    sym (c.awaited_in.ensures ∙ ap
    (find (λ (e : Entry). awaits c.args.file.0 (sync_of c.args.progress.now) c.args.bound.0 (entry_of e)))
    c.deref.ensures.0) ∙ c.in_ok-entry.was in
    ap (option_map {U = ℕ × ℕ} (λ (e : Entry). (e.serial.0, e.request.page.0))) (sym some)
    ∙ first_table c.self.inside.next c.args.file.0 c.args.bound.0 (sync_of c.args.progress.now)
    c.self.inside.in_flight.items c.self.invariant.0
    ∙ ap (λ (t : Flights). option_map {U = ℕ × ℕ} (λ (e : ℕ × Request). (e.0, e.1.page))
    (first_awaited c.args.file.0 (sync_of c.args.progress.now) c.args.bound.0 t.requests)) c.self.view_is

use Rattle.std.proofs.Common.{◌≡◌, ℕ, ap, sym, ◌∙◌, List, length, map}
use Rattle.std.specs.List.{refill}
use Rattle.std.proofs.lemmas.List.{length-map}
use Rattle.arrayvec.proofs.ArrayVecLemmas.{items-with_items}
use Rattle.writeback.specs.declared.requests.Entry.{Entry}
use Rattle.writeback.specs.Flights.{Flights}
use Rattle.machine.specs.Changes.{cut_request}
use Rattle.maps.specs.Maps.{each_value}
use Rattle.writeback.specs.Requests.{cut_entry}
use Rattle.writeback.proofs.Counts.{fills_cut}
use Rattle.writeback.proofs.TableLemmas.{cut_rises, cut_drops}
use Rattle.writeback.proofs.requests.Requests.drop_from.Goals as goal

-- a list refilled by one that was made of it
refilled : (f p : ℕ) (items cut new : List Entry) → cut ≡ items → new ≡ map (cut_entry f p) cut
    → refill (length items) items new ≡ map (cut_entry f p) items
refilled f p items cut new same is =
    let made : new ≡ map (cut_entry f p) items = is ∙ ap (map (cut_entry f p)) same in
    items-with_items (record { items = items }) new (ap length made ∙ length-map items (cut_entry f p)) ∙ made

pub invariant_of-self : goal.invariant_of-self
invariant_of-self c =
    let is : _ ≡ map (cut_entry c.args.file.0 c.args.page.0) c.self.inside.in_flight.items =
    refilled c.args.file.0 c.args.page.0 c.self.inside.in_flight.items c.as_mut_slice.result.now
    c.drop_in.new.in_flight c.as_mut_slice.ensures.value c.drop_in.ensures in (
      cut_rises c.self.inside.next c.args.file.0 c.args.page.0 c.self.inside.in_flight.items _ is c.self.invariant.0,
      c.self.invariant.1 ∙ sym (fills_cut c.args.file.0 c.args.page.0 c.self.inside.in_flight.items _ is),
    )

pub returns : goal.returns
returns c =
    cut_drops c.self.inside.next c.args.file.0 c.args.page.0 c.self.inside.in_flight.items _
    (refilled c.args.file.0 c.args.page.0 c.self.inside.in_flight.items c.as_mut_slice.result.now
    c.drop_in.new.in_flight c.as_mut_slice.ensures.value c.drop_in.ensures) c.self.invariant.0
    ∙ ap (λ (t : Flights). record t { requests = each_value (λ _. cut_request c.args.file.0 c.args.page.0) t.requests })
    c.self.view_is

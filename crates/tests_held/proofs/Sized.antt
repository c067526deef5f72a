-- A legal history leaves the sizes that it began with.
use Rattle.std.proofs.Common.{◌≡◌, ℕ, List, [], ◌∷◌, ap, map, ◌∙◌}
use Rattle.pc_types.specs.Limits.{Sizes}
use Rattle.machine.specs.Catalogs.{Catalog, adopted}
use Rattle.machine.specs.History.{Leads}
use Rattle.machine.specs.State.{State}
use Rattle.machine.specs.declared.event.Event.{Event}
use Rattle.machine.specs.declared.event.Reply.{Reply}
use Rattle.machine.proofs.steps.Steady.{steady}
use Rattle.trail.specs.declared.entry.Entry.{Entry}
use Rattle.trail.specs.History.{After, seatless}

leads_sized : (old : State) (es : List (Event × Reply)) (new : State) → Leads old es new → new.sizes ≡ old.sizes
leads_sized old [] new h = ap (λ (s : State). s.sizes) h
leads_sized old (e ∷ es) new h = leads_sized h.0 es new h.2 ∙ (steady old e.0 e.1 h.0 h.1).sizes

pub after_sized : (files : Catalog) (sizes : Sizes) (name : ℕ) (history : List Entry) (s : State) → After files sizes name history s
    → s.sizes ≡ sizes
after_sized files sizes name history s h = leads_sized (adopted sizes name files) (map seatless history) s h.1

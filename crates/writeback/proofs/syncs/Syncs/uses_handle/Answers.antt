use Rattle.std.proofs.Common.{ap, ◌∙◌, eqb, nat_cmp}
use Rattle.std.specs.List.{list_any}
use Rattle.std.specs.FinMap as map
use Rattle.machine.specs.State.{Sync}
use Rattle.writeback.proofs.SlotLemmas.{uses_shown}
use Rattle.writeback.proofs.syncs.Syncs.uses_handle.Goals as goal

pub returns : goal.returns
returns c = c.uses_in.ensures ∙ uses_shown c.args.handle.0 c.self.inside.slots
    ∙ ap (λ (m : map.FinMap nat_cmp Sync). list_any (λ (s : Sync). eqb s.handle c.args.handle.0) (map.values m))
    c.self.view_is

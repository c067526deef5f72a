use Rattle.std.proofs.Common.{ap, ◌∙◌, option_map, nat_cmp}
use Rattle.std.specs.FinMap as map
use Rattle.machine.specs.State.{Sync}
use Rattle.writeback.specs.Slots.{sync_of}
use Rattle.writeback.proofs.SlotLemmas.{get_progress}
use Rattle.writeback.proofs.syncs.Syncs.get.Goals as goal

pub returns : goal.returns
returns c = ap (option_map sync_of) c.progress_in.ensures ∙ get_progress c.self.inside.slots c.args.sync.0
    ∙ ap (λ (m : map.FinMap nat_cmp Sync). map.get m c.args.sync.0) c.self.view_is

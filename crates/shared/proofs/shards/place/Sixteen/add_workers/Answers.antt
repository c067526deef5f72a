use Rattle.shared.proofs.shards.place.Sixteen.add_workers.Goals as goal

pub returns-clause-made : goal.returns-clause-made
returns-clause-made g c = λ first from_16.
    let from_12 = c.add_workers.ensures.made first from_16 in
    let from_8 = c.add_workers-2.ensures.made first from_12 in
    let from_4 = c.add_workers-3.ensures.made first from_8 in
    c.add_workers-4.ensures.made first from_4

use Rattle.std.proofs.Common.{rules, ◌≡◌}
use Rattle.std.specs.Prelude.{None}
use Rattle.playback.proofs.Going.{all_agree, if_none}
use Rattle.playback.proofs.play.play_all.Goals as goal

pub returns-in-Ok-None-clause-played : goal.returns-in-Ok-None-clause-played
returns-in-Ok-None-clause-played c =
    let none : c.in-Ok-None.field-0 ≡ None = search rules in
    all_agree c.args.name c.args.world c.first_odd.new.world c.into_device.result c.args.trail.now.entries
    c.requires.ready c.requires.first (if_none c.in-Ok-None.field-0 _ none c.in-Ok-None.ensures.all)
    (if_none c.in-Ok-None.field-0 _ none c.in-Ok-None.ensures.told) c.into_device.ensures

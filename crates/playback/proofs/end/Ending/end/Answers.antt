use Rattle.std.proofs.Common.{rules, ◌≡◌}
use Rattle.playback.proofs.Ends.{lifted}
use Rattle.playback.proofs.end.Ending.end.Goals as goal

pub returns-in-Ok : goal.returns-in-Ok
returns-in-Ok c =
    let cache : c.args.self.now.end.now.cache ≡ c.args.name = search rules in
    let kind : c.args.self.now.end.now.kind ≡ c.args.self.now.kind = search rules in
    lifted c.finish.result (λ f. f c.args.name c.args.world.now c.requires.ready c.in-Ok.ensures cache kind)
    c.finish.ensures

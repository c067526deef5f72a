use Rattle.std.proofs.Common.{rules, ◌≡◌, true}
use Rattle.trail.specs.Entries.{reply_with}
use Rattle.playback.specs.Playing.{wants_no_memory}
use Rattle.playback.proofs.Ends.{lifted}
use Rattle.playback.proofs.Events.{agreed}
use Rattle.playback.proofs.entry.play_event.Goals as goal

pub returns-clause-agrees : goal.returns-clause-agrees
returns-clause-agrees c =
    let wants : wants_no_memory c.act-answer.result ≡ true = search rules in
    lifted c.is_told.result
    (λ same name ready. agreed c.args.world.now c.act-answer.new.world c.args.event.now c.args.bytes.now c.act-answer.result
    (reply_with c.args.reply.now c.args.bytes.now) c.requires.no_end wants same c.act-answer.ensures name ready)
    c.is_told.ensures

use Rattle.std.proofs.Common.{rules, ◌≡◌, sym, subst}
use Rattle.pc_types.specs.declared.refusal.Refusal.TheVariants.{Stranger}
use Rattle.machine.specs.declared.event.Event.TheVariants as event
use Rattle.machine.specs.declared.event.Reply.{Reply}
use Rattle.machine.specs.declared.event.Reply.TheVariants as reply
use Rattle.trail.specs.Entries.{end_with, reply_with}
use Rattle.playback.specs.Playing.{IsAgreed, entry}
use Rattle.playback.proofs.Ends.{lifted, refused_told}
use Rattle.playback.proofs.end.Ending.play.Goals as goal

pub returns-in-Refused-Stranger : goal.returns-in-Refused-Stranger
returns-in-Refused-Stranger c =
    let e = c.args.self.now in
    let is : e.reply.now ≡ reply.Refused Stranger = search rules in
    lifted c.ends_none.result
    (λ h. subst (λ (r : Reply). IsAgreed c.args.name c.args.world.now
    (entry (event.End e.kind (end_with e.end.now e.bytes.now)) (reply_with r e.bytes.now)) c.ends_none.new.world) (sym is)
    (refused_told c.args.name c.args.world.now c.ends_none.new.world c.requires.ready e.end.now h e.kind e.bytes.now))
    c.ends_none.ensures

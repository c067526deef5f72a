use Rattle.trail.specs.Entries.{reply_with}
use Rattle.playback.proofs.Ends.{finishes_so}
use Rattle.playback.proofs.end.Ending.finish.Goals as goal

pub returns-in-Ok : goal.returns-in-Ok
returns-in-Ok c =
    finishes_so c.args.world.now c.end_told.new.self c.args.self.now.kind c.args.self.now.end.now
    c.args.self.now.bytes.now (reply_with c.args.self.now.reply.now c.args.self.now.bytes.now) c.in-Ok.told
    c.is_told.result c.in-Ok.ensures.ended c.in-Ok.ensures.told c.is_told.ensures.kind c.is_told.ensures.block
    c.is_told.ensures.call c.is_told.ensures.reply

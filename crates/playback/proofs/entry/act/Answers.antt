use Rattle.std.proofs.Common.{rules, ◌≡◌, true}
use Rattle.machine.specs.declared.event.Event.TheVariants as event
use Rattle.playback.proofs.Events.{acted_append, acted_by, acted_write, bare}
use Rattle.playback.proofs.entry.act.Goals as goal

pub returns-in-Write : goal.returns-in-Write
returns-in-Write c =
    let is : c.args.event.now ≡ event.Write c.in-Write.handle c.in-Write.offset c.in-Write.field-2 = search rules in
    acted_write _ _ c.args.event.now c.in-Write.handle c.in-Write.offset c.in-Write.field-2 c.args.bytes.now
    c.of_write.result _ is c.of_write.ensures c.write.ensures

pub returns-in-Append : goal.returns-in-Append
returns-in-Append c =
    let is : c.args.event.now ≡ event.Append c.in-Append.handle c.in-Append.field-1 = search rules in
    acted_append _ _ c.args.event.now c.in-Append.handle c.in-Append.field-1 c.args.bytes.now
    c.of_write-in-Append.result _ is c.of_write-in-Append.ensures c.append.ensures

pub returns-in_default : goal.returns-in_default
returns-in_default c =
    let is : bare c.args.event.now ≡ true = search rules in
    acted_by _ _ c.args.event.now c.args.bytes.now c.step_of.result c.step.result is c.step_of.ensures c.step.ensures

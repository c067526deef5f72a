use Rattle.std.proofs.Common.{sym, subst}
use Rattle.textline.specs.Prints.{Writes, ended}
use Rattle.storm_text.specs.Told.{device_text}
use Rattle.storm_text.proofs.told.print_device.Goals as goal

pub returns-in-Unplayed : goal.returns-in-Unplayed
returns-in-Unplayed g c =
    subst (λ d. Writes c.print_line-in-Unplayed.result (ended (device_text d)) (g.W.Write.contents c.args.out.now.writer)
    (g.W.Write.contents c.print_line-in-Unplayed.new.out.writer)) (sym c.in-Unplayed.is)
    c.print_line-in-Unplayed.ensures.printed

use Rattle.std.proofs.Common.{sym}
use Rattle.pagestore.proofs.Spans.{touched_count_is}
use Rattle.cachecore.proofs.cache.touched_count.Goals as goal

pub returns : goal.returns
returns c = sym (touched_count_is c.args.page_size c.args.offset c.args.count c.requires.positive c.requires.some)

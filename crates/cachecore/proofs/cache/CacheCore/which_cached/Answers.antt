use Rattle.cachecore.proofs.CoreViews.{state_is}
use Rattle.cachecore.proofs.Parts.{parts_of, state_by}
use Rattle.cachecore.proofs.WriteFlags.{flags_to}
use Rattle.cachecore.proofs.cache.CacheCore.which_cached.Goals as goal

pub returns : goal.returns
returns c =
    flags_to c.which_cached.result (state_by (parts_of c.self.inside)) c.args.self.now.state c.args.file c.args.offset c.args.count
    c.page-page_size.result (state_is c.self.view_is) c.page-page_size.ensures.value c.which_cached.ensures

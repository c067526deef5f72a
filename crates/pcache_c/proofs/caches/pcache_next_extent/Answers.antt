use Rattle.std.proofs.Common.{rules, ◌≡◌, ◌∙◌, ℕ, pos, None, Some, Ok, sym, subst, ap}
use Rattle.std.specs.Prelude.{IfOk, IfNone, IfSome}
use Rattle.listing.specs.Listing.{extent_of}
use Rattle.desk.specs.Seen.{DeskSeen, IsExtentNow, NoExtentNow}
use Rattle.pcache_c.proofs.caches.pcache_next_extent.Goals as goal

pub returns-in-Ok-Some-clause-found : goal.returns-in-Ok-Some-clause-found
returns-in-Ok-Some-clause-found c = λ old is one.
    let same : c.behind-cache.inside.desk ≡ old = (let a = c.in-Some.ensures.taken in let b = c.behind-cache.view_is in let d = c.deref_mut.ensures.value in cc) in
    let whole : c.next_extent-next.result ≡ Ok (Some c.in-Ok-Some.next) = search rules in
    let found = subst (λ r. IfOk r (λ next. IfSome next (IsExtentNow c.behind-cache.inside.desk.service c.args.file c.args.from))) whole c.next_extent-next.ensures.found in
    (c.placed.ensures.0, subst (λ (d : DeskSeen). IsExtentNow d.service c.args.file c.args.from (extent_of c.placed.result)) same (subst (IsExtentNow c.behind-cache.inside.desk.service c.args.file c.args.from) (sym c.placed.ensures.1) found))

pub returns-in-Ok-None-clause-ended : goal.returns-in-Ok-None-clause-ended
returns-in-Ok-None-clause-ended c = λ old is zero.
    let same : c.behind-cache.inside.desk ≡ old = (let a = c.in-Some.ensures.taken in let b = c.behind-cache.view_is in let d = c.deref_mut.ensures.value in cc) in
    let whole : c.next_extent-next.result ≡ Ok None = search rules in
    let ended = subst (λ r. IfOk r (λ next. IfNone next (NoExtentNow c.behind-cache.inside.desk.service c.args.file c.args.from))) whole c.next_extent-next.ensures.none in
    subst (λ (d : DeskSeen). NoExtentNow d.service c.args.file c.args.from) same ended

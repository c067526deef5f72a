use Rattle.std.proofs.Common.{◌∙◌, sym, ap, subst, ℕ, ◌-◌, ◌+◌, ◌<◌, List, length, slice_set, drop, arith, length-set}
use Rattle.std.proofs.lemmas.List.{take_at}
use Rattle.frames.specs.declared.link.Link.{Link}
use Rattle.frames.specs.declared.link.Place.TheVariants.{Free}
use Rattle.frames.specs.Lists.{Lists, has, without}
use Rattle.frames.specs.Rings.{Unlinks, next_of, prev_of}
use Rattle.frames.proofs.ListedLemmas.{first_of, view_of, IsClosed, closed, seen, around_inactive, below_inactive, removed_inactive}
use Rattle.frames.proofs.lists.PageLists.remove_inactive.Goals as goal

pub unlink-requires-clause-before_within : goal.unlink-requires-clause-before_within
unlink-requires-clause-before_within c =
    let i = c.self.inside in
    let there = ap (λ (l : Lists). has c.args.frame l.inactive) c.self.view_is ∙ c.requires in
    let FromLinks : List Link → Type 0 = λ (links : List Link). prev_of links c.args.frame < length links in
    subst FromLinks (sym c.deref_mut.ensures.value) (around_inactive i.links.items i.places.items i.active_len i.inactive_len _ _ c.self.invariant c.args.frame there).0

pub unlink-requires-clause-after_within : goal.unlink-requires-clause-after_within
unlink-requires-clause-after_within c =
    let i = c.self.inside in
    let there = ap (λ (l : Lists). has c.args.frame l.inactive) c.self.view_is ∙ c.requires in
    let FromLinks : List Link → Type 0 = λ (links : List Link). next_of links c.args.frame < length links in
    subst FromLinks (sym c.deref_mut.ensures.value) (around_inactive i.links.items i.places.items i.active_len i.inactive_len _ _ c.self.invariant c.args.frame there).1

pub index_mut-requires : goal.index_mut-requires
index_mut-requires c =
    let i = c.self.inside in
    let there = ap (λ (l : Lists). has c.args.frame l.inactive) c.self.view_is ∙ c.requires in
    omega (arith, below_inactive i.links.items i.places.items i.active_len i.inactive_len _ _ c.self.invariant c.args.frame there, i.places.ok.0)

pub invariant_of-self : goal.invariant_of-self
invariant_of-self c =
    let i = c.self.inside in
    let there = ap (λ (l : Lists). has c.args.frame l.inactive) c.self.view_is ∙ c.requires in
    let FromLinks : List Link → Type 0 = λ (links : List Link). Unlinks links c.args.frame c.unlink.new.links in
    let unlinks = subst FromLinks c.deref_mut.ensures.value c.unlink.ensures in
    let listed = removed_inactive i.links.items c.unlink.new.links i.places.items i.active_len i.inactive_len (first_of i.links.items i.active_len (length i.places.items)) (first_of i.links.items i.inactive_len (length i.places.items + 1)) c.self.invariant c.args.frame there unlinks in
    let whole = take_at c.unlink.new.links (drop (length c.unlink.new.links) i.links.items) i.links.len (omega (arith, unlinks.size, i.links.ok.0)) in
    let OfLinks : List Link → Type 0 = λ (links : List Link). IsClosed links (slice_set i.places.items c.args.frame Free) i.active_len (i.inactive_len - 1) in
    subst OfLinks (sym whole) (closed c.unlink.new.links (slice_set i.places.items c.args.frame Free) i.active_len (i.inactive_len - 1) (first_of i.links.items i.active_len (length i.places.items)) (without c.args.frame (first_of i.links.items i.inactive_len (length i.places.items + 1))) listed)

pub returns-clause-lists : goal.returns-clause-lists
returns-clause-lists c =
    let i = c.self.inside in
    let there = ap (λ (l : Lists). has c.args.frame l.inactive) c.self.view_is ∙ c.requires in
    let FromLinks : List Link → Type 0 = λ (links : List Link). Unlinks links c.args.frame c.unlink.new.links in
    let unlinks = subst FromLinks c.deref_mut.ensures.value c.unlink.ensures in
    let listed = removed_inactive i.links.items c.unlink.new.links i.places.items i.active_len i.inactive_len (first_of i.links.items i.active_len (length i.places.items)) (first_of i.links.items i.inactive_len (length i.places.items + 1)) c.self.invariant c.args.frame there unlinks in
    let whole = take_at c.unlink.new.links (drop (length c.unlink.new.links) i.links.items) i.links.len (omega (arith, unlinks.size, i.links.ok.0)) in
    ap (λ (links : List Link). view_of links (slice_set i.places.items c.args.frame Free) i.active_len (i.inactive_len - 1)) whole
    ∙ seen c.unlink.new.links (slice_set i.places.items c.args.frame Free) i.active_len (i.inactive_len - 1) (first_of i.links.items i.active_len (length i.places.items)) (without c.args.frame (first_of i.links.items i.inactive_len (length i.places.items + 1))) listed
    ∙ ap (λ (n : ℕ). let v : Lists = record { count = n; active = (first_of i.links.items i.active_len (length i.places.items)); inactive = without c.args.frame (first_of i.links.items i.inactive_len (length i.places.items + 1)) } in v) (length-set i.places.items c.args.frame Free)
    ∙ ap (λ (l : Lists). record l { inactive = without c.args.frame l.inactive }) c.self.view_is

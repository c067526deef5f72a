use Rattle.std.proofs.Common.{◌≡◌, ◌∙◌, sym, ap, subst, ℕ, ◌+◌, ◌<◌, List, ◌∷◌, length, slice_set, drop, arith, length-set}
use Rattle.std.proofs.lemmas.List.{take_at}
use Rattle.frames.specs.declared.link.Link.{Link}
use Rattle.frames.specs.declared.link.Place.TheVariants.{Active}
use Rattle.frames.specs.Lists.{Lists, has}
use Rattle.frames.specs.Rings.{Inserts, next_of}
use Rattle.frames.proofs.ListedLemmas.{first_of, view_of, IsClosed, closed, seen, first_active, few_active, pushed_active}
use Rattle.frames.proofs.lists.PageLists.push_active.Goals as goal

pub insert_after-requires-clause-after_within : goal.insert_after-requires-clause-after_within
insert_after-requires-clause-after_within c =
    let i = c.self.inside in
    let head : c.len-head.result ≡ length i.places.items = omega (arith, c.len-head.ensures, i.places.ok.0) in
    let FromLinks : List Link → Type 0 = λ (links : List Link). next_of links (c.len-head.result) < length links in
    let FromHead : ℕ → Type 0 = λ (at : ℕ). next_of i.links.items at < length i.links.items in
    subst FromLinks (sym c.deref_mut.ensures.value) (subst FromHead (sym head) (first_active i.links.items i.places.items i.active_len i.inactive_len _ _ c.self.invariant))

pub overflow_add-self : goal.overflow_add-self
overflow_add-self c =
    let i = c.self.inside in
    omega (arith, few_active i.links.items i.places.items i.active_len i.inactive_len _ _ c.self.invariant)

pub invariant_of-self : goal.invariant_of-self
invariant_of-self c =
    let i = c.self.inside in
    let count = ap (λ (l : Lists). l.count) c.self.view_is in
    let within : c.args.frame < length i.places.items = omega (arith, count, c.requires.within) in
    let no_active = ap (λ (l : Lists). has c.args.frame l.active) c.self.view_is ∙ c.requires.not_active in
    let no_inactive = ap (λ (l : Lists). has c.args.frame l.inactive) c.self.view_is ∙ c.requires.not_inactive in
    let head : c.len-head.result ≡ length i.places.items = omega (arith, c.len-head.ensures, i.places.ok.0) in
    let FromLinks : List Link → Type 0 = λ (links : List Link). Inserts links (c.len-head.result) c.args.frame c.insert_after.new.links in
    let FromHead : ℕ → Type 0 = λ (at : ℕ). Inserts i.links.items at c.args.frame c.insert_after.new.links in
    let inserts = subst FromHead head (subst FromLinks c.deref_mut.ensures.value c.insert_after.ensures) in
    let listed = pushed_active i.links.items c.insert_after.new.links i.places.items i.active_len i.inactive_len (first_of i.links.items i.active_len (length i.places.items)) (first_of i.links.items i.inactive_len (length i.places.items + 1)) c.self.invariant c.args.frame within no_active no_inactive inserts in
    let whole = take_at c.insert_after.new.links (drop (length c.insert_after.new.links) i.links.items) i.links.len (omega (arith, inserts.size, i.links.ok.0)) in
    let OfLinks : List Link → Type 0 = λ (links : List Link). IsClosed links (slice_set i.places.items c.args.frame Active) (i.active_len + 1) i.inactive_len in
    subst OfLinks (sym whole) (closed c.insert_after.new.links (slice_set i.places.items c.args.frame Active) (i.active_len + 1) i.inactive_len (c.args.frame ∷ (first_of i.links.items i.active_len (length i.places.items))) (first_of i.links.items i.inactive_len (length i.places.items + 1)) listed)

pub returns : goal.returns
returns c =
    let i = c.self.inside in
    let count = ap (λ (l : Lists). l.count) c.self.view_is in
    let within : c.args.frame < length i.places.items = omega (arith, count, c.requires.within) in
    let no_active = ap (λ (l : Lists). has c.args.frame l.active) c.self.view_is ∙ c.requires.not_active in
    let no_inactive = ap (λ (l : Lists). has c.args.frame l.inactive) c.self.view_is ∙ c.requires.not_inactive in
    let head : c.len-head.result ≡ length i.places.items = omega (arith, c.len-head.ensures, i.places.ok.0) in
    let FromLinks : List Link → Type 0 = λ (links : List Link). Inserts links (c.len-head.result) c.args.frame c.insert_after.new.links in
    let FromHead : ℕ → Type 0 = λ (at : ℕ). Inserts i.links.items at c.args.frame c.insert_after.new.links in
    let inserts = subst FromHead head (subst FromLinks c.deref_mut.ensures.value c.insert_after.ensures) in
    let listed = pushed_active i.links.items c.insert_after.new.links i.places.items i.active_len i.inactive_len (first_of i.links.items i.active_len (length i.places.items)) (first_of i.links.items i.inactive_len (length i.places.items + 1)) c.self.invariant c.args.frame within no_active no_inactive inserts in
    let whole = take_at c.insert_after.new.links (drop (length c.insert_after.new.links) i.links.items) i.links.len (omega (arith, inserts.size, i.links.ok.0)) in
    ap (λ (links : List Link). view_of links (slice_set i.places.items c.args.frame Active) (i.active_len + 1) i.inactive_len) whole
    ∙ seen c.insert_after.new.links (slice_set i.places.items c.args.frame Active) (i.active_len + 1) i.inactive_len (c.args.frame ∷ (first_of i.links.items i.active_len (length i.places.items))) (first_of i.links.items i.inactive_len (length i.places.items + 1)) listed
    ∙ ap (λ (n : ℕ). let v : Lists = record { count = n; active = c.args.frame ∷ (first_of i.links.items i.active_len (length i.places.items)); inactive = (first_of i.links.items i.inactive_len (length i.places.items + 1)) } in v) (length-set i.places.items c.args.frame Active)
    ∙ ap (λ (l : Lists). record l { active = c.args.frame ∷ l.active }) c.self.view_is

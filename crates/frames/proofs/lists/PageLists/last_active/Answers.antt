use Rattle.std.proofs.Common.{◌≡◌, ◌∙◌, sym, ap, subst, ℕ, suc, ◌-◌, length, get_or, take, arith}
use Rattle.std.proofs.lemmas.List.{get_or_read}
use Rattle.frames.specs.declared.link.Link.{Link}
use Rattle.frames.specs.Lists.{Lists, has, without}
use Rattle.frames.specs.Rings.{prev_of, nowhere}
use Rattle.frames.proofs.ListedLemmas.{first_of, not_inactive, below_active, last_has, front_of, last_of}
use Rattle.frames.proofs.lists.PageLists.last_active.Goals as goal

-- the last active frame is the head's prev
last_is : (c : goal.After-index) → get_or (first_of c.self.inside.links.items c.self.inside.active_len (length c.self.inside.places.items)) (length (first_of c.self.inside.links.items c.self.inside.active_len (length c.self.inside.places.items)) - 1) 0 ≡ c.index.result.now.prev
last_is c =
    let i = c.self.inside in
    let n = length i.places.items in
    let A = first_of i.links.items i.active_len n in
    let some = ap (λ (l : Lists). length l.active) c.self.view_is in
    let size : length A ≡ suc (length A - 1) = omega (arith, some, c.requires) in
    let at : c.len.result ≡ n = omega (arith, c.len.ensures, i.places.ok.0) in
    let link = get_or_read i.links.items c.len.result c.index.result.now (omega (arith, c.self.invariant.heads)) c.index.ensures nowhere in
    last_of i.links.items n (length A - 1) A n c.self.invariant.actives size
    ∙ ap (λ (k : ℕ). prev_of i.links.items k) (sym at)
    ∙ sym (ap (λ (l : Link). l.prev) link)

pub returns-clause-last : goal.returns-clause-last
returns-clause-last c =
    sym (last_is c) ∙ ap (λ (l : Lists). get_or l.active (length l.active - 1) 0) c.self.view_is

pub returns-clause-front : goal.returns-clause-front
returns-clause-front c =
    let i = c.self.inside in
    let A = first_of i.links.items i.active_len (length i.places.items) in
    let some = ap (λ (l : Lists). length l.active) c.self.view_is in
    let P : Lists → Type 0 = λ (l : Lists). without c.index.result.now.prev l.active ≡ take (length l.active - 1) l.active in
    subst P c.self.view_is (front_of c.index.result.now.prev (length A - 1) A c.self.invariant.active_once (omega (arith, some, c.requires)) (last_is c))

pub returns-clause-alone : goal.returns-clause-alone
returns-clause-alone c =
    let i = c.self.inside in
    let A = first_of i.links.items i.active_len (length i.places.items) in
    let some = ap (λ (l : Lists). length l.active) c.self.view_is in
    let there = last_has c.index.result.now.prev (length A - 1) A (omega (arith, some, c.requires)) (last_is c) in
    ap (λ (l : Lists). has c.index.result.now.prev l.inactive) (sym c.self.view_is) ∙ not_inactive i.links.items i.places.items i.active_len i.inactive_len _ _ c.self.invariant c.index.result.now.prev there

pub returns-clause-within : goal.returns-clause-within
returns-clause-within c =
    let i = c.self.inside in
    let A = first_of i.links.items i.active_len (length i.places.items) in
    let some = ap (λ (l : Lists). length l.active) c.self.view_is in
    let there = last_has c.index.result.now.prev (length A - 1) A (omega (arith, some, c.requires)) (last_is c) in
    let below = below_active i.links.items i.places.items i.active_len i.inactive_len _ _ c.self.invariant c.index.result.now.prev there in
    omega (arith, ap (λ (l : Lists). l.count) c.self.view_is)

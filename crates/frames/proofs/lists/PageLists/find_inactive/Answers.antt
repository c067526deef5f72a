use Rattle.std.proofs.Common.{◌∙◌, sym, ap, ℕ, ◌+◌, List, length, arith}
use Rattle.frames.specs.declared.link.Link.{Link}
use Rattle.frames.specs.Lists.{Lists, has}
use Rattle.frames.proofs.ListedLemmas.{first_of, below_inactive}
use Rattle.frames.proofs.ScanLemmas.{walked, has-reverse, moved}
use Rattle.frames.proofs.lists.PageLists.find_inactive.Goals as goal

pub find_back-requires-clause-within : goal.find_back-requires-clause-within
find_back-requires-clause-within g c = λ f h.
    let i = c.self.inside in
    let walk = walked i.links.items c.deref.result.now (length i.places.items + 1) (c.len.result + 1) i.inactive_len (first_of i.links.items i.inactive_len (length i.places.items + 1)) c.args.self.now.inactive c.deref.ensures.value (omega (arith, c.len.ensures, i.places.ok.0)) c.self.invariant.inactive_total c.self.invariant.inactives (ap (λ (l : Lists). l.inactive) c.self.view_is) in
    let there = has-reverse f c.args.self.now.inactive (sym (ap (λ (xs : List ℕ). has f xs) walk) ∙ h) in
    let below = below_inactive i.links.items i.places.items i.active_len i.inactive_len _ _ c.self.invariant f (ap (λ (l : Lists). has f l.inactive) c.self.view_is ∙ there) in
    omega (arith, c.self.invariant.heads, ap (λ (links : List Link). length links) c.deref.ensures.value)

pub find_back-requires-clause-callable : goal.find_back-requires-clause-callable
find_back-requires-clause-callable g c = λ f h.
    let i = c.self.inside in
    let walk = walked i.links.items c.deref.result.now (length i.places.items + 1) (c.len.result + 1) i.inactive_len (first_of i.links.items i.inactive_len (length i.places.items + 1)) c.args.self.now.inactive c.deref.ensures.value (omega (arith, c.len.ensures, i.places.ok.0)) c.self.invariant.inactive_total c.self.invariant.inactives (ap (λ (l : Lists). l.inactive) c.self.view_is) in
    c.requires f (has-reverse f c.args.self.now.inactive (sym (ap (λ (xs : List ℕ). has f xs) walk) ∙ h))

pub returns : goal.returns
returns g c =
    let i = c.self.inside in
    let walk = walked i.links.items c.deref.result.now (length i.places.items + 1) (c.len.result + 1) i.inactive_len (first_of i.links.items i.inactive_len (length i.places.items + 1)) c.args.self.now.inactive c.deref.ensures.value (omega (arith, c.len.ensures, i.places.ok.0)) c.self.invariant.inactive_total c.self.invariant.inactives (ap (λ (l : Lists). l.inactive) c.self.view_is) in
    moved (λ f a. goal.F-post g c.args.test.now (record { 0 = f }) a) _ _ _ walk c.find_back.ensures

use Rattle.std.proofs.Common.{arith, ap, sym, subst, refl, ◌∙◌, ◌≡◌, ◌+◌, length}
use Rattle.std.proofs.lemmas.List.{length-map}
use Rattle.frames.specs.Table.{Table, IsSound, aged}
use Rattle.pagestore.specs.Store.{IsStore, Store, listed_at, store_of, with_lists}
use Rattle.pagestore.proofs.StoreFacts.{store_same}
use Rattle.machine.specs.PageLists as lists
use Rattle.machine.specs.PageLists.{active_target}
use Rattle.pagestore.proofs.ListedFrames.{kept_same, lists-aged}
use Rattle.pagestore.proofs.pages.Pages.age.Goals as goal

pub invariant_of-self : goal.invariant_of-self
invariant_of-self c =
    let t = c.self.inside.frames in
    let up = c.self.inside.uptodate.items in
    let files = c.self.inside.files.items in
    let s = c.self.invariant in
    subst (λ (u : Table). IsStore u up files c.self.inside.dirty) (sym c.age.ensures.aged)
    (store_same t (aged t) up files c.self.inside.dirty s (λ g. refl) refl refl s.sized refl (λ g aside. aside)
    refl (subst (λ (u : Table). IsSound u) c.age.ensures.aged c.age.ensures.sound))

pub returns-clause-moved : goal.returns-clause-moved
returns-clause-moved c =
    let t = c.self.inside.frames in
    subst (λ (s : Store). c.age.result + active_target s.lists ≡ length s.lists.active) c.self.view_is
    (omega (arith, c.age.ensures.moved, kept_same t c.self.invariant.sound, length-map t.active (listed_at t)))

pub returns-clause-aged : goal.returns-clause-aged
returns-clause-aged c =
    let t = c.self.inside.frames in
    let up = c.self.inside.uptodate.items in
    let files = c.self.inside.files.items in
    ap (λ (u : Table). store_of u up files) c.age.ensures.aged
    ∙ ap (with_lists (store_of t up files)) (lists-aged t c.self.invariant.sound)
    ∙ ap (λ (s : Store). with_lists s (lists.aged s.lists)) c.self.view_is

use Rattle.std.proofs.Common.{◌≡◌, sym, ap, subst, ◌∙◌, ◌-◌, ℕ, None, arith}
use Rattle.std.specs.Prelude.{is_some, slice_set}
use Rattle.std.specs.FinMap as map
use Rattle.std.specs.FinSet as set
use Rattle.std.specs.Ordering.{nat_cmp}
use Rattle.std.proofs.lemmas.Result.{IfOk-at_ok}
use Rattle.idalloc.specs.Ids.{Ids}
use Rattle.maps.specs.Vectors.{by_place}
use Rattle.cachecore.specs.Handles.{AreHandles}
use Rattle.maps.proofs.Vectors.{by_place-none}
use Rattle.cachecore.proofs.HandleLemmas.{freed, handle_closed, has_place, used_handle}
use Rattle.cachecore.proofs.HandleLemmas.{len_one_less}
use Rattle.cachecore.proofs.handles.Handles.close.Goals as goal

pub unwrap-requires : goal.unwrap-requires
unwrap-requires c =
    let there = ap (λ (m : map.FinMap nat_cmp ℕ). is_some (map.get m c.args.handle)) c.self.view_is ∙ c.requires in
    freed c.free.result c.free.ensures.only
    (λ e. used_handle c.self.inside.ids.used c.self.inside.files.items c.self.inside.count c.self.invariant
    c.args.handle there (c.free.ensures.unused.0 e))

pub overflow_sub-self : goal.overflow_sub-self
overflow_sub-self c =
    let there = ap (λ (m : map.FinMap nat_cmp ℕ). is_some (map.get m c.args.handle)) c.self.view_is ∙ c.requires in
    omega (arith, c.self.invariant.counted, len_one_less (by_place c.self.inside.files.items) c.args.handle there)

pub invariant_of-self : goal.invariant_of-self
invariant_of-self c =
    let there = ap (λ (m : map.FinMap nat_cmp ℕ). is_some (map.get m c.args.handle)) c.self.view_is ∙ c.requires in
    let now =
    IfOk-at_ok (λ _. c.free.new.self
    ≡ record { used = set.remove c.self.inside.ids.used c.args.handle; next = c.self.inside.ids.next })
    c.unwrap.ensures c.free.ensures.freed in
    subst (λ (ids : Ids). AreHandles ids.used (slice_set c.self.inside.files.items c.args.handle None)
    (c.self.inside.count - 1)) (sym now)
    (handle_closed c.self.inside.ids.used c.self.inside.files.items c.self.inside.count c.self.invariant c.args.handle
    there)

pub returns : goal.returns
returns c =
    let there = ap (λ (m : map.FinMap nat_cmp ℕ). is_some (map.get m c.args.handle)) c.self.view_is ∙ c.requires in
    by_place-none c.self.inside.files.items c.args.handle
    (has_place c.self.inside.ids.used c.self.inside.files.items c.self.inside.count c.self.invariant c.args.handle
    there)
    ∙ ap (λ (m : map.FinMap nat_cmp ℕ). map.remove m c.args.handle) c.self.view_is

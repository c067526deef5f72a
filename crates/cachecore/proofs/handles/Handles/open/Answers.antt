use Rattle.std.proofs.Common.{◌+◌, ◌-◌, ◌<◌, ℕ, Some, Err, sym, ap, subst, ◌∙◌, arith, length}
use Rattle.std.specs.Prelude.{is_some, slice_set}
use Rattle.std.specs.FinMap as map
use Rattle.std.specs.Ordering.{nat_cmp}
use Rattle.std.proofs.lemmas.Result.{err_from_is_err_and}
use Rattle.pc_types.specs.declared.limits.TheConstants.{MAX_HANDLES}
use Rattle.idalloc.specs.Ids.{Ids}
use Rattle.cachecore.specs.Handles.{AreHandles}
use Rattle.machine.specs.Step.{IsLowest}
use Rattle.maps.proofs.Vectors.{by_place-some}
use Rattle.cachecore.proofs.HandleLemmas.{handle_opened, has_room, lowest_handle, memory_alone}
use Rattle.cachecore.proofs.handles.Handles.open.Goals as goal

pub returns-in_err-handle-clause-memory : goal.returns-in_err-handle-clause-memory
returns-in_err-handle-clause-memory c =
    let p = err_from_is_err_and c.from_residual.result c.from_residual.ensures.1 in
    let few = subst (λ (m : map.FinMap nat_cmp ℕ). map.len m < MAX_HANDLES) (sym c.self.view_is) c.requires.room in
    rw (p.1, p.2)
    (memory_alone c.in_err-handle.field-0.0 c.in_err-handle.ensures.only
    (λ e. has_room c.self.inside.ids.used c.self.inside.files.items c.self.inside.count c.self.invariant few
    (c.in_err-handle.ensures.none.0 (ap Err e))))

pub invariant_of-self-2 : goal.invariant_of-self-2
invariant_of-self-2 c =
    let within : c.in_ok-handle.handle < length c.self.inside.files.items =
    omega (arith, c.self.invariant.whole, c.in_ok-handle.ensures.lowest.high) in
    subst (λ (ids : Ids). AreHandles ids.used
    (slice_set c.self.inside.files.items c.in_ok-handle.handle (Some c.args.file)) (c.self.inside.count + 1))
    (sym c.in_ok-handle.ensures.used)
    (handle_opened c.self.inside.ids.used c.self.inside.files.items c.self.inside.count c.self.invariant
    c.in_ok-handle.handle c.args.file within c.in_ok-handle.ensures.lowest.unused)

pub returns-clause-lowest : goal.returns-clause-lowest
returns-clause-lowest c =
    subst (λ (m : map.FinMap nat_cmp ℕ). IsLowest (λ k. is_some (map.get m k)) c.in_ok-handle.handle) c.self.view_is
    (lowest_handle c.self.inside.ids.used c.self.inside.files.items c.self.inside.count c.self.invariant
    (MAX_HANDLES - 1) c.in_ok-handle.handle c.in_ok-handle.ensures.lowest)

pub returns-clause-opened : goal.returns-clause-opened
returns-clause-opened c =
    let within : c.in_ok-handle.handle < length c.self.inside.files.items =
    omega (arith, c.self.invariant.whole, c.in_ok-handle.ensures.lowest.high) in
    by_place-some c.self.inside.files.items c.in_ok-handle.handle c.args.file within
    ∙ ap (λ (m : map.FinMap nat_cmp ℕ). map.insert m c.in_ok-handle.handle c.args.file) c.self.view_is

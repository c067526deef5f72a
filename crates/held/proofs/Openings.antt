-- A cache with the files that stand on its device, and its empty history.
use Rattle.std.proofs.Common.{◌≡◌, ℕ, ◌*◌, ◌+◌, true, [], map, refl, ap, sym, subst, ◌∙◌, arith}
use Rattle.std.specs.Prelude.{Option, Some, None, count_by, nat_le, ◌&&◌}
use Rattle.std.proofs.lemmas.Bool.Decides.{nat_tests}
use Rattle.pc_types.specs.Limits.{Sizes}
use Rattle.machine.specs.Catalogs.{Catalog}
use Rattle.machine.specs.State.{State}
use Rattle.machine.specs.Catalogs.{IsCatalog, adopted}
use Rattle.trail.specs.History.{After}
use Rattle.held.specs.Kept.{IsHeld}
use Rattle.std.specs.FinMap as finmap
use Rattle.std.specs.FinMap.{len-empty}
use Rattle.std.specs.Ordering.{nat_cmp}
use Rattle.pc_types.specs.Kinds.{is_fill, is_flush}
use Rattle.machine.specs.State.{Request, Sync}
use Rattle.maps.proofs.MapLaws.{no_entries}
use Rattle.trail.specs.Room.{Room, fits_bytes, keeps_room, nothing_reserved, reserved}
use Rattle.held.specs.Shown.{LogSeen}

first_after : (files : Catalog) (sizes : Sizes) (name : ℕ) → IsCatalog sizes files → After files sizes name [] (adopted sizes name files)
first_after files sizes name ok = (ok, refl)

any_room : (room : Room) (page : ℕ) → keeps_room room page nothing_reserved ≡ true
any_room room page = go room.bytes
  where
    zero : page * 0 + 0 ≡ 0
    zero = omega arith

    go : (o : Option ℕ) → (nat_le 0 room.events && fits_bytes o (page * 0 + 0)) ≡ true
    go None = grind (arith, nat_tests)
    go (Some n) = rw zero (grind (arith, nat_tests))

none_counted : (files : Catalog) (sizes : Sizes) (name : ℕ) → nothing_reserved ≡ reserved (adopted sizes name files)
none_counted files sizes name =
    let empty : finmap.values (adopted sizes name files).requests ≡ [] =
    ap (map (λ (e : ℕ × Request). e.1)) (no_entries nat_cmp) in
    let none = len-empty nat_cmp Sync in
    (λ i. record {
      fills = count_by (λ (r : Request). is_fill r.kind) (sym empty i);
      others = count_by (λ (r : Request). is_flush r.kind) (sym empty i) + sym none i;
    })

pub opens : (log : LogSeen) (core : State) (files : Catalog) (sizes : Sizes) (name : ℕ) → IsCatalog sizes files → log.history ≡ []
    → core ≡ adopted sizes name files
    → log.name ≡ name → IsHeld files log core
opens log core files sizes name ok empty first named = record {
  history = subst (λ s. After files s.sizes s.name log.history s) (sym first)
      (subst (λ l. After files sizes name l (adopted sizes name files)) (sym empty) (first_after files sizes name ok));
  name = named ∙ sym (ap (λ (s : State). s.name) first);
  room = ap (λ (s : State). keeps_room log.room s.sizes.page (reserved s)) first
      ∙ ap (keeps_room log.room sizes.page) (sym (none_counted files sizes name)) ∙ any_room log.room sizes.page;
}

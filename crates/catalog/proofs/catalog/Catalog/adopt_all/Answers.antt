use Rattle.std.proofs.Common.{sym, ap, subst, ◌∙◌, ◌≡◌, Some, None, inl, inr}
use Rattle.blockmap.specs.Blocks.{Blocks, is_mapped}
use Rattle.machine.specs.State.{page_count}
use Rattle.catalog.specs.Cataloged.{Cataloged}
use Rattle.catalog.specs.Extents.{Added, misfit}
use Rattle.catalog.specs.Kept.{IsKept, cataloged}
use Rattle.catalog.specs.Rows.{HasRoom}
use Rattle.catalog.proofs.Adoptions.{cut_undone}
use Rattle.catalog.proofs.Keeping.{added, kept_extent, room_bytes, room_file, room_first, room_pages}
use Rattle.catalog.proofs.Places.{none_range}
use Rattle.catalog.proofs.Reasons.{block_twice, no_misfit}
use Rattle.catalog.proofs.catalog.Catalog.adopt_all.Goals as goal

pub adopt_pages-requires-clause-file : goal.adopt_pages-requires-clause-file
adopt_pages-requires-clause-file c =
    let s = c.self.inside in
    room_file s.page s.count s.sizes.items s.blocks c.self.invariant c.args.file.0 c.args.extent (subst (λ (x : Cataloged). HasRoom x c.args.file.0 c.args.extent) (sym c.self.view_is) c.requires)

pub adopt_pages-requires-clause-bytes : goal.adopt_pages-requires-clause-bytes
adopt_pages-requires-clause-bytes c =
    let s = c.self.inside in
    room_bytes s.page s.count s.sizes.items s.blocks c.self.invariant c.args.file.0 c.args.extent (subst (λ (x : Cataloged). HasRoom x c.args.file.0 c.args.extent) (sym c.self.view_is) c.requires)

pub adopt_pages-requires-clause-pages : goal.adopt_pages-requires-clause-pages
adopt_pages-requires-clause-pages c =
    let s = c.self.inside in
    room_pages s.page s.count s.sizes.items s.blocks c.self.invariant c.args.file.0 c.args.extent (subst (λ (x : Cataloged). HasRoom x c.args.file.0 c.args.extent) (sym c.self.view_is) c.requires)

pub cut_from-requires-clause-file : goal.cut_from-requires-clause-file
cut_from-requires-clause-file c =
    let s = c.self.inside in
    room_file s.page s.count s.sizes.items s.blocks c.self.invariant c.args.file.0 c.args.extent (subst (λ (x : Cataloged). HasRoom x c.args.file.0 c.args.extent) (sym c.self.view_is) c.requires)

pub cut_from-requires-clause-page : goal.cut_from-requires-clause-page
cut_from-requires-clause-page c =
    let s = c.self.inside in
    room_first s.page s.count s.sizes.items s.blocks c.self.invariant c.args.file.0 c.args.extent (subst (λ (x : Cataloged). HasRoom x c.args.file.0 c.args.extent) (sym c.self.view_is) c.requires)

pub invariant_of-self : goal.invariant_of-self
invariant_of-self c =
    let s = c.self.inside in
    let room = subst (λ (x : Cataloged). HasRoom x c.args.file.0 c.args.extent) (sym c.self.view_is) c.requires in
    let back = cut_undone s.blocks c.adopt_pages.new.blocks c.cut_from.new.self c.args.file.0 c.args.extent.first.0 c.in-Err.ensures.some c.cut_from.ensures room.last c.self.invariant.not_held in
    subst (λ (b : Blocks). IsKept s.page s.count s.sizes.items b) (sym back) c.self.invariant

pub returns-in-Err-clause-refused : goal.returns-in-Err-clause-refused
returns-in-Err-clause-refused c =
    let s = c.self.inside in
    let room = subst (λ (x : Cataloged). HasRoom x c.args.file.0 c.args.extent) (sym c.self.view_is) c.requires in
    let back = cut_undone s.blocks c.adopt_pages.new.blocks c.cut_from.new.self c.args.file.0 c.args.extent.first.0 c.in-Err.ensures.some c.cut_from.ensures room.last c.self.invariant.not_held in
    ap (λ (b : Blocks). cataloged s.page s.count s.sizes.items b) back ∙ c.self.view_is

pub returns-in-Err-clause-why : goal.returns-in-Err-clause-why
returns-in-Err-clause-why c =
    let s = c.self.inside in
    let f = c.args.file.0 in
    let e = c.args.extent in
    let room = subst (λ (x : Cataloged). HasRoom x f e) (sym c.self.view_is) c.requires in
    elim c.in-Err.ensures.why [
      | inl memory ↦ inl memory
      | inr twice ↦ inr (subst (λ (x : Cataloged). misfit x f e ≡ Some c.in-Err.why) c.self.view_is (block_twice (cataloged s.page s.count s.sizes.items s.blocks) f e room twice.1 ∙ ap Some (sym twice.0)))
    ]

pub invariant_of-self-in_default : goal.invariant_of-self-in_default
invariant_of-self-in_default c =
    let s = c.self.inside in
    let room = subst (λ (x : Cataloged). HasRoom x c.args.file.0 c.args.extent) (sym c.self.view_is) c.requires in
    kept_extent s.page s.count s.sizes.items s.blocks c.adopt_pages.new.blocks c.args.file.0 c.args.extent c.self.invariant room c.in_default.ensures.all

pub returns-clause-added : goal.returns-clause-added
returns-clause-added c =
    let s = c.self.inside in
    let room = subst (λ (x : Cataloged). HasRoom x c.args.file.0 c.args.extent) (sym c.self.view_is) c.requires in
    subst (λ (x : Cataloged). Added x (cataloged s.page s.count s.sizes.items c.adopt_pages.new.blocks) c.args.file.0 c.args.extent) c.self.view_is
    (added s.page s.count s.sizes.items s.blocks c.adopt_pages.new.blocks c.args.file.0 c.args.extent c.self.invariant room c.in_default.ensures.all)

pub returns-clause-fits : goal.returns-clause-fits
returns-clause-fits c =
    let s = c.self.inside in
    let e = c.args.extent in
    let room = subst (λ (x : Cataloged). HasRoom x c.args.file.0 c.args.extent) (sym c.self.view_is) c.requires in
    let free = none_range (is_mapped s.blocks.spots) e.block.0 (page_count s.page e.bytes) c.in_default.ensures.all.free in
    subst (λ (x : Cataloged). misfit x c.args.file.0 c.args.extent ≡ None) c.self.view_is
    (no_misfit (cataloged s.page s.count s.sizes.items s.blocks) c.args.file.0 c.args.extent room free)

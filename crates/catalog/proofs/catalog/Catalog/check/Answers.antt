use Rattle.std.proofs.Common.{ℕ, sym, ap, subst, ◌∙◌, ◌≡◌, ◌<◌, ◌≤◌, ◌+◌, ◌*◌, ◌^◌, true, false, Option, Some, None, is_some, length, arith}
use Rattle.std.specs.Prelude.{slice_index, IfNone, IfSome}
use Rattle.std.proofs.lemmas.Bool.{false≢true, leb-true, true≢false}
use Rattle.pc_types.specs.declared.ids.PageIndex.{PageIndex}
use Rattle.blockmap.specs.Blocks.{Spots}
use Rattle.blockmap.specs.declared.spots.Placed.{Placed}
use Rattle.blockmap.specs.Keys.{IsFirstFrom, NoneFrom}
use Rattle.machine.specs.Catalogs.{size_in}
use Rattle.machine.specs.State.{page_count}
use Rattle.catalog.specs.Cataloged.{Cataloged}
use Rattle.catalog.specs.Extents.{has_from, misfit}
use Rattle.catalog.specs.Kept.{cataloged}
use Rattle.catalog.specs.declared.extent.Misfit.TheVariants.{OutOfOrder, PastDevice}
use Rattle.catalog.proofs.Keeping.{few_files, size_small}
use Rattle.catalog.proofs.Numbers.{first_within}
use Rattle.catalog.proofs.Places.{from_none, from_some}
use Rattle.catalog.proofs.Reasons.{out_of_order, past_device}
use Rattle.catalog.proofs.catalog.Catalog.check.Goals as goal

pub next-requires-clause-file : goal.next-requires-clause-file
next-requires-clause-file c =
    let s = c.self.inside in
    let few : length s.sizes.items ≤ 64 = few_files s.page s.count s.sizes.items s.blocks c.self.invariant in
    let same : length s.sizes.items ≡ length c.args.self.now.files.sizes = ap (λ (x : Cataloged). length x.files.sizes) c.self.view_is in
    omega arith

pub next-requires-clause-from : goal.next-requires-clause-from
next-requires-clause-from c =
    let s = c.self.inside in
    let f = c.args.file.0 in
    let e = c.args.extent in
    let same : c.size.result ≡ slice_index s.sizes.items f = c.size.ensures ∙ sym (ap (λ (x : Cataloged). size_in x.files f) c.self.view_is) in
    let within : e.first.0 * s.page + e.bytes ≤ c.size.result = leb-true (e.first.0 * s.page + e.bytes) c.size.result (sym c.if-not-is_within.ensures) in
    let in_file : e.first.0 * s.page + e.bytes ≤ slice_index s.sizes.items f = omega arith in
    first_within s.page e.first.0 e.bytes (slice_index s.sizes.items f) c.self.invariant.least in_file (size_small s.page s.count s.sizes.items s.blocks c.self.invariant f)

found_later : (o : Option (PageIndex × Placed)) (m : Spots) (f from : ℕ) → IfSome o (λ found. IsFirstFrom m f from found.0.0) → is_some o ≡ true → has_from m f from ≡ true
found_later None m f from found h = absurd (false≢true h)
found_later (Some x) m f from found h = from_some m f from x.0.0 found.is.low found.is.there

pub returns-then-is_some-clause-why : goal.returns-then-is_some-clause-why
returns-then-is_some-clause-why c =
    let s = c.self.inside in
    let f = c.args.file.0 in
    let e = c.args.extent in
    let length_same : length s.sizes.items ≡ length c.args.self.now.files.sizes = ap (λ (x : Cataloged). length x.files.sizes) c.self.view_is in
    let here : f < length s.sizes.items = omega arith in
    let some : 0 < e.bytes = omega arith in
    let same : c.size.result ≡ slice_index s.sizes.items f = c.size.ensures ∙ sym (ap (λ (x : Cataloged). size_in x.files f) c.self.view_is) in
    let within : e.first.0 * s.page + e.bytes ≤ c.size.result = leb-true (e.first.0 * s.page + e.bytes) c.size.result (sym c.if-not-is_within.ensures) in
    let in_file : e.first.0 * s.page + e.bytes ≤ slice_index s.sizes.items f = omega arith in
    let follows = found_later c.next.result s.blocks.spots f e.first.0 c.next.ensures.found (sym c.if-is_some.ensures) in
    subst (λ (x : Cataloged). misfit x f e ≡ Some OutOfOrder) c.self.view_is
    (out_of_order (cataloged s.page s.count s.sizes.items s.blocks) f e here some in_file follows)

pub page_count-requires-clause-bytes : goal.page_count-requires-clause-bytes
page_count-requires-clause-bytes c =
    let s = c.self.inside in
    let f = c.args.file.0 in
    let e = c.args.extent in
    let same : c.size.result ≡ slice_index s.sizes.items f = c.size.ensures ∙ sym (ap (λ (x : Cataloged). size_in x.files f) c.self.view_is) in
    let within : e.first.0 * s.page + e.bytes ≤ c.size.result = leb-true (e.first.0 * s.page + e.bytes) c.size.result (sym c.if-not-is_within.ensures) in
    let small : slice_index s.sizes.items f ≤ 2 ^ 40 = size_small s.page s.count s.sizes.items s.blocks c.self.invariant f in
    omega arith

none_later : (o : Option (PageIndex × Placed)) (m : Spots) (f from : ℕ) → is_some o ≡ false → IfNone o (NoneFrom m f from) → has_from m f from ≡ false
none_later None m f from h none = from_none m f from none
none_later (Some x) m f from h none = absurd (true≢false h)

pub returns-then-self-from-clause-why : goal.returns-then-self-from-clause-why
returns-then-self-from-clause-why c =
    let s = c.self.inside in
    let f = c.args.file.0 in
    let e = c.args.extent in
    let length_same : length s.sizes.items ≡ length c.args.self.now.files.sizes = ap (λ (x : Cataloged). length x.files.sizes) c.self.view_is in
    let here : f < length s.sizes.items = omega arith in
    let some : 0 < e.bytes = omega arith in
    let same : c.size.result ≡ slice_index s.sizes.items f = c.size.ensures ∙ sym (ap (λ (x : Cataloged). size_in x.files f) c.self.view_is) in
    let within : e.first.0 * s.page + e.bytes ≤ c.size.result = leb-true (e.first.0 * s.page + e.bytes) c.size.result (sym c.if-not-is_within.ensures) in
    let in_file : e.first.0 * s.page + e.bytes ≤ slice_index s.sizes.items f = omega arith in
    let last = none_later c.next.result s.blocks.spots f e.first.0 (sym c.if-is_some.ensures) c.next.ensures.none in
    let pages : c.page_count.result ≡ page_count s.page e.bytes = c.page_count.ensures in
    let block : c.from.result ≡ e.block.0 = c.from.ensures in
    let past : s.count < e.block.0 + page_count s.page e.bytes = subst (λ n. s.count < e.block.0 + n) pages (subst (λ b. s.count < b + c.page_count.result) block c.if-self-from.true) in
    subst (λ (x : Cataloged). misfit x f e ≡ Some PastDevice) c.self.view_is
    (past_device (cataloged s.page s.count s.sizes.items s.blocks) f e here some in_file last past)

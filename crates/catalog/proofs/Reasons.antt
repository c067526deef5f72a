-- The first reason not to take an extent.
use Rattle.std.proofs.Common.{◌≡◌, ℕ, ◌+◌, ◌*◌, ◌<◌, ◌≤◌, Bool, true, false, not, eqb, cond, length, Option, Some, None, ap, ◌∙◌, arith}
use Rattle.std.specs.Prelude.{nat_lt}
use Rattle.std.proofs.lemmas.Bool.{eq-eqb, false_from_ne_true, lt-ltb, ltb-true, ne_eqb}
use Rattle.machine.specs.Catalogs.{size_in}
use Rattle.machine.specs.State.{page_count}
use Rattle.catalog.specs.declared.extent.Extent.{Extent}
use Rattle.catalog.specs.declared.extent.Misfit.{Misfit}
use Rattle.catalog.specs.declared.extent.Misfit.TheVariants.{NoSuchFile, Empty, PastSize, OutOfOrder, PastDevice, BlockTwice}
use Rattle.catalog.specs.Cataloged.{Cataloged}
use Rattle.catalog.specs.Extents.{has_from, is_any_mapped, misfit}
use Rattle.catalog.specs.Rows.{HasRoom}
use Rattle.catalog.proofs.Places.{from_none}

abbrev first_of_six : Bool → Bool → Bool → Bool → Bool → Bool → Option Misfit
first_of_six here empty past follows beyond twice =
    cond (not here) (Some NoSuchFile) (cond empty (Some Empty) (cond past (Some PastSize) (cond follows (Some OutOfOrder) (cond beyond (Some PastDevice) (cond twice (Some BlockTwice) None)))))

not_lt : (a b : ℕ) → b ≤ a → nat_lt a b ≡ false
not_lt a b h = false_from_ne_true (nat_lt a b) (λ t. let low : a < b = ltb-true a b t in omega arith)

module _ (c : Cataloged) (f : ℕ) (e : Extent) where
  pub no_file : length c.files.sizes ≤ f → misfit c f e ≡ Some NoSuchFile
  no_file past = λ i. first_of_six (not_lt f (length c.files.sizes) past i) (eqb e.bytes 0) (nat_lt (size_in c.files f) (e.first.0 * c.page + e.bytes)) (has_from c.files.spots f e.first.0) (nat_lt c.blocks (e.block.0 + page_count c.page e.bytes)) (is_any_mapped c.files.spots e.block.0 (page_count c.page e.bytes))

  module _ (here : f < length c.files.sizes) where
    pub no_bytes : e.bytes ≡ 0 → misfit c f e ≡ Some Empty
    no_bytes none = λ i. first_of_six (lt-ltb f (length c.files.sizes) here i) (eq-eqb e.bytes 0 none i) (nat_lt (size_in c.files f) (e.first.0 * c.page + e.bytes)) (has_from c.files.spots f e.first.0) (nat_lt c.blocks (e.block.0 + page_count c.page e.bytes)) (is_any_mapped c.files.spots e.block.0 (page_count c.page e.bytes))

    module _ (some : 0 < e.bytes) where
      full : eqb e.bytes 0 ≡ false
      full = ne_eqb e.bytes 0 (λ e. omega arith)

      pub past_size : size_in c.files f < e.first.0 * c.page + e.bytes → misfit c f e ≡ Some PastSize
      past_size past = λ i. first_of_six (lt-ltb f (length c.files.sizes) here i) (full i) (lt-ltb (size_in c.files f) (e.first.0 * c.page + e.bytes) past i) (has_from c.files.spots f e.first.0) (nat_lt c.blocks (e.block.0 + page_count c.page e.bytes)) (is_any_mapped c.files.spots e.block.0 (page_count c.page e.bytes))

      module _ (in_file : e.first.0 * c.page + e.bytes ≤ size_in c.files f) where
        within : nat_lt (size_in c.files f) (e.first.0 * c.page + e.bytes) ≡ false
        within = not_lt (size_in c.files f) (e.first.0 * c.page + e.bytes) in_file

        pub out_of_order : has_from c.files.spots f e.first.0 ≡ true → misfit c f e ≡ Some OutOfOrder
        out_of_order follows = λ i. first_of_six (lt-ltb f (length c.files.sizes) here i) (full i) (within i) (follows i) (nat_lt c.blocks (e.block.0 + page_count c.page e.bytes)) (is_any_mapped c.files.spots e.block.0 (page_count c.page e.bytes))

        pub past_device : has_from c.files.spots f e.first.0 ≡ false → c.blocks < e.block.0 + page_count c.page e.bytes → misfit c f e ≡ Some PastDevice
        past_device last past = λ i. first_of_six (lt-ltb f (length c.files.sizes) here i) (full i) (within i) (last i) (lt-ltb c.blocks (e.block.0 + page_count c.page e.bytes) past i) (is_any_mapped c.files.spots e.block.0 (page_count c.page e.bytes))

  module _ (room : HasRoom c f e) where
    by_block : misfit c f e ≡ cond (is_any_mapped c.files.spots e.block.0 (page_count c.page e.bytes)) (Some BlockTwice) None
    by_block = λ i. first_of_six (lt-ltb f (length c.files.sizes) room.file i) (full room.file room.some i) (within room.file room.some room.in_file i) (from_none c.files.spots f e.first.0 room.last i) (not_lt c.blocks (e.block.0 + page_count c.page e.bytes) room.on_device i) (is_any_mapped c.files.spots e.block.0 (page_count c.page e.bytes))

    pub block_twice : is_any_mapped c.files.spots e.block.0 (page_count c.page e.bytes) ≡ true → misfit c f e ≡ Some BlockTwice
    block_twice h = by_block ∙ ap (λ t. cond t (Some BlockTwice) None) h

    pub no_misfit : is_any_mapped c.files.spots e.block.0 (page_count c.page e.bytes) ≡ false → misfit c f e ≡ None
    no_misfit h = by_block ∙ ap (λ t. cond t (Some BlockTwice) None) h

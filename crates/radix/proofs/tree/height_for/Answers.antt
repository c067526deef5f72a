use Rattle.std.proofs.Common.{◌≢◌, ◌/◌, ◌^◌, ◌<◌, sym, ap, ◌∙◌, inl, inr, arith, w64, w32}
use Rattle.std.proofs.Math.Facts.{Fits-lt-pow, Fits-of_lt}
use Rattle.std.proofs.lemmas.Bool.{cases_eq}
use Rattle.radix.proofs.HeadLemmas.{not_highest}
use Rattle.radix.proofs.RoomLemmas.{height_is}
use Rattle.radix.proofs.tree.height_for.Goals as goal
use Rattle.radix.proofs.tree.height_for.Goals.{In-up}

beyond : (c : In-up) → c.args.index / 64 ^ c.up.height / 64 ≢ 0
beyond c = rw (c.place_at.ensures) at c.up-test.true

lower : (c : In-up) → c.up.height < 10
lower c = not_highest c.args.index c.up.height 0 (Fits-lt-pow {w = w64} c.ranges.index) c.up.invariant.high (omega arith) (inr (beyond c))

pub up-init : goal.up-init
up-init c = record { low = omega arith; high = c.requires; missed = λ other low high. absurd (omega (arith, low, high)) }

pub place_at-requires : goal.place_at-requires
place_at-requires c = c.up.invariant.high

pub overflow_add-height : goal.overflow_add-height
overflow_add-height c = let l = lower c in Fits-of_lt {w = w32} (omega (arith, l))

pub up-smaller : goal.up-smaller
up-smaller c = let l = lower c in omega (arith, l)

pub up-preserved : goal.up-preserved
up-preserved c =
    let l = lower c in
    let b = beyond c in
    record {
      low = let i = c.up.invariant.low in omega (arith, i);
      high = omega (arith, l);
      missed = λ other low high. elim (cases_eq other c.up.height) [
        | inl same ↦ λ e. b (ap (λ z. c.args.index / 64 ^ z / 64) (sym same) ∙ e)
        | inr differs ↦ c.up.invariant.missed other low (omega (arith, high, differs))
      ];
    }

pub returns-clause-high : goal.returns-clause-high
returns-clause-high c = c.up.invariant.high

pub returns-clause-height : goal.returns-clause-height
returns-clause-height c = height_is c.args.index c.args.level c.up.height c.up.invariant.low (rw (c.place_at.ensures) at c.up-test.false) c.up.invariant.missed

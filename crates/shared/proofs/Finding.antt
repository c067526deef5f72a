-- Turns that find nothing to do.
use Rattle.std.proofs.Common.{◌≡◌, ℕ, ◌≤◌, ◌+◌, false, ap, inl, inr, sym, subst, ◌∙◌, arith}
use Rattle.cachecore.specs.Wants.{NothingToWrite}
use Rattle.machine.specs.State.{State, free_frames}
use Rattle.machine.specs.Tests.{has_idle}
use Rattle.pc_types.specs.Limits.{Sizes}
use Rattle.machine.specs.Catalogs.{Catalog}
use Rattle.trail.specs.History.{After}
use Rattle.trail.specs.declared.entry.Entry.{Entry}
use Rattle.std.specs.Prelude.{List}
use Rattle.held.specs.Called.{Only}
use Rattle.held.specs.Shown.{HeldSeen, SeatSeen}
use Rattle.held.proofs.Seats.{only_any}
use Rattle.shared.specs.Workers.{AllCarried, FindsEnough, FindsNothing, IsCarried, OnBegun}
use Rattle.shared.specs.declared.worker.Worker.{Worker}

pub finds_nothing : (files : Catalog) (sizes : Sizes) (name : ℕ) (before after : SeatSeen) (state : State)
    → after ≡ record before { list = after.list } → Only (λ _. ⊥) before after → After files sizes name after.list state
    → NothingToWrite state → FindsNothing files sizes name before after
finds_nothing files sizes name before after state same only leaves nothing =
    record { same = same; only = only; state = state; leaves = leaves; nothing = nothing }

-- the state that the seat was shown is that in which nothing was found
pub finds_shown : (files : Catalog) (sizes : Sizes) (name : ℕ) (before at after : SeatSeen) (held old : HeldSeen) → held ≡ old → at ≡ before
    → after ≡ record at { list = held.log.history } → Only (λ _. ⊥) at after → After files sizes name after.list held.core.state
    → NothingToWrite old.core.state → FindsNothing files sizes name before after
finds_shown files sizes name before at after held old is same seen only leaves nothing =
    subst (λ s. FindsNothing files sizes name s after) same (record {
      same = seen ∙ ap (λ l. let k : SeatSeen = record at { list = l } in k) (sym (ap (λ (s : SeatSeen). s.list) seen));
      only = only;
      state = held.core.state;
      leaves = leaves;
      nothing = subst (λ (h : HeldSeen). NothingToWrite h.core.state) (sym is) nothing;
    })

pub nothing_carried : (a b : Worker) (files : Catalog) (sizes : Sizes) (name : ℕ) → FindsNothing files sizes name a.seat b.seat → AllCarried a b
nothing_carried a b files sizes name f = only_any (λ e. OnBegun (IsCarried a b) e.event e.reply) a.seat b.seat f.only

pub none_counted : (a b : SeatSeen) (files : Catalog) (sizes : Sizes) (name : ℕ) → FindsNothing files sizes name a b → b.count ≡ a.count + 0
none_counted a b files sizes name f = let c = ap (λ (s : SeatSeen). s.count) f.same in omega (arith, c)

pub finds_spare : (files : Catalog) (sizes : Sizes) (name : ℕ) (seat : SeatSeen) (state : State) → After files sizes name seat.list state
    → 16 ≤ free_frames state → FindsEnough 16 files sizes name seat
finds_spare files sizes name seat state leaves enough = record { state = state; leaves = leaves; enough = inl enough }

pub finds_none_idle : (files : Catalog) (sizes : Sizes) (name : ℕ) (seat : SeatSeen) (history : List Entry) (state : State)
    → seat.list ≡ history → After files sizes name history state → has_idle state ≡ false → FindsEnough 16 files sizes name seat
finds_none_idle files sizes name seat history state sees leaves none = record {
  state = state;
  leaves = subst (λ l. After files sizes name l state) (sym sees) leaves;
  enough = inr none;
}

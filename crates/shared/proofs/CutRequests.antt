-- Where some request is such, one is in flight; so where one is dropped.
use Rattle.std.proofs.Common.{◌≡◌, ◌∙◌, Bool, [], ℕ, true, false, map, ap, sym, arith}
use Rattle.std.specs.Prelude.{nat_lt}
use Rattle.std.specs.FinMap as finmap
use Rattle.std.specs.List.{list_any}
use Rattle.std.specs.Ordering.{nat_cmp}
use Rattle.std.proofs.lemmas.Bool.{false≢true, true_from_ne_false}
use Rattle.std.proofs.lemmas.Bool.Decides.{nat_tests}
use Rattle.maps.proofs.MapLaws.{no_entries}
use Rattle.machine.specs.State.{Request, State}
use Rattle.cachecore.specs.Wants.{holds_cut}
use Rattle.cachecore.specs.Wants.{is_busy}

none_left : (n : ℕ) → nat_lt 0 n ≡ false → n ≡ 0
none_left n e = grind (arith, nat_tests)

-- at rest there is none
pub no_requests : (s : State) → is_busy s ≡ false → s.requests ≡ finmap.empty
no_requests s rests = finmap.empty_of_len s.requests (none_left (finmap.len s.requests) rests)

none_such : (P : Request → Bool) (s : State) → is_busy s ≡ false → list_any P (finmap.values s.requests) ≡ false
none_such P s rests =
    let none : finmap.values (finmap.empty {K = ℕ} {X = Request} {R = nat_cmp}) ≡ [] =
    ap (map (λ (e : ℕ × Request). e.1)) (no_entries nat_cmp) in
    ap (λ (m : finmap.FinMap nat_cmp Request). list_any P (finmap.values m)) (no_requests s rests) ∙ ap (list_any P) none

pub any_busy : (P : Request → Bool) (s : State) → list_any P (finmap.values s.requests) ≡ true → is_busy s ≡ true
any_busy P s any = true_from_ne_false (is_busy s) (λ rests. false≢true (sym (none_such P s rests) ∙ any))

pub none_cut : (s : State) → is_busy s ≡ false → holds_cut s ≡ false
none_cut s rests = none_such (λ (x : Request). x.dropped) s rests

pub cut_busy : (s : State) → holds_cut s ≡ true → is_busy s ≡ true
cut_busy s cut = any_busy (λ (x : Request). x.dropped) s cut

-- A file grows by zeros.
use Rattle.std.proofs.Common.{◌≡◌, ℕ, ◌+◌, ◌-◌, ◌*◌, ◌/◌, ◌<◌, ◌≤◌, true, refl, arith, inl, inr, Some, is_some}
use Rattle.std.proofs.Common.{le-div_iff_mul-le}
use Rattle.machine.specs.State.{page_count}
use Rattle.runs.proofs.views.View.{View, Flight, Good, RequestIs, HasFlush, Goes, no_gone, quietly_evolves, put1}
use Rattle.runs.proofs.views.View.{put1_tells, writeback, still_flying}

pub page_count_more : (P a b : ℕ) → 0 < P → a ≤ b → page_count P a ≤ page_count P b
page_count_more P a b h l =
    (le-div_iff_mul-le h).1 (let q : (a + (P - 1)) / P * P ≤ a + (P - 1) = (le-div_iff_mul-le h).0 (omega arith) in
    omega arith)

module _ (v : View) (ok : Good v) (f z : ℕ) (more : v.size f ≤ z) where
  abbrev pub after : View
  after = record v { size = put1 v.size f z }

  grows : (g : ℕ) → v.size g ≤ after.size g
  grows g =
      elim (put1_tells v.size f z g) [
        | inl h ↦ (let a = h.1 in let b : v.size g ≡ v.size f = (λ i. v.size (h.0 i)) in omega arith)
        | inr h ↦ (let a = h.1 in omega arith)
      ]

  page_in : (g q : ℕ) → is_some (v.page g q) ≡ true → q < page_count v.page_size (after.size g)
  page_in g q e = let old = ok.page_in g q e in
      let m = page_count_more v.page_size (v.size g) (after.size g) ok.positive (grows g) in omega arith

  spot_in : (g q : ℕ) → is_some (v.spot g q) ≡ true → q < page_count v.page_size (after.size g)
  spot_in g q e = let old = ok.spot_in g q e in
      let m = page_count_more v.page_size (v.size g) (after.size g) ok.positive (grows g) in omega arith

  pub grow : Goes no_gone v after
  grow = (
    (let requests : (u : ℕ) (s : Flight) → v.request u ≡ Some s → RequestIs after u s =
        λ u s e. assumption (ok.requests u s e) in
        let flushes : (g q : ℕ) → writeback (v.page g q) ≡ true → HasFlush after g q =
        λ g q e. still_flying v after g q (ok.flushes g q e) refl in
        assumption (page_in, spot_in)),
    quietly_evolves no_gone v after (λ g q _ b h. h) (λ u r e k d. e) (λ u r e k d _. e) (λ g q _ e. e) (λ g. refl)
        refl,
  )

-- A change of one view, where the words stay: by a load, a split or a join.
use Rattle.std.proofs.Common.{◌≡◌, ◌≢◌, ℕ, List, [], ◌∷◌, ◌++◌, set, get_or, sym, subst, ⊎_elim}
use mathlib.Core.Option.{some}
use lib.ListN.{get_elem?}
use lib.Seq.{set-get_or}
use Rattle.atomic_table.specs.Table.{State, keeps, stepped}
use Rattle.atomic_table.proofs.Lists.{at_set, at_snoc}
use Rattle.errboard.specs.declared.views.View.{View}
use Rattle.errboard.specs.declared.views.View.TheVariants.{Spent}
use Rattle.errboard.specs.Rules.{Fits, IsKept}

pub each_set : (P : ℕ → View → Type 0) (vs : List View) (id : ℕ) (w : View) → P id w → ((j : ℕ) (v : View) → j ≢ id → get_elem? vs j ≡ some v → P j v) → (j : ℕ) (v : View) → get_elem? (set vs id w) j ≡ some v → P j v
each_set P vs id w mine others j v e = ⊎_elim
    (λ (t : (j ≡ id) × (w ≡ v)). subst (λ (y : ℕ × View). P y.0 y.1) (λ i. (sym t.0 i, t.1 i)) mine)
    (λ (t : (j ≢ id) × (get_elem? vs j ≡ some v)). others j v t.0 t.1)
    (at_set vs id j w v e)

-- one seat has a new view
pub unmoved : (o : List ℕ) (s : State ℕ View) (r : IsKept o s) (i id : ℕ) (c : List (ℕ × ℕ)) (w : View) → Fits o r.logs s.words r.writer id w → IsKept o (stepped s i (get_or s.words i 0) id c w keeps)
unmoved o s r i id c w fits = subst (λ ws. IsKept o record { words = ws; homes = s.homes; views = set s.views id w }) (sym (set-get_or s.words i 0)) record {
  logs = r.logs;
  writer = r.writer;
  word_count = r.word_count;
  log_count = r.log_count;
  each_file = r.each_file;
  each_seat = each_set (Fits o r.logs s.words r.writer) s.views id w fits (λ j v _ e. r.each_seat j v e);
}

each_snoc : (P : ℕ → View → Type 0) (vs : List View) (v : View) → ((j : ℕ) (u : View) → get_elem? vs j ≡ some u → P j u) → ((j : ℕ) → P j v) → (j : ℕ) (u : View) → get_elem? (vs ++ v ∷ []) j ≡ some u → P j u
each_snoc P vs v others mine j u e = ⊎_elim (λ (t : get_elem? vs j ≡ some u). others j u t) (λ (t : v ≡ u). subst (P j) t (mine j)) (at_snoc vs v u j e)

pub split_state : (o : List ℕ) (s : State ℕ View) (r : IsKept o s) (id : ℕ) (left right : View) → Fits o r.logs s.words r.writer id left → ((j : ℕ) → Fits o r.logs s.words r.writer j right) → IsKept o record { words = s.words; homes = s.homes; views = set s.views id left ++ right ∷ [] }
split_state o s r id left right l h = record {
  logs = r.logs;
  writer = r.writer;
  word_count = r.word_count;
  log_count = r.log_count;
  each_file = r.each_file;
  each_seat = each_snoc (Fits o r.logs s.words r.writer) (set s.views id left) right (each_set (Fits o r.logs s.words r.writer) s.views id left l (λ j v _ e. r.each_seat j v e)) h;
}

pub join_state : (o : List ℕ) (s : State ℕ View) (r : IsKept o s) (id other : ℕ) (both : View) → Fits o r.logs s.words r.writer id both → IsKept o record { words = s.words; homes = s.homes; views = set (set s.views id both) other Spent }
join_state o s r id other both h = record {
  logs = r.logs;
  writer = r.writer;
  word_count = r.word_count;
  log_count = r.log_count;
  each_file = r.each_file;
  each_seat = each_set (Fits o r.logs s.words r.writer) (set s.views id both) other Spent tt (λ i u _ x. each_set (Fits o r.logs s.words r.writer) s.views id both h (λ j v _ e. r.each_seat j v e) i u x);
}

-- what a seat that is to be joined knows
pub other_fits : (o : List ℕ) (s : State ℕ View) (r : IsKept o s) (id other : ℕ) (both w : View) → ¬ (other ≡ id) → get_elem? (set s.views id both) other ≡ some w → Fits o r.logs s.words r.writer other w
other_fits o s r id other both w apart there = ⊎_elim (λ (t : (other ≡ id) × (both ≡ w)). absurd (apart t.0)) (λ (t : (other ≢ id) × (get_elem? s.views other ≡ some w)). r.each_seat other w t.1) (at_set s.views id other both w there)

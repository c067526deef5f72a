-- What is looked up in a state after a file of it changes, when two states are equal, and what a free block is.
use Rattle.std.proofs.Common.{◌≡◌, ℕ, ◌<◌, ◌≢◌, Bool, true, false, cond, not, eqb, eq-eqb, List, [], ◌∷◌, length}
use Rattle.std.proofs.Common.{refl, ap, sym, ◌∙◌}
use Rattle.std.specs.Prelude.{◌+◌, ◌-◌, ◌/◌, ◌&&◌, ◌||◌, Some, map, nat_le}
use Rattle.std.specs.List.{list_any}
use Rattle.std.proofs.lemmas.List.Folds.{list_any-append}
use Rattle.std.specs.Ordering.{nat_cmp}
use Rattle.std.specs.FinMap as finmap
pub use Rattle.maps.proofs.Vectors.{get_or-set}
use Rattle.std.specs.FinMap.{get-entries}
use Rattle.machine.specs.State.{State, File, Request, file_at, page_at, spot_at, no_file, is_filling, fills}
use Rattle.machine.specs.State.{used_blocks}
use Rattle.pc_types.specs.Spots.{Spot, place_cmp}
use Rattle.machine.specs.Changes.{put_file}
use Rattle.maps.proofs.MapLaws.{any_value}

-- whether n bytes at o touch page p
abbrev pub touches : ℕ → ℕ → ℕ → ℕ → Bool
touches P o n p = nat_le (o / P) p && nat_le p ((o + n - 1) / P)

-- ---- files

pub file_at-put : (s : State) (f g : ℕ) (file : File) → f < length s.files
    → file_at (put_file s f file) g ≡ cond (eqb g f) file (file_at s g)
file_at-put s f g file h = get_or-set s.files f g file no_file h

pub page_at-put : (s : State) (f : ℕ) (file : File) → f < length s.files → (g q : ℕ)
    → page_at (put_file s f file) g q ≡ cond (eqb g f) (finmap.get file.pages q) (page_at s g q)
page_at-put s f file h g q = ap (λ (x : File). finmap.get x.pages q) (file_at-put s f g file h)
    ∙ elim (eqb g f) as (λ b. finmap.get (cond b file (file_at s g)).pages q ≡ cond b (finmap.get file.pages q)
    (page_at s g q)) [ true ↦ refl | false ↦ refl ]

-- the file itself, after it changes
pub file_at-here : (s : State) (f : ℕ) (file : File) → f < length s.files → file_at (put_file s f file) f ≡ file
file_at-here s f file h = file_at-put s f f file h ∙ ap (λ b. cond b file (file_at s f)) (eq-eqb f f refl)

-- ---- equal values

-- ---- filling

-- a fill in flight shows
pub filling_shows : (s : State) (f p t : ℕ) (r : Request) → finmap.get s.requests t ≡ Some r → fills f p r ≡ true
    → is_filling s f p ≡ true
filling_shows s f p t r e h = any_value nat_cmp (fills f p) t r (finmap.entries s.requests)
    (sym (get-entries s.requests t) ∙ e) h

-- ---- free blocks

-- whether no page has the block, and no request in flight
abbrev pub is_free : State → ℕ → Bool
is_free s b = not (list_any (λ used. eqb used b) (used_blocks s))

neither : (a b c : Bool) → c ≡ (a || b) → not c ≡ true → (a ≡ false) × (b ≡ false)
neither true b c e n = absurd (let k = ap not e in cc)
neither false true c e n = absurd (let k = ap not e in cc)
neither false false c e n = (refl, refl)

pub any_block : {A : Type 0} (block : A → ℕ) (b : ℕ) (xs : List A)
    → list_any (λ used. eqb used b) (map block xs) ≡ list_any (λ x. eqb (block x) b) xs
any_block block b [] = refl
any_block block b (x ∷ xs) = ap (λ k. eqb (block x) b || k) (any_block block b xs)

-- no page has a free block, and no request in flight
free_parts : (s : State) (b : ℕ) → is_free s b ≡ true
    → (list_any (λ (x : Spot). eqb x.block b) (finmap.values s.spots) ≡ false)
    × (list_any (λ (r : Request). eqb r.block b) (finmap.values s.requests) ≡ false)
free_parts s b e =
    neither _ _ _ (list_any-append (λ used. eqb used b) _ _
    ∙ (λ i. any_block (λ (x : Spot). x.block) b (finmap.values s.spots) i || any_block (λ (r : Request). r.block) b
    (finmap.values s.requests) i)) e

pub free_of_spots : (s : State) (b : ℕ) → is_free s b ≡ true → (h k : ℕ) (x : Spot) → spot_at s h k ≡ Some x
    → x.block ≢ b
free_of_spots s b e h k x is same =
    let shows = any_value place_cmp (λ (y : Spot). eqb y.block b) (h, k) x (finmap.entries s.spots)
    (sym (get-entries s.spots (h, k)) ∙ is) (eq-eqb x.block b same) in
    let none = (free_parts s b e).0 in cc

pub free_of_requests : (s : State) (b : ℕ) → is_free s b ≡ true → (t : ℕ) (x : Request)
    → finmap.get s.requests t ≡ Some x → x.block ≢ b
free_of_requests s b e t x is same =
    let shows = any_value nat_cmp (λ (y : Request). eqb y.block b) t x (finmap.entries s.requests)
    (sym (get-entries s.requests t) ∙ is) (eq-eqb x.block b same) in
    let none = (free_parts s b e).1 in cc

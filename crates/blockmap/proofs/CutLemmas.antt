-- A cut, page by page.
use Rattle.std.proofs.Common.{◌≡◌, ℕ, ◌≤◌, ◌&&◌, ◌||◌, ◌⊎◌, Bool, true, false, not, eqb, List, [], ◌∷◌, Option, Some, None, is_some, option_map, refl, sym, ap, ◌∙◌, inl, inr}
use Rattle.std.specs.Prelude.{nat_le}
use Rattle.std.specs.List.{list_any}
use Rattle.std.specs.FinMap as map
use Rattle.std.proofs.lemmas.Bool.{and_from, and_parts, and_right, cases_Bool, cases_eq, cond-false, cond-true, eq-eqb, eqb-true, false≢true, le-leb, leb-true, ne_eqb, or_cases, or_left, or_right, true≢false}
use Rattle.std.proofs.lemmas.Option.{none-some}
use Rattle.pc_types.specs.Spots.{Spot}
use Rattle.blockmap.specs.Blocks.{Blocks, CutsFrom, Spots, cut_held, cut_one, has_block, is_from}
use Rattle.blockmap.specs.Keys.{IsPageFrom, NoneFrom}
use Rattle.blockmap.proofs.BlockLemmas.{Held, hold_here, hold_there}
use Rattle.blockmap.proofs.MapLemmas.{any_alike, any_key, any_some, cases_place, gone_here, gone_there, has_some, same_bool}

-- a page that had the block has none any more
abbrev pub lost_at : Spots → Spots → ℕ → ℕ × ℕ → Bool
lost_at old new b place = not (map.contains_key new place) && has_block (map.get old place) b

abbrev pub lost : Spots → Spots → ℕ → Bool
lost old new b = list_any (lost_at old new b) (map.keys old)

-- some of the pages of the file from this one on have no block any more
pub record IsCutting (old new : Blocks) (file page : ℕ) : Type 0 where
  pub count : new.count ≡ old.count
  pub spots : (place : ℕ × ℕ) → (map.get new.spots place ≡ map.get old.spots place) ⊎ ((is_from file page place ≡ true) × (map.get new.spots place ≡ None))
  pub held : (b : ℕ) → map.get new.held b ≡ option_map (λ was. was || lost old.spots new.spots b) (map.get old.held b)

-- ---- at first

any_none : (f : ℕ × ℕ → Bool) → ((x : ℕ × ℕ) → f x ≡ false) → (xs : List (ℕ × ℕ)) → list_any f xs ≡ false
any_none f e [] = refl
any_none f e (x ∷ xs) = λ i. (e x i || any_none f e xs i)

stays : (o : Option Spot) (b : ℕ) → (not (is_some o) && has_block o b) ≡ false
stays None b = refl
stays (Some s) b = refl

nothing_lost : (old : Spots) (b : ℕ) → lost old old b ≡ false
nothing_lost old b = any_none (lost_at old old b) (λ place. stays (map.get old place) b) (map.keys old)

or_false : (a : Bool) → (a || false) ≡ a
or_false true = refl
or_false false = refl

no_more : (o : Option Bool) (l : Bool) → l ≡ false → o ≡ option_map (λ was. was || l) o
no_more None l e = refl
no_more (Some was) l e = ap Some (sym (ap (λ x. was || x) e ∙ or_false was))

pub cutting_begins : (old : Blocks) (file page : ℕ) → IsCutting old old file page
cutting_begins old file page = record {
  count = refl;
  spots = λ place. inl refl;
  held = λ b. no_more (map.get old.held b) (lost old.spots old.spots b) (nothing_lost old.spots b);
}

-- ---- one page

cut_or : (o : Option Bool) (c : Bool) → c ≡ true → is_some o ≡ true → Some true ≡ option_map (λ was. was || c) o
cut_or None c e h = absurd (false≢true h)
cut_or (Some was) c e h = ap Some (sym (or_right was c e))

none_or : (o : Option Bool) (c : Bool) → is_some o ≡ false → o ≡ option_map (λ was. was || c) o
none_or None c h = refl
none_or (Some was) c h = absurd (true≢false h)

pub get-cut_held : (h : Held) (s : Spot) (b : ℕ) → map.get (cut_held (Some s) h) b ≡ option_map (λ was. was || eqb s.block b) (map.get h b)
get-cut_held h s b = elim (cases_Bool (map.contains_key h s.block)) [
  | inl on_table ↦
      ap (λ m. map.get m b) (cond-true (map.contains_key h s.block) (map.insert h s.block true) h on_table)
      ∙ elim (cases_eq b s.block) [
        | inl e ↦
            ap (map.get (map.insert h s.block true)) e ∙ hold_here h s.block true
            ∙ cut_or (map.get h b) (eqb s.block b) (eq-eqb s.block b (sym e)) (ap (map.contains_key h) e ∙ on_table)
        | inr differs ↦
            hold_there h s.block true b differs
            ∙ no_more (map.get h b) (eqb s.block b) (ne_eqb s.block b (λ e. differs (sym e)))
      ]
  | inr idle ↦
      ap (λ m. map.get m b) (cond-false (map.contains_key h s.block) (map.insert h s.block true) h idle)
      ∙ elim (cases_eq b s.block) [
        | inl e ↦ none_or (map.get h b) (eqb s.block b) (ap (map.contains_key h) e ∙ idle)
        | inr differs ↦ no_more (map.get h b) (eqb s.block b) (ne_eqb s.block b (λ e. differs (sym e)))
      ]
]

lost_more : (old new : Spots) (p : ℕ × ℕ) (s : Spot) (b : ℕ) → map.get old p ≡ Some s → lost old (map.remove new p) b ≡ (lost old new b || eqb s.block b)
lost_more old new p s b there = same_bool (lost old (map.remove new p) b) (lost old new b || eqb s.block b)
    (λ t.
    let h = any_some (lost_at old (map.remove new p) b) (map.keys old) t in
    let parts = and_parts (not (map.contains_key (map.remove new p) h.0)) (has_block (map.get old h.0) b) h.1 in
    elim (cases_place h.0 p) [
      | inl e ↦ or_right (lost old new b) (eqb s.block b) (sym (ap (λ o. has_block o b) (ap (map.get old) e ∙ there)) ∙ parts.1)
      | inr differs ↦
          or_left (lost old new b) (eqb s.block b)
          (any_key old (lost_at old new b) h.0 (has_some (map.get old h.0) b parts.1) (and_from (not (map.contains_key new h.0)) (has_block (map.get old h.0) b) (ap (λ o. not (is_some o)) (sym (gone_there new p h.0 differs)) ∙ parts.0) parts.1))
    ])
    (λ t. elim (or_cases (lost old new b) (eqb s.block b) t) [
      | inl was ↦
          let h = any_some (lost_at old new b) (map.keys old) was in
          let parts = and_parts (not (map.contains_key new h.0)) (has_block (map.get old h.0) b) h.1 in
          any_key old (lost_at old (map.remove new p) b) h.0 (has_some (map.get old h.0) b parts.1) (and_from (not (map.contains_key (map.remove new p) h.0)) (has_block (map.get old h.0) b) (still h.0 parts.0) parts.1)
      | inr now ↦ any_key old (lost_at old (map.remove new p) b) p (ap is_some there) (and_from (not (map.contains_key (map.remove new p) p)) (has_block (map.get old p) b) (ap (λ o. not (is_some o)) (gone_here new p)) (ap (λ o. has_block o b) there ∙ now))
    ])
  where
    still : (x : ℕ × ℕ) → not (map.contains_key new x) ≡ true → not (map.contains_key (map.remove new p) x) ≡ true
    still x h = elim (cases_place x p) [
      | inl e ↦ ap (λ o. not (is_some o)) (ap (map.get (map.remove new p)) e ∙ gone_here new p)
      | inr differs ↦ ap (λ o. not (is_some o)) (gone_there new p x differs) ∙ h
    ]

or_assoc : (a b c : Bool) → ((a || b) || c) ≡ (a || (b || c))
or_assoc true b c = refl
or_assoc false b c = refl

twice : (o : Option Bool) (l c m : Bool) → m ≡ (l || c) → option_map (λ was. was || c) (option_map (λ was. was || l) o) ≡ option_map (λ was. was || m) o
twice None l c m e = refl
twice (Some was) l c m e = ap Some (or_assoc was l c ∙ ap (λ x. was || x) (sym e))

cuts_some : (old new : Blocks) (file page q : ℕ) (s : Spot) → IsCutting old new file page → page ≤ q → map.get new.spots (file, q) ≡ Some s → IsCutting old (cut_one new (file, q)) file page
cuts_some old new file page q s is low there =
    let p : ℕ × ℕ = (file, q) in
    let was : map.get old.spots p ≡ Some s = elim (is.spots p) [
      | inl e ↦ sym e ∙ there
      | inr gone ↦ absurd (none-some s (sym gone.1 ∙ there))
    ] in
    record {
      count = is.count;
      spots = λ place. elim (cases_place place p) [
        | inl e ↦ inr (ap (is_from file page) e ∙ and_from (eqb file file) (nat_le page q) (eq-eqb file file refl) (le-leb page q low), ap (map.get (map.remove new.spots p)) e ∙ gone_here new.spots p)
        | inr differs ↦ elim (is.spots place) [
          | inl e ↦ inl (gone_there new.spots p place differs ∙ e)
          | inr gone ↦ inr (gone.0, gone_there new.spots p place differs ∙ gone.1)
        ]
      ];
      held = λ b.
          ap (λ o. map.get (cut_held o new.held) b) there
          ∙ get-cut_held new.held s b
          ∙ ap (option_map (λ c. c || eqb s.block b)) (is.held b)
          ∙ twice (map.get old.held b) (lost old.spots new.spots b) (eqb s.block b) (lost old.spots (map.remove new.spots p) b) (lost_more old.spots new.spots p s b was);
    }

some_spot : (o : Option Spot) → is_some o ≡ true → (s : Spot) × (o ≡ Some s)
some_spot None h = absurd (false≢true h)
some_spot (Some s) h = (s, refl)

pub cutting_goes_on : (old new : Blocks) (file page q : ℕ) → IsCutting old new file page → IsPageFrom new.spots file page q → IsCutting old (cut_one new (file, q)) file page
cutting_goes_on old new file page q is found =
    let s = some_spot (map.get new.spots (file, q)) found.there in
    cuts_some old new file page q s.0 is found.low s.1

-- ---- at the end

none_at : (m : Spots) (file page : ℕ) (place : ℕ × ℕ) → NoneFrom m file page → is_from file page place ≡ true → map.get m place ≡ None
none_at m file page place none from =
    let parts = and_parts (eqb place.0 file) (nat_le page place.1) from in
    ap (λ f. map.get m (f, place.1)) (eqb-true place.0 file parts.0) ∙ none.each place.1 (leb-true page place.1 parts.1)

pub cutting_ends : (old new : Blocks) (file page : ℕ) → IsCutting old new file page → NoneFrom new.spots file page → CutsFrom old new file page
cutting_ends old new file page is none = record {
  count = is.count;
  spots = λ place. elim (cases_Bool (is_from file page place)) [
    | inl from ↦ none_at new.spots file page place none from ∙ sym (cond-true (is_from file page place) None (map.get old.spots place) from)
    | inr other ↦ kept place other ∙ sym (cond-false (is_from file page place) None (map.get old.spots place) other)
  ];
  held = λ b. is.held b ∙ ap (λ l. option_map (λ was. was || l) (map.get old.held b)) (any_alike (lost_at old.spots new.spots b) (λ place. is_from file page place && has_block (map.get old.spots place) b) (same b) (map.keys old.spots));
}
  where
    kept : (place : ℕ × ℕ) → is_from file page place ≡ false → map.get new.spots place ≡ map.get old.spots place
    kept place other = elim (is.spots place) [
      | inl e ↦ e
      | inr gone ↦ absurd (true≢false (sym gone.0 ∙ other))
    ]

    same : (b : ℕ) (place : ℕ × ℕ) → (not (map.contains_key new.spots place) && has_block (map.get old.spots place) b) ≡ (is_from file page place && has_block (map.get old.spots place) b)
    same b place = elim (cases_Bool (has_block (map.get old.spots place) b)) [
      | inr without ↦ and_right (not (map.contains_key new.spots place)) (has_block (map.get old.spots place) b) without ∙ sym (and_right (is_from file page place) (has_block (map.get old.spots place) b) without)
      | inl has ↦ elim (cases_Bool (is_from file page place)) [
        | inl from ↦ ap (λ t. t && has_block (map.get old.spots place) b) (ap (λ o. not (is_some o)) (none_at new.spots file page place none from) ∙ sym from)
        | inr other ↦ ap (λ t. t && has_block (map.get old.spots place) b) (ap (λ o. not (is_some o)) (kept place other) ∙ ap not (has_some (map.get old.spots place) b has) ∙ sym other)
      ]
    ]

-- ---- one page's block

pub cut_here : (spots : Spots) (held : Held) (p : ℕ × ℕ) (s : Spot) → map.get spots p ≡ Some s → map.contains_key held s.block ≡ true → cut_held (map.get spots p) held ≡ map.insert held s.block true
cut_here spots held p s there on_table = ap (λ o. cut_held o held) there ∙ cond-true (map.contains_key held s.block) (map.insert held s.block true) held on_table

pub cut_idle : (spots : Spots) (held : Held) (p : ℕ × ℕ) (s : Spot) → map.get spots p ≡ Some s → map.contains_key held s.block ≡ false → cut_held (map.get spots p) held ≡ held
cut_idle spots held p s there idle = ap (λ o. cut_held o held) there ∙ cond-false (map.contains_key held s.block) (map.insert held s.block true) held idle

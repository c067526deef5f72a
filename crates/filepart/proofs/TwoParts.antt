-- Parts of one file that share no byte.
use Rattle.std.proofs.Common.{◌≡◌, ◌∙◌, sym, ap, refl, ℕ, ◌+◌, ◌-◌, ◌≤◌, inl, inr, List, take, drop, Option, Some, None, option_map, arith}
use Rattle.std.proofs.lemmas.List.{drop-drop, drop-take, take-take}
use Rattle.filepart.specs.Parts.{part_of, outside_of, Outside, OutsideGoesOn, AreApart, PartsAreApart}

outside_same : (f l : ℕ) (b s : Option (List ℕ)) → Outside f l b s b s
outside_same f l b s = record { size = refl; bytes = refl; synced = inl refl }

pub outside_then : (f l : ℕ) (b s mb ms nb ns : Option (List ℕ)) → Outside f l b s mb ms → Outside f l mb ms nb ns → Outside f l b s nb ns
outside_then f l b s mb ms nb ns a z = record {
  size = z.size ∙ a.size;
  bytes = z.bytes ∙ a.bytes;
  synced = elim z.synced [
    | inl was ↦ elim a.synced [ inl first ↦ inl (was ∙ first) | inr held ↦ inr (was ∙ held) ]
    | inr held ↦ inr (held ∙ a.bytes)
  ];
}

pub outside_goes_on : OutsideGoesOn
outside_goes_on = record { none = outside_same; more = outside_then }

-- a part before the other lies in what is before that
below : (f g n : ℕ) (all : List ℕ) → g + n ≤ f → take n (drop g (take f all)) ≡ take n (drop g all)
below f g n all h =
    let m = f - g in
    let whole : f ≡ g + m = omega arith in
    ap (λ (k : ℕ). take n (drop g (take k all))) whole ∙ ap (take n) (drop-take g m all) ∙ take-take n m (drop g all) (omega arith)

-- and one behind it in what is behind
above : (e g n : ℕ) (all : List ℕ) → e ≤ g → take n (drop (g - e) (drop e all)) ≡ take n (drop g all)
above e g n all h =
    let place : e + (g - e) ≡ g = omega arith in
    ap (take n) (drop-drop (g - e) e all ∙ ap (λ (k : ℕ). drop k all) place)

from_below : (f l g n : ℕ) (x : Option (List ℕ)) → g + n ≤ f → option_map (λ (o : List ℕ × List ℕ). take n (drop g o.0)) (outside_of f l x) ≡ part_of g n x
from_below f l g n None h = refl
from_below f l g n (Some all) h = ap Some (below f g n all h)

from_above : (f l g n : ℕ) (x : Option (List ℕ)) → f + l ≤ g → option_map (λ (o : List ℕ × List ℕ). take n (drop (g - (f + l)) o.1)) (outside_of f l x) ≡ part_of g n x
from_above f l g n None h = refl
from_above f l g n (Some all) h = ap Some (above (f + l) g n all h)

-- files that are alike outside the one part are alike in the other
alike : (f l g n : ℕ) (x y : Option (List ℕ)) → AreApart f l g n → outside_of f l x ≡ outside_of f l y → part_of g n x ≡ part_of g n y
alike f l g n x y (inl h) e =
    sym (from_below f l g n x h) ∙ ap (option_map (λ (o : List ℕ × List ℕ). take n (drop g o.0))) e ∙ from_below f l g n y h
alike f l g n x y (inr h) e =
    sym (from_above f l g n x h) ∙ ap (option_map (λ (o : List ℕ × List ℕ). take n (drop (g - (f + l)) o.1))) e ∙ from_above f l g n y h

pub parts_are_apart : PartsAreApart
parts_are_apart f l g n b s nb ns apart out = record {
  bytes = alike f l g n nb b apart out.bytes;
  synced = elim out.synced [
    | inl was ↦ inl (alike f l g n ns s apart was)
    | inr held ↦ inr (alike f l g n ns b apart held)
  ];
}

-- Plain files, one of which is changed.
use Rattle.std.proofs.Common.{◌≡◌, ℕ, ◌<◌, List, [], length, ap, ◌∙◌, arith}
use Rattle.std.proofs.lemmas.List.{get_or-set_same, set-get_or, set-set}
use Rattle.std.proofs.lemmas.List.FromFn.{length-map-range_with_len}
use Rattle.runs.specs.Plain.{Plain, change, plain_file}
use Rattle.runs.specs.Seen.{file_seen}
use Rattle.world.specs.Stepping.{world_of}
use Rattle.filesvc.proofs.Callers.{named_is}
use Rattle.filesvc.specs.Seen.{HandleSeen, SoloSeen}
use Rattle.filesvc.specs.Service.{IsOpen, files}
use Rattle.desk.specs.Seen.{with_file}

pub with_same : (p : Plain) (f : ℕ) → with_file p f (plain_file p f) ≡ p
with_same p f = ap (λ (xs : List (List ℕ)). record p { files = xs }) (set-get_or p.files f [])

pub with_twice : (p : Plain) (f : ℕ) (bytes : List ℕ) (g : List ℕ → List ℕ) → f < length p.files
    → with_file (with_file p f bytes) f (g (plain_file (with_file p f bytes) f)) ≡ with_file p f (g bytes)
with_twice p f bytes g here =
    ap (λ (xs : List (List ℕ)). record p { files = xs }) (set-set p.files f bytes (g (plain_file (with_file p f bytes) f)))
    ∙ ap (λ (b : List ℕ). with_file p f (g b)) (get_or-set_same p.files f bytes [] here)

-- an open handle's file is one of them
pub in_files : (s : SoloSeen) (h : HandleSeen) → IsOpen s h → h.file < length (files s).files
in_files s h o = let a = o.file in let b = length-map-range_with_len (file_seen (world_of s.world)) 0 (length s.world.core.files) in omega arith

-- what changes by the handle's number
pub change_is : (s : SoloSeen) (h : HandleSeen) (g : List ℕ → List ℕ) → IsOpen s h → change (files s) h.number g ≡ with_file (files s) h.file (g (plain_file (files s) h.file))
change_is s h g o = ap (λ (f : ℕ). with_file (files s) f (g (plain_file (files s) f))) (named_is s h o)

-- The files that are seen in a world, byte by byte.
use Rattle.std.proofs.Common.{◌≡◌, ℕ, ◌+◌, ◌*◌, ◌<◌, ◌≤◌, [], length, get_or, ap, sym, ◌∙◌}
use Rattle.std.proofs.Common.{arith, inl, inr, None}
use Rattle.std.proofs.lemmas.Bool.{cases_lt}
use Rattle.std.proofs.lemmas.Grind.{same_number_lists}
use Rattle.std.proofs.lemmas.List.{get_or_past}
use Rattle.std.proofs.lemmas.List.FromFn.{length-map-range_with_len, get_or-map-range_with_len}
use Rattle.std.proofs.lemmas.Nat.{div-mul-add, mod-mul-add}
use Rattle.pc_types.specs.Files.{page_of}
use Rattle.pc_types.proofs.FileLaws.{byte-page}
use Rattle.pc_types.proofs.SpotLaws.{length-shown}
use Rattle.machine.specs.State.{no_file, file_at, page_at, valid_at}
use Rattle.runs.specs.Plain.{plain_file}
use Rattle.runs.specs.Seen.{cached_or, byte_seen, file_seen, files_seen}
use Rattle.runs.specs.World.{World, on_device, own_block}
use Rattle.runs.proofs.bytes.PageLaws.{length-page}

module _ (w : World) where
  abbrev P : ℕ
  P = w.core.sizes.page

  abbrev size : ℕ → ℕ
  size f = (file_at w.core f).size

  pub length-seen : (f : ℕ) → length (file_seen w f) ≡ size f
  length-seen f = length-map-range_with_len (byte_seen w f) 0 (size f)

  pub count-seen : length (files_seen w).files ≡ length w.core.files
  count-seen = length-map-range_with_len (file_seen w) 0 (length w.core.files)

  -- a file past the last one is empty
  past_last : (f : ℕ) → length w.core.files ≤ f → file_seen w f ≡ []
  past_last f past = same_number_lists _ _ (length-seen f ∙ ap (λ x. x.size) (get_or_past w.core.files f no_file past))
      (λ k h. absurd (let a = length-seen f in
      let b : size f ≡ 0 = ap (λ x. x.size) (get_or_past w.core.files f no_file past) in omega arith))

  pub plain-seen : (f : ℕ) → plain_file (files_seen w) f ≡ file_seen w f
  plain-seen f = elim (cases_lt f (length w.core.files)) [
    | inl here ↦ get_or-map-range_with_len (file_seen w) 0 (length w.core.files) f f [] here (omega arith)
    | inr past ↦ get_or_past (files_seen w).files f [] (let a = count-seen in omega arith) ∙ sym (past_last f past)
  ]

  -- a byte of the file, and a zero past its end
  pub within-seen : (f x : ℕ) → x < size f → get_or (file_seen w f) x 0 ≡ byte_seen w f x
  within-seen f x h = get_or-map-range_with_len (byte_seen w f) 0 (size f) x x 0 h (omega arith)

  past-seen : (f x : ℕ) → size f ≤ x → get_or (file_seen w f) x 0 ≡ 0
  past-seen f x h = get_or_past (file_seen w f) x 0 (let a = length-seen f in omega arith)

  -- byte k of an absent page is the one that the device has
  absent_byte : (f p k : ℕ) → k < P → page_at w.core f p ≡ None
      → byte_seen w f (p * P + k) ≡ get_or (on_device w f p) k 0
  absent_byte f p k h none =
      (λ i. get_or (cached_or (on_device w f (div-mul-add p P k h i)) (page_at w.core f (div-mul-add p P k h i)))
      (mod-mul-add p P k h i) 0) ∙ ap (λ o. get_or (cached_or (on_device w f p) o) k 0) none

  -- an absent page of the file is what the device has, where that has zeros past the file's end
  pub page-seen : (f p : ℕ) → page_at w.core f p ≡ None
      → ((k : ℕ) → k < P → size f ≤ p * P + k → get_or (on_device w f p) k 0 ≡ 0)
      → page_of P (plain_file (files_seen w) f) p ≡ on_device w f p
  page-seen f p none zeros =
      ap (λ file. page_of P file p) (plain-seen f)
      ∙ same_number_lists _ _ (length-page P (file_seen w f) p ∙ sym (length-shown P (valid_at w.core f p) (own_block w f p)))
      (λ k h. let small : k < P = omega (arith, length-page P (file_seen w f) p) in
      byte-page P (file_seen w f) p k small ∙ elim (cases_lt (p * P + k) (size f)) [
        | inl here ↦ within-seen f (p * P + k) here ∙ absent_byte f p k small none
        | inr past ↦ past-seen f (p * P + k) past ∙ sym (zeros k small past)
      ])

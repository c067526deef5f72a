-- A part more of a read or of a write.
use Rattle.std.proofs.Common.{◌≡◌, ℕ, ◌+◌, ◌-◌, ◌<◌, ◌≤◌, zero, suc, min, List, [], ◌∷◌, ◌++◌, length, take, drop, refl, sym, ap, inl, inr, ◌∙◌, arith, length-drop}
use Rattle.std.specs.Prelude.{◌⊎◌}
use Rattle.std.proofs.lemmas.List.{length-take}
use borrow.Rule.Slice.PartMut.{put_mid, post_of, same_len_mid}
use Rattle.pc_types.specs.Files.{pread, pwrite}
use Rattle.pc_types.proofs.FileLaws.{length-pread}
use Rattle.machine.specs.State.{file_at}
use Rattle.runs.specs.Plain.{Plain, change, plain_file}
use Rattle.filesvc.specs.Seen.{HandleSeen, SoloSeen}
use Rattle.filesvc.specs.Service.{IsOpen, Keeps, Serves, Tells, files}
use Rattle.filesvc.proofs.Callers.{open_on}
use Rattle.filesvc.proofs.Laws.{keeps_refl, keeps_trans, serves_trans}
use Rattle.desk.specs.Long.{HasRead, HasWritten}
use Rattle.desk.specs.Seen.{with_file}
use Rattle.desk.proofs.OneFile.{change_is, in_files, with_same, with_twice}
use Rattle.desk.proofs.Parts.{pread_end, pread_on, pwrite_on}

front : (xs ys : List ℕ) (n c : ℕ) → n ≡ length xs + c → take n (xs ++ ys) ≡ xs ++ take c ys
front [] ys n c e = ap (λ k. take k ys) (omega (arith, e))
front (x ∷ xs) ys zero c e = absurd (omega (arith, e))
front (x ∷ xs) ys (suc n) c e = (λ i. x ∷ front xs ys n c (omega (arith, e)) i)

within : (xs ys : List ℕ) (c : ℕ) → c ≤ length xs → take c (xs ++ ys) ≡ take c xs
within xs ys zero l = refl
within [] ys (suc c) l = absurd (omega (arith, l))
within (x ∷ xs) ys (suc c) l = (λ i. x ∷ within xs ys c (omega (arith, l)) i)

both : (d : ℕ) (xs : List ℕ) (n m : ℕ) → m ≡ d + n → take d xs ++ take n (drop d xs) ≡ take m xs
both zero xs n m e = ap (λ k. take k xs) (omega (arith, e))
both (suc d) xs n zero e = absurd (omega (arith, e))
both (suc d) [] zero (suc m) e = refl
both (suc d) [] (suc n) (suc m) e = refl
both (suc d) (x ∷ xs) n (suc m) e = (λ i. x ∷ both d xs n m (omega (arith, e)) i)

-- a part that was read behind what was read before, from done to end
pub record ReadsPart (old : SoloSeen) (h : HandleSeen) (offset most : ℕ) (mid : SoloSeen) (out : List ℕ) (done end : ℕ) (new : SoloSeen) (part : List ℕ) (count : ℕ) : Type 0 where
  pub before : HasRead old h offset most mid out done
  pub from : done ≤ end
  pub to : end ≤ most
  pub serves : Serves mid new
  pub length : length part ≡ end - done
  pub bytes : Tells mid → take count part ≡ pread (plain_file (files mid) h.file) (offset + done) (end - done)
  pub all : count ≡ min (end - done) ((file_at mid.world.core h.file).size - (offset + done))

module _ (old : SoloSeen) (h : HandleSeen) (offset most : ℕ) (mid : SoloSeen) (out : List ℕ) (done end : ℕ) (new : SoloSeen) (part : List ℕ) (count : ℕ) (r : ReadsPart old h offset most mid out done end new part count) where
  few : count ≤ end - done
  few = omega (arith, r.all)

  file : Tells old → take count part ≡ pread (plain_file (files old) h.file) (offset + done) (end - done)
  file t = r.bytes (r.before.serves.keeps.tells ∙ t) ∙ ap (λ (p : Plain). pread (plain_file p h.file) (offset + done) (end - done)) (r.before.serves.files t)

  counted : (t : Tells old) → count ≡ min (end - done) (length (plain_file (files old) h.file) - (offset + done))
  counted t = omega (arith, few, r.length, length-take count part, ap length (file t), length-pread (plain_file (files old) h.file) (offset + done) (end - done))

  -- no more than the file has
  own : (t : Tells old) → take count part ≡ pread (plain_file (files old) h.file) (offset + done) count
  own t = file t ∙ cut (plain_file (files old) h.file) (offset + done) (end - done) count few (counted t)
    where
      cut : (f : List ℕ) (o n c : ℕ) → c ≤ n → c ≡ min n (length f - o) → pread f o n ≡ pread f o c
      cut f o n c l e = elim (cases c n l) [
        | inl same ↦ ap (pread f o) (sym same)
        | inr less ↦ sym (pread_end f o c n (omega (arith, less, e)) l)
      ]
        where
          cases : (c n : ℕ) → c ≤ n → (c ≡ n) ⊎ (c < n)
          cases c n l = grind arith

  pub read_more : HasRead old h offset most new (put_mid done (end - done) out part) (done + count)
  read_more = record {
    serves = serves_trans old mid new r.before.serves r.serves;
    length = same_len_mid done (end - done) out part (omega (arith, r.length, r.before.length, r.before.within, r.from, r.to, length-take (end - done) (drop done out), length-drop done out)) ∙ r.before.length;
    within = omega (arith, few, r.from, r.to);
    there = omega (arith, r.all, r.before.there, r.before.serves.lengths h.file);
    bytes = λ t.
        let front_len : length (take done out) ≡ done = omega (arith, length-take done out, r.before.length, r.before.within) in
        let has : done ≤ length (plain_file (files old) h.file) - offset = omega (arith, front_len, ap length (r.before.bytes t), length-pread (plain_file (files old) h.file) offset done) in
        front (take done out) (part ++ post_of done (end - done) out) (done + count) count (omega (arith, front_len))
        ∙ ap (λ xs. take done out ++ xs) (within part (post_of done (end - done) out) count (omega (arith, few, r.length)))
        ∙ (λ i. r.before.bytes t i ++ own t i)
        ∙ pread_on (plain_file (files old) h.file) offset done count has;
  }

  -- a part that is short ends at the end of the file
  pub read_last : done + count < end → Tells old → take (done + count) (put_mid done (end - done) out part) ≡ pread (plain_file (files old) h.file) offset most
  read_last short t = read_more.bytes t ∙ pread_end (plain_file (files old) h.file) offset (done + count) most (omega (arith, short, r.from, counted t)) (omega (arith, short, r.to))

  pub read_all : done + count < end → done + count ≡ min most ((file_at old.world.core h.file).size - offset)
  read_all short = omega (arith, short, r.from, r.to, r.all, r.before.there, r.before.serves.lengths h.file)

-- nothing of these bytes was written
pub wrote_none : (s : SoloSeen) (h : HandleSeen) (offset : ℕ) (bytes : List ℕ) → HasWritten s h offset bytes s 0
wrote_none s h offset bytes = record { keeps = keeps_refl s; within = omega arith; file = λ _. sym (with_same (files s) h.file); none = λ _ _. refl }

-- a part that was written behind what was written before
pub wrote_more : (old mid new : SoloSeen) (h : HandleSeen) (offset done end : ℕ) (bytes : List ℕ) → HasWritten old h offset bytes mid done → IsOpen old h → done < end → end ≤ length bytes
    → Keeps mid new → (Tells mid → files new ≡ change (files mid) h.number (λ file. pwrite file (offset + done) (take (end - done) (drop done bytes)))) → HasWritten old h offset bytes new end
wrote_more old mid new h offset done end bytes w here d l k after = record {
  keeps = keeps_trans old mid new w.keeps k;
  within = l;
  file = λ t.
      let part = take (end - done) (drop done bytes) in
      let F = plain_file (files old) h.file in
      let len : length (take done bytes) ≡ done = omega (arith, length-take done bytes, w.within) in
      after (w.keeps.tells ∙ t)
      ∙ change_is mid h (λ (f : List ℕ). pwrite f (offset + done) part) (open_on old mid h w.keeps here)
      ∙ ap (λ (p : Plain). with_file p h.file (pwrite (plain_file p h.file) (offset + done) part)) (w.file t)
      ∙ with_twice (files old) h.file (pwrite F offset (take done bytes)) (λ (f : List ℕ). pwrite f (offset + done) part) (in_files old h here)
      ∙ ap (λ (k : ℕ). with_file (files old) h.file (pwrite (pwrite F offset (take done bytes)) (offset + k) part)) (sym len)
      ∙ ap (with_file (files old) h.file) (pwrite_on F offset (take done bytes) part)
      ∙ ap (λ (xs : List ℕ). with_file (files old) h.file (pwrite F offset xs)) (both done bytes (end - done) end (omega (arith, d)));
  none = λ z. absurd (omega (arith, z, d));
}

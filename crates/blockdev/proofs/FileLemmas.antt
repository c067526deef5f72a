-- A device over a file: its blocks are the file's bytes.
use Rattle.std.proofs.Common.{◌≡◌, ◌∙◌, sym, ap, subst, refl, ℕ, ◌+◌, ◌*◌, ◌<◌, ◌≤◌, ◌⊎◌, inl, inr, List, ◌++◌, length, take, drop, All, Option, Some, None, Ok, Err, IfSome, arith}
use Rattle.std.proofs.lemmas.Nat.{row_fits}
use Rattle.blockdev.specs.Blocks.{block_at, blocks_of}
use Rattle.blockdev.specs.Device.{Told, Settles, Reads, Writes, Flushes, with_block, max_calls}
use Rattle.blockdev.specs.Files.{bytes_at, put_at, told_blocks}
use Rattle.blockdev.proofs.BlockLemmas.{length-blocks_of, All-blocks_of, block_at-blocks_of, blocks_of-placed, length-placed}
use Rattle.blockdev.proofs.DurableLemmas.{settles_kept, settles_held}

-- the file is long enough
abbrev pub IsLong : ℕ → ℕ → Option (List ℕ) → Type 0
IsLong s n told = IfSome told (λ all. n * s ≤ length all)

pub told_sized : (s n : ℕ) (told : Option (List ℕ)) → IsLong s n told
    → IfSome (told_blocks s n told) (λ blocks. (length blocks ≡ n) × All (λ x. length x ≡ s) blocks)
told_sized s n None h = tt
told_sized s n (Some all) h = (length-blocks_of s n all, All-blocks_of s n all h)

-- the bytes of a block end within the file
pub block_within : (s n b o k : ℕ) (told : Option (List ℕ)) → b < n → o ≡ b * s → k ≡ s → IsLong s n told
    → IfSome told (λ all. o + k ≤ length all)
block_within s n b o k None h at size long = tt
block_within s n b o k (Some all) h at size long = let fits = row_fits b s n s h (omega arith) in omega arith

pub told_block : (s n b o k : ℕ) (told : Option (List ℕ)) (out : List ℕ) → b < n → o ≡ b * s → k ≡ s
    → IfSome told (λ all. out ≡ bytes_at all o k) → IfSome (told_blocks s n told) (λ blocks. out ≡ block_at blocks b)
told_block s n b o k None out h at size read = tt
told_block s n b o k (Some all) out h at size read =
    read ∙ ap (λ (m : ℕ). bytes_at all m k) at ∙ ap (λ (m : ℕ). bytes_at all (b * s) m) size
    ∙ sym (block_at-blocks_of s n all b h)

-- the file's bytes with a block's put over are that block written
pub put_block : (s n b o : ℕ) (told : Option (List ℕ)) (these : List ℕ) → b < n → o ≡ b * s → length these ≡ s → IsLong s n told
    → told_blocks s n (put_at told o these) ≡ with_block (told_blocks s n told) b these
put_block s n b o None these h at size long = refl
put_block s n b o (Some all) these h at size long =
    ap (λ (m : ℕ). told_blocks s n (put_at (Some all) m these)) at
    ∙ ap (λ (m : ℕ). Some (blocks_of s n (take (b * s) all ++ (these ++ drop (b * s + m) all)))) size
    ∙ ap Some (blocks_of-placed s n all b these h long size)

pub put_long : (s n b o : ℕ) (told now : Option (List ℕ)) (these : List ℕ) → b < n → o ≡ b * s → length these ≡ s → IsLong s n told
    → now ≡ put_at told o these → IsLong s n now
put_long s n b o told now these h at size long is = subst (IsLong s n) (sym is) (go told long) where
  go : (t : Option (List ℕ)) → IsLong s n t → IsLong s n (put_at t o these)
  go None l = tt
  go (Some all) l =
      let fits = row_fits b s n s h (omega arith) in
      let same = length-placed (length these) o all these (omega arith) refl in
      omega arith

-- what is told of a device over a file
abbrev pub shown : ℕ → ℕ → Option (List ℕ) → Option (List ℕ) → ℕ → ℕ → ℕ → Told
shown s n bytes synced calls flushes faults =
    record { size = s; count = n; contents = told_blocks s n bytes; plan = None; durable = told_blocks s n synced; flush_plan = None; calls = calls; flushes = flushes; faults = faults }

-- a file is made durable as a whole, or not at all
settles_whole : (s n : ℕ) (bytes synced bytes2 synced2 : Option (List ℕ)) (c c2 l l2 f f2 : ℕ) → (synced2 ≡ synced) ⊎ (synced2 ≡ bytes2)
    → Settles (shown s n bytes synced c l f) (shown s n bytes2 synced2 c2 l2 f2)
settles_whole s n bytes synced bytes2 synced2 c c2 l l2 f f2 h = elim h [
  | inl kept ↦ settles_kept (shown s n bytes synced c l f) (shown s n bytes2 synced2 c2 l2 f2) (ap (told_blocks s n) kept)
  | inr held ↦ settles_held (shown s n bytes synced c l f) (shown s n bytes2 synced2 c2 l2 f2) (ap (told_blocks s n) held)
]

module _ (s n b o : ℕ) (these : List ℕ) (bytes synced bytes2 synced2 : Option (List ℕ)) (calls flushes faults : ℕ)
    (below : b < n) (at : o ≡ b * s) (size : length these ≡ s) (long : IsLong s n bytes) (counted : calls < max_calls)
    (early : (synced2 ≡ synced) ⊎ (synced2 ≡ bytes2)) where
  pub file_written : bytes2 ≡ put_at bytes o these
      → Writes (shown s n bytes synced calls flushes faults) b these (Ok tt) (shown s n bytes2 synced2 (calls + 1) flushes faults)
  file_written put = record {
    call = record {
      size = refl;
      count = refl;
      durable = settles_whole s n bytes synced bytes2 synced2 calls (calls + 1) flushes flushes faults faults early;
      flush_plan = refl;
      flushes = refl;
      calls = λ _. refl;
      well = refl;
      faults = λ _. tt;
      planned = λ _. tt;
      plan = λ _. refl;
      exhausted = λ e. absurd (omega arith);
    };
    written = ap (told_blocks s n) put ∙ put_block s n b o bytes these below at size long;
    whole = tt;
    effect = λ _. tt;
  }

  pub file_not_written : (faults2 : ℕ) → faults2 ≡ faults + 1 → (bytes2 ≡ bytes) ⊎ (bytes2 ≡ put_at bytes o these)
      → Writes (shown s n bytes synced calls flushes faults) b these (Err 5) (shown s n bytes2 synced2 (calls + 1) flushes faults2)
  file_not_written faults2 more whole = record {
    call = record {
      size = refl;
      count = refl;
      durable = settles_whole s n bytes synced bytes2 synced2 calls (calls + 1) flushes flushes faults faults2 early;
      flush_plan = refl;
      flushes = refl;
      calls = λ _. refl;
      well = tt;
      faults = λ _. more;
      planned = λ _. tt;
      plan = λ _. refl;
      exhausted = λ e. absurd (omega arith);
    };
    written = tt;
    whole = elim whole [
      | inl kept ↦ inl (ap (told_blocks s n) kept)
      | inr put ↦ inr (ap (told_blocks s n) put ∙ put_block s n b o bytes these below at size long)
    ];
    effect = λ _. tt;
  }

-- a flush that fails, of a file whose sync failed or was not asked for
pub file_not_flushed : (s n : ℕ) (bytes synced bytes2 synced2 : Option (List ℕ)) (calls flushes faults faults2 : ℕ) → flushes < max_calls
    → bytes2 ≡ bytes → (synced2 ≡ synced) ⊎ (synced2 ≡ bytes) → faults2 ≡ faults + 1
    → Flushes (shown s n bytes synced calls flushes faults) (Err 5) (shown s n bytes2 synced2 calls (flushes + 1) faults2)
file_not_flushed s n bytes synced bytes2 synced2 calls flushes faults faults2 counted same early more =
    record {
      same = ap (λ (x : Option (List ℕ)). shown s n x synced2 calls (flushes + 1) faults2) same;
      durable = tt;
      failed = settles_whole s n bytes synced bytes2 synced2 calls calls flushes (flushes + 1) faults faults2 (elim early [
        | inl kept ↦ inl kept
        | inr held ↦ inr (held ∙ sym same)
      ]);
      flushes = λ _. refl;
      well = tt;
      faults = λ _. more;
      planned = λ _. tt;
      plan = λ _. refl;
      exhausted = λ e. absurd (omega arith);
    }

-- a read that went well
pub file_read : (s n b o k : ℕ) (bytes synced : Option (List ℕ)) (calls flushes faults : ℕ) (before after : List ℕ) → b < n → o ≡ b * s
    → k ≡ s → calls < max_calls → IfSome bytes (λ all. after ≡ bytes_at all o k)
    → Reads (shown s n bytes synced calls flushes faults) b before (Ok tt) after (shown s n bytes synced (calls + 1) flushes faults)
file_read s n b o k bytes synced calls flushes faults before after below at size counted read =
    record {
      call = record {
        size = refl;
        count = refl;
        durable = λ b. inl refl;
        flush_plan = refl;
        flushes = refl;
        calls = λ _. refl;
        well = refl;
        faults = λ _. tt;
        planned = λ _. tt;
        plan = λ _. refl;
        exhausted = λ e. absurd (omega arith);
      };
      contents = refl;
      bytes = told_block s n b o k bytes after below at size read;
      failed = tt;
    }

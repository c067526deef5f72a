-- Bytes in chunks: what a write to a chunk and a cut do to each byte of the file.
use Rattle.std.proofs.Common.{◌≡◌, ◌≢◌, ℕ, zero, suc, ◌+◌, ◌-◌, ◌*◌, ◌/◌, ◌%◌, ◌<◌, ◌≤◌, true, false, cond}
use Rattle.std.proofs.Common.{ltb, leb, List, [], ◌∷◌, length, take, get_or, refl, ap, sym, ◌∙◌, ◌++◌, drop, replicate}
use Rattle.std.proofs.Common.{arith, inl, inr, max, min, length-append, length-drop}
use Rattle.std.specs.Prelude.{◌&&◌, ◌⊎◌}
use Rattle.std.proofs.lemmas.Bool.{cases_eq, cases_lt}
use Rattle.std.proofs.lemmas.Bool.Decides.{nat_tests}
use Rattle.std.proofs.lemmas.Grind.{same_number_lists}
use Rattle.std.proofs.lemmas.List.{get_or_past, get_or-drop, length-take, length-replicate}
use Rattle.pc_types.specs.Files.{padded, pread, pwrite, cut}
use Rattle.pc_types.proofs.FileLaws.{byte-take, byte-padded, byte-pwrite, length-pwrite, length-cut, byte-cut}
use Rattle.pc_types.proofs.FileLaws.{length-pread, byte-pread}
use Rattle.std.specs.Prelude.{Option, Some, None, Vec, is_some, IsSome, IfSome, IfNone}
use Rattle.std.specs.Map.{lookup}
use Rattle.std.specs.declared.alloc.Global.{Global}
use Rattle.std.specs.Ordering.{nat_cmp, is_eq, is_lt}
use Rattle.std.specs.BTreeMap as tree
use Rattle.trail.specs.Sparse.{Chunks, StandsIn, chunk_bytes, byte_at, byte_put, byte_cut, bytes_from}

-- ---- a list of bytes by a function

pub length-bytes_from : (g : ℕ → ℕ) (a n : ℕ) → length (bytes_from g a n) ≡ n
length-bytes_from g a zero = refl
length-bytes_from g a (suc n) = ap suc (length-bytes_from g (a + 1) n)

pub byte-bytes_from : (g : ℕ → ℕ) (a n k : ℕ) → get_or (bytes_from g a n) k 0 ≡ cond (ltb k n) (g (a + k)) 0
byte-bytes_from g a zero k = grind (arith, nat_tests)
byte-bytes_from g a (suc n) zero = grind (arith, nat_tests)
byte-bytes_from g a (suc n) (suc k) = byte-bytes_from g (a + 1) n k ∙ grind (arith, nat_tests)

-- past whose end are zeros
pub byte-file : (g : ℕ → ℕ) (n k : ℕ) → ((i : ℕ) → n ≤ i → g i ≡ 0) → get_or (bytes_from g 0 n) k 0 ≡ g k
byte-file g n k past = elim (cases_lt k n) [
  | inl below ↦ byte-bytes_from g 0 n k ∙ grind (arith, nat_tests)
  | inr over ↦ byte-bytes_from g 0 n k ∙ (let p = past k over in grind (arith, nat_tests))
]

-- ---- bytes put into a chunk that was filled up

pub length_padded : (f : List ℕ) (n : ℕ) → length (padded f n) ≡ length f + (n - length f)
length_padded f n = length-append f (replicate (n - length f) 0)
    ∙ ap (λ k. length f + k) (length-replicate {A = ℕ} (n - length f) 0)

pub padded_long : (f : List ℕ) (n : ℕ) → n ≤ length f → f ≡ padded f n
padded_long f n h =
    same_number_lists _ _ (sym (length_padded f n ∙ (let z : n - length f ≡ 0 = omega (arith, h) in omega arith)))
    (λ k l. sym (byte-padded f n k))

front : (f : List ℕ) (o n : ℕ) → o ≤ n → take o (padded f n) ≡ take o (padded f o)
front f o n h =
    same_number_lists _ _ (omega (
      arith,
      length-take o (padded f n),
      length-take o (padded f o),
      length_padded f n,
      length_padded f o,
    )) (λ k l.
    byte-take o (padded f n) k ∙ ap (λ x. cond (ltb k o) x 0) (byte-padded f n k ∙ sym (byte-padded f o k))
    ∙ sym (byte-take o (padded f o) k))

back : (f : List ℕ) (n : ℕ) → drop n (padded f n) ≡ drop n f
back f n =
    same_number_lists _ _ (omega (arith, length-drop n (padded f n), length-drop n f, length_padded f n)) (λ k l.
    get_or-drop n (padded f n) k 0 ∙ byte-padded f n (n + k) ∙ sym (get_or-drop n f k 0))

-- bytes put into a file that was filled up
pub put_is : (f : List ℕ) (o : ℕ) (b : List ℕ) → 0 < length b
    → take o (padded f (o + length b)) ++ b ++ drop (o + length b) (padded f (o + length b)) ≡ pwrite f o b
put_is f o [] h = absurd (omega (arith, h))
put_is f o (x ∷ b) h = λ i. front f o (o + length (x ∷ b)) (omega arith) i ++ (x ∷ b) ++ back f (o + length (x ∷ b)) i

-- ---- chunks, as a function from their indexes to their bytes

abbrev byte_in : (ℕ → List ℕ) → ℕ → ℕ
byte_in c i = get_or (c (i / 4096)) (i % 4096) 0

place : (i : ℕ) → i ≡ i / 4096 * 4096 + i % 4096
place i = omega arith

within : (i : ℕ) → i % 4096 < 4096
within i = omega arith

-- a chunk after a write to it, and the others as they were
pub put_byte : (c d : ℕ → List ℕ) (at : ℕ) (b : List ℕ) → at % 4096 + length b ≤ 4096
    → d (at / 4096) ≡ pwrite (c (at / 4096)) (at % 4096) b → ((q : ℕ) → q ≢ at / 4096 → d q ≡ c q)
    → (i : ℕ) → byte_in d i ≡ cond (leb at i && ltb i (at + length b)) (get_or b (i - at) 0) (byte_in c i)
put_byte c d at b h put others i = go (cases_eq (i / 4096) (at / 4096))
  where
    go : (i / 4096 ≡ at / 4096) ⊎ (i / 4096 ≢ at / 4096)
        → byte_in d i ≡ cond (leb at i && ltb i (at + length b)) (get_or b (i - at) 0) (byte_in c i)
    go (inl e) =
        let p = place i in
        let r = place at in
        let tests : (leb (at % 4096) (i % 4096) && ltb (i % 4096) (at % 4096 + length b))
        ≡ (leb at i && ltb i (at + length b)) = grind (arith, nat_tests) in
        let there : i % 4096 - at % 4096 ≡ i - at = omega (arith, p, r, e) in
        ap (λ q. get_or (d q) (i % 4096) 0) e ∙ ap (λ x. get_or x (i % 4096) 0) put
        ∙ byte-pwrite (c (at / 4096)) (at % 4096) b (i % 4096)
        ∙ (λ j. cond (tests j) (get_or b (there j) 0) (get_or (c (sym e j)) (i % 4096) 0))
    go (inr n) =
        let p = place i in
        let r = place at in
        let l = within i in
        let m = within at in
        let tests : (leb at i && ltb i (at + length b)) ≡ false = grind (arith, nat_tests) in
        ap (λ x. get_or x (i % 4096) 0) (others (i / 4096) n)
        ∙ sym (ap (λ t. cond t (get_or b (i - at) 0) (byte_in c i)) tests)

-- the chunks below a size as they were, the one at it cut, and none past it
pub cut_byte : (c d : ℕ → List ℕ) (size : ℕ) → ((q : ℕ) → q < size / 4096 → d q ≡ c q)
    → d (size / 4096) ≡ take (size % 4096) (c (size / 4096)) → ((q : ℕ) → size / 4096 < q → d q ≡ [])
    → (i : ℕ) → byte_in d i ≡ cond (ltb i size) (byte_in c i) 0
cut_byte c d size below cut past i = go (cases_lt (i / 4096) (size / 4096))
  where
    at_or_past : (i / 4096 ≡ size / 4096) ⊎ (i / 4096 ≢ size / 4096) → size / 4096 ≤ i / 4096
        → byte_in d i ≡ cond (ltb i size) (byte_in c i) 0
    at_or_past (inl e) h =
        let p = place i in
        let r = place size in
        let tests : ltb (i % 4096) (size % 4096) ≡ ltb i size = grind (arith, nat_tests) in
        ap (λ q. get_or (d q) (i % 4096) 0) e ∙ ap (λ x. get_or x (i % 4096) 0) cut
        ∙ byte-take (size % 4096) (c (size / 4096)) (i % 4096)
        ∙ (λ j. cond (tests j) (get_or (c (sym e j)) (i % 4096) 0) 0)
    at_or_past (inr n) h =
        let p = place i in
        let r = place size in
        let m = within size in
        let tests : ltb i size ≡ false = grind (arith, nat_tests) in
        ap (λ x. get_or x (i % 4096) 0) (past (i / 4096) (omega (arith, n, h)))
        ∙ sym (ap (λ t. cond t (byte_in c i) 0) tests)

    go : (i / 4096 < size / 4096) ⊎ (size / 4096 ≤ i / 4096) → byte_in d i ≡ cond (ltb i size) (byte_in c i) 0
    go (inl l) =
        let p = place i in
        let r = place size in
        let m = within i in
        let tests : ltb i size ≡ true = grind (arith, nat_tests) in
        ap (λ x. get_or x (i % 4096) 0) (below (i / 4096) l) ∙ sym (ap (λ t. cond t (byte_in c i) 0) tests)
    go (inr h) = at_or_past (cases_eq (i / 4096) (size / 4096)) h

-- ---- files

module _ (g : ℕ → ℕ) (n : ℕ) (past : (i : ℕ) → n ≤ i → g i ≡ 0) where
  abbrev file : List ℕ
  file = bytes_from g 0 n

  len : length file ≡ n
  len = length-bytes_from g 0 n

  -- after a write
  pub written : (f : ℕ → ℕ) (o : ℕ) (b : List ℕ) → 0 < length b
      → ((i : ℕ) → f i ≡ cond (leb o i && ltb i (o + length b)) (get_or b (i - o) 0) (g i))
      → bytes_from f 0 (max n (o + length b)) ≡ pwrite (bytes_from g 0 n) o b
  written f o b some put =
      same_number_lists _ _ (omega (
        arith,
        length-bytes_from f 0 (max n (o + length b)),
        length-pwrite file o b some,
        len,
      )) (λ k l.
      byte-file f (max n (o + length b)) k (λ i h. put i ∙ zero_past i h) ∙ put k
      ∙ ap (λ x. cond (leb o k && ltb k (o + length b)) (get_or b (k - o) 0) x) (sym (byte-file g n k past))
      ∙ sym (byte-pwrite file o b k))
    where
      zero_past : (i : ℕ) → max n (o + length b) ≤ i → cond (leb o i && ltb i (o + length b)) (get_or b (i - o) 0) (g i)
          ≡ 0
      zero_past i h = let p = past i (omega (arith, h)) in grind (arith, nat_tests)

  -- after a cut
  pub is_cut : (f : ℕ → ℕ) (s : ℕ) → ((k : ℕ) → k < s → f k ≡ g k) → bytes_from f 0 s ≡ cut (bytes_from g 0 n) s
  is_cut f s same =
      same_number_lists _ _ (length-bytes_from f 0 s ∙ sym (length-cut file s)) (λ k l.
      byte-bytes_from f 0 s k ∙ at k (omega (arith, l, length-bytes_from f 0 s))
      ∙ ap (λ x. cond (ltb k s) x 0) (sym (byte-file g n k past)) ∙ sym (byte-cut file s k))
    where
      at : (k : ℕ) → k < s → cond (ltb k s) (f (0 + k)) 0 ≡ cond (ltb k s) (g k) 0
      at k l = ap (λ x. cond (ltb k s) x 0) (ap f (let z : 0 + k ≡ k = omega arith in z) ∙ same k l)

  -- a read gives these bytes
  pub is_read : (o count : ℕ) (b : List ℕ) → length b ≡ min count (n - o)
      → ((k : ℕ) → k < length b → get_or b k 0 ≡ g (o + k)) → b ≡ pread (bytes_from g 0 n) o count
  is_read o count b long same =
      same_number_lists _ _ (omega (arith, long, length-pread file o count, len)) (λ k l.
      same k l ∙ sym (byte-file g n (o + k) past) ∙ sym (byte-pread file o count k (omega (arith, l, long))))

  pub read_len : (o count : ℕ) (b : List ℕ) → b ≡ pread (bytes_from g 0 n) o count → length b ≡ min count (n - o)
  read_len o count b is = ap length is ∙ omega (arith, length-pread file o count, len)

  pub read_bytes : (o count : ℕ) (b : List ℕ) → b ≡ pread (bytes_from g 0 n) o count → (k : ℕ) → k < length b
      → get_or b k 0 ≡ g (o + k)
  read_bytes o count b is k l = ap (λ x. get_or x k 0) is
      ∙ byte-pread file o count k (let a = read_len o count b is in omega (arith, l, a)) ∙ byte-file g n (o + k) past

-- ---- the map of chunks

pub other_key : (q k : ℕ) → q ≢ k → is_eq (nat_cmp k q) ≡ false
other_key q k h = grind (arith, nat_tests)

at_most : (k q : ℕ) → is_lt (nat_cmp k q) ≡ false → q ≤ k
at_most k q h = grind (arith, nat_tests)

module _ (m n : Chunks) where
  abbrev before : ℕ → List ℕ
  before q = chunk_bytes (tree.get nat_cmp m q)

  abbrev after : ℕ → List ℕ
  after q = chunk_bytes (tree.get nat_cmp n q)

  -- a chunk that was written to
  pub put_in_map : (at : ℕ) (b : List ℕ) (w : Vec ℕ Global) → at % 4096 + length b ≤ 4096
      → w.items ≡ pwrite (before (at / 4096)) (at % 4096) b → tree.get nat_cmp n (at / 4096) ≡ Some w
      → ((q : ℕ) → is_eq (nat_cmp (at / 4096) q) ≡ false → tree.get nat_cmp n q ≡ tree.get nat_cmp m q) → (i : ℕ)
      → byte_at n i ≡ byte_put m at b i
  put_in_map at b w h put is others i = put_byte before after at b h (ap chunk_bytes is ∙ put)
      (λ q d. ap chunk_bytes (others q (other_key q (at / 4096) d))) i

  -- the chunk at the size was cut, those past it are gone
  pub cut_in_map : (size : ℕ) → ((q : ℕ) → q < size / 4096 → tree.get nat_cmp n q ≡ tree.get nat_cmp m q)
      → after (size / 4096) ≡ take (size % 4096) (before (size / 4096))
      → ((q : ℕ) → size / 4096 < q → tree.get nat_cmp n q ≡ None)
      → (i : ℕ) → byte_at n i ≡ byte_cut m size i
  cut_in_map size below cut past i = cut_byte before after size (λ q l. ap chunk_bytes (below q l)) cut
      (λ q l. ap chunk_bytes (past q l)) i

  -- the last chunk went, if there was one: where one past `last` was there, those up to `last` are as they were
  pub pop_keeps : (o : Option (ℕ × Vec ℕ Global)) (k last : ℕ) → last < k → IsSome (tree.get nat_cmp m k)
      → IfSome o (λ p. tree.IsUpperBound nat_cmp m p.0) → IfSome o (λ p. tree.Updates nat_cmp m n p.0 None)
      → IfNone o (tree.IsUnchanged m n) → (q : ℕ) → q ≤ last → tree.get nat_cmp n q ≡ tree.get nat_cmp m q
  pop_keeps None k last past there greatest updates same q low = ap (lookup (tree.is_at (nat_cmp q))) same
  pop_keeps (Some p) k last past there greatest updates same q low =
      let b = at_most p.0 k (greatest k there) in
      updates.2 q (other_key q p.0 (omega (arith, b, past, low)))

  -- the chunks up to the last as they were, and none past it
  pub kept_up_to : (last : ℕ) → ((q : ℕ) → q ≤ last → tree.get nat_cmp n q ≡ tree.get nat_cmp m q)
      → ((q : ℕ) → last < q → tree.get nat_cmp n q ≡ None) → (q : ℕ)
      → tree.get nat_cmp n q ≡ cond (leb q last) (tree.get nat_cmp m q) None
  kept_up_to last low high q = go (cases_lt last q)
    where
      go : (last < q) ⊎ (q ≤ last) → tree.get nat_cmp n q ≡ cond (leb q last) (tree.get nat_cmp m q) None
      go (inl past) =
          let test : leb q last ≡ false = grind (arith, nat_tests) in
          high q past ∙ sym (ap (λ t. cond t (tree.get nat_cmp m q) None) test)
      go (inr kept) =
          let test : leb q last ≡ true = grind (arith, nat_tests) in
          low q kept ∙ sym (ap (λ t. cond t (tree.get nat_cmp m q) None) test)

-- no chunk is past the greatest
pub none_past : (m : Chunks) (k last : ℕ) → k ≤ last → tree.IsUpperBound nat_cmp m k → (q : ℕ) → last < q
    → tree.get nat_cmp m q ≡ None
none_past m k last low greatest q past = go (tree.get nat_cmp m q) refl
  where
    go : (o : Option (Vec ℕ Global)) → tree.get nat_cmp m q ≡ o → tree.get nat_cmp m q ≡ None
    go None is = is
    go (Some v) is = absurd (let b = at_most k q (greatest q (ap is_some is)) in omega (arith, b, low, past))

-- nor is one where there are none
pub none_in_empty : (m : Chunks) → tree.btree_map_len m ≡ 0 → (q : ℕ) → tree.get nat_cmp m q ≡ None
none_in_empty m empty q = go m.entries empty
  where
    go : (es : List (ℕ × Vec ℕ Global)) → length es ≡ 0 → lookup (tree.is_at (nat_cmp q)) es ≡ None
    go [] z = refl
    go (e ∷ es) z = absurd (omega (arith, z))

pub is_below : (k n : ℕ) → k < n → ltb k n ≡ true
is_below k n l = grind (arith, nat_tests)

-- ---- bytes against a chunk, past whose end are zeros

module _ (chunk : List ℕ) (start : ℕ) (b : List ℕ) (m n : ℕ) (m_is : m ≡ min start (length chunk))
    (n_is : n ≡ min (length b) (length (take (length chunk - m) (drop m chunk)))) where
  abbrev there : List ℕ
  there = take (length chunk - m) (drop m chunk)

  abbrev rest : List ℕ
  rest = take (length b - n) (drop n b)

  length_there : length there ≡ length chunk - m
  length_there = omega (arith, length-take (length chunk - m) (drop m chunk), length-drop m chunk)

  byte_there : (k : ℕ) → k < length there → get_or there k 0 ≡ get_or chunk (start + k) 0
  byte_there k l =
      let e : m + k ≡ start + k = omega (arith, l, length_there, m_is) in
      let t = is_below k (length chunk - m) (omega (arith, l, length_there, m_is)) in
      byte-take (length chunk - m) (drop m chunk) k ∙ ap (λ x. cond x (get_or (drop m chunk) k 0) 0) t
      ∙ get_or-drop m chunk k 0 ∙ ap (λ j. get_or chunk j 0) e

  length_rest : length rest ≡ length b - n
  length_rest = omega (arith, length-take (length b - n) (drop n b), length-drop n b)

  byte_rest : (k : ℕ) → k < length rest → get_or rest k 0 ≡ get_or b (n + k) 0
  byte_rest k l = byte-take (length b - n) (drop n b) k
      ∙ ap (λ x. cond x (get_or (drop n b) k 0) 0) (is_below k (length b - n) (omega (arith, l, length_rest, n_is)))
      ∙ get_or-drop n b k 0

  past_there : (k : ℕ) → n ≤ k → k < length b → get_or chunk (start + k) 0 ≡ 0
  past_there k h l = get_or_past chunk (start + k) 0 (omega (arith, h, l, length_there, m_is, n_is))

  byte_front : (xs : List ℕ) (k : ℕ) → k < n → get_or (take n xs) k 0 ≡ get_or xs k 0
  byte_front xs k l = byte-take n xs k ∙ ap (λ x. cond x (get_or xs k 0) 0) (is_below k n l)

  pub stands : take n b ≡ take n there → StandsIn [] 0 rest → StandsIn chunk start b
  stands same zeros k l = go (cases_lt k n)
    where
      go : (k < n) ⊎ (n ≤ k) → get_or b k 0 ≡ get_or chunk (start + k) 0
      go (inl front) = sym (byte_front b k front) ∙ ap (λ x. get_or x k 0) same ∙ byte_front there k front
          ∙ byte_there k (omega (arith, front, n_is))
      go (inr back) =
          let at : n + (k - n) ≡ k = omega (arith, back) in
          let in_rest : k - n < length rest = omega (arith, back, l, length_rest, n_is) in
          ap (λ j. get_or b j 0) (sym at) ∙ sym (byte_rest (k - n) in_rest) ∙ zeros (k - n) in_rest
          ∙ sym (past_there k back l)

  pub front_same : StandsIn chunk start b → take n b ≡ take n there
  front_same is =
      same_number_lists _ _ (omega (arith, length-take n b, length-take n there, n_is)) (λ k l.
      let front : k < n = omega (arith, l, length-take n b) in
      byte_front b k front ∙ is k (omega (arith, front, n_is)) ∙ sym (byte_there k (omega (arith, front, n_is)))
      ∙ sym (byte_front there k front))

  pub rest_zeros : StandsIn chunk start b → StandsIn [] 0 rest
  rest_zeros is k l =
      let in_b : n + k < length b = omega (arith, l, length_rest, n_is) in
      byte_rest k l ∙ is (n + k) in_b ∙ past_there (n + k) (omega arith) in_b

-- ---- piece by piece: of the bytes b at o, those below d and then those from d to e

module _ (b : List ℕ) (o d e : ℕ) (in_b : e ≤ length b) (rises : d ≤ e) where
  abbrev piece : List ℕ
  piece = take (e - d) (drop d b)

  length_piece : length piece ≡ e - d
  length_piece = omega (arith, length-take (e - d) (drop d b), length-drop d b, in_b, rises)

  byte_piece : (k : ℕ) → d ≤ k → k < e → get_or piece (k - d) 0 ≡ get_or b k 0
  byte_piece k h l =
      let at : d + (k - d) ≡ k = omega (arith, h) in
      byte-take (e - d) (drop d b) (k - d)
      ∙ ap (λ x. cond x (get_or (drop d b) (k - d) 0) 0) (is_below (k - d) (e - d) (omega (arith, h, l)))
      ∙ get_or-drop d b (k - d) 0 ∙ ap (λ j. get_or b j 0) at

  pub stands_on : (g : ℕ → ℕ) → ((k : ℕ) → k < d → get_or b k 0 ≡ g (o + k))
      → ((k : ℕ) → k < length piece → get_or piece k 0 ≡ g (o + d + k)) → (k : ℕ) → k < e → get_or b k 0 ≡ g (o + k)
  stands_on g before here k l = go (cases_lt k d)
    where
      go : (k < d) ⊎ (d ≤ k) → get_or b k 0 ≡ g (o + k)
      go (inl front) = before k front
      go (inr back) =
          let at : o + d + (k - d) ≡ o + k = omega (arith, back) in
          sym (byte_piece k back l) ∙ here (k - d) (omega (arith, back, l, length_piece)) ∙ ap g at

  pub put_on : (g h f : ℕ → ℕ) → ((i : ℕ)
      → h i ≡ cond (leb o i && ltb i (o + length (take d b))) (get_or (take d b) (i - o) 0) (g i))
      → ((i : ℕ) → f i ≡ cond (leb (o + d) i && ltb i (o + d + length piece)) (get_or piece (i - (o + d)) 0) (h i))
      → (i : ℕ) → f i ≡ cond (leb o i && ltb i (o + length (take e b))) (get_or (take e b) (i - o) 0) (g i)
  put_on g h f before here i = here i ∙ go (cases_lt i (o + d)) (cases_lt i (o + e)) (cases_lt i o)
    where
      len_d : length (take d b) ≡ d
      len_d = omega (arith, length-take d b, in_b, rises)

      len_e : length (take e b) ≡ e
      len_e = omega (arith, length-take e b, in_b)

      byte_d : get_or (take d b) (i - o) 0 ≡ cond (ltb (i - o) d) (get_or b (i - o) 0) 0
      byte_d = byte-take d b (i - o)

      byte_e : get_or (take e b) (i - o) 0 ≡ cond (ltb (i - o) e) (get_or b (i - o) 0) 0
      byte_e = byte-take e b (i - o)

      go : (i < o + d) ⊎ (o + d ≤ i) → (i < o + e) ⊎ (o + e ≤ i) → (i < o) ⊎ (o ≤ i)
          → cond (leb (o + d) i && ltb i (o + d + length piece)) (get_or piece (i - (o + d)) 0) (h i)
          ≡ cond (leb o i && ltb i (o + length (take e b))) (get_or (take e b) (i - o) 0) (g i)
      go (inl low) _ (inl under) = let x = before i in let p = length_piece in let q = len_d in let r = len_e in
          let y = byte_d in let z = byte_e in grind (arith, nat_tests)
      go (inl low) _ (inr over) = let x = before i in let p = length_piece in let q = len_d in let r = len_e in
          let y = byte_d in let z = byte_e in grind (arith, nat_tests)
      go (inr high) (inl l) _ =
          let p = length_piece in
          let at : i - o - d ≡ i - (o + d) = omega (arith, high) in
          let same : get_or piece (i - (o + d)) 0 ≡ get_or b (i - o) 0 = ap (λ j. get_or piece j 0) (sym at)
          ∙ byte_piece (i - o) (omega (arith, high)) (omega (arith, high, l)) in
          let r = len_e in
          let z = byte_e in
          grind (arith, nat_tests)
      go (inr high) (inr past) _ = let x = before i in let p = length_piece in let q = len_d in let r = len_e in
          let y = byte_d in let z = byte_e in grind (arith, nat_tests)

use Rattle.std.proofs.Common.{◌≡◌, ◌≢◌, MatchOption, All, ℕ, List, [], ◌∷◌, Some, None, Option, arith}
use Rattle.script.specs.Keywords.{name_of}
use Rattle.script.specs.declared.keyword.Keyword.{Keyword as TheKeyword}
use Rattle.script.specs.declared.keyword.Keyword.TheVariants.{Config, Create, Open, Close, Size, Read, Write, Append, Truncate, Fill, Flush, Do, Fail, End, Sync, Step, Drop, Fsync, Poll, Evict, Age, Tags}
use Rattle.script.proofs.keyword.Keyword.of.Goals as goal

abbrev all : List TheKeyword
all = Config ∷ Create ∷ Open ∷ Close ∷ Size ∷ Read ∷ Write ∷ Append ∷ Truncate ∷ Fill ∷ Flush ∷ Do ∷ Fail ∷ End ∷ Sync ∷ Step ∷ Drop ∷ Fsync ∷ Poll ∷ Evict ∷ Age ∷ Tags ∷ []

-- each keyword stands among all
none : (word : List ℕ) → All (λ k. name_of k ≢ word) all → (k : TheKeyword) → name_of k ≢ word
none word p Config = p 0 Config (omega arith)
none word p Create = p 1 Create (omega arith)
none word p Open = p 2 Open (omega arith)
none word p Close = p 3 Close (omega arith)
none word p Size = p 4 Size (omega arith)
none word p Read = p 5 Read (omega arith)
none word p Write = p 6 Write (omega arith)
none word p Append = p 7 Append (omega arith)
none word p Truncate = p 8 Truncate (omega arith)
none word p Fill = p 9 Fill (omega arith)
none word p Flush = p 10 Flush (omega arith)
none word p Do = p 11 Do (omega arith)
none word p Fail = p 12 Fail (omega arith)
none word p End = p 13 End (omega arith)
none word p Sync = p 14 Sync (omega arith)
none word p Step = p 15 Step (omega arith)
none word p Drop = p 16 Drop (omega arith)
none word p Fsync = p 17 Fsync (omega arith)
none word p Poll = p 18 Poll (omega arith)
none word p Evict = p 19 Evict (omega arith)
none word p Age = p 20 Age (omega arith)
none word p Tags = p 21 Tags (omega arith)

found : (word : List ℕ) (r : Option TheKeyword) → MatchOption r (All (λ k. name_of k ≢ word) all) (λ k. name_of k ≡ word)
    → MatchOption r ((k : TheKeyword) → name_of k ≢ word) (λ k. name_of k ≡ word)
found word (Some k) p = p
found word None p = none word p

pub returns : goal.returns
returns c = found c.args.word.now c.written_so.result c.written_so.ensures

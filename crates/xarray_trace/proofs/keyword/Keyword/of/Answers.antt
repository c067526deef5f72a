use Rattle.std.proofs.Common.{◌≡◌, ◌≢◌, MatchOption, All, ℕ, List, [], ◌∷◌, Some, None, Option, arith}
use Rattle.xarray_trace.specs.Keywords.{name_of}
use Rattle.xarray_trace.specs.declared.keyword.Keyword.{Keyword as TheKeyword}
use Rattle.xarray_trace.specs.declared.keyword.Keyword.TheVariants.{Store, Insert, InsertOrder, Erase, Load, Split, SetMark, ClearMark, GetMark, Marked, Find, FindMarked, Retag, Empty, Hash, Dump, New, Ids, Alloc, AllocCyclic, Free, IsUsed, ErrNew, ErrSet, ErrSample, ErrCheck, ErrAdvance}
use Rattle.xarray_trace.proofs.keyword.Keyword.of.Goals as goal

abbrev all : List TheKeyword
all = Store ∷ Insert ∷ InsertOrder ∷ Erase ∷ Load ∷ Split ∷ SetMark ∷ ClearMark ∷ GetMark ∷ Marked ∷ Find ∷ FindMarked ∷ Retag ∷ Empty ∷ Hash ∷ Dump ∷ New ∷ Ids ∷ Alloc ∷ AllocCyclic ∷ Free ∷ IsUsed ∷ ErrNew ∷ ErrSet ∷ ErrSample ∷ ErrCheck ∷ ErrAdvance ∷ []

-- each keyword stands among all
none : (word : List ℕ) → All (λ k. name_of k ≢ word) all → (k : TheKeyword) → name_of k ≢ word
none word p Store = p 0 Store (omega arith)
none word p Insert = p 1 Insert (omega arith)
none word p InsertOrder = p 2 InsertOrder (omega arith)
none word p Erase = p 3 Erase (omega arith)
none word p Load = p 4 Load (omega arith)
none word p Split = p 5 Split (omega arith)
none word p SetMark = p 6 SetMark (omega arith)
none word p ClearMark = p 7 ClearMark (omega arith)
none word p GetMark = p 8 GetMark (omega arith)
none word p Marked = p 9 Marked (omega arith)
none word p Find = p 10 Find (omega arith)
none word p FindMarked = p 11 FindMarked (omega arith)
none word p Retag = p 12 Retag (omega arith)
none word p Empty = p 13 Empty (omega arith)
none word p Hash = p 14 Hash (omega arith)
none word p Dump = p 15 Dump (omega arith)
none word p New = p 16 New (omega arith)
none word p Ids = p 17 Ids (omega arith)
none word p Alloc = p 18 Alloc (omega arith)
none word p AllocCyclic = p 19 AllocCyclic (omega arith)
none word p Free = p 20 Free (omega arith)
none word p IsUsed = p 21 IsUsed (omega arith)
none word p ErrNew = p 22 ErrNew (omega arith)
none word p ErrSet = p 23 ErrSet (omega arith)
none word p ErrSample = p 24 ErrSample (omega arith)
none word p ErrCheck = p 25 ErrCheck (omega arith)
none word p ErrAdvance = p 26 ErrAdvance (omega arith)

found : (word : List ℕ) (r : Option TheKeyword) → MatchOption r (All (λ k. name_of k ≢ word) all) (λ k. name_of k ≡ word)
    → MatchOption r ((k : TheKeyword) → name_of k ≢ word) (λ k. name_of k ≡ word)
found word (Some k) p = p
found word None p = none word p

pub returns : goal.returns
returns c = found c.args.word.now c.written_so.result c.written_so.ensures

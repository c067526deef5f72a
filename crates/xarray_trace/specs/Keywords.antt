-- The names of the operations.
use Rattle.std.specs.Prelude.{ℕ, List, codes}
use Rattle.xarray_trace.specs.declared.keyword.Keyword.{Keyword}
use Rattle.xarray_trace.specs.declared.keyword.Keyword.TheVariants.{Store, Insert, InsertOrder, Erase, Load, Split, SetMark, ClearMark, GetMark, Marked, Find, FindMarked, Retag, Empty, Hash, Dump, New, Ids, Alloc, AllocCyclic, Free, IsUsed, ErrNew, ErrSet, ErrSample, ErrCheck, ErrAdvance}

abbrev pub name_of : Keyword → List ℕ
name_of Store = codes "store"
name_of Insert = codes "insert"
name_of InsertOrder = codes "insert_order"
name_of Erase = codes "erase"
name_of Load = codes "load"
name_of Split = codes "split"
name_of SetMark = codes "set_mark"
name_of ClearMark = codes "clear_mark"
name_of GetMark = codes "get_mark"
name_of Marked = codes "marked"
name_of Find = codes "find"
name_of FindMarked = codes "find_marked"
name_of Retag = codes "retag"
name_of Empty = codes "empty"
name_of Hash = codes "hash"
name_of Dump = codes "dump"
name_of New = codes "new"
name_of Ids = codes "ids"
name_of Alloc = codes "alloc"
name_of AllocCyclic = codes "alloc_cyclic"
name_of Free = codes "free"
name_of IsUsed = codes "is_used"
name_of ErrNew = codes "err_new"
name_of ErrSet = codes "err_set"
name_of ErrSample = codes "err_sample"
name_of ErrCheck = codes "err_check"
name_of ErrAdvance = codes "err_advance"

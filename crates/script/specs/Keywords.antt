-- The names of the commands.
use Rattle.std.specs.Prelude.{ℕ, List, codes}
use Rattle.script.specs.declared.keyword.Keyword.{Keyword}
use Rattle.script.specs.declared.keyword.Keyword.TheVariants.{Config, Create, Open, Close, Size, Read, Write, Append, Truncate, Fill, Flush, Do, Fail, End, Sync, Step, Drop, Fsync, Poll, Evict, Age, Tags}

abbrev pub name_of : Keyword → List ℕ
name_of Config = codes "config"
name_of Create = codes "create"
name_of Open = codes "open"
name_of Close = codes "close"
name_of Size = codes "size"
name_of Read = codes "read"
name_of Write = codes "write"
name_of Append = codes "append"
name_of Truncate = codes "truncate"
name_of Fill = codes "fill"
name_of Flush = codes "flush"
name_of Do = codes "do"
name_of Fail = codes "fail"
name_of End = codes "end"
name_of Sync = codes "sync"
name_of Step = codes "step"
name_of Drop = codes "drop"
name_of Fsync = codes "fsync"
name_of Poll = codes "poll"
name_of Evict = codes "evict"
name_of Age = codes "age"
name_of Tags = codes "tags"

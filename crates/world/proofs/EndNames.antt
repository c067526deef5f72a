-- How a request ended, as its reply; and that the end of a flush that failed names its file.
use Rattle.std.proofs.Common.{◌≡◌, ℕ, refl}
use Rattle.std.specs.Prelude.{Ok}
use Rattle.cachecore.proofs.EndNames.{fill_named, flush_named}
use Rattle.cachecore.specs.Replies.{NamesFile}
use Rattle.cachecore.specs.declared.answers.Ended.{Ended}
use Rattle.cachecore.specs.declared.answers.Ended.TheVariants as ended
use Rattle.machine.specs.State.{State}
use Rattle.pc_types.specs.declared.kind.Kind.{Kind}
use Rattle.pc_types.specs.declared.kind.Kind.TheVariants.{Fill, Flush}
use Rattle.world.specs.Answers.{NamesFlush, end_says}
use Rattle.world.specs.Ends as ends
use Rattle.world.specs.Ends.{end_as}

pub end_as_says : (k : Kind) (e : Ended) → end_says (end_as k e) ≡ ends.ended k (Ok e)
end_as_says Fill (ended.Dropped b) = refl
end_as_says Fill (ended.Failed file code b) = refl
end_as_says Fill (ended.Done b) = refl
end_as_says Flush (ended.Dropped b) = refl
end_as_says Flush (ended.Failed file code b) = refl
end_as_says Flush (ended.Done b) = refl

pub names_flush : (s : State) (k : Kind) (t : ℕ) (e : Ended) → NamesFile s k t (Ok e) → NamesFlush s t (Ok (end_as k e))
names_flush s Fill t (ended.Dropped b) h = tt
names_flush s Fill t (ended.Failed file code b) h = fill_named s t file code b h
names_flush s Fill t (ended.Done b) h = tt
names_flush s Flush t (ended.Dropped b) h = tt
names_flush s Flush t (ended.Failed file code b) h = (flush_named s t file code b h, h.4)
names_flush s Flush t (ended.Done b) h = tt

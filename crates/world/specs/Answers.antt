-- What the calls answer that begin a request, or end one, as replies of the machine.
use Rattle.std.specs.Prelude.{◌≡◌, ◌<◌, ℕ, None, Ok, Result, Some, option_map}
use Rattle.std.specs.FinMap as finmap
use Rattle.cachecore.specs.Flushing.{flush_of}
use Rattle.cachecore.specs.Replies.{outcome_of}
use Rattle.machine.specs.State.{State}
use Rattle.pc_types.specs.declared.limits.TheConstants.{MAX_FILES}
use Rattle.pc_types.specs.declared.refusal.Refusal.{Refusal}
use Rattle.machine.specs.declared.event.Reply.{Reply}
use Rattle.machine.specs.declared.event.Reply.TheVariants as reply
use Rattle.world.specs.declared.answers.EndAnswer.{EndAnswer}
use Rattle.world.specs.declared.answers.EndAnswer.TheVariants as end
use Rattle.world.specs.declared.answers.EndTold.{EndTold}
use Rattle.world.specs.declared.answers.FillAnswer.{FillAnswer}
use Rattle.world.specs.declared.answers.FillAnswer.TheVariants as fill
use Rattle.world.specs.declared.answers.FlushAnswer.{FlushAnswer}
use Rattle.world.specs.declared.answers.FlushAnswer.TheVariants as flush
use Rattle.world.specs.declared.answers.SyncAnswer.{SyncAnswer}
use Rattle.world.specs.declared.answers.SyncAnswer.TheVariants as sync
use Rattle.world.specs.Stepping.{WorldSeen}

abbrev pub fill_says : FillAnswer → Reply
fill_says fill.Gone = reply.Gone
fill_says (fill.Wait p) = reply.Wait p
fill_says fill.Present = reply.Present
fill_says fill.Filled = reply.Filled
fill_says (fill.Begun t) = reply.Job t

abbrev pub flush_says : FlushAnswer → Reply
flush_says flush.Nothing = reply.Nothing
flush_says (flush.Begun t) = reply.Job t

abbrev pub sync_says : SyncAnswer → Reply
sync_says (sync.Begun t) = reply.Job t
sync_says (sync.Wait p) = reply.Wait p
sync_says sync.Clean = reply.Clean
sync_says (sync.Failed code) = reply.Failed code

abbrev pub end_says : EndAnswer → Reply
end_says end.Dropped = reply.Dropped
end_says (end.FillFailed code) = reply.Failed code
end_says (end.FlushFailed file code) = reply.Failed code
end_says end.Filled = reply.Filled
end_says end.Written = reply.Written

-- where the request of this serial failed, a flush names its file, and what names none was no flush
abbrev pub NamesFlush : State → ℕ → Result EndAnswer Refusal → Type 0
NamesFlush s t (Ok (end.FlushFailed file code)) = (flush_of s t ≡ Some file.0) × (file.0 < MAX_FILES)
NamesFlush s t (Ok (end.FillFailed code)) = flush_of s t ≡ None
NamesFlush s t a = Unit {0}

-- of a request that ended: its kind, its block, and what its device call came to
abbrev pub CameTo : WorldSeen → ℕ → EndTold → Type 0
CameTo old t e =
    (option_map (λ x. x.kind) (finmap.get old.core.requests t) ≡ Some e.kind)
    × (option_map (λ x. x.block) (finmap.get old.core.requests t) ≡ Some e.block.0)
    × (finmap.get old.outcomes t ≡ Some (outcome_of e.kind e.outcome e.buffer))

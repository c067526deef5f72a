-- What the calls of the cache say of a job that they begin, as the task of its request.
use Rattle.std.proofs.Common.{◌≡◌, false, refl, ap, sym, ◌∙◌}
use Rattle.std.specs.Prelude.{Some, unwrap_or}
use Rattle.std.specs.FinMap as finmap
use Rattle.pc_types.specs.declared.ids.HandleId.{HandleId}
use Rattle.pc_types.specs.declared.ids.PageIndex.{PageIndex}
use Rattle.pc_types.specs.declared.ids.Serial.{Serial}
use Rattle.pc_types.specs.declared.kind.Kind.TheVariants.{Fill, Flush}
use Rattle.blockdev.specs.Jobs.{Task}
use Rattle.cachecore.specs.Replies.{IsJobOf}
use Rattle.machine.specs.declared.event.Event.TheVariants as event
use Rattle.machine.specs.declared.event.Reply.TheVariants as reply
use Rattle.machine.specs.Changes.{requested}
use Rattle.machine.specs.State.{State, Request, block_at, handle_file, page_bytes}
use Rattle.machine.specs.Step.{Step}
use Rattle.machine.proofs.steps.Cases.{happened}
use Rattle.runs.proofs.events.Lookups.{get-insert1}
use Rattle.runs.proofs.views.View.{put1_here}
use Rattle.tied.specs.Tied.{IsTaskOf, task_of}

-- a fill begins with a request of that kind
begun_fill : (s next : State) (h : HandleId) (p : PageIndex) (t : Serial) (x : Request)
    → Step s (event.FillBegin h p) (reply.Job t) next → finmap.get next.requests t.0 ≡ Some x → x.kind ≡ Fill
begun_fill s next h p t x step is =
    let f = handle_file s h.0 in
    let a = happened s (event.FillBegin h p) (reply.Job t) next step refl (λ n o e. absurd cc) in
    let new : Request =
    record { kind = Fill; file = f; page = p.0; block = unwrap_or (block_at s f p.0) 0; dropped = false } in
    let there : finmap.get next.requests t.0 ≡ Some new =
    ap (λ (n : State). finmap.get n.requests t.0) a.is ∙ ap (finmap.get (requested s Fill f p.0).requests) a.may.1
    ∙ get-insert1 s.requests s.next new s.next ∙ put1_here (finmap.get s.requests) s.next (Some new) in
    let same : new ≡ x = (let k : Some new ≡ Some x = sym there ∙ is in cc) in
    sym (ap (λ (z : Request). z.kind) same)

-- the job of a fill
pub fill_task : (s next : State) (h : HandleId) (p : PageIndex) (job : Task)
    → Step s (event.FillBegin h p) (reply.Job (record { 0 = job.serial })) next → IsJobOf next job (λ x. job.bytes)
    → (x : Request) × (finmap.get next.requests job.serial ≡ Some x) × IsTaskOf next job.serial x job
fill_task s next h p job step j =
    let fill = begun_fill s next h p (record { 0 = job.serial }) j.0 step j.1 in
    (j.0, j.1, record { is = j.2; writes = λ flush. absurd (let k : Fill ≡ Flush = sym fill ∙ flush in cc) })

-- that of a flush, by a flusher or by a sync
pub flush_task : (next : State) (job : Task) → IsJobOf next job (λ x. page_bytes next x.file x.page)
    → (x : Request) × (finmap.get next.requests job.serial ≡ Some x) × IsTaskOf next job.serial x job
flush_task next job j =
    let bytes = ap (λ (z : Task). z.bytes) j.2 in
    (j.0, j.1, record { is = j.2 ∙ ap (task_of next.name job.serial j.0) (sym bytes); writes = λ flush. bytes })

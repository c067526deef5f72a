-- What is kept, over a device that tells its blocks or not.
use Rattle.std.proofs.Common.{◌≡◌, ℕ, ◌+◌, ◌<◌, ◌≤◌, Bool, true, false, cond, List, [], ◌∷◌, ◌++◌, length, map, refl, ap, sym, ◌∙◌, arith}
use Rattle.std.specs.Prelude.{Option, None, Some, is_some, slice_get, slice_set}
use Rattle.std.specs.FinMap as finmap
use Rattle.std.proofs.lemmas.List.Sums.{sum_by_push}
use Rattle.pc_types.specs.Limits.{Sizes}
use Rattle.pc_types.specs.declared.ids.Serial.{Serial}
use Rattle.pc_types.specs.declared.kind.Kind.{Kind}
use Rattle.pc_types.specs.declared.refusal.Refusal.{Refusal}
use Rattle.blockdev.specs.Jobs.{Task, FinishedTask}
use Rattle.cachecore.specs.Replies.{end_of}
use Rattle.deeds.specs.Rules.{Knows}
use Rattle.deeds.specs.Shown.{Settles, calls_of, known, uncalled}
use Rattle.deeds.specs.Views.{home_in}
use Rattle.deeds.specs.declared.views.Block.{Block}
use Rattle.deeds.specs.declared.views.Place.{Place}
use Rattle.deeds.specs.declared.views.Place.TheVariants.{Home, Out}
use Rattle.deeds.proofs.Counts.{accounts, calls_uncalled}
use Rattle.deeds.proofs.Known.{calls_given, calls_settled, known_opened}
use Rattle.machine.specs.declared.event.End.{End}
use Rattle.machine.specs.declared.event.Event.{Event}
use Rattle.machine.specs.declared.event.Event.TheVariants as event
use Rattle.machine.specs.declared.event.Reply.{Reply}
use Rattle.machine.specs.declared.event.Reply.TheVariants as reply
use Rattle.machine.specs.Catalogs.{Catalog, adopted}
use Rattle.machine.specs.Sound.{Sound}
use Rattle.machine.specs.State.{State, Request}
use Rattle.machine.specs.Step.{Step}
use Rattle.runs.specs.World.{World}
use Rattle.runs.proofs.moments.KeptRequests.{is_job}
use Rattle.trail.specs.declared.entry.Entry.{Entry}
use Rattle.trail.specs.Entries.{entry_of}
use Rattle.trail.specs.Honest.{MayBegin, end_made}
use Rattle.tied.specs.Tied.{IsCovered, IsHonest, IsTaskOf, IsTied, ended_count}
use Rattle.tied.proofs.Covered.{begun_home, covered_back, covered_begun, covered_first, covered_plain}
use Rattle.tied.proofs.Tied.{job_made, made_noted, tied_back, tied_begun, tied_first, tied_honest, tied_plain}

-- ---- how many requests have ended

-- an entry more, by the end that it makes
ended_on : (history : List Entry) (seat : ℕ) (e : Event) (r : Reply) (o : Option End) → end_made e r ≡ o
    → ended_count (history ++ entry_of seat e r ∷ []) ≡ ended_count history + cond (is_some o) 1 0
ended_on history seat e r o made =
    sum_by_push (λ (x : Entry). cond (is_some (end_made x.event x.reply)) 1 0) history (entry_of seat e r)
    ∙ ap (λ x. ended_count history + cond (is_some x) 1 0) (made_noted e r ∙ made)

none_ended : (history : List Entry) (seat : ℕ) (e : Event) (r : Reply) → end_made e r ≡ None
    → ended_count (history ++ entry_of seat e r ∷ []) ≡ ended_count history
none_ended history seat e r made = let more = ended_on history seat e r None made in omega (arith, more)

-- ---- what is kept

pub kept_first : (told : Bool) (files : Catalog) (sizes : Sizes) (name : ℕ) (blocks : List (List ℕ)) → length blocks ≡ sizes.blocks
    → (told ≡ true → MayBegin files sizes name blocks)
    → IsTied told files sizes name blocks [] (adopted sizes name files) (map Home (map uncalled blocks))
kept_first told files sizes name blocks count first = record {
  covered = covered_first files sizes name blocks count;
  tied = λ tells. tied_first files sizes name blocks (first tells);
  counted = ap calls_of (known_opened (map uncalled blocks)) ∙ calls_uncalled blocks;
}

module _ (told : Bool) (files : Catalog) (sizes : Sizes) (name : ℕ) (blocks : List (List ℕ)) (history : List Entry) (core : State)
    (places : List Place) (sound : Sound core) (i : IsTied told files sizes name blocks history core places) (seat : ℕ) where
  -- an event that neither begins nor ends a request
  pub kept_plain : (e : Event) (r : Reply) (next : State) → end_made e r ≡ None → is_job r ≡ false → Step core e r next
      → IsTied told files sizes name blocks (history ++ entry_of seat e r ∷ []) next places
  kept_plain e r next none quiet step = record {
    covered = covered_plain core places i.covered e r next none quiet step;
    tied = λ tells. tied_plain files sizes name blocks history core places (i.tied tells) seat e r next none quiet step;
    counted = i.counted ∙ sym (none_ended history seat e r none);
  }

  -- an end that is refused
  pub kept_refused : (kind : Kind) (end : End) (why : Refusal) (next : State)
      → Step core (event.End kind end) (reply.Refused why) next
      → IsTied told files sizes name blocks (history ++ entry_of seat (event.End kind end) (reply.Refused why) ∷ []) next places
  kept_refused kind end why next step = kept_plain (event.End kind end) (reply.Refused why) next refl refl step

  -- the begin of a request: the deed of its block is at home, and goes out with its task
  module _ (e : Event) (u : Serial) (next : State) (step : Step core e (reply.Job u) next) (x : Request)
      (is : finmap.get next.requests u.0 ≡ Some x) (task : Task) (job : IsTaskOf next u.0 x task)
      (low : task.block < core.sizes.blocks) where
    pub kept_home : slice_get places task.block ≡ Some (Home (home_in places task.block))
    kept_home = begun_home core places i.covered sound e u next step x is task (λ j. (job.is j).block) low

    pub kept_begun : IsTied told files sizes name blocks (history ++ entry_of seat e (reply.Job u) ∷ []) next
        (slice_set places task.block (Out (record { task = task; before = home_in places task.block })))
    kept_begun = record {
      covered = covered_begun core places i.covered sound e u next step x is task job low;
      tied = λ tells. tied_begun files sizes name blocks history core places (i.tied tells) i.covered seat e u next step x is
          task job low;
      counted = calls_given places task.block (record { task = task; before = home_in places task.block }) kept_home
          ∙ i.counted ∙ sym (none_ended history seat e (reply.Job u) (job_made core next e u step (end_made e (reply.Job u)) refl));
    }

  -- an end that went through: the deed comes home
  pub kept_back : (kind : Kind) (end : End) (r : Reply) (next : State) → end_made (event.End kind end) r ≡ Some end
      → Step core (event.End kind end) r next → (finished : FinishedTask) (after : List Place)
      → Settles told places finished after → end ≡ end_of finished
      → IsTied told files sizes name blocks (history ++ entry_of seat (event.End kind end) r ∷ []) next after
  kept_back kind end r next made step finished after s of = record {
    covered = covered_back core places i.covered sound kind end r next made step told finished after s of;
    tied = λ tells. tied_back files sizes name blocks history core places (i.tied tells) i.covered seat kind end r next made
        step told tells finished after s of;
    counted = calls_settled told places after finished s ∙ ap (λ n. n + 1) i.counted
        ∙ sym (ended_on history seat (event.End kind end) r (Some end) made);
  }

-- the history so far is honest
pub kept_honest : (told : Bool) (files : Catalog) (sizes : Sizes) (name : ℕ) (blocks : List (List ℕ)) (history : List Entry) (core : State)
    (places : List Place) → IsTied told files sizes name blocks history core places → told ≡ true
    → (w : World) × IsHonest files sizes name blocks history w × (w.core ≡ core)
kept_honest told files sizes name blocks history core places i tells =
    let t = i.tied tells in
    (t.world, tied_honest files sizes name blocks history core places t, t.core_is)

-- the device made one call for each request that has ended, and at most one for each that is still in flight
pub kept_calls : (told : Bool) (history : List Entry) (core : State) (places : List Place) (device : List Block) → IsCovered core places
    → calls_of (known places) ≡ ended_count history → Knows told device places
    → (more : ℕ) × (more ≤ finmap.len core.requests) × (calls_of device ≡ ended_count history + more)
kept_calls told history core places device c counted knows =
    let a = accounts told device places knows in
    let few = a.1 in
    let all = a.2 in
    let busy = c.busy in
    (a.0, omega (arith, few, busy), omega (arith, all, counted))

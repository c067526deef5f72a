-- Each step of the cache keeps its history tied to the device.
use Rattle.std.proofs.Common.{◌≡◌, ◌≢◌, ℕ, ◌<◌, Bool, true, false, cond, List, [], ◌∷◌, ◌++◌, map, refl, ap, sym}
use Rattle.std.proofs.Common.{subst, ◌∙◌, inl, inr}
use Rattle.std.specs.Prelude.{Option, Some, None, slice_get, slice_set}
use Rattle.std.specs.FinMap as finmap
use Rattle.std.specs.Ordering.{nat_cmp}
use Rattle.pc_types.specs.Kinds.{is_flush}
use Rattle.pc_types.specs.Limits.{Sizes}
use Rattle.pc_types.specs.declared.ids.Serial.{Serial}
use Rattle.pc_types.specs.declared.kind.Kind.{Kind}
use Rattle.pc_types.specs.declared.kind.Kind.TheVariants.{Flush}
use Rattle.blockdev.specs.Jobs.{Task, FinishedTask}
use Rattle.cachecore.specs.Replies.{end_of, outcome_of}
use Rattle.deeds.specs.Rules.{Knows}
use Rattle.deeds.specs.Shown.{Settles, bytes_of, known, uncalled}
use Rattle.deeds.specs.Views.{home_in}
use Rattle.deeds.specs.declared.views.Block.{Block}
use Rattle.deeds.specs.declared.views.Given.{Given}
use Rattle.deeds.specs.declared.views.Place.{Place}
use Rattle.deeds.specs.declared.views.Place.TheVariants.{Home, Out}
use Rattle.deeds.proofs.Counts.{contents_at, contents_uncalled}
use Rattle.deeds.proofs.Keeps.{all_home}
use Rattle.deeds.proofs.Lists.{get_set, mapped_at}
use Rattle.deeds.proofs.Known.{bytes_at, bytes_given, bytes_opened, bytes_settled, known_opened}
use Rattle.machine.specs.declared.event.End.{End}
use Rattle.machine.specs.declared.event.Event.{Event}
use Rattle.machine.specs.declared.event.Event.TheVariants as event
use Rattle.machine.specs.declared.event.Reply.{Reply}
use Rattle.machine.specs.declared.event.Reply.TheVariants as reply
use Rattle.machine.specs.Catalogs.{Catalog, adopted}
use Rattle.machine.specs.Sound.{Sound}
use Rattle.machine.specs.State.{State, Request, page_bytes}
use Rattle.machine.specs.Step.{Step}
use Rattle.maps.specs.Maps.{put_some}
use Rattle.runs.specs.Always.{Always}
use Rattle.runs.specs.World as world
use Rattle.runs.specs.World.{World, block_bytes, device_after, to_write}
use Rattle.runs.proofs.events.Lookups.{get-insert1, get-remove1}
use Rattle.runs.proofs.moments.KeptRequests.{is_job}
use Rattle.runs.proofs.views.View.{put1_else, put1_here}
use Rattle.trail.specs.declared.entry.Entry.{Entry}
use Rattle.trail.specs.Entries as entries
use Rattle.trail.specs.Entries.{entry_of}
use Rattle.trail.specs.Honest.{Fate, MayBegin, end_made, world_over}
use Rattle.trail.proofs.HistoryLaws.{noted_step}
use Rattle.trail.proofs.RunLaws.{bytes_in}
use Rattle.trail.proofs.TrailMoves.{acted, no_job}
use Rattle.tied.specs.Tied.{GoesTo, IsCovered, IsHonest, IsOnItsWay, IsOwned, IsTaskOf, IsToldOnce, Tied}
use Rattle.tied.proofs.Along.{IsAlong, along, always_along}
use Rattle.tied.proofs.Calls.{Fated, device_left, fated, get_there, still_writing}
use Rattle.tied.proofs.Covered.{begun_home, ends_own, home_not_out, is_home, none_out, older, other_serial, owner, same_given, still_out}
use Rattle.tied.proofs.Told.{goes_on, honest_of}

-- ---- which end an entry makes

-- what a history leaves out of a refused end is of no matter
pub made_noted : (e : Event) (r : Reply) → end_made (entries.noted e r) r ≡ end_made e r
made_noted (event.End kind end) (reply.Refused why) = refl
made_noted e r = refl

-- an event that is no end makes none
pub none_made : (e : Event) (r : Reply) → ((kind : Kind) (end : End) → e ≢ event.End kind end) → end_made e r ≡ None
none_made (event.End kind end) r other = absurd (other kind end refl)
none_made e (reply.Refused why) other = refl
none_made e r other = refl

-- nor does one that begins a request
pub job_made : (s next : State) (e : Event) (t : Serial) → Step s e (reply.Job t) next → (o : Option End)
    → end_made e (reply.Job t) ≡ o → end_made e (reply.Job t) ≡ None
job_made s next e t step None made = made
job_made s next e t step (Some end) made =
    absurd (let k : true ≡ false = no_job s next e (reply.Job t) end made step in cc)

noted_same : (writing : finmap.FinMap nat_cmp (List ℕ)) (r : Reply) (s : State) → is_job r ≡ false
    → world.noted writing r s ≡ writing
noted_same writing (reply.Job t) s j = absurd cc
noted_same writing r s j = refl

-- ---- the first state

pub tied_first : (files : Catalog) (sizes : Sizes) (name : ℕ) (blocks : List (List ℕ)) → MayBegin files sizes name blocks
    → Tied files sizes name blocks [] (adopted sizes name files) (map Home (map uncalled blocks))
tied_first files sizes name blocks first = record {
  world = world_over files sizes name blocks;
  first = first;
  goes = refl;
  core_is = refl;
  device = sym (bytes_opened (map uncalled blocks) ∙ contents_uncalled blocks);
  writes = λ k given at. let a = mapped_at Home (map uncalled blocks) k (Out given) at in absurd (home_not_out a.0 given a.2);
}

module _ (files : Catalog) (sizes : Sizes) (name : ℕ) (blocks : List (List ℕ)) (history : List Entry) (core : State)
    (places : List Place) (t : Tied files sizes name blocks history core places) where
  abbrev w : World
  w = t.world

  abbrev first : World
  first = world_over files sizes name blocks

  here : (e : Event) (r : Reply) (next : State) → Step core e r next → Step w.core (entries.noted e r) r next
  here e r next step = noted_step w.core e r next (subst (λ s. Step s e r next) (sym t.core_is) step)

  is_along : IsAlong sizes name w
  is_along = along sizes name files blocks history w t.first t.goes

  always : Always w
  always = always_along sizes name w is_along

  pub sound : Sound core
  sound = subst Sound t.core_is always.sound

  -- ---- events that end no request

  acts_on : (seat : ℕ) (e : Event) (r : Reply) (next : State) → end_made e r ≡ None → Step core e r next
      → GoesTo first (history ++ entry_of seat e r ∷ []) (acted w r next)
  acts_on seat e r next none step =
      goes_on first history (entry_of seat e r) w (acted w r next) t.goes
      (subst (λ o. IsToldOnce w (entry_of seat e r) o (acted w r next)) (sym (made_noted e r ∙ none))
      (here e r next step, refl))

  -- an event that neither begins nor ends a request leaves the device. No deed moves
  pub tied_plain : (seat : ℕ) (e : Event) (r : Reply) (next : State) → end_made e r ≡ None → is_job r ≡ false
      → Step core e r next → Tied files sizes name blocks (history ++ entry_of seat e r ∷ []) next places
  tied_plain seat e r next none quiet step =
      let same = noted_same w.writing r next quiet in
      record {
        world = acted w r next;
        first = t.first;
        goes = acts_on seat e r next none step;
        core_is = refl;
        device = t.device;
        writes = λ k given at flush. ap (λ m. finmap.get m given.task.serial) same ∙ t.writes k given at flush;
      }

  -- ---- the begin of a request

  module _ (c : IsCovered core places) (seat : ℕ) (e : Event) (u : Serial) (next : State)
      (step : Step core e (reply.Job u) next) (x : Request) (is : finmap.get next.requests u.0 ≡ Some x) (task : Task)
      (job : IsTaskOf next u.0 x task) (low : task.block < core.sizes.blocks) where
    abbrev v : World
    v = acted w (reply.Job u) next

    abbrev given : Given
    given = record { task = task; before = home_in places task.block }

    at_home : slice_get places task.block ≡ Some (Home (home_in places task.block))
    at_home = begun_home core places c sound e u next step x is task (ap (λ (z : Task). z.block) job.is) low

    serial_is : task.serial ≡ u.0
    serial_is = ap (λ (z : Task). z.serial) job.is

    kind_is : task.kind ≡ x.kind
    kind_is = ap (λ (z : Task). z.kind) job.is

    to_write_is : x.kind ≡ Flush → to_write next (finmap.get next.requests u.0) ≡ Some task.bytes
    to_write_is k = ap (to_write next) is ∙ ap (λ b. cond (is_flush b) (Some (page_bytes next x.file x.page)) None) k
        ∙ ap Some (sym (job.writes k))

    written : x.kind ≡ Flush → finmap.get v.writing u.0 ≡ Some task.bytes
    written k = ap (λ o. finmap.get (put_some u.0 o w.writing) u.0) (to_write_is k)
        ∙ get-insert1 w.writing u.0 task.bytes u.0 ∙ put1_here (finmap.get w.writing) u.0 (Some task.bytes)

    abbrev Writes : Given → Type 0
    Writes g = g.task.kind ≡ Flush → finmap.get v.writing g.task.serial ≡ Some g.task.bytes

    writes_now : Writes given
    writes_now flush = ap (finmap.get v.writing) serial_is ∙ written (sym kind_is ∙ flush)

    writes_still : (k : ℕ) (g : Given) → slice_get places k ≡ Some (Out g) → Writes g
    writes_still k g at flush =
        let o = c.owned k g at in
        still_writing w.writing u.0 (to_write next (finmap.get next.requests u.0)) g.task.serial
        (older core places c sound e u next step x is g.task.serial o.x o.is) ∙ t.writes k g at flush

    -- the deed of its block goes out with its task
    pub tied_begun : Tied files sizes name blocks (history ++ entry_of seat e (reply.Job u) ∷ []) next
        (slice_set places task.block (Out (record { task = task; before = home_in places task.block })))
    tied_begun = record {
      world = v;
      first = t.first;
      goes = acts_on seat e (reply.Job u) next (job_made core next e u step (end_made e (reply.Job u)) refl) step;
      core_is = refl;
      device = t.device ∙ sym (bytes_given places task.block given at_home);
      writes = λ k g at. elim (get_set places task.block k (Out given) (Out g) at) [
        | inl a ↦ subst Writes (same_given given g a.1) writes_now
        | inr a ↦ writes_still k g a.1
      ];
    }

  -- ---- the end of a request

  module _ (c : IsCovered core places) (seat : ℕ) (kind : Kind) (end : End) (r : Reply) (next : State)
      (made : end_made (event.End kind end) r ≡ Some end) (step : Step core (event.End kind end) r next) (told : Bool)
      (tells : told ≡ true) (finished : FinishedTask) (after : List Place) (s : Settles told places finished after)
      (of : end ≡ end_of finished) where
    abbrev u : ℕ
    u = end.serial.0

    abbrev own : IsOwned core finished.block s.given
    own = owner core places c sound kind end r next made step told finished after s of

    abbrev x : Request
    x = own.x

    asked : finmap.get core.requests u ≡ Some x
    asked = ends_own core places c sound kind end r next made step told finished after s of

    is_here : finmap.get w.core.requests u ≡ Some x
    is_here = ap (λ (z : State). finmap.get z.requests u) t.core_is ∙ asked

    its_serial : s.given.task.serial ≡ u
    its_serial = sym s.comes.serial ∙ ap (λ (z : End). z.serial.0) (sym of)

    given_kind : s.given.task.kind ≡ x.kind
    given_kind = ap (λ (a : Task). a.kind) own.task

    -- the block had the bytes that it had when the deed was given
    before_is : s.given.before.bytes ≡ block_bytes w x.block
    before_is = sym (get_there w.device x.block s.given.before.bytes
        (ap (slice_get w.device) own.block_is ∙ ap (λ d. slice_get d finished.block) t.device
        ∙ bytes_at places finished.block (Out s.given) s.out))

    writing_is : x.kind ≡ Flush → bytes_in (finmap.get w.writing u) ≡ s.given.task.bytes
    writing_is k = ap (λ i. bytes_in (finmap.get w.writing i)) (sym its_serial)
        ∙ ap bytes_in (t.writes finished.block s.given s.out (given_kind ∙ k))

    fate_is : Fated w u x (outcome_of s.given.task.kind finished.outcome finished.bytes) s.left.bytes
    fate_is = fated w u x s.given.task.kind (sym given_kind) finished.outcome s.given.before.bytes s.given.task.bytes
        finished.bytes s.left.bytes before_is (λ k. writing_is (sym given_kind ∙ k)) (s.comes.leaves tells)

    abbrev fate : Fate
    fate = fate_is.fate

    tells_it : end.outcome ≡ world.outcome_of w x fate.fault
    tells_it = ap (λ (a : End). a.outcome) of ∙ ap (λ k. outcome_of k finished.outcome finished.bytes) s.comes.kind
        ∙ fate_is.outcome

    abbrev ended_world : World
    ended_world = record w {
      core = next;
      device = device_after w u x fate.fault fate.lasts;
      writing = finmap.remove w.writing u;
    }

    abbrev after_end : List Entry
    after_end = history ++ entry_of seat (event.End kind end) r ∷ []

    goes_end : GoesTo first after_end ended_world
    goes_end = goes_on first history (entry_of seat (event.End kind end) r) w ended_world t.goes
        (subst (λ o. IsToldOnce w (entry_of seat (event.End kind end) r) o ended_world)
        (sym (made_noted (event.End kind end) r ∙ made))
        (fate, x, is_here, (tells_it, here (event.End kind end) r next step, refl)))

    device_is : device_after w u x fate.fault fate.lasts ≡ bytes_of (known after)
    device_is = device_left w u x fate s.left.bytes fate_is.leaves ∙ ap (λ k. slice_set w.device k s.left.bytes) own.block_is
        ∙ ap (λ d. slice_set d finished.block s.left.bytes) t.device ∙ sym (bytes_settled told places after finished s)

    -- the deed of its block comes home with the bytes that the call left
    pub tied_back : Tied files sizes name blocks (history ++ entry_of seat (event.End kind end) r ∷ []) next after
    tied_back = record {
      world = ended_world;
      first = t.first;
      goes = goes_end;
      core_is = refl;
      device = device_is;
      writes = λ k g at flush.
          let a = still_out core places c sound kind end r next made step told finished after s of k g at in
          get-remove1 w.writing u g.task.serial ∙ put1_else (finmap.get w.writing) u None g.task.serial
          (other_serial core places c sound kind end r next made step told finished after s of k g a.0 a.1)
          ∙ t.writes k g a.1 flush;
    }

  -- ---- a cache at rest

  -- the history is honest, from the first blocks
  pub tied_honest : IsHonest files sizes name blocks history w
  tied_honest = honest_of files sizes name blocks history w t.first t.goes

  -- of each block that is of no request in flight, a device that the desk knows has what the world has
  pub tied_at : (told : Bool) → IsCovered core places → (device : List Block) → Knows told device places → (k : ℕ)
      → k < core.sizes.blocks → ((i : ℕ) (x : Request) → finmap.get core.requests i ≡ Some x → x.block ≢ k)
      → slice_get (bytes_of device) k ≡ slice_get w.device k
  tied_at told c device knows k low free =
      let home = is_home core places c k low free in
      contents_at device k (home_in places k) (knows.home k (home_in places k) home)
      ∙ sym (ap (λ d. slice_get d k) t.device ∙ bytes_at places k (Home (home_in places k)) home)

  -- of one that is, it has what the world has, or of a write the write's bytes
  pub tied_busy : IsCovered core places → (device : List Block) → Knows true device places → (t : ℕ) (x : Request)
      → finmap.get core.requests t ≡ Some x → IsOnItsWay w t x (slice_get (bytes_of device) x.block)
  tied_busy c device knows u x there =
      let g = c.asked u x there in
      let o = knows.out x.block g.given g.out in
      let has = contents_at device x.block o.0 o.1 in
      let is = ap (λ d. slice_get d x.block) t.device ∙ bytes_at places x.block (Out g.given) g.out in
      elim o.2 [
        | inl same ↦ inl (has ∙ ap (λ (b : Block). Some b.bytes) same ∙ sym is)
        | inr left ↦ elim (left.1 refl) [
          | inl same ↦ inl (has ∙ ap Some same ∙ sym is)
          | inr wrote ↦ inr (
            sym (λ i. (g.task i).kind) ∙ wrote.0,
            ap (λ n. finmap.get w.writing n) (sym (λ i. (g.task i).serial)) ∙ t.writes x.block g.given g.out wrote.0
                ∙ ap Some (sym wrote.1) ∙ sym has,
          )
        ]
      ]

  -- and with none in flight it is the world's
  pub tied_whole : (told : Bool) → IsCovered core places → (device : List Block) → Knows told device places
      → core.requests ≡ finmap.empty → bytes_of device ≡ w.device
  tied_whole told c device knows resting =
      ap bytes_of (sym (known_opened device) ∙ ap known (sym (all_home told device places knows (none_out core places c resting))))
      ∙ sym t.device

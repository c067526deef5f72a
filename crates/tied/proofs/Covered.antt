-- Each step of the cache keeps its desk: the deed of a block is out while a request of it is in flight.
use Rattle.std.proofs.Common.{◌≡◌, ◌≢◌, ℕ, suc, ◌+◌, ◌<◌, Bool, true, false, List, [], ◌∷◌, length, map, refl, ap, sym, subst}
use Rattle.std.proofs.Common.{◌∙◌, arith, inl, inr}
use Rattle.std.specs.Prelude.{Option, Some, None, slice_get, slice_set}
use Rattle.std.specs.FinMap as finmap
use Rattle.std.specs.FinMap.{get-empty, len-empty}
use Rattle.std.specs.Ordering.{nat_cmp}
use Rattle.std.proofs.lemmas.List.{length-set}
use Rattle.pc_types.specs.Limits.{Sizes}
use Rattle.pc_types.specs.declared.ids.Serial.{Serial}
use Rattle.pc_types.specs.declared.kind.Kind.{Kind}
use Rattle.blockdev.specs.Jobs.{Task, FinishedTask}
use Rattle.cachecore.specs.Replies.{end_of}
use Rattle.deeds.specs.Shown.{Settles, out_count, uncalled}
use Rattle.deeds.specs.Rules.{NoneOut}
use Rattle.deeds.specs.Views.{home_in}
use Rattle.deeds.specs.declared.views.Block.{Block}
use Rattle.deeds.specs.declared.views.Given.{Given}
use Rattle.deeds.specs.declared.views.Place.{Place}
use Rattle.deeds.specs.declared.views.Place.TheVariants.{Home, Out}
use Rattle.deeds.proofs.Lists.{get_set, mapped_at, set_else, set_here}
use Rattle.deeds.proofs.Counts.{none_is_out}
use Rattle.deeds.proofs.Known.{home_unless_out, out_given, out_settled}
use Rattle.machine.specs.declared.event.End.{End}
use Rattle.machine.specs.declared.event.Event.{Event}
use Rattle.machine.specs.declared.event.Event.TheVariants as event
use Rattle.machine.specs.declared.event.Reply.{Reply}
use Rattle.machine.specs.declared.event.Reply.TheVariants as reply
use Rattle.machine.specs.Catalogs.{Catalog, adopted}
use Rattle.machine.specs.Sound.{Sound}
use Rattle.machine.specs.State.{State, Request}
use Rattle.machine.specs.Step.{Step}
use Rattle.machine.proofs.sound.Steps.{steps_stay_sound}
use Rattle.maps.proofs.Lengths.{len_one_gone, len_put_new}
use Rattle.runs.proofs.events.Lookups.{get-insert1, get-remove1}
use Rattle.runs.proofs.moments.KeptRequests.{Begun, Kept, Over, is_job, of_requests, stood}
use Rattle.runs.proofs.views.View.{put1, put1_else, put1_tells}
use Rattle.trail.specs.Honest.{end_made}
use Rattle.trail.proofs.TrailMoves.{no_end, over_of}
use Rattle.tied.specs.Tied.{IsCovered, IsGiven, IsOwned, IsTaskOf, task_of}

pub same_value : {X : Type 0} (o : Option X) (x y : X) → o ≡ Some x → o ≡ Some y → x ≡ y
same_value o x y a b = (let k : Some x ≡ Some y = sym a ∙ b in cc)

pub turned : (s new : State) → Kept s new → Kept new s
turned s new k = record {
  next = sym k.next;
  name = sym k.name;
  sizes = sym k.sizes;
  len = sym k.len;
  at = λ t. sym (k.at t);
}

abbrev as_given : Place → Option Given
as_given (Home now) = None
as_given (Out g) = Some g

abbrev is_out : Place → Bool
is_out (Home now) = false
is_out (Out g) = true

pub same_given : (g h : Given) → Out g ≡ Out h → g ≡ h
same_given g h e = (let k : Some g ≡ Some h = ap as_given e in cc)

pub home_not_out : (now : Block) (g : Given) → Home now ≡ Out g → ⊥
home_not_out now g e = absurd (let k : false ≡ true = ap is_out e in cc)

-- the deed that is out of one place
pub same_out : (places : List Place) (k : ℕ) (g h : Given) → slice_get places k ≡ Some (Out g)
    → slice_get places k ≡ Some (Out h) → g ≡ h
same_out places k g h a b = same_given g h (same_value (slice_get places k) (Out g) (Out h) a b)

all_homes : (blocks : List (List ℕ)) → length (map Home (map uncalled blocks)) ≡ length blocks
all_homes [] = refl
all_homes (b ∷ bs) = ap suc (all_homes bs)

pub covered_first : (files : Catalog) (sizes : Sizes) (name : ℕ) (blocks : List (List ℕ)) → length blocks ≡ sizes.blocks
    → IsCovered (adopted sizes name files) (map Home (map uncalled blocks))
covered_first files sizes name blocks count = record {
  count = all_homes blocks ∙ count;
  busy = none_is_out (map uncalled blocks) ∙ sym (len-empty nat_cmp Request);
  asked = λ t x is. absurd (let a = get-empty {X = Request} nat_cmp t in let j : None ≡ Some x = sym a ∙ is in cc);
  owned = λ k given at.
      let a = mapped_at Home (map uncalled blocks) k (Out given) at in absurd (home_not_out a.0 given a.2);
}

module _ (core : State) (places : List Place) (c : IsCovered core places) where
  -- a block of no request in flight has its deed at home
  pub is_home : (k : ℕ) → k < core.sizes.blocks
      → ((t : ℕ) (x : Request) → finmap.get core.requests t ≡ Some x → x.block ≢ k)
      → slice_get places k ≡ Some (Home (home_in places k))
  is_home k low free = home_unless_out places k (let a = c.count in omega (arith, a, low))
      (λ g at. let o = c.owned k g at in free g.task.serial o.x o.is o.block_is)

  -- where no request is in flight no deed is out
  pub none_out : core.requests ≡ finmap.empty → NoneOut places
  none_out resting k g at =
      let o = c.owned k g at in
      let a = get-empty {X = Request} nat_cmp g.task.serial in
      absurd (let j : None ≡ Some o.x = sym a ∙ ap (λ m. finmap.get m g.task.serial) (sym resting) ∙ o.is in cc)

  -- an event that neither begins nor ends a request, also where it drops requests
  pub covered_plain : (e : Event) (r : Reply) (next : State) → end_made e r ≡ None → is_job r ≡ false
      → Step core e r next → IsCovered next places
  covered_plain e r next none quiet step =
      let kept = (of_requests core next e r step).kept quiet (no_end e r none) in
      let back = turned core next kept in
      record {
        count = c.count ∙ ap (λ (s : Sizes). s.blocks) (sym kept.sizes);
        busy = c.busy ∙ sym kept.len;
        asked = λ t x is.
            let a = stood core next kept t x is in
            let g = c.asked t a.0 a.1 in record {
              given = g.given;
              out = ap (λ (z : Request). slice_get places z.block) a.2 ∙ g.out;
              task = g.task ∙ ap (λ (z : Request). task_of core.name t z g.given.task.bytes) (sym a.2)
                  ∙ ap (λ n. task_of n t x g.given.task.bytes) (sym kept.name);
            };
        owned = λ k g at.
            let o = c.owned k g at in
            let a = stood next core back g.task.serial o.x o.is in record {
              x = a.0;
              is = a.1;
              block_is = ap (λ (z : Request). z.block) (sym a.2) ∙ o.block_is;
              task = o.task ∙ ap (λ (z : Request). task_of core.name g.task.serial z g.task.bytes) a.2
                  ∙ ap (λ n. task_of n g.task.serial a.0 g.task.bytes) (sym kept.name);
            };
      }

  -- ---- the begin of a request

  module _ (sound : Sound core) (e : Event) (u : Serial) (next : State) (step : Step core e (reply.Job u) next)
      (x : Request) (is : finmap.get next.requests u.0 ≡ Some x) where
    begun : Begun core next u.0
    begun = (of_requests core next e (reply.Job u) step).begun u refl

    sound_next : Sound next
    sound_next = steps_stay_sound core next e (reply.Job u) step sound

    begun_at : (i : ℕ) → finmap.get next.requests i ≡ put1 (finmap.get core.requests) u.0 (Some begun.x) i
    begun_at i = ap (λ m. finmap.get m i) begun.requests
        ∙ ap (λ n. finmap.get (finmap.insert core.requests n begun.x) i) (sym begun.serial)
        ∙ get-insert1 core.requests u.0 begun.x i

    -- the serial is new
    pub older : (i : ℕ) (y : Request) → finmap.get core.requests i ≡ Some y → i ≢ u.0
    older i y was same = absurd (let a = sound.serial i y was in let b = begun.serial in omega (arith, a, b, same))

    still : (i : ℕ) (y : Request) → finmap.get core.requests i ≡ Some y → finmap.get next.requests i ≡ Some y
    still i y was = begun_at i ∙ put1_else (finmap.get core.requests) u.0 (Some begun.x) i (older i y was) ∙ was

    unasked : (o : Option Request) → finmap.get core.requests core.next ≡ o → finmap.get core.requests core.next ≡ None
    unasked None was = was
    unasked (Some y) was = absurd (let a = sound.serial core.next y was in omega arith)

    one_more : finmap.len next.requests ≡ finmap.len core.requests + 1
    one_more = ap finmap.len begun.requests
        ∙ len_put_new core.requests core.next begun.x (unasked (finmap.get core.requests core.next) refl)

    -- no other request in flight has its block
    unheld : (i : ℕ) (y : Request) → finmap.get core.requests i ≡ Some y → y.block ≢ x.block
    unheld i y was same = older i y was (sound_next.requests_apart i u.0 y x (still i y was) is same)

    -- the deed of its block is at home
    pub begun_home : (task : Task) → task.block ≡ x.block → task.block < core.sizes.blocks
        → slice_get places task.block ≡ Some (Home (home_in places task.block))
    begun_home task at low = is_home task.block low (λ i y was same. unheld i y was (same ∙ at))

    -- and goes out with its task
    module _ (task : Task) (job : IsTaskOf next u.0 x task) (low : task.block < core.sizes.blocks) where
      block_is : task.block ≡ x.block
      block_is = ap (λ (z : Task). z.block) job.is

      serial_is : task.serial ≡ u.0
      serial_is = ap (λ (z : Task). z.serial) job.is

      at_home : slice_get places task.block ≡ Some (Home (home_in places task.block))
      at_home = begun_home task block_is low

      abbrev given : Given
      given = record { task = task; before = home_in places task.block }

      abbrev taken : List Place
      taken = slice_set places task.block (Out given)

      asked_now : IsGiven next taken x.block u.0 x
      asked_now = record {
        given = given;
        out = ap (slice_get taken) (sym block_is)
            ∙ set_here places task.block (Out given) (Home (home_in places task.block)) at_home;
        task = job.is;
      }

      asked_still : (i : ℕ) (y : Request) → finmap.get core.requests i ≡ Some y → IsGiven next taken y.block i y
      asked_still i y was =
          let g = c.asked i y was in record {
            given = g.given;
            out = set_else places task.block y.block (Out given) (Out g.given) (λ same. unheld i y was (same ∙ block_is)) g.out;
            task = g.task ∙ ap (λ n. task_of n i y g.given.task.bytes) (sym begun.name);
          }

      owned_now : IsOwned next task.block given
      owned_now = record {
        x = x;
        is = ap (finmap.get next.requests) serial_is ∙ is;
        block_is = sym block_is;
        task = job.is ∙ ap (λ n. task_of next.name n x task.bytes) (sym serial_is);
      }

      owned_still : (k : ℕ) (g : Given) → slice_get places k ≡ Some (Out g) → IsOwned next k g
      owned_still k g at =
          let o = c.owned k g at in record {
            x = o.x;
            is = still g.task.serial o.x o.is;
            block_is = o.block_is;
            task = o.task ∙ ap (λ n. task_of n g.task.serial o.x g.task.bytes) (sym begun.name);
          }

      pub covered_begun : IsCovered next (slice_set places task.block
          (Out (record { task = task; before = home_in places task.block })))
      covered_begun = record {
        count = length-set places task.block (Out given) ∙ c.count ∙ ap (λ (s : Sizes). s.blocks) (sym begun.sizes);
        busy = out_given places task.block given at_home ∙ ap (λ n. n + 1) c.busy ∙ sym one_more;
        asked = λ i y at. elim (put1_tells (finmap.get core.requests) u.0 (Some begun.x) i) [
          | inl a ↦
              let same : x ≡ y = same_value (finmap.get next.requests u.0) x y is
              (ap (finmap.get next.requests) (sym a.0) ∙ at) in
              subst (λ (z : ℕ × Request). IsGiven next taken z.1.block z.0 z.1) (λ j. (sym a.0 j, same j)) asked_now
          | inr a ↦ asked_still i y (sym a.1 ∙ sym (begun_at i) ∙ at)
        ];
        owned = λ k g at. elim (get_set places task.block k (Out given) (Out g) at) [
          | inl a ↦
              subst (λ (z : ℕ × Given). IsOwned next z.0 z.1) (λ j. (sym a.0 j, same_given given g a.1 j)) owned_now
          | inr a ↦ owned_still k g a.1
        ];
      }

  -- ---- the end of a request

  module _ (sound : Sound core) (kind : Kind) (end : End) (r : Reply) (next : State)
      (made : end_made (event.End kind end) r ≡ Some end) (step : Step core (event.End kind end) r next) (told : Bool)
      (finished : FinishedTask) (after : List Place) (s : Settles told places finished after) (of : end ≡ end_of finished)
    where
      abbrev u : ℕ
      u = end.serial.0

      ends : Over core next u
      ends = over_of core next (event.End kind end) r end made step

      abbrev pub owner : IsOwned core finished.block s.given
      owner = c.owned finished.block s.given s.out

      given_serial : s.given.task.serial ≡ u
      given_serial = sym s.comes.serial ∙ ap (λ (z : End). z.serial.0) (sym of)

      -- it is the request that the deed was given for
      pub ends_own : finmap.get core.requests u ≡ Some owner.x
      ends_own = ap (finmap.get core.requests) (sym given_serial) ∙ owner.is

      request_at : (i : ℕ) → finmap.get next.requests i ≡ put1 (finmap.get core.requests) u None i
      request_at i = ap (λ m. finmap.get m i) ends.requests ∙ get-remove1 core.requests u i

      stays : (i : ℕ) (y : Request) → i ≢ u → finmap.get core.requests i ≡ Some y → finmap.get next.requests i ≡ Some y
      stays i y other was = request_at i ∙ put1_else (finmap.get core.requests) u None i other ∙ was

      apart : (i : ℕ) (y : Request) → i ≢ u → finmap.get core.requests i ≡ Some y → y.block ≢ finished.block
      apart i y other was same = other (sound.requests_apart i u y owner.x was ends_own (same ∙ sym owner.block_is))

      asked_left : (i : ℕ) (y : Request) → i ≢ u → finmap.get core.requests i ≡ Some y → IsGiven next after y.block i y
      asked_left i y other was =
          let g = c.asked i y was in record {
            given = g.given;
            out = ap (λ l. slice_get l y.block) s.home
                ∙ set_else places finished.block y.block (Home s.left) (Out g.given) (apart i y other was) g.out;
            task = g.task ∙ ap (λ n. task_of n i y g.given.task.bytes) (sym ends.name);
          }

      -- the serials of other deeds are others
      pub other_serial : (k : ℕ) (g : Given) → k ≢ finished.block → slice_get places k ≡ Some (Out g) → g.task.serial ≢ u
      other_serial k g other at same =
          let o = c.owned k g at in
          let x_is : o.x ≡ owner.x = same_value (finmap.get core.requests u) o.x owner.x
          (ap (finmap.get core.requests) (sym same) ∙ o.is) ends_own in
          other (sym o.block_is ∙ ap (λ (z : Request). z.block) x_is ∙ owner.block_is)

      owned_left : (k : ℕ) (g : Given) → k ≢ finished.block → slice_get places k ≡ Some (Out g) → IsOwned next k g
      owned_left k g other at =
          let o = c.owned k g at in record {
            x = o.x;
            is = stays g.task.serial o.x (other_serial k g other at) o.is;
            block_is = o.block_is;
            task = o.task ∙ ap (λ n. task_of n g.task.serial o.x g.task.bytes) (sym ends.name);
          }

      -- a deed that is still out was out before, of another block
      pub still_out : (k : ℕ) (g : Given) → slice_get after k ≡ Some (Out g)
          → (k ≢ finished.block) × (slice_get places k ≡ Some (Out g))
      still_out k g at =
          elim (get_set places finished.block k (Home s.left) (Out g) (ap (λ l. slice_get l k) (sym s.home) ∙ at)) [
            | inl a ↦ absurd (home_not_out s.left g a.1)
            | inr a ↦ a
          ]

      one_less : out_count after ≡ finmap.len next.requests
      one_less =
          let out = out_settled told places after finished s in
          let was = c.busy in
          let gone = len_one_gone core.requests u owner.x ends_own in
          let left = ap finmap.len ends.requests in
          omega (arith, out, was, gone, left)

      pub covered_back : IsCovered next after
      covered_back = record {
        count = ap length s.home ∙ length-set places finished.block (Home s.left) ∙ c.count
            ∙ ap (λ (z : Sizes). z.blocks) (sym ends.sizes);
        busy = one_less;
        asked = λ i y at. elim (put1_tells (finmap.get core.requests) u None i) [
          | inl a ↦ absurd (let j : None ≡ Some y = sym a.1 ∙ sym (request_at i) ∙ at in cc)
          | inr a ↦ asked_left i y a.0 (sym a.1 ∙ sym (request_at i) ∙ at)
        ];
        owned = λ k g at. let a = still_out k g at in owned_left k g a.0 a.1;
      }

-- A sync that entries of a history begin and answer, in the run that the history is.
use Rattle.std.proofs.Common.{◌≡◌, ℕ, zero, suc, ◌+◌, ◌-◌, ◌<◌, ◌≤◌, Bool, true, false, eqb, eq-eqb, List, [], ◌∷◌}
use Rattle.std.proofs.Common.{length, map}
use Rattle.std.proofs.Common.{refl, ap, sym, subst, ◌∙◌, arith, inl, inr}
use Rattle.std.specs.Prelude.{Option, Some, None, is_some, unwrap_or, slice_get}
use Rattle.std.specs.FinMap as finmap
use Rattle.std.proofs.lemmas.Bool.{false≢true}
use Rattle.pc_types.specs.declared.ids.HandleId.{HandleId}
use Rattle.pc_types.specs.declared.ids.PageIndex.{PageIndex}
use Rattle.pc_types.specs.declared.ids.SyncId.{SyncId}
use Rattle.machine.specs.declared.event.End.{End}
use Rattle.machine.specs.declared.event.Event.{Event}
use Rattle.machine.specs.declared.event.Event.TheVariants as event
use Rattle.machine.specs.declared.event.Reply.{Reply}
use Rattle.machine.specs.declared.event.Reply.TheVariants as reply
use Rattle.machine.specs.declared.event.Outcome.{Outcome}
use Rattle.machine.specs.State.{State, Request, Sync}
use Rattle.machine.specs.Changes.{new_sync}
use Rattle.machine.proofs.steps.Ends.{own_end}
use Rattle.machine.specs.Step.{Step}
use Rattle.machine.proofs.steps.Cases.{Cases, IsVerdict, by_cases, happened}
use Rattle.runs.specs.Runs.{Run, core_at}
use Rattle.runs.specs.Runs as runs
use Rattle.runs.specs.Seen.{files_seen}
use Rattle.runs.specs.World.{World, Move, Act, Call, Finish, WorldStep, Ends}
use Rattle.runs.proofs.events.Lookups.{get-insert1, get-remove1}
use Rattle.runs.proofs.moments.Histories.{calls}
use Rattle.runs.proofs.moments.RunSteps.{step_at}
use Rattle.runs.proofs.syncs.SyncRuns.{syncs_are_synced}
use Rattle.runs.proofs.views.View.{put1_tells, put1_here, put1_else}
use Rattle.trail.specs.declared.entry.Entry.{Entry}
use Rattle.trail.specs.History.{seatless}
use Rattle.trail.specs.Honest.{Fate, end_made, world_over}
use Rattle.trail.specs.Woven.{CleanEntriesHold, IsWoven, ends_sync, place_in, step_by, step_of}
use Rattle.trail.specs.Woven.{with_begun, with_called}

-- ---- a sync stays in progress until an event ends it

abbrev going : State → ℕ → Bool
going s m = is_some (finmap.get s.syncs m)

module _ (s : State) (m : ℕ) where
  record Goes (e : Event) (r : Reply) (new : State) : Type 0 where
    pub on : ends_sync m e r ≡ false → going s m ≡ true → going new m ≡ true

  stays : (e : Event) (r : Reply) (new : State) → new.syncs ≡ s.syncs → Goes e r new
  stays e r new same = record { on = λ _ h. ap (λ y. is_some (finmap.get y m)) same ∙ h }

  put : (e : Event) (r : Reply) (new : State) (n : ℕ) (y : Sync) → new.syncs ≡ finmap.insert s.syncs n y → Goes e r new
  put e r new n y is = record {
    on = λ _ h. ap (λ z. is_some (finmap.get z m)) is ∙ ap is_some (get-insert1 s.syncs n y m)
        ∙ elim (put1_tells (finmap.get s.syncs) n (Some y) m)
        [ inl a ↦ ap is_some a.1 | inr a ↦ ap is_some a.1 ∙ h ];
  }

  -- another sync is over
  over : (e : Event) (r : Reply) (new : State) (n : ℕ) → (ends_sync m e r ≡ false → eqb n m ≡ false)
      → new.syncs ≡ finmap.remove s.syncs n → Goes e r new
  over e r new n other is = record {
    on = λ goes h. ap (λ z. is_some (finmap.get z m)) is ∙ ap is_some (get-remove1 s.syncs n m
        ∙ put1_else (finmap.get s.syncs) n None m (λ same. false≢true (sym (other goes) ∙ eq-eqb n m (sym same)))) ∙ h;
  }

  verdict : (n : SyncId) (y : Sync) (r : Reply) → IsVerdict s y r → ends_sync m (event.SyncStep n) r ≡ false
      → eqb n.0 m ≡ false
  verdict n y reply.Clean v e = e
  verdict n y (reply.Failed c) v e = e
  verdict n y _ v e = absurd v

  cases : Cases s Goes
  cases = record {
    same = λ e r step q. stays e r s refl;
    writes_none = λ e h o is step. stays e _ s refl;
    creates = λ f room is. stays _ _ _ refl;
    opens = λ f h known room low. stays _ _ _ refl;
    closes = λ h is none. stays _ _ _ refl;
    writes = λ e h o b is may. stays e _ _ refl;
    shrinks = λ h z may less. stays _ _ _ refl;
    grows = λ h z may more. stays _ _ _ refl;
    makes_zeros = λ h p may un. stays _ _ _ refl;
    evicts = λ f p page is idle. stays _ _ _ refl;
    fills = λ h p t may is room serial. stays _ _ _ refl;
    flushes = λ f p page t may serial. stays _ _ _ refl;
    drops = λ kind end x may d. stays _ _ _ refl;
    fill_fails = λ end x c may d is. stays _ _ _ refl;
    fill_ends = λ end x b may d is. stays _ _ _ refl;
    flush_fails = λ end x c may d is. stays _ _ _ refl;
    flush_ends = λ end x may d is. stays _ _ _ refl;
    begins = λ h first last n may low. put _ _ _ n.0 _ refl;
    starts = λ n y p page t is may serial. put _ _ _ n.0 _ refl;
    waits = λ n y e p is pick first at. put _ _ _ n.0 _ refl;
    over = λ n y r is pick first v. over (event.SyncStep n) r _ n.0 (verdict n y r v) refl;
    sync_drops = λ n y is. over (event.SyncDrop n) reply.Dropped _ n.0 (λ e. e) refl;
  }

  goes_on : (e : Event) (r : Reply) (new : State) → Step s e r new → ends_sync m e r ≡ false → going s m ≡ true
      → going new m ≡ true
  goes_on e r new step = (by_cases s Goes cases e r new step).on

-- a sync begins
begins : (s new : State) (h : HandleId) (first last : PageIndex) (n : SyncId)
    → Step s (event.SyncBegin h first last) (reply.Sync n) new → going new n.0 ≡ true
begins s new h first last n step =
    let y = new_sync s h.0 first.0 last.0 in
    let a = happened s (event.SyncBegin h first last) (reply.Sync n) new step refl (λ k o e. absurd cc) in
    ap (λ (x : State). is_some (finmap.get x.syncs n.0)) a.is ∙ ap is_some (get-insert1 s.syncs n.0 y n.0
    ∙ put1_here (finmap.get s.syncs) n.0 (Some y))

-- ---- in a run

-- a step that is no event ends no sync, nor does the end of a request
abbrev ends_move : ℕ → Move → Bool
ends_move m (Act e r) = ends_sync m e r
ends_move m (Call t fault effect) = false
ends_move m (Finish t r) = false

move_goes_on : (w new : World) (move : Move) (m : ℕ) → WorldStep w move new → ends_move m move ≡ false
    → going w.core m ≡ true → going new.core m ≡ true
move_goes_on w new (Act e r) m h none g = goes_on w.core m e r new.core h.1.0 none g
move_goes_on w new (Call t fault effect) m h none g =
    ap (λ (s : State). going s m)
    (calls w new t (finmap.get w.core.requests t) (finmap.get w.outcomes t) fault effect h) ∙ g
move_goes_on w new (Finish t r) m h none g = ended (finmap.get w.core.requests t) (finmap.get w.outcomes t) h
  where
    ended : (q : Option Request) (o : Option Outcome) → Ends w t q o r new → going new.core m ≡ true
    ended (Some x) (Some call) h =
        goes_on w.core m (event.End x.kind (own_end w.core t x call)) r new.core h.0 refl g
    ended (Some x) None h = absurd h
    ended None o h = absurd h

-- ---- where the entries stand

-- an entry's step ends the syncs that the entry ends
entry_ends : (m : ℕ) (e : Entry) → ends_sync m e.event e.reply ≡ false → ends_move m (step_of e) ≡ false
entry_ends m e none = go (end_made e.event e.reply)
  where
    go : (o : Option End) → ends_move m (step_by e.event e.reply o) ≡ false
    go None = none
    go (Some end) = refl

module _ (fates : ℕ → Fate) where
  -- the step of an entry stands at its place
  stands : (waiting : ℕ → Bool) (history : List Entry) (steps : List Move) → IsWoven fates waiting history steps
      → (i : ℕ) (x : Entry) → slice_get history i ≡ Some x → slice_get steps (place_in steps i) ≡ Some (step_of x)
  stands waiting history (Call t fault effect ∷ steps) h i x is = stands (with_called waiting t) history steps h.3 i x
      is
  stands waiting [] [] h i x is = absurd cc
  stands waiting (e ∷ history) [] h i x is = absurd h
  stands waiting [] (Act a r ∷ steps) h i x is = absurd h
  stands waiting [] (Finish t r ∷ steps) h i x is = absurd h
  stands waiting (e ∷ history) (Act a r ∷ steps) h zero x is =
      let same : e ≡ x = cc in ap Some (h.0 ∙ ap step_of same)
  stands waiting (e ∷ history) (Act a r ∷ steps) h (suc i) x is = stands (with_begun waiting e.reply) history steps h.2
      i x is
  stands waiting (e ∷ history) (Finish t r ∷ steps) h zero x is =
      let same : e ≡ x = cc in ap Some (h.0 ∙ ap step_of same)
  stands waiting (e ∷ history) (Finish t r ∷ steps) h (suc i) x is = stands (with_begun waiting e.reply) history steps
      h.2 i x is

  -- later entries stand later
  rises : (waiting : ℕ → Bool) (history : List Entry) (steps : List Move) → IsWoven fates waiting history steps
      → (i j : ℕ) (y : Entry) → slice_get history j ≡ Some y → i < j → place_in steps i < place_in steps j
  rises waiting history (Call t fault effect ∷ steps) h i j y is less =
      let a = rises (with_called waiting t) history steps h.3 i j y is less in omega arith
  rises waiting [] [] h i j y is less = absurd cc
  rises waiting (e ∷ history) [] h i j y is less = absurd h
  rises waiting [] (Act a r ∷ steps) h i j y is less = absurd h
  rises waiting [] (Finish t r ∷ steps) h i j y is less = absurd h
  rises waiting (e ∷ history) (Act a r ∷ steps) h i zero y is less = absurd (omega (arith, less))
  rises waiting (e ∷ history) (Act a r ∷ steps) h zero (suc j) y is less = omega arith
  rises waiting (e ∷ history) (Act a r ∷ steps) h (suc i) (suc j) y is less =
      let a = rises (with_begun waiting e.reply) history steps h.2 i j y is (omega arith) in omega arith
  rises waiting (e ∷ history) (Finish t r ∷ steps) h i zero y is less = absurd (omega (arith, less))
  rises waiting (e ∷ history) (Finish t r ∷ steps) h zero (suc j) y is less = omega arith
  rises waiting (e ∷ history) (Finish t r ∷ steps) h (suc i) (suc j) y is less =
      let a = rises (with_begun waiting e.reply) history steps h.2 i j y is (omega arith) in omega arith

  module _ (m : ℕ) where
    -- no entry below j ends sync m
    abbrev NoneBelow : List Entry → ℕ → Type 0
    NoneBelow history j =
        (l : ℕ) (e : Entry) → l < j → slice_get history l ≡ Some e → ends_sync m e.event e.reply ≡ false

    abbrev NoneBetween : List Entry → ℕ → ℕ → Type 0
    NoneBetween history i j =
        (l : ℕ) (e : Entry) → i < l → l < j → slice_get history l ≡ Some e → ends_sync m e.event e.reply ≡ false

    first_ends : (e : Entry) (move : Move) → move ≡ step_of e → ends_sync m e.event e.reply ≡ false
        → ends_move m move ≡ false
    first_ends e move is none = ap (ends_move m) is ∙ entry_ends m e none

    below : (waiting : ℕ → Bool) (history : List Entry) (steps : List Move) → IsWoven fates waiting history steps
        → (j : ℕ) → NoneBelow history j → (k : ℕ) (move : Move) → k < place_in steps j
        → slice_get steps k ≡ Some move → ends_move m move ≡ false
    below waiting history (Call t fault effect ∷ steps) h j none zero move less is =
        let same : Call t fault effect ≡ move = cc in ap (ends_move m) (sym same)
    below waiting history (Call t fault effect ∷ steps) h j none (suc k) move less is =
        below (with_called waiting t) history steps h.3 j none k move (omega arith) is
    below waiting [] [] h j none k move less is = absurd cc
    below waiting (e ∷ history) [] h j none k move less is = absurd h
    below waiting [] (Act a r ∷ steps) h j none k move less is = absurd h
    below waiting [] (Finish t r ∷ steps) h j none k move less is = absurd h
    below waiting (e ∷ history) (Act a r ∷ steps) h zero none k move less is = absurd (omega (arith, less))
    below waiting (e ∷ history) (Act a r ∷ steps) h (suc j) none zero move less is =
        let same : Act a r ≡ move = cc in first_ends e move (sym same ∙ h.0) (none 0 e (omega arith) refl)
    below waiting (e ∷ history) (Act a r ∷ steps) h (suc j) none (suc k) move less is =
        below (with_begun waiting e.reply) history steps h.2 j (λ l x low there. none (suc l) x (omega arith) there) k
        move (omega arith) is
    below waiting (e ∷ history) (Finish t r ∷ steps) h zero none k move less is = absurd (omega (arith, less))
    below waiting (e ∷ history) (Finish t r ∷ steps) h (suc j) none zero move less is =
        let same : Finish t r ≡ move = cc in first_ends e move (sym same ∙ h.0) (none 0 e (omega arith) refl)
    below waiting (e ∷ history) (Finish t r ∷ steps) h (suc j) none (suc k) move less is =
        below (with_begun waiting e.reply) history steps h.2 j (λ l x low there. none (suc l) x (omega arith) there) k
        move (omega arith) is

    between : (waiting : ℕ → Bool) (history : List Entry) (steps : List Move) → IsWoven fates waiting history steps
        → (i j : ℕ) → NoneBetween history i j → (k : ℕ) (move : Move) → place_in steps i < k → k < place_in steps j
        → slice_get steps k ≡ Some move → ends_move m move ≡ false
    between waiting history (Call t fault effect ∷ steps) h i j none zero move low less is =
        absurd (omega (arith, low))
    between waiting history (Call t fault effect ∷ steps) h i j none (suc k) move low less is =
        between (with_called waiting t) history steps h.3 i j none k move (omega arith) (omega arith) is
    between waiting [] [] h i j none k move low less is = absurd cc
    between waiting (e ∷ history) [] h i j none k move low less is = absurd h
    between waiting [] (Act a r ∷ steps) h i j none k move low less is = absurd h
    between waiting [] (Finish t r ∷ steps) h i j none k move low less is = absurd h
    between waiting (e ∷ history) (Act a r ∷ steps) h i zero none k move low less is = absurd (omega (arith, less))
    between waiting (e ∷ history) (Act a r ∷ steps) h i (suc j) none zero move low less is = absurd (omega (arith, low))
    between waiting (e ∷ history) (Act a r ∷ steps) h zero (suc j) none (suc k) move low less is =
        below (with_begun waiting e.reply) history steps h.2 j
        (λ l x b there. none (suc l) x (omega arith) (omega arith) there) k move
        (omega arith) is
    between waiting (e ∷ history) (Act a r ∷ steps) h (suc i) (suc j) none (suc k) move low less is =
        between (with_begun waiting e.reply) history steps h.2 i j
        (λ l x b c there. none (suc l) x (omega arith) (omega arith) there) k move
        (omega arith) (omega arith) is
    between waiting (e ∷ history) (Finish t r ∷ steps) h i zero none k move low less is = absurd (omega (arith, less))
    between waiting (e ∷ history) (Finish t r ∷ steps) h i (suc j) none zero move low less is =
        absurd (omega (arith, low))
    between waiting (e ∷ history) (Finish t r ∷ steps) h zero (suc j) none (suc k) move low less is =
        below (with_begun waiting e.reply) history steps h.2 j
        (λ l x b there. none (suc l) x (omega arith) (omega arith) there) k move
        (omega arith) is
    between waiting (e ∷ history) (Finish t r ∷ steps) h (suc i) (suc j) none (suc k) move low less is =
        between (with_begun waiting e.reply) history steps h.2 i j
        (λ l x b c there. none (suc l) x (omega arith) (omega arith) there) k move
        (omega arith) (omega arith) is

-- ---- the promise

-- the step with the world after it
with_world : (run : List (Move × World)) (q : ℕ) (move : Move) → slice_get (map (λ x. x.0) run) q ≡ Some move
    → (new : World) × (slice_get run q ≡ Some (move, new)) × (q < length run)
with_world [] q move is = absurd cc
with_world (x ∷ run) zero move is = let same : x.0 ≡ move = cc in (x.1, (λ i. Some (same i, x.1)), omega arith)
with_world (x ∷ run) (suc q) move is = let a = with_world run q move is in (a.0, a.1, omega (arith, a.2))

without_world : (run : List (Move × World)) (q : ℕ) (y : Move × World) → slice_get run q ≡ Some y
    → slice_get (map (λ x. x.0) run) q ≡ Some y.0
without_world [] q y is = absurd cc
without_world (x ∷ run) zero y is = let same : x ≡ y = cc in ap (λ (z : Move × World). Some z.0) same
without_world (x ∷ run) (suc q) y is = without_world run q y is

module _ (w : World) (run : runs.Steps) (is_run : Run w run) (n : SyncId) (first last : ℕ) where
  abbrev m : ℕ
  m = n.0

  abbrev InProgress : ℕ → Type 0
  InProgress k = going (core_at w run k) m ≡ true

  -- the world at the next moment
  next : (k : ℕ) (move : Move) (new : World) → slice_get run k ≡ Some (move, new) → k < length run
      → WorldStep (runs.world_at w run k) move new × (runs.world_at w run (suc k) ≡ new)
  next k move new is short =
      let a = step_at run w (files_seen w) k is_run short in
      let same : Some (a.move, a.new) ≡ Some (move, new) = sym a.there ∙ is in
      let moves : a.move ≡ move = ap (λ o. (unwrap_or {T = Move × World} o (move, new)).0) same in
      let news : a.new ≡ new = ap (λ o. (unwrap_or {T = Move × World} o (move, new)).1) same in (
        subst (λ (z : Move × World). WorldStep (runs.world_at w run k) z.0 z.1) (λ i. (moves i, news i)) a.moves,
        a.next ∙ news,
      )

  module _ (handle : HandleId) (from to : PageIndex) (new : World)
      (begun : slice_get run first ≡ Some (Act (event.SyncBegin handle from to) (reply.Sync n), new))
      (short : first < length run)
      (quiet : (k : ℕ) → first < k → k < last → (move : Move) × (new : World) × (slice_get run k ≡ Some (move, new))
      × (k < length run) × (ends_move m move ≡ false)) where
    in_progress : InProgress (suc first)
    in_progress =
        let a = next first (Act (event.SyncBegin handle from to) (reply.Sync n)) new begun short in
        ap (λ (x : World). going x.core m) a.1
        ∙ begins (core_at w run first) new.core handle from to n a.0.1.0

    on : (d k : ℕ) → k ≡ suc first + d → k ≤ last → InProgress k
    on zero k e within = let same : k ≡ suc first = omega (arith, e) in subst InProgress (sym same) in_progress
    on (suc d) zero e within = absurd (omega (arith, e))
    on (suc d) (suc k) e within =
        let q = quiet k (omega (arith, e)) (omega (arith, within)) in
        let a = next k q.0 q.1 q.2 q.3 in
        ap (λ (x : World). going x.core m) a.1
        ∙ move_goes_on (runs.world_at w run k) q.1 q.0 m a.0 q.4 (on d k (omega (arith, e)) (omega (arith, within)))

pub clean_entries_hold : CleanEntriesHold
clean_entries_hold files sizes name history h steps woven r a j k s late short =
    let w = world_over files sizes name h.device in
    let m = a.number.0 in
    let i = place_in steps a.step in
    let at : (q : ℕ) (move : Move) → slice_get steps q ≡ Some move
    → (new : World) × (slice_get r.run q ≡ Some (move, new)) × (q < length r.run) =
    λ q move is. with_world r.run q move (ap (λ l. slice_get l q) r.steps_are ∙ is) in
    let by : (x : Entry) (e : Event) (y : Reply) → seatless x ≡ (e, y) → end_made e y ≡ None → step_of x ≡ Act e y =
    λ x e y is none. ap (λ (z : Event × Reply). step_by z.0 z.1 (end_made z.0 z.1)) is ∙ ap (step_by e y) none in
    let begins = at i (Act (event.SyncBegin a.handle a.first a.last) (reply.Sync a.number))
    (stands h.fates (λ _. false) history steps woven a.step s.x s.begins ∙ ap Some (by s.x _ _ s.begun refl)) in
    let answers = at (place_in steps j) (Act (event.SyncStep a.number) reply.Clean)
    (stands h.fates (λ _. false) history steps woven j s.y s.answers ∙ ap Some (by s.y _ _ s.answered refl)) in
    let before = rises h.fates (λ _. false) history steps woven a.step j s.y s.answers s.before in
    let quiet : (q : ℕ) → i < q → q < place_in steps j → (move : Move) × (new : World)
    × (slice_get r.run q ≡ Some (move, new)) × (q < length r.run) × (ends_move m move ≡ false) =
    λ q low high.
    let within : q < length r.run = (let b = answers.2 in omega arith) in
    let z = step_at r.run w (files_seen w) q r.is_run within in (
      z.move,
      z.new,
      z.there,
      within,
      between h.fates m (λ _. false) history steps woven a.step j s.lasts q z.move low high
          (sym (ap (λ l. slice_get l q) r.steps_are) ∙ without_world r.run q (z.move, z.new) z.there),
    ) in
    syncs_are_synced w r.run r.first r.is_run (record a { step = i }) (place_in steps j) k
    (record {
      begins = (begins.0, begins.1);
      new = answers.0;
      answers = answers.1;
      before = before;
      lasts = λ q low high. on w r.run r.is_run a.number i (place_in steps j) a.handle a.first a.last begins.0 begins.1
          begins.2 quiet (q - suc i) q (omega arith) high;
    }) late short

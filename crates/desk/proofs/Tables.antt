-- The handles of a table stay open through the calls of each other.
use Rattle.std.proofs.Common.{◌≡◌, ◌≢◌, ◌⊎◌, ℕ, ◌<◌, ◌≤◌, Bool, true, false, true≢false, List, [], ◌∷◌, length, get_or, set, Option, Some, None, is_some, refl, sym, ap, subst, ◌∙◌, inl, inr, arith, nat_cmp, length-append}
use Rattle.std.proofs.lemmas.Bool.{cases_eq}
use Rattle.std.proofs.lemmas.List.{get_or-set_other, get_or-set_same, get_or_past}
use Rattle.std.specs.Prelude.{Result, Ok, Err, IfErr, IfNone, IfOk, IfSome, IsOk, OnErr, if◌then◌else◌, nat_le}
use Rattle.std.specs.FinMap as finmap
use Rattle.std.specs.FinMap.{FinMap}
use Rattle.slab.specs.Slab.{Slab}
use Rattle.errboard.specs.Shown.{RecorderSeen}
use Rattle.pc_types.specs.declared.ids.FileId.{FileId}
use Rattle.pc_types.specs.declared.limits.TheConstants.{MAX_FILES, MAX_HANDLES}
use Rattle.pc_types.specs.declared.refusal.Refusal.{Refusal}
use Rattle.pc_types.specs.declared.refusal.Refusal.TheVariants.{NoSuchFile, TooManyFiles, TooManyHandles}
use Rattle.machine.specs.Changes.{changed}
use Rattle.machine.specs.State.{State, is_open, no_file}
use Rattle.machine.specs.Step.{MayReply, Step}
use Rattle.machine.specs.Tests.{tests, refuse}
use Rattle.machine.specs.declared.event.Event.TheVariants as event
use Rattle.machine.specs.declared.event.Reply.TheVariants as reply
use Rattle.machine.proofs.steps.Cases.{answered}
use Rattle.runs.proofs.events.Lookups.{get-remove1}
use Rattle.runs.proofs.views.View.{put1_else}
use Rattle.blockmap.specs.Keys.{NoneFrom}
use Rattle.catalog.specs.Cataloged.{Cataloged}
use Rattle.catalog.specs.Extents.{IsNext}
use Rattle.catalog.specs.declared.extent.Extent.{Extent}
use Rattle.cachecore.specs.Standing as standing
use Rattle.cachecore.specs.Replies.{created}
use Rattle.filesvc.specs.Seen.{HandleSeen, SoloSeen}
use Rattle.filesvc.specs.Service.{IsAsBefore, IsOpen, IsTold, KeepsBut, Names, Opened, Opens, close_reply}
use Rattle.filesvc.proofs.Callers.{open_beside, opened_is}
use Rattle.desk.specs.Seen.{ArePlaces, DeskSeen, IsExtentNow, IsTable, NoExtentNow, Stays, handle_at}

abbrev Table : Type 0
Table = List (Option HandleSeen)

abbrev at : Table → ℕ → Option HandleSeen
at handles n = get_or handles n None

pub some_is : {x y : HandleSeen} → Some x ≡ Some y → x ≡ y
some_is e = cc

-- ---- the service changes, and the table doesn't

-- what a table needs of a service
pub record StaysFor (old new : SoloSeen) : Type 0 where
  pub board : new.errors.board ≡ old.errors.board
  pub name : new.world.core.name ≡ old.world.core.name
  pub handles : new.world.core.handles ≡ old.world.core.handles
  pub count : length old.world.core.files ≤ length new.world.core.files

pub stays_but : {p : ℕ → Bool} (old new : SoloSeen) → KeepsBut p old new → StaysFor old new
stays_but old new k = record { board = k.board; name = k.name; handles = k.handles; count = (let same = k.count in omega arith) }

pub stays_before : (old new : SoloSeen) → IsAsBefore old new → StaysFor old new
stays_before old new e = record {
  board = ap (λ (s : SoloSeen). s.errors.board) e;
  name = ap (λ (s : SoloSeen). s.world.core.name) e;
  handles = ap (λ (s : SoloSeen). s.world.core.handles) e;
  count = (let same = ap (λ (s : SoloSeen). length s.world.core.files) e in omega arith);
}

-- where the cache alone changed, and not its handles
stays_core : (old new : SoloSeen) (core : State) → new.world.core ≡ core → core.name ≡ old.world.core.name → core.handles ≡ old.world.core.handles
    → length old.world.core.files ≤ length core.files → new.errors ≡ old.errors → StaysFor old new
stays_core old new core e name handles count errors = record {
  board = ap (λ (r : RecorderSeen). r.board) errors;
  name = ap (λ (s : State). s.name) e ∙ name;
  handles = ap (λ (s : State). s.handles) e ∙ handles;
  count = (let same = ap (λ (s : State). length s.files) e in omega arith);
}

pub stays_created : (old new : SoloSeen) (r : Result FileId Refusal) → Step old.world.core event.Create (created r) new.world.core → new.errors ≡ old.errors → StaysFor old new
stays_created old new (Ok f) step errors = elim (answered (tests old.world.core event.Create) old.world.core event.Create (reply.File f) new.world.core step) [
  | inl a ↦ stays_core old new old.world.core a.1 refl refl (omega arith) errors
  | inr a ↦ stays_core old new (changed old.world.core event.Create (reply.File f)) a.2 refl refl (let more = length-append old.world.core.files (no_file ∷ []) in omega arith) errors
]
stays_created old new (Err why) step errors = elim (answered (tests old.world.core event.Create) old.world.core event.Create (reply.Refused why) new.world.core step) [
  | inl a ↦ stays_core old new old.world.core a.1 refl refl (omega arith) errors
  | inr a ↦ stays_core old new old.world.core a.2 refl refl (omega arith) errors
]

-- the number of a file that was created
pub created_number : (old new : State) (f : FileId) → Step old event.Create (reply.File f) new → f.0 ≡ length old.files
created_number old new f step = elim (answered (tests old event.Create) old event.Create (reply.File f) new step) [
  | inl a ↦ absurd (refuses (nat_le MAX_FILES (length old.files)) a.0)
  | inr a ↦ a.1
]
  where
    refuses : (b : Bool) → (if b then refuse TooManyFiles else None) ≡ Some (reply.File f) → ⊥
    refuses true e = absurd cc
    refuses false e = absurd cc

-- an open that was refused
stays_unopened : (old new : SoloSeen) (f : ℕ) (why : Refusal) → Step old.world.core (event.Open (record { 0 = f })) (reply.Refused why) new.world.core → new.errors ≡ old.errors → StaysFor old new
stays_unopened old new f why step errors = elim (answered (tests old.world.core (event.Open (record { 0 = f }))) old.world.core (event.Open (record { 0 = f })) (reply.Refused why) new.world.core step) [
  | inl a ↦ stays_core old new old.world.core a.1 refl refl (omega arith) errors
  | inr a ↦ stays_core old new old.world.core a.2 refl refl (omega arith) errors
]

pub stays_refused : (old new : SoloSeen) (f : ℕ) (append : Bool) (r : Result HandleSeen Refusal) (why : Refusal) → r ≡ Err why
    → (MAX_FILES ≤ f → (r ≡ Err NoSuchFile) × IsAsBefore old new) → (f < MAX_FILES → Opened old f append r new) → new.errors ≡ old.errors → StaysFor old new
stays_refused old new f append r why is none opened errors = elim (few f MAX_FILES) [
  | inl small ↦ stays_unopened old new f why (subst (λ (x : Result HandleSeen Refusal). Opened old f append x new) is (opened small)) errors
  | inr large ↦ stays_before old new (none large).1
]
  where
    few : (a b : ℕ) → (a < b) ⊎ (b ≤ a)
    few a b = grind arith

pub table_stays : (old new : SoloSeen) (handles : Table) → StaysFor old new → IsTable old handles → IsTable new handles
table_stays old new handles k t = record {
  opened = λ n h e. (let o = t.opened n h e in record {
    board = o.board ∙ sym k.board;
    pass = o.pass;
    number = ap (λ (m : FinMap nat_cmp ℕ). finmap.get m h.number) k.handles ∙ o.number;
    file = (let low = o.file in let more = k.count in omega arith);
  });
  named = λ n h e. t.named n h e ∙ sym k.name;
  apart = t.apart;
}

pub no_places : (s : SoloSeen) (places : Option Cataloged) → places ≡ None → ArePlaces s places
no_places s places e c is = absurd (let k : None ≡ Some c = sym e ∙ is in cc)

pub stays_polled : (old new : SoloSeen) → new ≡ record old { errors = record old.errors { words = new.errors.words }; attempts = 0 } → StaysFor old new
stays_polled old new e = record {
  board = ap (λ (s : SoloSeen). s.errors.board) e;
  name = ap (λ (s : SoloSeen). s.world.core.name) e;
  handles = ap (λ (s : SoloSeen). s.world.core.handles) e;
  count = (let same = ap (λ (s : SoloSeen). length s.world.core.files) e in omega arith);
}

-- ---- the table changes

pub no_table : (s : SoloSeen) → IsTable s []
no_table s = record { opened = λ n h e. absurd (none n h e); named = λ n h e. absurd (none n h e); apart = λ n m h g e. absurd (none n h e) }
  where
    none : (n : ℕ) (h : HandleSeen) → at [] n ≡ Some h → ⊥
    none n h e = absurd cc

-- a handle was told of errors, or moved
module _ (s : SoloSeen) (old new : Table) (n : ℕ) (h g : HandleSeen) (t : IsTable s old) (was : at old n ≡ Some h) (is : at new n ≡ Some g) (others : (m : ℕ) → m ≢ n → at new m ≡ at old m)
    (number : g.number ≡ h.number) (opened : IsOpen s g) (named : Names s g) where
  -- it stood there before with the same number
  before : (m : ℕ) (x : HandleSeen) → at new m ≡ Some x → (y : HandleSeen) × (at old m ≡ Some y) × (y.number ≡ x.number)
  before m x e = elim (cases_eq m n) [
    | inl same ↦ (h, ap (at old) same ∙ was, sym number ∙ ap (λ (z : HandleSeen). z.number) (some_is (sym is ∙ ap (at new) (sym same) ∙ e)))
    | inr differs ↦ (x, sym (others m differs) ∙ e, refl)
  ]

  pub table_put : IsTable s new
  table_put = record {
    opened = λ m x e. elim (cases_eq m n) [
      | inl same ↦ subst (IsOpen s) (some_is (sym is ∙ ap (at new) (sym same) ∙ e)) opened
      | inr differs ↦ t.opened m x (sym (others m differs) ∙ e)
    ];
    named = λ m x e. elim (cases_eq m n) [
      | inl same ↦ subst (Names s) (some_is (sym is ∙ ap (at new) (sym same) ∙ e)) named
      | inr differs ↦ t.named m x (sym (others m differs) ∙ e)
    ];
    apart = λ a b x y e k same. (let p = before a x e in let q = before b y k in t.apart a b p.0 q.0 p.1 q.1 (p.2 ∙ same ∙ sym q.2));
  }

-- a number that has a handle is one of the table's
within : (handles : Table) (n : ℕ) (h : HandleSeen) → at handles n ≡ Some h → n < length handles
within handles n h was = elim (low n (length handles)) [
  | inl below ↦ below
  | inr past ↦ absurd (let k : None ≡ Some h = sym (get_or_past handles n None past) ∙ was in cc)
]
  where
    low : (a b : ℕ) → (a < b) ⊎ (b ≤ a)
    low a b = grind arith

-- through the table's own reference to it
pub table_set : (s : SoloSeen) (handles : Table) (n : ℕ) (h g : HandleSeen) → IsTable s handles → at handles n ≡ Some h → g.number ≡ h.number → IsOpen s g → Names s g → IsTable s (set handles n (Some g))
table_set s handles n h g t was number opened named =
    table_put s handles (set handles n (Some g)) n h g t was (get_or-set_same handles n (Some g) None (within handles n h was)) (λ m differs. get_or-set_other handles n m (Some g) None differs) number opened named

pub stays_set : (old : DeskSeen) (s : SoloSeen) (n : ℕ) (h g : HandleSeen) → handle_at old n ≡ Some h → g.file ≡ h.file → Stays old (record { service = s; handles = set old.handles n (Some g) }) n
stays_set old s n h g was file = record {
  others = λ m differs. get_or-set_other old.handles n m (Some g) None differs;
  same = λ x is. (g, get_or-set_same old.handles n (Some g) None (within old.handles n h was), file ∙ ap (λ (z : HandleSeen). z.file) (some_is (sym was ∙ is)));
}

-- a handle of the same number and file, which was told of errors, or was moved
pub record SameHandle (h g : HandleSeen) : Type 0 where
  pub number : g.number ≡ h.number
  pub file : g.file ≡ h.file
  pub cache : g.cache ≡ h.cache
  pub board : g.pass.board ≡ h.pass.board
  pub pass : g.pass.file ≡ h.pass.file

same_self : (h g : HandleSeen) → g ≡ h → SameHandle h g
same_self h g e = record {
  number = ap (λ (x : HandleSeen). x.number) e;
  file = ap (λ (x : HandleSeen). x.file) e;
  cache = ap (λ (x : HandleSeen). x.cache) e;
  board = ap (λ (x : HandleSeen). x.pass.board) e;
  pass = ap (λ (x : HandleSeen). x.pass.file) e;
}

pub same_told : (s : SoloSeen) (h g : HandleSeen) → IsTold s h g ⊎ (g ≡ h) → SameHandle h g
same_told s h g (inl told) = record {
  number = ap (λ (x : HandleSeen). x.number) told.same;
  file = ap (λ (x : HandleSeen). x.file) told.same;
  cache = ap (λ (x : HandleSeen). x.cache) told.same;
  board = told.board;
  pass = told.file;
}
same_told s h g (inr kept) = same_self h g kept

pub same_polled : (s : SoloSeen) (h g : HandleSeen) (r : Result (Option ℕ) Refusal) → IsOk r → IfOk r (λ _. IsTold s h g) → SameHandle h g
same_polled s h g (Ok code) ok told = same_told s h g (inl told)
same_polled s h g (Err why) ok told = absurd (let wrong = ok in cc)

pub same_moved : (h g : HandleSeen) (r : Result ℕ Refusal) → IfOk r (λ at. g ≡ record h { cursor = at }) → OnErr r (g ≡ h) → SameHandle h g
same_moved h g (Ok at) moved kept = record {
  number = ap (λ (x : HandleSeen). x.number) moved;
  file = ap (λ (x : HandleSeen). x.file) moved;
  cache = ap (λ (x : HandleSeen). x.cache) moved;
  board = ap (λ (x : HandleSeen). x.pass.board) moved;
  pass = ap (λ (x : HandleSeen). x.pass.file) moved;
}
same_moved h g (Err why) moved kept = same_self h g kept

pub table_same : (old new : SoloSeen) (handles : Table) (n : ℕ) (h g : HandleSeen) → StaysFor old new → IsTable old handles → at handles n ≡ Some h → SameHandle h g → IsTable new (set handles n (Some g))
table_same old new handles n h g k t was same =
    let now = table_stays old new handles k t in
    let o = now.opened n h was in
    table_set new handles n h g now was same.number (record {
      board = same.board ∙ o.board;
      pass = same.pass ∙ o.pass ∙ sym same.file;
      number = ap (finmap.get new.world.core.handles) same.number ∙ o.number ∙ ap (λ (f : ℕ). Some f) (sym same.file);
      file = (let low = o.file in let e = same.file in omega arith);
    }) (same.cache ∙ now.named n h was)

-- a handle is opened
module _ (old new : SoloSeen) (f : ℕ) (append : Bool) (h : HandleSeen) (o : Opens old f append h new) (errors : new.errors ≡ old.errors) where
  refuses : (a b : Bool) → (if a then refuse NoSuchFile else if b then refuse TooManyHandles else None) ≡ Some (reply.Handle (record { 0 = h.number })) → ⊥
  refuses true b e = absurd cc
  refuses false true e = absurd cc
  refuses false false e = absurd cc

  happened : MayReply old.world.core (event.Open (record { 0 = f })) (reply.Handle (record { 0 = h.number })) × (new.world.core ≡ changed old.world.core (event.Open (record { 0 = f })) (reply.Handle (record { 0 = h.number })))
  happened = elim (answered (tests old.world.core (event.Open (record { 0 = f }))) old.world.core (event.Open (record { 0 = f })) (reply.Handle (record { 0 = h.number })) new.world.core o.step) [
    | inl a ↦ absurd (refuses (nat_le (length old.world.core.files) f) (nat_le MAX_HANDLES (finmap.len old.world.core.handles)) a.0)
    | inr a ↦ (a.1, a.2)
  ]

  -- no open handle had its number
  fresh : (g : HandleSeen) → IsOpen old g → g.number ≡ h.number → ⊥
  fresh g was same = true≢false (sym (ap (is_open old.world.core) (sym same) ∙ ap is_some was.number) ∙ happened.0.0)

  name : new.world.core.name ≡ old.world.core.name
  name = ap (λ (s : State). s.name) happened.1

  module _ (before after : Table) (n : ℕ) (t : IsTable old before) (is : at after n ≡ Some h) (others : (m : ℕ) → m ≢ n → at after m ≡ at before m) where
    pub table_opened : IsTable new after
    table_opened = record {
      opened = λ m x e. elim (cases_eq m n) [
        | inl same ↦ subst (IsOpen new) (some_is (sym is ∙ ap (at after) (sym same) ∙ e)) (opened_is old new f append h o errors)
        | inr differs ↦ open_beside old new f append (Ok h) x o errors (t.opened m x (sym (others m differs) ∙ e))
      ];
      named = λ m x e. elim (cases_eq m n) [
        | inl same ↦ subst (Names new) (some_is (sym is ∙ ap (at after) (sym same) ∙ e)) (o.cache ∙ sym name)
        | inr differs ↦ t.named m x (sym (others m differs) ∙ e) ∙ sym name
      ];
      apart = λ a b x y e k same. elim (cases_eq a n) [
        | inl first ↦ elim (cases_eq b n) [
          | inl second ↦ first ∙ sym second
          | inr differs ↦
              let here : h ≡ x = some_is (sym is ∙ ap (at after) (sym first) ∙ e) in
              absurd (fresh y (t.opened b y (sym (others b differs) ∙ k)) (sym same ∙ ap (λ (z : HandleSeen). z.number) (sym here)))
        ]
        | inr apart ↦ elim (cases_eq b n) [
          | inl second ↦
              let here : h ≡ y = some_is (sym is ∙ ap (at after) (sym second) ∙ k) in
              absurd (fresh x (t.opened a x (sym (others a apart) ∙ e)) (same ∙ ap (λ (z : HandleSeen). z.number) (sym here)))
          | inr differs ↦ t.apart a b x y (sym (others a apart) ∙ e) (sym (others b differs) ∙ k) same
        ]
      ];
    }

pub opens_by : (old new : SoloSeen) (f : ℕ) (append : Bool) (r : Result HandleSeen Refusal) (h : HandleSeen) → r ≡ Ok h
    → (MAX_FILES ≤ f → (r ≡ Err NoSuchFile) × IsAsBefore old new) → (f < MAX_FILES → Opened old f append r new) → Opens old f append h new
opens_by old new f append r h is none opened = elim (few f MAX_FILES) [
  | inl small ↦ subst (λ (x : Result HandleSeen Refusal). Opened old f append x new) is (opened small)
  | inr large ↦ absurd (let wrong : Ok h ≡ Err NoSuchFile = sym is ∙ (none large).0 in cc)
]
  where
    few : (a b : ℕ) → (a < b) ⊎ (b ≤ a)
    few a b = grind arith

-- the table has room for more
pub table_reserved : (s : SoloSeen) (old new : Slab HandleSeen) → new ≡ record old { capacity = new.capacity } → IsTable s old.slots → IsTable s new.slots
table_reserved s old new e t = subst (IsTable s) (sym (ap (λ (x : Slab HandleSeen). x.slots) e)) t

-- a handle is closed
module _ (old new : SoloSeen) (before after : Table) (n : ℕ) (h : HandleSeen) (t : IsTable old before) (was : at before n ≡ Some h)
    (step : Step old.world.core (event.Close (record { 0 = h.number })) reply.Closed new.world.core) (errors : new.errors ≡ old.errors)
    (gone : at after n ≡ None) (others : (m : ℕ) → m ≢ n → at after m ≡ at before m) where
  -- each that is left stood there before, and has another number
  left : (m : ℕ) (x : HandleSeen) → at after m ≡ Some x → (at before m ≡ Some x) × (x.number ≢ h.number)
  left m x e = elim (cases_eq m n) [
    | inl same ↦ absurd (let k : None ≡ Some x = sym gone ∙ ap (at after) (sym same) ∙ e in cc)
    | inr differs ↦ (let there = sym (others m differs) ∙ e in (there, λ same. differs (t.apart m n x h there was same)))
  ]

  kept : (x : HandleSeen) → x.number ≢ h.number
      → (finmap.get new.world.core.handles x.number ≡ finmap.get old.world.core.handles x.number) × ((new.world.core.name ≡ old.world.core.name) × (length new.world.core.files ≡ length old.world.core.files))
  kept x differs = elim (answered (tests old.world.core (event.Close (record { 0 = h.number }))) old.world.core (event.Close (record { 0 = h.number })) reply.Closed new.world.core step) [
    | inl a ↦ (ap (λ (s : State). finmap.get s.handles x.number) a.1, (ap (λ (s : State). s.name) a.1, ap (λ (s : State). length s.files) a.1))
    | inr a ↦ (ap (λ (s : State). finmap.get s.handles x.number) a.2 ∙ get-remove1 old.world.core.handles h.number x.number ∙ put1_else _ h.number None x.number differs, (ap (λ (s : State). s.name) a.2, ap (λ (s : State). length s.files) a.2))
  ]

  pub table_closed : IsTable new after
  table_closed = record {
    opened = λ m x e. (let l = left m x e in let o = t.opened m x l.0 in let k = kept x l.1 in record {
      board = o.board ∙ sym (ap (λ (r : RecorderSeen). r.board) errors);
      pass = o.pass;
      number = k.0 ∙ o.number;
      file = subst (λ (c : ℕ). x.file < c) (sym k.1.1) o.file;
    });
    named = λ m x e. (let l = left m x e in t.named m x l.0 ∙ sym (kept x l.1).1.0);
    apart = λ a b x y e k same. t.apart a b x y (left a x e).0 (left b y k).0 same;
  }

pub closed_reply : (r : Result Unit (Refusal × HandleSeen)) → IfErr r (λ _. ⊥) → close_reply r ≡ reply.Closed
closed_reply (Ok _) well = refl
closed_reply (Err e) well = absurd well

-- ---- where the files stand

pub found_now : (s : SoloSeen) (f p : ℕ) (c : Cataloged) (r : Result (Option Extent) Refusal) → standing.Tells s.world.core c → IfOk r (λ next. IfSome next (IsNext c f p)) → IfOk r (λ next. IfSome next (IsExtentNow s f p))
found_now s f p c (Ok (Some e)) told next = (c, told, next)
found_now s f p c (Ok None) told next = tt
found_now s f p c (Err why) told next = tt

pub none_now : (s : SoloSeen) (f p : ℕ) (c : Cataloged) (r : Result (Option Extent) Refusal) → standing.Tells s.world.core c → IfOk r (λ next. IfNone next (NoneFrom c.files.spots f p)) → IfOk r (λ next. IfNone next (NoExtentNow s f p))
none_now s f p c (Ok (Some e)) told next = tt
none_now s f p c (Ok None) told next = (c, told, next)
none_now s f p c (Err why) told next = tt

-- by the catalog that was made before, or by a new one
pub told_places : (s : SoloSeen) (places : Option Cataloged) (c : Cataloged) → ArePlaces s places → (places ≡ Some c) ⊎ standing.Tells s.world.core c → standing.Tells s.world.core c
told_places s places c known (inl before) = known c before
told_places s places c known (inr now) = now

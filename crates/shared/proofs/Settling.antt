-- What calls leave behind them: requests with their ends, and fills with the entries that asked for them.
use Rattle.std.proofs.Common.{◌≡◌, ◌<◌, ◌+◌, ◌∙◌, ℕ, Bool, true, false, List, zero, suc, [], ◌∷◌, ◌++◌, refl, ap, subst, sym, arith, append_assoc, inl, inr}
use Rattle.std.specs.Prelude.{◌⊎◌, ◌==◌, All, Any, if◌then◌else◌, Ok, Option, Some, None}
use Rattle.std.proofs.lemmas.Bool.{eqb-true}
use Rattle.std.proofs.lemmas.List.{append-nil}
use Rattle.std.specs.FinMap as map
use Rattle.std.specs.Ordering.{nat_cmp}
use Rattle.blockdev.specs.Jobs.{FinishedTask, Task}
use Rattle.cachecore.specs.Replies.{IsFillJob, IsFlushJob, IsSyncJob, end_of, fill_begun, sync_stepped}
use Rattle.cachecore.specs.declared.answers.FillBegun.{FillBegun}
use Rattle.cachecore.specs.declared.answers.FillBegun.TheVariants as fill
use Rattle.cachecore.specs.declared.answers.FlushBegun.TheVariants as flush
use Rattle.cachecore.specs.declared.answers.SyncStepped.{SyncStepped}
use Rattle.cachecore.specs.declared.answers.SyncStepped.TheVariants as stepped
use Rattle.maps.proofs.Maps.{get_inserted}
use Rattle.machine.proofs.steps.Answered.{answers}
use Rattle.machine.proofs.steps.Cases.{answered}
use Rattle.machine.specs.Changes as changes
use Rattle.machine.specs.State.{Request, State, Sync, first_awaited}
use Rattle.machine.specs.Step.{SyncReply, SyncStepReply}
use Rattle.machine.specs.Tests.{tests}
use Rattle.machine.specs.declared.event.End.{End}
use Rattle.machine.specs.declared.event.Event.{Event}
use Rattle.machine.specs.declared.event.Event.TheVariants as event
use Rattle.machine.specs.declared.event.Reply.{Reply}
use Rattle.machine.specs.declared.event.Reply.TheVariants as reply
use Rattle.pc_types.specs.declared.ids.HandleId.{HandleId}
use Rattle.pc_types.specs.declared.ids.FileId.{FileId}
use Rattle.pc_types.specs.declared.ids.PageIndex.{PageIndex}
use Rattle.pc_types.specs.declared.ids.Serial.{Serial}
use Rattle.pc_types.specs.declared.ids.SyncId.{SyncId}
use Rattle.pc_types.specs.declared.kind.Kind.{Kind}
use Rattle.pc_types.specs.declared.kind.Kind.TheVariants.{Fill, Flush}
use Rattle.pc_types.specs.declared.refusal.Refusal.{Refusal}
use Rattle.trail.specs.declared.entry.Entry.{Entry}
use Rattle.trail.specs.Entries.{entry_of, noted}
use Rattle.pc_types.specs.Limits.{Sizes}
use Rattle.machine.specs.Catalogs.{Catalog}
use Rattle.trail.specs.Room.{Room}
use Rattle.held.specs.Started.{as_fill}
use Rattle.held.specs.declared.started.FillStarted.{FillStarted}
use Rattle.held.specs.declared.started.FillStarted.TheVariants as started
use Rattle.held.specs.declared.log.Slip.{Slip}
use Rattle.held.specs.Entered.{Made}
use Rattle.held.specs.Shown.{HeldSeen, SeatSeen}
use Rattle.held.specs.Views.{count_of}
use Rattle.held.specs.Called.{Only}
use Rattle.held.specs.Denials as under
use Rattle.held.specs.Firsts.{IsFirstDenied, Writes}
use Rattle.held.specs.declared.denied.Denied.{Denied}
use Rattle.held.proofs.Seats.{only_any, only_by, only_on, only_wider}
use Rattle.shared.specs.Changes.{event_of}
use Rattle.shared.specs.declared.writes.Change.{Change}
use Rattle.shared.specs.declared.writes.Change.TheVariants.{Append, Truncate, Write}
use Rattle.shared.specs.Own.{IsEviction, IsRoomEvent}
use Rattle.shared.specs.Settled.{BeganFor, IsBegun, IsEnded, EndsOne, EndsOwn, Fills, FillsMissed, FillsNoOther, IsThisEnd, Pairs, Settles}
use Rattle.shared.specs.Workers.{IsEnd, IsFlushBegin}

-- ---- some element of two lists

any_head : {X : Type 0} (P : X → Type 0) (x : X) (xs : List X) → P x → Any P (x ∷ xs)
any_head P x xs p = (0, x, omega arith, refl, p)

any_cons : {X : Type 0} (P : X → Type 0) (x : X) (xs : List X) → Any P xs → Any P (x ∷ xs)
any_cons P x xs a = (suc a.0, a.1, omega (arith, a.2), a.3, a.4)

any_left : {X : Type 0} (P : X → Type 0) (xs ys : List X) → Any P xs → Any P (xs ++ ys)
any_left P [] ys a = absurd (omega (arith, a.2))
any_left P (x ∷ xs) ys (zero, d, less, is, p) = (0, d, omega arith, is, p)
any_left P (x ∷ xs) ys (suc k, d, less, is, p) = any_cons P x (xs ++ ys) (any_left P xs ys (k, d, omega arith, is, p))

any_right : {X : Type 0} (P : X → Type 0) (xs ys : List X) → Any P ys → Any P (xs ++ ys)
any_right P [] ys a = a
any_right P (x ∷ xs) ys a = any_cons P x (xs ++ ys) (any_right P xs ys a)

any_split : {X : Type 0} (P : X → Type 0) (xs ys : List X) → Any P (xs ++ ys) → Any P xs ⊎ Any P ys
any_split P [] ys a = inr a
any_split P (x ∷ xs) ys (zero, d, less, is, p) = inl (0, d, omega arith, is, p)
any_split P (x ∷ xs) ys (suc k, d, less, is, p) =
    elim (any_split P xs ys (k, d, omega arith, is, p)) [
      | inl a ↦ inl (any_cons P x xs a)
      | inr a ↦ inr a
    ]

any_with_all : {X : Type 0} (P Q R : X → Type 0) (xs : List X) → ((x : X) → P x → Q x → R x) → All P xs → Any Q xs → Any R xs
any_with_all P Q R xs f all a = (a.0, a.1, a.2, a.3, f a.1 (rw a.3 at (all a.0 a.1 a.2)) a.4)

-- a seat that counts some has one
any_counted : (number : ℕ) (xs : List Entry) → 0 < count_of number xs → Any (λ e. e.seat ≡ number) xs
any_counted number [] some = absurd (omega (arith, some))
any_counted number (x ∷ xs) some = go (x.seat == number) refl (any_counted number xs)
  where
    go : (b : Bool) → x.seat == number ≡ b → (0 < count_of number xs → Any (λ e. e.seat ≡ number) xs)
        → Any (λ e. e.seat ≡ number) (x ∷ xs)
    go true is more = any_head (λ e. e.seat ≡ number) x xs (eqb-true x.seat number is)
    go false is more =
        any_cons (λ e. e.seat ≡ number) x xs
        (more (let n : ℕ = if x.seat == number then 1 else 0 in
        let none : n ≡ 0 = ap (λ b. if b then 1 else 0) is in
        omega (arith, some, none)))

-- ---- pairs

module _ {A : Type 0} (first second : A → Entry → Type 0) where
  pub pairs_same : (a b : SeatSeen) → b ≡ a → Pairs first second a b
  pairs_same a b e = subst (Pairs first second a) (sym e) (record {
    same = refl;
    since = [];
    saw = sym (append-nil a.list);
    each = λ x some. absurd (omega (arith, some.2));
  })

  -- of these entries none is of the first kind
  pub pairs_none : (own : Entry → Type 0) (a b : SeatSeen) → ((x : A) (e : Entry) → own e → first x e → ⊥) → Only own a b
      → Pairs first second a b
  pairs_none own a b never p = record {
    same = p.same;
    since = p.since;
    saw = p.saw;
    each = λ x some. absurd
        (any_with_all (λ e. e.seat ≡ a.number → own e) (λ e. (e.seat ≡ a.number) × first x e) (λ _. ⊥) p.since
        (λ e is q. never x e (is q.0) q.1) p.made some).4;
  }

  -- all that the seat makes is of the first kind at one x, and what comes then has one of the second
  pub pairs_on : (a b c : SeatSeen) → Pairs first second a b → Pairs first second b c → Pairs first second a c
  pairs_on a b c p q = record {
    same = q.same ∙ p.same;
    since = p.since ++ q.since;
    saw = q.saw ∙ ap (λ l. l ++ q.since) p.saw ∙ append_assoc a.list p.since q.since;
    each = λ x some.
        let P : Entry → Type 0 = λ e. (e.seat ≡ a.number) × first x e in
        let Q : Entry → Type 0 = λ e. (e.seat ≡ a.number) × second x e in
        elim (any_split P p.since q.since some) [
          | inl there ↦ any_left Q p.since q.since (p.each x there)
          | inr there ↦ any_right Q p.since q.since
              (subst (λ n. Any (λ e. (e.seat ≡ n) × first x e) q.since → Any (λ e. (e.seat ≡ n) × second x e) q.since)
              p.same (q.each x) there)
        ];
  }

  -- entries of the first kind, and one after them of the second for each
  pub pairs_ended : (own last : Entry → Type 0) (a b c : SeatSeen)
      → ((x : A) (e l : Entry) → own e → first x e → last l → second x l)
      → ((x : A) (l : Entry) → last l → first x l → ⊥)
      → Only own a b → Only last b c → c.count ≡ b.count + 1 → Pairs first second a c
  pairs_ended own last a b c ends never p q one =
      let renamed : count_of b.number q.since ≡ count_of a.number q.since = ap (λ n. count_of n q.since) p.same in
      let lasts : All (λ e. e.seat ≡ a.number → last e) q.since =
      subst (λ n. All (λ (e : Entry). e.seat ≡ n → last e) q.since) p.same q.made in
      record {
        same = q.same ∙ p.same;
        since = p.since ++ q.since;
        saw = q.saw ∙ ap (λ l. l ++ q.since) p.saw ∙ append_assoc a.list p.since q.since;
        each = λ x some.
            let P : Entry → Type 0 = λ e. (e.seat ≡ a.number) × first x e in
            let Q : Entry → Type 0 = λ e. (e.seat ≡ a.number) × second x e in
            elim (any_split P p.since q.since some) [
              | inl there ↦ any_right Q p.since q.since
                  (any_with_all (λ e. e.seat ≡ a.number → last e) (λ e. e.seat ≡ a.number) Q q.since
                  (λ l is own_one. (
                    own_one,
                    (any_with_all (λ e. e.seat ≡ a.number → own e) P (λ _. second x l) p.since
                        (λ e is_own is_first. ends x e l (is_own is_first.0) is_first.1 (is own_one)) p.made there).4,
                  )) lasts
                  (any_counted a.number q.since (omega (arith, q.count, one, renamed))))
              | inr there ↦ absurd
                  (any_with_all (λ e. e.seat ≡ a.number → last e) P (λ _. ⊥) q.since
                  (λ l is is_first. never x l (is is_first.0) is_first.1) lasts there).4
            ];
      }

  -- one entry of the second kind, and entries after it of the first at that x
  pub pairs_asked : (own last : Entry → Type 0) (a b c : SeatSeen)
      → ((x : A) (e l : Entry) → own e → last l → first x l → second x e)
      → ((x : A) (e : Entry) → own e → first x e → ⊥)
      → Only own a b → b.count ≡ a.count + 1 → Only last b c → Pairs first second a c
  pairs_asked own last a b c asks never p one q =
      let lasts : All (λ e. e.seat ≡ a.number → last e) q.since =
      subst (λ n. All (λ (e : Entry). e.seat ≡ n → last e) q.since) p.same q.made in
      record {
        same = q.same ∙ p.same;
        since = p.since ++ q.since;
        saw = q.saw ∙ ap (λ l. l ++ q.since) p.saw ∙ append_assoc a.list p.since q.since;
        each = λ x some.
            let P : Entry → Type 0 = λ e. (e.seat ≡ a.number) × first x e in
            let Q : Entry → Type 0 = λ e. (e.seat ≡ a.number) × second x e in
            elim (any_split P p.since q.since some) [
              | inl there ↦ absurd
                  (any_with_all (λ e. e.seat ≡ a.number → own e) P (λ _. ⊥) p.since
                  (λ e is is_first. never x e (is is_first.0) is_first.1) p.made there).4
              | inr there ↦ any_left Q p.since q.since
                  (any_with_all (λ e. e.seat ≡ a.number → own e) (λ e. e.seat ≡ a.number) Q p.since
                  (λ e is own_one. (
                    own_one,
                    (any_with_all (λ l. l.seat ≡ a.number → last l) P (λ _. second x e) q.since
                        (λ l is_last is_first. asks x e l (is own_one) (is_last is_first.0) is_first.1) lasts there).4,
                  )) p.made
                  (any_counted a.number p.since (omega (arith, p.count, one))))
            ];
      }

-- ---- requests

-- what is refused begins nothing
refused_begins : (x : Kind × ℕ) (e : Event) (why : Refusal) → IsBegun x (noted e (reply.Refused why)) (reply.Refused why) → ⊥
refused_begins x (event.FillBegin h p) why b = b
refused_begins x (event.FlushBegin f) why b = b
refused_begins x (event.SyncStep m) why b = b
refused_begins x e why b = b

end_begins : (x : Kind × ℕ) (name : ℕ) (y : Kind × ℕ) (e : Event) (r : Reply) → IsEnded name y e → IsBegun x e r → ⊥
end_begins x name y (event.End kind end) r is b = b
end_begins x name y e r is b = absurd is

eviction_begins : (x : Kind × ℕ) (e : Event) (r : Reply) → IsEviction e → IsBegun x e r → ⊥
eviction_begins x event.Evict r is b = b
eviction_begins x event.Age r is b = b
eviction_begins x e r is b = absurd is

-- ---- ends

noted_end : (e : Event) (r : Reply) → IsEnd (noted e r) → IsEnd e
noted_end (event.End kind end) r is = tt
noted_end e r is = is

begun_no_end : (x : Kind × ℕ) (e : Event) (r : Reply) → IsBegun x e r → IsEnd e → ⊥
begun_no_end x (event.End kind end) r begins is = begins
begun_no_end x e r begins is = absurd is

eviction_no_end : (e : Event) → IsEviction e → IsEnd e → ⊥
eviction_no_end (event.End kind end) evicts is = evicts
eviction_no_end e evicts is = absurd is

flush_no_end : (e : Event) → IsFlushBegin e → IsEnd e → ⊥
flush_no_end (event.End kind end) begins is = begins
flush_no_end e begins is = absurd is

pub own_same : (name : ℕ) (a b : SeatSeen) → b ≡ a → EndsOwn name a b
own_same name a b e = pairs_same IsThisEnd (BeganFor name) a b e

pub own_on : (name : ℕ) (a b c : SeatSeen) → EndsOwn name a b → EndsOwn name b c → EndsOwn name a c
own_on name a b c p q = pairs_on IsThisEnd (BeganFor name) a b c p q

own_none : (name : ℕ) (own : Entry → Type 0) (a b : SeatSeen) → ((e : Entry) → own e → IsEnd e.event → ⊥) → Only own a b
    → EndsOwn name a b
own_none name own a b never p =
    pairs_none IsThisEnd (BeganFor name) own a b (λ end e is same. never e is (subst IsEnd (sym same.0) same.1)) p

pub own_begins : (name : ℕ) (a b : SeatSeen) → Only (λ e. IsFlushBegin e.event) a b → EndsOwn name a b
own_begins name a b p = own_none name (λ e. IsFlushBegin e.event) a b (λ e. flush_no_end e.event) p

-- a request was begun, and then come ends of it alone
pub own_ended : (name : ℕ) (x : Kind × ℕ) (a b c : SeatSeen) → Only (λ l. IsBegun x l.event l.reply) a b
    → b.count ≡ a.count + 1 → Only (λ l. IsEnded name x l.event) b c → EndsOwn name a c
own_ended name x a b c p one q =
    pairs_asked IsThisEnd (BeganFor name) (λ l. IsBegun x l.event l.reply) (λ l. IsEnded name x l.event) a b c
    (λ end e l begins ends same. (x, subst (IsEnded name x) same.0 ends, begins))
    (λ end e begins same. begun_no_end x e.event e.reply begins (subst IsEnd (sym same.0) same.1)) p one q

-- ---- both

pub settles_same : (name : ℕ) (a b : SeatSeen) → b ≡ a → Settles name a b
settles_same name a b e = record {
  ended = pairs_same (λ x e. IsBegun x e.event e.reply) (λ x e. IsEnded name x e.event) a b e;
  own = own_same name a b e;
}

pub settles_on : (name : ℕ) (a b c : SeatSeen) → Settles name a b → Settles name b c → Settles name a c
settles_on name a b c p q = record {
  ended = pairs_on (λ x e. IsBegun x e.event e.reply) (λ x e. IsEnded name x e.event) a b c p.ended q.ended;
  own = own_on name a b c p.own q.own;
}

-- entries that begin nothing and end nothing
settles_none : (name : ℕ) (own : Entry → Type 0) (a b : SeatSeen)
    → ((x : Kind × ℕ) (e : Entry) → own e → IsBegun x e.event e.reply → ⊥) → ((e : Entry) → own e → IsEnd e.event → ⊥)
    → Only own a b → Settles name a b
settles_none name own a b begins ends p = record {
  ended = pairs_none (λ x e. IsBegun x e.event e.reply) (λ x e. IsEnded name x e.event) own a b begins p;
  own = own_none name own a b ends p;
}

-- nothing was made
settles_seen : (name : ℕ) (a b : SeatSeen) → Only (λ _. ⊥) a b → Settles name a b
settles_seen name a b p = settles_none name (λ _. ⊥) a b (λ x e none is. none) (λ e none is. none) p

-- one event that begins nothing and ends nothing
pub settles_by : (name : ℕ) (e : Event) (r : Reply) (old new : HeldSeen) (a b : SeatSeen) (slip : Slip)
    → ((x : Kind × ℕ) → IsBegun x (noted e r) r → ⊥) → (IsEnd e → ⊥) → Made e r old new a b slip → Settles name a b
settles_by name e r old new a b slip begins ends m =
    settles_none name (λ l. l ≡ entry_of a.number e r) a b
    (λ x l is b. begins x (subst (λ (y : Entry). IsBegun x y.event y.reply) is b))
    (λ l is b. ends (noted_end e r (subst (λ (y : Entry). IsEnd y.event) is b)))
    (only_by (λ l. l ≡ entry_of a.number e r) e r old new a b slip refl m)

module _ (files : Catalog) (sizes : Sizes) (whole : Room) where
  pub settles_denied : (name : ℕ) (e : Event) (old new : HeldSeen) (a b : SeatSeen) (d : Denied) → (IsEnd e → ⊥)
      → under.IsDenied files sizes name whole e old new a b d → Settles name a b
  settles_denied name e old new a b d ends q = go d.refusal d.slip q
    where
      go : (r : Refusal) (o : Option Slip) → under.DeniedBy files sizes name whole e old new a b r o → Settles name a b
      go r None q = settles_seen name a b q.1.shown.only
      go r (Some slip) q = settles_by name e (reply.Refused r) old new a b slip (λ x b. refused_begins x e r b) ends q

  pub settles_first_denied : (name : ℕ) (old new : HeldSeen) (a b : SeatSeen) (d : Denied) → IsFirstDenied files sizes name whole old new a b d
      → Settles name a b
  settles_first_denied name old new a b d q =
      settles_denied name (event.FlushBegin q.file) old new a b d (λ is. is) q.denied

pub settles_evicted : (name : ℕ) (a b : SeatSeen) → Only (λ e. IsEviction e.event) a b → Settles name a b
settles_evicted name a b p =
    settles_none name (λ e. IsEviction e.event) a b (λ x e. eviction_begins x e.event e.reply) (λ e. eviction_no_end e.event) p

-- ---- the end of one

-- an end loses its bytes at most
noted_ends : (name : ℕ) (x : Kind × ℕ) (kind : Kind) (end : End) (r : Reply) → IsEnded name x (event.End kind end)
    → IsEnded name x (noted (event.End kind end) r)
noted_ends name x kind end (reply.Refused why) is = is
noted_ends name x kind end r is = is

pub ends_by : (name : ℕ) (x : Kind × ℕ) (kind : Kind) (end : End) (r : Reply) (old new : HeldSeen) (a b : SeatSeen) (slip : Slip)
    → IsEnded name x (event.End kind end) → Made (event.End kind end) r old new a b slip → EndsOne name x a b
ends_by name x kind end r old new a b slip is m = (
  only_by (λ e. IsEnded name x e.event) (event.End kind end) r old new a b slip (noted_ends name x kind end r is) m,
  m.entered.count,
)

-- whatever was finished is ended
pub only_ended : (name : ℕ) (done : FinishedTask) (r : Reply) (old new : HeldSeen) (a b : SeatSeen) (slip : Slip)
    → done.cache ≡ name → Made (event.End done.kind (end_of done)) r old new a b slip
    → Only (λ e. IsEnded name (done.kind, done.serial) e.event) a b
only_ended name done r old new a b slip here m =
    (ends_by name (done.kind, done.serial) done.kind (end_of done) r old new a b slip (refl, refl, refl, here) m).0

-- what came of a job ends its request
pub done_ends : (name : ℕ) (kind : Kind) (job : Task) (done : FinishedTask) (r : Reply) (old new : HeldSeen) (a b : SeatSeen)
    (slip : Slip) → job.kind ≡ kind → job.cache ≡ name
    → (done.serial ≡ job.serial) × (done.kind ≡ job.kind) × (done.cache ≡ job.cache)
    → Made (event.End done.kind (end_of done)) r old new a b slip → EndsOne name (kind, job.serial) a b
done_ends name kind job done r old new a b slip is here same m =
    ends_by name (kind, job.serial) done.kind (end_of done) r old new a b slip
    (same.1 ∙ is, same.1 ∙ is, same.0, same.2 ∙ here) m

-- ---- a request from its begin to its end

both : (x y : Kind × ℕ) → x.0 ≡ y.0 → x.1 ≡ y.1 → x ≡ y
both x y p q =
    subst (λ (k : Kind). x ≡ (k, y.1)) p (subst (λ n. x ≡ (x.0, n)) q refl)

pub job_ended : (name : ℕ) (job : Task) (done : FinishedTask) (a b : SeatSeen)
    → (done.serial ≡ job.serial) × (done.kind ≡ job.kind) × (done.cache ≡ job.cache)
    → Only (λ e. IsEnded name (done.kind, done.serial) e.event) a b
    → Only (λ e. IsEnded name (job.kind, job.serial) e.event) a b
job_ended name job done a b same p =
    subst (λ (x : Kind × ℕ). Only (λ e. IsEnded name x e.event) a b)
    (both (done.kind, done.serial) (job.kind, job.serial) same.1 same.0) p

begun_is : (e : Event) (r : Reply) (x y : Kind × ℕ) → IsBegun x e r → IsBegun y e r → x ≡ y
begun_is (event.FillBegin h p) (reply.Job t) x y b c = both x y (b.0 ∙ sym c.0) (sym b.1 ∙ c.1)
begun_is (event.FlushBegin f) (reply.Job t) x y b c = both x y (b.0 ∙ sym c.0) (sym b.1 ∙ c.1)
begun_is (event.SyncStep m) (reply.Job t) x y b c = both x y (b.0 ∙ sym c.0) (sym b.1 ∙ c.1)
begun_is e r x y b c = absurd b

pub settles_begun : (name : ℕ) (x : Kind × ℕ) (e : Event) (r : Reply) (old new : HeldSeen) (a b c : SeatSeen) (slip : Slip)
    → IsBegun x (noted e r) r → Made e r old new a b slip → EndsOne name x b c → Settles name a c
settles_begun name x e r old new a b c slip is m q = record {
  ended = pairs_ended (λ y l. IsBegun y l.event l.reply) (λ y l. IsEnded name y l.event) (λ l. l ≡ entry_of a.number e r)
      (λ l. IsEnded name x l.event) a b c
      (λ y l k own begins ends. subst (λ (z : Kind × ℕ). IsEnded name z k.event)
      (begun_is (noted e r) r x y is (subst (λ (z : Entry). IsBegun y z.event z.reply) own begins)) ends)
      (λ y l ends begins. end_begins y name x l.event l.reply ends begins)
      (only_by (λ l. l ≡ entry_of a.number e r) e r old new a b slip refl m) q.0 q.1;
  own = own_ended name x a b c (only_by (λ l. IsBegun x l.event l.reply) e r old new a b slip is m) m.entered.count q.0;
}

-- ---- the kind of a job

never_job : (s : State) (e : Event) (t : Serial) → tests s e ≡ Some (reply.Job t) → ⊥
never_job s e t is =
    elim (answers s e (reply.Job t) is) [
      | inl quiet ↦ absurd (let x : false ≡ true = quiet in cc)
      | inr none ↦ absurd (let x : reply.Job t ≡ reply.Wrote 0 none.1 = none.3 in cc)
    ]

inserted_kind : (m : map.FinMap nat_cmp Request) (next : ℕ) (x : Request) (t : ℕ) (y : Request) → t ≡ next
    → map.get (map.insert m next x) t ≡ Some y → y.kind ≡ x.kind
inserted_kind m next x t y same is =
    elim (get_inserted m next x t) [
      | inl a ↦ let e : y ≡ x = cc (a.1, is) in ap (λ (r : Request). r.kind) e
      | inr a ↦ absurd (a.0 same)
    ]

-- a job that begins a fill is one
pub fill_kind : (h : HandleId) (p : PageIndex) (job : Task) (old new : HeldSeen) (a b : SeatSeen) (slip : Slip)
    → Made (event.FillBegin h p) (reply.Job (record { 0 = job.serial })) old new a b slip
    → IsFillJob new.core.state (Ok (fill.Job job)) → job.kind ≡ Fill
fill_kind h p job old new a b slip m is =
    let s : State = old.core.state in
    elim (answered (tests s (event.FillBegin h p)) s (event.FillBegin h p) (reply.Job (record { 0 = job.serial }))
    new.core.state m.step) [
      | inl k ↦ absurd (never_job s (event.FillBegin h p) (record { 0 = job.serial }) k.0)
      | inr k ↦ ap (λ (t : Task). t.kind) is.2
          ∙ inserted_kind s.requests s.next _ job.serial is.0 k.1.1
          (subst (λ (n : State). map.get n.requests job.serial ≡ Some is.0) k.2 is.1)
    ]

flush_kind : (f : FileId) (job : Task) (old new : HeldSeen) (a b : SeatSeen) (slip : Slip)
    → Made (event.FlushBegin f) (reply.Job (record { 0 = job.serial })) old new a b slip
    → IsFlushJob new.core.state (Ok (flush.Job job)) → job.kind ≡ Flush
flush_kind f job old new a b slip m is =
    let s : State = old.core.state in
    elim (answered (tests s (event.FlushBegin f)) s (event.FlushBegin f) (reply.Job (record { 0 = job.serial }))
    new.core.state m.step) [
      | inl k ↦ absurd (never_job s (event.FlushBegin f) (record { 0 = job.serial }) k.0)
      | inr k ↦ ap (λ (t : Task). t.kind) is.2
          ∙ inserted_kind s.requests s.next _ job.serial is.0 k.1
          (subst (λ (n : State). map.get n.requests job.serial ≡ Some is.0) k.2 is.1)
    ]

-- a job that begins a write is one
pub first_kind : (job : Task) (slip : Slip) (old new : HeldSeen) (a b : SeatSeen) → Writes job slip old new a b
    → IsFlushJob new.core.state (Ok (flush.Job job)) → job.kind ≡ Flush
first_kind job slip old new a b w is = flush_kind w.file job old new a b slip w.made is

-- a step of a sync that begins a write takes the next serial
sync_next : (s : State) (o : Option Sync) (t : Serial) → SyncStepReply s o (reply.Job t) → t.0 ≡ s.next
sync_next s None t r = absurd r
sync_next s (Some y) t r = go (changes.sync_pick s y) (first_awaited s y) r
  where
    go : (p : Option ℕ) (e : Option (ℕ × Request)) → SyncReply s y p e (reply.Job t) → t.0 ≡ s.next
    go (Some p) e r = r
    go None None r = absurd r
    go None (Some e) r = absurd r

sync_inserted : (s : State) (o : Option Sync) (m : ℕ) (t : Serial) (x : Request) → SyncStepReply s o (reply.Job t)
    → map.get (changes.sync_stepped s m o (reply.Job t)).requests t.0 ≡ Some x → x.kind ≡ Flush
sync_inserted s None m t x r is = absurd r
sync_inserted s (Some y) m t x r is = inserted_kind s.requests s.next _ t.0 x (sync_next s (Some y) t r) is

-- a job that a step of a sync begins is a write
sync_kind : (m : SyncId) (job : Task) (old new : HeldSeen) (a b : SeatSeen) (slip : Slip)
    → Made (event.SyncStep m) (reply.Job (record { 0 = job.serial })) old new a b slip
    → IsSyncJob new.core.state (Ok (stepped.Job job)) → job.kind ≡ Flush
sync_kind m job old new a b slip made is =
    let s : State = old.core.state in
    let t : Serial = record { 0 = job.serial } in
    elim (answered (tests s (event.SyncStep m)) s (event.SyncStep m) (reply.Job t) new.core.state made.step) [
      | inl k ↦ absurd (never_job s (event.SyncStep m) t k.0)
      | inr k ↦ ap (λ (j : Task). j.kind) is.2
          ∙ sync_inserted s (map.get s.syncs m.0) m.0 t is.0 k.1
          (subst (λ (n : State). map.get n.requests job.serial ≡ Some is.0) k.2 is.1)
    ]

pub step_kind : (m : SyncId) (y : SyncStepped) (job : Task) (old new : HeldSeen) (a b : SeatSeen) (slip : Slip)
    → y ≡ stepped.Job job → Made (event.SyncStep m) (sync_stepped (Ok y)) old new a b slip → IsSyncJob new.core.state (Ok y)
    → job.kind ≡ Flush
step_kind m y job old new a b slip same made is =
    sync_kind m job old new a b slip
    (subst (λ (x : SyncStepped). Made (event.SyncStep m) (sync_stepped (Ok x)) old new a b slip) same made)
    (subst (λ (x : SyncStepped). IsSyncJob new.core.state (Ok x)) same is)

-- ---- a flusher's turn

-- the seat began this job's request alone
pub writes_begun : (job : Task) (slip : Slip) (old new : HeldSeen) (a b : SeatSeen) → Writes job slip old new a b
    → IsFlushJob new.core.state (Ok (flush.Job job)) → Only (λ e. IsBegun (job.kind, job.serial) e.event e.reply) a b
writes_begun job slip old new a b w is =
    only_by (λ e. IsBegun (job.kind, job.serial) e.event e.reply) (event.FlushBegin w.file)
    (reply.Job (record { 0 = job.serial })) old new a b slip (first_kind job slip old new a b w is, refl) w.made

-- ---- whole calls

-- a write was begun and ended
pub first_settles : (name : ℕ) (job : Task) (slip : Slip) (old new : HeldSeen) (a b c : SeatSeen)
    → Writes job slip old new a b → EndsOne name (Flush, job.serial) b c → Settles name a c
first_settles name job slip old new a b c w ends =
    settles_begun name (Flush, job.serial) (event.FlushBegin w.file) (reply.Job (record { 0 = job.serial })) old new a b c slip
    (refl, refl) w.made ends

-- a fill was begun and ended
pub fill_settles : (name : ℕ) (h : HandleId) (p : PageIndex) (begun : FillBegun) (job : Task) (old new : HeldSeen)
    (a b c : SeatSeen) (slip : Slip) → begun ≡ fill.Job job
    → Made (event.FillBegin h p) (fill_begun (Ok begun)) old new a b slip → EndsOne name (Fill, job.serial) b c
    → Settles name a c
fill_settles name h p begun job old new a b c slip same m ends =
    settles_begun name (Fill, job.serial) (event.FillBegin h p) (reply.Job (record { 0 = job.serial })) old new a b c slip
    (refl, refl) (subst (λ (x : FillBegun). Made (event.FillBegin h p) (fill_begun (Ok x)) old new a b slip) same m) ends

-- the job of a fill is one
pub begun_kind : (h : HandleId) (p : PageIndex) (begun : FillBegun) (job : Task) (old new : HeldSeen) (a b : SeatSeen)
    (slip : Slip) → begun ≡ fill.Job job → Made (event.FillBegin h p) (fill_begun (Ok begun)) old new a b slip
    → IsFillJob new.core.state (Ok begun) → job.kind ≡ Fill
begun_kind h p begun job old new a b slip same m is =
    fill_kind h p job old new a b slip
    (subst (λ (x : FillBegun). Made (event.FillBegin h p) (fill_begun (Ok x)) old new a b slip) same m)
    (subst (λ (x : FillBegun). IsFillJob new.core.state (Ok x)) same is)

-- one that begins no request
pub fill_quiet : {B : Type 0} (x : Kind × ℕ) (h : HandleId) (p : PageIndex) (begun : FillStarted B)
    → ((job : Task) → begun ≡ started.Job job → ⊥) → IsBegun x (event.FillBegin h p) (fill_begun (Ok (as_fill begun))) → ⊥
fill_quiet x h p (started.Job job) never b = never job refl
fill_quiet x h p (started.Gone buffer) never b = b
fill_quiet x h p (started.Wait q buffer) never b = b
fill_quiet x h p (started.Present buffer) never b = b
fill_quiet x h p (started.Filled buffer) never b = b

pub change_begins : (x : Kind × ℕ) (change : Change) (h : HandleId) (bytes : List ℕ) (r : Reply)
    → IsBegun x (noted (event_of change h bytes) r) r → ⊥
change_begins x (Write at) h bytes r b = b
change_begins x Append h bytes r b = b
change_begins x (Truncate size) h bytes r b = b

pub change_ends : (change : Change) (h : HandleId) (bytes : List ℕ) → IsEnd (event_of change h bytes) → ⊥
change_ends (Write at) h bytes is = is
change_ends Append h bytes is = is
change_ends (Truncate size) h bytes is = is

-- ---- pages

room_fills : (p : PageIndex) (e : Event) → IsRoomEvent e → Fills p e → ⊥
room_fills p (event.FillBegin h q) is f = absurd is
room_fills p e is f = absurd f

room_no_other : (p : PageIndex) (e : Event) → IsRoomEvent e → FillsNoOther p e
room_no_other p (event.FillBegin h q) is = absurd is
room_no_other p e is = tt

fills_same : (p q : PageIndex) (e : Event) → FillsNoOther p e → Fills q e → p ≡ q
fills_same p q (event.FillBegin h x) other fills = sym other ∙ fills
fills_same p q e other fills = absurd fills

pub change_fills : (p : PageIndex) (change : Change) (h : HandleId) (bytes : List ℕ) (r : Reply)
    → Fills p (noted (event_of change h bytes) r) → ⊥
change_fills p (Write at) h bytes r f = f
change_fills p Append h bytes r f = f
change_fills p (Truncate size) h bytes r f = f

pub change_noted : (change : Change) (h : HandleId) (bytes : List ℕ) (r : Reply)
    → noted (event_of change h bytes) r ≡ event_of change h bytes
change_noted (Write at) h bytes r = refl
change_noted Append h bytes r = refl
change_noted (Truncate size) h bytes r = refl

pub missed_same : (own : Event) (a b : SeatSeen) → b ≡ a → FillsMissed own a b
missed_same own a b e =
    pairs_same (λ p e. Fills p e.event) (λ p e. (e.event ≡ own) × (e.reply ≡ reply.Miss p)) a b e

missed_seen : (own : Event) (a b : SeatSeen) → Only (λ _. ⊥) a b → FillsMissed own a b
missed_seen own a b p =
    pairs_none (λ p e. Fills p e.event) (λ p e. (e.event ≡ own) × (e.reply ≡ reply.Miss p)) (λ _. ⊥) a b
    (λ x e none is. none) p

pub missed_on : (own : Event) (a b c : SeatSeen) → FillsMissed own a b → FillsMissed own b c → FillsMissed own a c
missed_on own a b c p q =
    pairs_on (λ p e. Fills p e.event) (λ p e. (e.event ≡ own) × (e.reply ≡ reply.Miss p)) a b c p q

pub missed_room : (own : Event) (a b : SeatSeen) → Only (λ e. IsRoomEvent e.event) a b → FillsMissed own a b
missed_room own a b p =
    pairs_none (λ p e. Fills p e.event) (λ p e. (e.event ≡ own) × (e.reply ≡ reply.Miss p)) (λ e. IsRoomEvent e.event) a b
    (λ p e is f. room_fills p e.event is f) p

-- one event that fills nothing
pub missed_by : (own e : Event) (r : Reply) (old new : HeldSeen) (a b : SeatSeen) (slip : Slip)
    → ((p : PageIndex) → Fills p (noted e r) → ⊥) → Made e r old new a b slip → FillsMissed own a b
missed_by own e r old new a b slip never m =
    pairs_none (λ p e. Fills p e.event) (λ p e. (e.event ≡ own) × (e.reply ≡ reply.Miss p)) (λ l. l ≡ entry_of a.number e r) a b
    (λ p l is f. never p (subst (λ (y : Entry). Fills p y.event) is f))
    (only_by (λ l. l ≡ entry_of a.number e r) e r old new a b slip refl m)

module _ (files : Catalog) (sizes : Sizes) (name : ℕ) (whole : Room) where
  pub missed_denied : (own e : Event) (old new : HeldSeen) (a b : SeatSeen) (d : Denied)
      → ((p : PageIndex) (r : Reply) → Fills p (noted e r) → ⊥) → under.IsDenied files sizes name whole e old new a b d → FillsMissed own a b
  missed_denied own e old new a b d never q = go d.refusal d.slip q
    where
      go : (r : Refusal) (o : Option Slip) → under.DeniedBy files sizes name whole e old new a b r o → FillsMissed own a b
      go r None q = missed_seen own a b q.1.shown.only
      go r (Some slip) q = missed_by own e (reply.Refused r) old new a b slip (λ p f. never p (reply.Refused r) f) q

-- the event was answered a missing page, and no other was filled
pub missed_filled : (own : Event) (p : PageIndex) (old new : HeldSeen) (a b c : SeatSeen) (slip : Slip)
    → ((q : PageIndex) (r : Reply) → Fills q (noted own r) → ⊥) → ((r : Reply) → noted own r ≡ own)
    → Made own (reply.Miss p) old new a b slip → Only (λ e. FillsNoOther p e.event) b c → FillsMissed own a c
missed_filled own p old new a b c slip never plain m only =
    pairs_asked (λ p e. Fills p e.event) (λ p e. (e.event ≡ own) × (e.reply ≡ reply.Miss p))
    (λ l. l ≡ entry_of a.number own (reply.Miss p)) (λ l. FillsNoOther p l.event) a b c
    (λ x e l is other fills. (
      ap (λ (y : Entry). y.event) is ∙ plain (reply.Miss p),
      ap (λ (y : Entry). y.reply) is ∙ ap reply.Miss (fills_same p x l.event other fills),
    ))
    (λ x e is fills. never x (reply.Miss p) (subst (λ (y : Entry). Fills x y.event) is fills))
    (only_by (λ l. l ≡ entry_of a.number own (reply.Miss p)) own (reply.Miss p) old new a b slip refl m)
    m.entered.count only

-- ---- fills of one page

other_event : (p : PageIndex) (e : Event) (r : Reply) (old new : HeldSeen) (a b : SeatSeen) (slip : Slip)
    → FillsNoOther p (noted e r) → Made e r old new a b slip → Only (λ l. FillsNoOther p l.event) a b
other_event p e r old new a b slip is m = only_by (λ l. FillsNoOther p l.event) e r old new a b slip is m

pub other_begun : (h : HandleId) (p : PageIndex) (r : Reply) (old new : HeldSeen) (a b : SeatSeen) (slip : Slip)
    → Made (event.FillBegin h p) r old new a b slip → Only (λ l. FillsNoOther p l.event) a b
other_begun h p r old new a b slip m = other_event p (event.FillBegin h p) r old new a b slip refl m

module _ (files : Catalog) (sizes : Sizes) (name : ℕ) (whole : Room) where
  other_denied : (h : HandleId) (p : PageIndex) (old new : HeldSeen) (a b : SeatSeen) (d : Denied)
      → under.IsDenied files sizes name whole (event.FillBegin h p) old new a b d → Only (λ l. FillsNoOther p l.event) a b
  other_denied h p old new a b d q = go d.refusal d.slip q
    where
      go : (r : Refusal) (o : Option Slip) → under.DeniedBy files sizes name whole (event.FillBegin h p) old new a b r o → Only (λ l. FillsNoOther p l.event) a b
      go r None q = only_any (λ l. FillsNoOther p l.event) a b q.1.shown.only
      go r (Some slip) q = other_begun h p (reply.Refused r) old new a b slip q

pub other_room : (p : PageIndex) (a b : SeatSeen) → Only (λ l. IsRoomEvent l.event) a b → Only (λ l. FillsNoOther p l.event) a b
other_room p a b only =
    only_wider (λ l. IsRoomEvent l.event) (λ l. FillsNoOther p l.event) a b (λ l. room_no_other p l.event) only

pub other_on : (p : PageIndex) (a b c : SeatSeen) → Only (λ l. IsRoomEvent l.event) a b → Only (λ l. FillsNoOther p l.event) b c
    → Only (λ l. FillsNoOther p l.event) a c
other_on p a b c before only = only_on (λ l. FillsNoOther p l.event) a b c (other_room p a b before) only

module _ (files : Catalog) (sizes : Sizes) (name : ℕ) (whole : Room) where
  -- it was refused, and room was made
  pub other_relieved : (h : HandleId) (p : PageIndex) (old new : HeldSeen) (a b c : SeatSeen) (d : Denied)
      → under.IsDenied files sizes name whole (event.FillBegin h p) old new a b d → Only (λ l. IsRoomEvent l.event) b c
      → Only (λ l. FillsNoOther p l.event) a c
  other_relieved h p old new a b c d q room =
      only_on (λ l. FillsNoOther p l.event) a b c (other_denied files sizes name whole h p old new a b d q) (other_room p b c room)

one_no_other : (name : ℕ) (x : Kind × ℕ) (p : PageIndex) (e : Event) → IsEnded name x e → FillsNoOther p e
one_no_other name x p (event.FillBegin h q) is = absurd is
one_no_other name x p e is = tt

-- a fill was begun and ended
pub other_filled : (name : ℕ) (h : HandleId) (p : PageIndex) (r : Reply) (t : ℕ) (old new : HeldSeen) (a b c : SeatSeen)
    (slip : Slip) → Made (event.FillBegin h p) r old new a b slip → EndsOne name (Fill, t) b c
    → Only (λ l. FillsNoOther p l.event) a c
other_filled name h p r t old new a b c slip m ends =
    only_on (λ l. FillsNoOther p l.event) a b c (other_begun h p r old new a b slip m)
    (only_wider (λ l. IsEnded name (Fill, t) l.event) (λ l. FillsNoOther p l.event) b c
    (λ l. one_no_other name (Fill, t) p l.event) ends.0)

-- ---- syncs

-- a step of a sync began a write, which was ended
pub step_settles : (name : ℕ) (m : SyncId) (y : SyncStepped) (job : Task) (old new : HeldSeen) (a b c : SeatSeen) (slip : Slip)
    → y ≡ stepped.Job job → Made (event.SyncStep m) (sync_stepped (Ok y)) old new a b slip
    → EndsOne name (Flush, job.serial) b c → Settles name a c
step_settles name m y job old new a b c slip same made ends =
    settles_begun name (Flush, job.serial) (event.SyncStep m) (reply.Job (record { 0 = job.serial })) old new a b c slip
    (refl, refl) (subst (λ (x : SyncStepped). Made (event.SyncStep m) (sync_stepped (Ok x)) old new a b slip) same made) ends

-- a step that began none
pub step_quiet : (name : ℕ) (m : SyncId) (y z : SyncStepped) (old new : HeldSeen) (a b : SeatSeen) (slip : Slip) → y ≡ z
    → ((x : Kind × ℕ) → IsBegun x (noted (event.SyncStep m) (sync_stepped (Ok z))) (sync_stepped (Ok z)) → ⊥)
    → Made (event.SyncStep m) (sync_stepped (Ok y)) old new a b slip → Settles name a b
step_quiet name m y z old new a b slip is never made =
    settles_by name (event.SyncStep m) (sync_stepped (Ok z)) old new a b slip never (λ is. is)
    (subst (λ (x : SyncStepped). Made (event.SyncStep m) (sync_stepped (Ok x)) old new a b slip) is made)

-- a sync was begun
pub sync_settles : (name : ℕ) (h : HandleId) (first last : PageIndex) (m : SyncId) (old new : HeldSeen) (a b : SeatSeen)
    (slip : Slip) → Made (event.SyncBegin h first last) (reply.Sync m) old new a b slip → Settles name a b
sync_settles name h first last m old new a b slip made =
    settles_by name (event.SyncBegin h first last) (reply.Sync m) old new a b slip (λ x b. b) (λ is. is) made

drop_begins : (m : SyncId) (x : Kind × ℕ) (e : Event) (r : Reply) → e ≡ event.SyncDrop m → IsBegun x e r → ⊥
drop_begins m x e r is b = subst (λ (y : Event). IsBegun x y r) is b

settles_dropped : (name : ℕ) (m : SyncId) (a b : SeatSeen) → Only (λ e. e.event ≡ event.SyncDrop m) a b → Settles name a b
settles_dropped name m a b p =
    settles_none name (λ e. e.event ≡ event.SyncDrop m) a b (λ x e. drop_begins m x e.event e.reply)
    (λ e is ends. subst IsEnd is ends) p

-- its turns were refused, and it was dropped
pub dropped_settles : (name : ℕ) (m : SyncId) (a b c e : SeatSeen) → Settles name a b → Settles name b c
    → Only (λ l. l.event ≡ event.SyncDrop m) c e → Settles name a e
dropped_settles name m a b c e p q only =
    settles_on name a b e p (settles_on name b c e q (settles_dropped name m c e only))

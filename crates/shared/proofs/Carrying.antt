-- What became of each write that a flusher began.
use Rattle.std.proofs.Common.{◌≡◌, Bool, ℕ, ◌+◌, ◌<◌, List, [], ◌∷◌, ◌++◌, length, refl, sym, ap, subst, ◌∙◌, arith, append_assoc, length-append, inl, inr}
use Rattle.std.specs.Prelude.{Any, Err, IfErr, IfOk, Ok, Option, Result, Some, None}
use Rattle.std.proofs.lemmas.List.{append-nil, get_or-append-add, get_or_append_left}
use Rattle.blockdev.specs.Jobs.{Task}
use Rattle.machine.specs.declared.event.Event.{Event}
use Rattle.machine.specs.declared.event.Event.TheVariants as event
use Rattle.machine.specs.declared.event.Reply.{Reply}
use Rattle.machine.specs.declared.event.Reply.TheVariants as reply
use Rattle.pc_types.specs.Limits.{Sizes}
use Rattle.machine.specs.Catalogs.{Catalog}
use Rattle.pc_types.specs.declared.refusal.Refusal.{Refusal}
use Rattle.trail.specs.Room.{Room}
use Rattle.held.specs.declared.log.Slip.{Slip}
use Rattle.held.specs.Shown.{HeldSeen, SeatSeen}
use Rattle.held.specs.Called.{Goes, Only}
use Rattle.held.specs.Denials as under
use Rattle.held.specs.Firsts.{IsFirstDenied, Writes}
use Rattle.held.specs.declared.denied.Denied.{Denied}
use Rattle.held.proofs.Seats.{only_any, only_by, only_on, only_same, only_wider}
use Rattle.shared.specs.Denials.{MadeOne}
use Rattle.shared.specs.Workers.{AllCarried, Ends, IsCarried, IsEndAt, IsEndOf, IsFlushed, OnBegun, pushed_by}
use Rattle.shared.specs.declared.turns.Flushed.{Flushed}
use Rattle.shared.specs.declared.turns.Flushed.TheVariants as flushed
use Rattle.shared.specs.declared.worker.Worker.{Worker}
use Rattle.shared.proofs.Making.{makes_on, makes_then}

any_left : {X : Type 0} (P : X → Type 0) (xs ys : List X) → Any P xs → Any P (xs ++ ys)
any_left P xs ys a =
    let less : a.0 < length xs = a.2 in
    (a.0, a.1, omega (arith, less, length-append xs ys), get_or_append_left xs ys a.1 a.0 less ∙ a.3, a.4)

any_right : {X : Type 0} (P : X → Type 0) (xs ys : List X) → Any P ys → Any P (xs ++ ys)
any_right P xs ys a =
    let less : a.0 < length ys = a.2 in
    (length xs + a.0, a.1, omega (arith, less, length-append xs ys), get_or-append-add xs ys a.0 a.1 ∙ a.3, a.4)

-- ---- the writes that a seat began

begun_weaker : (P Q : ℕ → Type 0) → ((t : ℕ) → P t → Q t) → (e : Event) (r : Reply) → OnBegun P e r → OnBegun Q e r
begun_weaker P Q f (event.FlushBegin file) (reply.Job t) x = f t.0 x
begun_weaker P Q f e r x = tt

only_weaker : (P Q : ℕ → Type 0) (a b : SeatSeen) → ((t : ℕ) → P t → Q t) → Only (λ e. OnBegun P e.event e.reply) a b
    → Only (λ e. OnBegun Q e.event e.reply) a b
only_weaker P Q a b f p =
    only_wider (λ e. OnBegun P e.event e.reply) (λ e. OnBegun Q e.event e.reply) a b
    (λ e. begun_weaker P Q f e.event e.reply) p

ends_begun : (P : ℕ → Type 0) (job : Task) (e : Event) (r : Reply) → IsEndOf job e → OnBegun P e r
ends_begun P job (event.End kind end) r x = tt
ends_begun P job e r x = absurd x

only_ends : (P : ℕ → Type 0) (job : Task) (a b : SeatSeen) → Only (λ e. IsEndOf job e.event) a b
    → Only (λ e. OnBegun P e.event e.reply) a b
only_ends P job a b p =
    only_wider (λ e. IsEndOf job e.event) (λ e. OnBegun P e.event e.reply) a b (λ e. ends_begun P job e.event e.reply) p

pub begins_one : (job : Task) (slip : Slip) (old new : HeldSeen) (before after : SeatSeen)
    → Writes job slip old new before after → Only (λ e. OnBegun (λ t. t ≡ job.serial) e.event e.reply) before after
begins_one job slip old new before after w =
    only_by (λ e. OnBegun (λ t. t ≡ job.serial) e.event e.reply) (event.FlushBegin w.file)
    (reply.Job (record { 0 = job.serial })) old new before after slip refl w.made

module _ (files : Catalog) (sizes : Sizes) (name : ℕ) (whole : Room) where
  pub begins_none : (old new : HeldSeen) (before after : SeatSeen) (d : Denied) → IsFirstDenied files sizes name whole old new before after d
      → Only (λ e. OnBegun (λ _. ⊥) e.event e.reply) before after
  begins_none old new before after d q = go d.refusal d.slip q.denied
    where
      go : (r : Refusal) (o : Option Slip) → under.DeniedBy files sizes name whole (event.FlushBegin q.file) old new before after r o
          → Only (λ e. OnBegun (λ _. ⊥) e.event e.reply) before after
      go r None k = only_any (λ e. OnBegun (λ _. ⊥) e.event e.reply) before after k.1.shown.only
      go r (Some slip) k =
          only_by (λ e. OnBegun (λ _. ⊥) e.event e.reply) (event.FlushBegin q.file) (reply.Refused r) old new before after
          slip tt k

-- ---- one turn

pub none_carried : (w : Worker) → AllCarried w w
none_carried w = only_same (λ e. OnBegun (IsCarried w w) e.event e.reply) w.seat w.seat refl

-- no write was begun
pub unbegun_carried : (a b : Worker) → Only (λ e. OnBegun (λ _. ⊥) e.event e.reply) a.seat b.seat → AllCarried a b
unbegun_carried a b p = only_weaker (λ _. ⊥) (IsCarried a b) a.seat b.seat (λ t x. absurd x) p

pub same_carried : (a b : Worker) → b.seat ≡ a.seat → AllCarried a b
same_carried a b e = only_same (λ e. OnBegun (IsCarried a b) e.event e.reply) a.seat b.seat e

-- the job of the write that was begun lies in the ring
pub pushed_carried : (a b : Worker) (job : Task) → Only (λ e. OnBegun (λ t. t ≡ job.serial) e.event e.reply) a.seat b.seat
    → pushed_by b ≡ pushed_by a ++ job ∷ [] → AllCarried a b
pushed_carried a b job p put =
    only_weaker (λ t. t ≡ job.serial) (IsCarried a b) a.seat b.seat
    (λ t e. inl (job ∷ [], put, (0, job, omega arith, refl, sym e))) p

end_at : (job : Task) (e : Event) → IsEndOf job e → IsEndAt job.serial e
end_at job (event.End kind end) x = x.1
end_at job e x = absurd x

-- the write that was begun was ended
pub ended_carried : (a c : Worker) (b : SeatSeen) (job : Task) (slip : Slip) (told : Bool)
    → Only (λ e. OnBegun (λ t. t ≡ job.serial) e.event e.reply) a.seat b → Only (λ e. IsEndOf job e.event) b c.seat
    → Ends job a.seat c.seat slip told → AllCarried a c
ended_carried a c b job slip told p q end =
    only_on (λ e. OnBegun (IsCarried a c) e.event e.reply) a.seat b c.seat
    (only_weaker (λ t. t ≡ job.serial) (IsCarried a c) a.seat b
    (λ t e. inr (end.event, end.reply, slip, subst (λ n. IsEndAt n end.event) (sym e) (end_at job end.event end.is_end), end.made)) p)
    (only_ends (IsCarried a c) job b c.seat q)

-- ---- one turn after another

-- the worker took none of its jobs back
abbrev pub Puts : Worker → Worker → Type 0
Puts a b = (jobs : List Task) × (pushed_by b ≡ pushed_by a ++ jobs)

pub puts_none : (w : Worker) → Puts w w
puts_none w = ([], sym (append-nil (pushed_by w)))

pub puts_on : (a b c : Worker) → Puts a b → Puts b c → Puts a c
puts_on a b c p q =
    (p.0 ++ q.0, q.1 ∙ ap (λ l. l ++ q.0) p.1 ∙ append_assoc (pushed_by a) p.0 q.0)

same_puts : (a b : Worker) → pushed_by b ≡ pushed_by a → Puts a b
same_puts a b e = ([], e ∙ sym (append-nil (pushed_by a)))

pub turn_puts : (files : Catalog) (sizes : Sizes) (name : ℕ) (a b : Worker) (result : Result Flushed Denied) → IfOk result (IsFlushed files sizes name a b)
    → IfErr result (λ d. (pushed_by b ≡ pushed_by a) × MadeOne d.slip a.seat b.seat) → Puts a b
turn_puts files sizes name a b (Ok flushed.Nothing) p q = same_puts a b p.1
turn_puts files sizes name a b (Ok (flushed.Pushed serial slip)) p q = (p.0 ∷ [], p.3)
turn_puts files sizes name a b (Ok (flushed.Ended slip done)) p q = same_puts a b p.4
turn_puts files sizes name a b (Err d) p q = same_puts a b q.0

carried_then : (a b c : Worker) → Goes b.seat c.seat → Puts b c → (t : ℕ) → IsCarried a b t → IsCarried a c t
carried_then a b c goes q t (inl p) = inl (
  p.0 ++ q.0,
  q.1 ∙ ap (λ l. l ++ q.0) p.1 ∙ append_assoc (pushed_by a) p.0 q.0,
  any_left (λ (job : Task). job.serial ≡ t) p.0 q.0 p.2,
)
carried_then a b c goes q t (inr p) = inr (p.0, p.1, p.2, p.3, makes_then a.seat b.seat c.seat p.2 p.0 p.1 p.4 goes)

carried_from : (a b c : Worker) → Goes a.seat b.seat → Puts a b → (t : ℕ) → IsCarried b c t → IsCarried a c t
carried_from a b c goes p t (inl q) = inl (
  p.0 ++ q.0,
  q.1 ∙ ap (λ l. l ++ q.0) p.1 ∙ append_assoc (pushed_by a) p.0 q.0,
  any_right (λ (job : Task). job.serial ≡ t) p.0 q.0 q.2,
)
carried_from a b c goes p t (inr q) = inr (q.0, q.1, q.2, q.3, makes_on a.seat b.seat c.seat q.2 q.0 q.1 goes q.4)

pub carried_on : (a b c : Worker) → Goes a.seat b.seat → Goes b.seat c.seat → Puts a b → Puts b c → AllCarried a b → AllCarried b c
    → AllCarried a c
carried_on a b c first goes put more p q =
    only_on (λ e. OnBegun (IsCarried a c) e.event e.reply) a.seat b.seat c.seat
    (only_weaker (IsCarried a b) (IsCarried a c) a.seat b.seat (carried_then a b c goes more) p)
    (only_weaker (IsCarried b c) (IsCarried a c) b.seat c.seat (carried_from a b c first put) q)

-- ---- how many events a turn made

pub two_made : (first second : Slip) (a b c : SeatSeen) → MadeOne (Some first) a b → MadeOne (Some second) b c
    → c.count ≡ a.count + 2
two_made first second a b c p q = omega (arith, p, q)

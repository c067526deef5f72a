-- How many pages a seat let go, and that pages aged before each.
use Rattle.std.proofs.Common.{◌≡◌, ◌≤◌, ℕ, ◌+◌, ◌-◌, ◌^◌, List, [], ◌∷◌, ◌++◌, Bool, true, false, refl, sym, ap, subst, ◌∙◌, arith, add-zero, append_assoc, eqb-true}
use Rattle.std.specs.Prelude.{All, Option, Some, None, ◌==◌, ◌&&◌, count_by, if◌then◌else◌, is_some, min}
use Rattle.std.proofs.lemmas.List.{append-nil}
use Rattle.std.proofs.lemmas.List.Elements.{All-head, All-tail, All-weaker}
use Rattle.std.proofs.lemmas.List.Sums.{sum_by-append, sum_by-cons}
use Rattle.cachecore.specs.Replies.{evicted}
use Rattle.machine.specs.declared.event.Event.{Event}
use Rattle.machine.specs.declared.event.Event.TheVariants as event
use Rattle.machine.specs.declared.event.Reply.{Reply}
use Rattle.machine.specs.declared.event.Reply.TheVariants as reply
use Rattle.pc_types.specs.declared.ids.FileId.{FileId}
use Rattle.pc_types.specs.declared.ids.PageIndex.{PageIndex}
use Rattle.trail.specs.Entries.{noted}
use Rattle.trail.specs.declared.entry.Entry.{Entry}
use Rattle.held.specs.declared.log.Slip.{Slip}
use Rattle.held.specs.Entered.{Made}
use Rattle.held.specs.Shown.{HeldSeen, SeatSeen}
use Rattle.held.specs.Views.{count_of}
use Rattle.held.specs.Called.{Goes, Only}
use Rattle.held.proofs.Seats.{goes_by, only_any, only_by}
use Rattle.shared.specs.Workers.{LetsGo, is_age, lets_go}

-- such an entry of the seat
abbrev own : (Entry → Bool) → ℕ → Entry → Bool
own such number e = e.seat == number && such e

abbrev went : Entry → Bool
went e = lets_go e.reply

abbrev ages : Entry → Bool
ages e = is_age e.event

one_more : (same such b : Bool) (rest total : ℕ) → (same ≡ true → such ≡ b) → rest ≡ (if b then total else 0)
    → (if same && such then 1 else 0) + rest ≡ (if b then (if same then 1 else 0) + total else 0)
one_more true true true rest total is e = omega arith
one_more true true false rest total is e = absurd (let x : true ≡ false = is refl in cc)
one_more true false true rest total is e = absurd (let x : false ≡ true = is refl in cc)
one_more true false false rest total is e = omega arith
one_more false such true rest total is e = omega arith
one_more false such false rest total is e = omega arith

-- its entries are all such, or none is
counted : (such : Entry → Bool) (number : ℕ) (b : Bool) (xs : List Entry) → All (λ e. e.seat ≡ number → such e ≡ b) xs
    → count_by (own such number) xs ≡ (if b then count_of number xs else 0)
counted such number true [] all = refl
counted such number false [] all = refl
counted such number b (x ∷ xs) all =
    sum_by-cons (λ (e : Entry). if own such number e then 1 else 0) x xs
    ∙ one_more (x.seat == number) (such x) b (count_by (own such number) xs) (count_of number xs)
    (λ same. All-head (λ (e : Entry). e.seat ≡ number → such e ≡ b) x xs all (eqb-true x.seat number same))
    (counted such number b xs (All-tail (λ (e : Entry). e.seat ≡ number → such e ≡ b) x xs all))

-- how many pages the seat let go since, and how often it let pages age
record Steps (pages turns : ℕ) (before after : SeatSeen) : Type 0 where
  since : List Entry
  saw : after.list ≡ before.list ++ since
  gone : pages ≡ count_by (own went before.number) since
  aged : turns ≡ count_by (own ages before.number) since

steps_by : (b c : Bool) (e : Event) (r : Reply) (old new : HeldSeen) (before after : SeatSeen) (slip : Slip) → lets_go r ≡ b
    → is_age (noted e r) ≡ c → Made e r old new before after slip → Steps (if b then 1 else 0) (if c then 1 else 0) before after
steps_by b c e r old new before after slip is kind m =
    let p : Only (λ x. (went x ≡ b) × (ages x ≡ c)) before after =
    only_by (λ x. (went x ≡ b) × (ages x ≡ c)) e r old new before after slip (is, kind) m in
    let one : count_of before.number p.since ≡ 1 = omega (arith, p.count, m.entered.count) in
    record {
      since = p.since;
      saw = p.saw;
      gone = sym (counted went before.number b p.since
          (All-weaker (λ (x : Entry). x.seat ≡ before.number → (went x ≡ b) × (ages x ≡ c)) (λ (x : Entry). x.seat ≡ before.number → went x ≡ b)
          (λ x h same. (h same).0) p.since p.made) ∙ ap (λ k. if b then k else 0) one);
      aged = sym (counted ages before.number c p.since
          (All-weaker (λ (x : Entry). x.seat ≡ before.number → (went x ≡ b) × (ages x ≡ c)) (λ (x : Entry). x.seat ≡ before.number → ages x ≡ c)
          (λ x h same. (h same).1) p.since p.made) ∙ ap (λ k. if c then k else 0) one);
    }

steps_on : (m n k l : ℕ) (a b c : SeatSeen) → Goes a b → Steps m k a b → Steps n l b c → Steps (m + n) (k + l) a c
steps_on m n k l a b c goes p q =
    let same : n ≡ count_by (own went a.number) q.since = q.gone ∙ ap (λ x. count_by (own went x) q.since) goes.same.2 in
    let like : l ≡ count_by (own ages a.number) q.since = q.aged ∙ ap (λ x. count_by (own ages x) q.since) goes.same.2 in
    record {
      since = p.since ++ q.since;
      saw = q.saw ∙ ap (λ x. x ++ q.since) p.saw ∙ append_assoc a.list p.since q.since;
      gone = omega (arith, p.gone, same, sum_by-append (λ (e : Entry). if own went a.number e then 1 else 0) p.since q.since);
      aged = omega (arith, p.aged, like, sum_by-append (λ (e : Entry). if own ages a.number e then 1 else 0) p.since q.since);
    }

gone_in : (m k : ℕ) (a b : SeatSeen) → m ≤ k → Steps m k a b → LetsGo m a b
gone_in m k a b less p = record { since = p.since; saw = p.saw; gone = p.gone; aged = omega (arith, less, p.aged) }

gone_on : (m n : ℕ) (a b c : SeatSeen) → Goes a b → LetsGo m a b → LetsGo n b c → LetsGo (m + n) a c
gone_on m n a b c goes p q =
    let same : n ≡ count_by (own went a.number) q.since = q.gone ∙ ap (λ x. count_by (own went x) q.since) goes.same.2 in
    let like : n ≤ count_by (own ages a.number) q.since =
    subst (λ x. n ≤ count_by (own ages x) q.since) goes.same.2 q.aged in
    record {
      since = p.since ++ q.since;
      saw = q.saw ∙ ap (λ l. l ++ q.since) p.saw ∙ append_assoc a.list p.since q.since;
      gone = omega (arith, p.gone, same, sum_by-append (λ (e : Entry). if own went a.number e then 1 else 0) p.since q.since);
      aged = omega (arith, p.aged, like, sum_by-append (λ (e : Entry). if own ages a.number e then 1 else 0) p.since q.since);
    }

-- pages aged, and then one was let go or none was idle
pub evicted_gone : (n : ℕ) (page : Option (FileId × PageIndex)) (x y z w : HeldSeen) (a b c : SeatSeen) (first slip : Slip)
    → Made event.Age (reply.Aged n) x y a b first → Made event.Evict (evicted page) z w b c slip
    → LetsGo (if is_some page then 1 else 0) a c
evicted_gone n page x y z w a b c first slip m k =
    let most : (if is_some page then 1 else 0) ≤ 1 = at_most_one (is_some page) in
    let alone : 0 + (if is_some page then 1 else 0) ≡ (if is_some page then 1 else 0) = omega arith in
    subst (λ pages. LetsGo pages a c) alone
    (gone_in (0 + (if is_some page then 1 else 0)) (1 + 0) a c (omega (arith, most))
    (steps_on 0 (if is_some page then 1 else 0) 1 0 a b c (goes_by event.Age (reply.Aged n) x y a b first m)
    (steps_by false true event.Age (reply.Aged n) x y a b first refl refl m)
    (steps_by (is_some page) false event.Evict (evicted page) z w b c slip (let_go page) (no_age page) k)))
  where
    at_most_one : (b : Bool) → (if b then 1 else 0) ≤ 1
    at_most_one true = omega arith
    at_most_one false = omega arith

    let_go : (o : Option (FileId × PageIndex)) → lets_go (evicted o) ≡ is_some o
    let_go (Some o) = refl
    let_go None = refl

    no_age : (o : Option (FileId × PageIndex)) → is_age (noted event.Evict (evicted o)) ≡ false
    no_age (Some o) = refl
    no_age None = refl

-- a seat that only saw more let none go
pub shown_gone : (before after : SeatSeen) → Only (λ _. ⊥) before after → LetsGo 0 before after
shown_gone before after p =
    let q = only_any (λ x. went x ≡ false) before after p in
    record {
      since = q.since;
      saw = q.saw;
      gone = sym (counted went before.number false q.since q.made);
      aged = omega arith;
    }

-- ---- the count of a turn

abbrev pub Counts : SeatSeen → SeatSeen → ℕ → Type 0
Counts before after n = (pages : ℕ) × LetsGo pages before after × (n ≡ min pages (2 ^ 64 - 1))

pub none_gone : (before after : SeatSeen) → after ≡ before → Counts before after 0
none_gone before after e = (0, subst (LetsGo 0 before) (sym e) none, refl)
  where
    none : LetsGo 0 before before
    none = record { since = []; saw = sym (append-nil before.list); gone = refl; aged = omega arith }

pub last_gone : (a b c : SeatSeen) (n : ℕ) → Goes a b → Counts a b n → LetsGo 0 b c → Counts a c n
last_gone a b c n goes p q =
    (p.0 + 0, gone_on p.0 0 a b c goes p.1 q, p.2 ∙ ap (λ k. min k (2 ^ 64 - 1)) (sym (add-zero p.0)))

pub more_gone : (a b c : SeatSeen) (n m : ℕ) → m ≡ min (n + 1) (2 ^ 64 - 1) → Goes a b → Counts a b n → LetsGo 1 b c
    → Counts a c m
more_gone a b c n m e goes p q = (p.0 + 1, gone_on p.0 1 a b c goes p.1 q, let x = p.2 in omega (arith, e, x))

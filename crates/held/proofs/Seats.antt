-- What events and calls leave of a seat.
use Rattle.std.proofs.Common.{◌≡◌, ℕ, ◌+◌, List, [], ◌∷◌, ◌++◌, refl, sym, ap, subst, ◌∙◌, arith, append_assoc, eq-eqb}
use Rattle.std.specs.Prelude.{All, if◌then◌else◌, ◌==◌}
use Rattle.std.proofs.lemmas.List.{append-nil}
use Rattle.std.proofs.lemmas.List.Elements.{All-append, All-cons, All-nil, All-push, All-weaker}
use mathlib.Core.List.{IsPrefix}
use Rattle.errseq.proofs.Prefixes.{prefix_self, prefix_trans, prefix_more}
use Rattle.machine.specs.declared.event.Event.{Event}
use Rattle.machine.specs.declared.event.Reply.{Reply}
use Rattle.trail.specs.declared.entry.Entry.{Entry}
use Rattle.trail.specs.Entries.{entry_of}
use Rattle.held.specs.declared.log.Slip.{Slip}
use Rattle.held.specs.Entered.{Made}
use Rattle.held.specs.Shown.{HeldSeen, SeatSeen}
use Rattle.held.specs.Views.{count_of}
use Rattle.held.specs.Called.{Goes, IsShown, Once, Only}

pub goes_by : (e : Event) (r : Reply) (old new : HeldSeen) (before after : SeatSeen) (slip : Slip)
    → Made e r old new before after slip → Goes before after
goes_by e r old new before after slip m = record {
  same = m.entered.seat;
  grows = subst (IsPrefix before.list) (sym (m.entered.sees ∙ m.entered.history))
      (prefix_more before.list old.log.history (entry_of before.number e r) m.entered.saw);
  count = let c = m.entered.count in omega arith;
}

pub goes_same : (before after : SeatSeen) → after ≡ before → Goes before after
goes_same before after e = subst (Goes before) (sym e)
    (record { same = (refl, refl, refl); grows = prefix_self before.list; count = omega arith })

pub goes_on : (a b c : SeatSeen) → Goes a b → Goes b c → Goes a c
goes_on a b c p q = record {
  same = (q.same.0 ∙ p.same.0, q.same.1 ∙ p.same.1, q.same.2 ∙ p.same.2);
  grows = prefix_trans a.list b.list c.list p.grows q.grows;
  count = let x = p.count in let y = q.count in omega arith;
}

-- ---- what a seat made meanwhile

count_both : (number : ℕ) (xs ys : List Entry) → count_of number (xs ++ ys) ≡ count_of number xs + count_of number ys
count_both number [] ys = let n : ℕ = count_of number ys in let same : n ≡ 0 + n = omega arith in same
count_both number (x ∷ xs) ys =
    let one : ℕ = if x.seat == number then 1 else 0 in omega (arith, count_both number xs ys)

-- of so many entries none is the seat's
none_made : (own : Entry → Type 0) (number : ℕ) (xs : List Entry) → count_of number xs ≡ 0
    → All (λ e. e.seat ≡ number → own e) xs
none_made own number [] none = All-nil (λ (e : Entry). e.seat ≡ number → own e)
none_made own number (x ∷ xs) none =
    All-cons (λ (e : Entry). e.seat ≡ number → own e) x xs
    (λ same. absurd (
    let first : ℕ = if x.seat == number then 1 else 0 in
    let one : first ≡ 1 = ap (λ b. if b then 1 else 0) (eq-eqb x.seat number same) in
    omega (arith, none, one)))
    (none_made own number xs (let first : ℕ = if x.seat == number then 1 else 0 in omega (arith, none)))

pub only_by : (own : Entry → Type 0) (e : Event) (r : Reply) (old new : HeldSeen) (before after : SeatSeen) (slip : Slip)
    → own (entry_of before.number e r) → Made e r old new before after slip → Only own before after
only_by own e r old new before after slip is m =
    let entry : Entry = entry_of before.number e r in
    let others : List Entry = m.entered.saw.0 in
    let there : before.list ++ others ≡ old.log.history = m.entered.saw.1 in
    let none : count_of before.number others ≡ 0 =
    omega (
      arith,
      sym (count_both before.number before.list others) ∙ ap (count_of before.number) there,
      m.entered.counted,
      m.entered.own,
    ) in
    let here : count_of before.number (entry ∷ []) ≡ 1 =
    ap (λ b. (if b then 1 else 0) + 0) (eq-eqb before.number before.number refl) in
    record {
      same = m.entered.seat.2;
      since = others ++ entry ∷ [];
      saw = m.entered.sees ∙ m.entered.history ∙ ap (λ l. l ++ entry ∷ []) (sym there)
          ∙ append_assoc before.list others (entry ∷ []);
      made = All-push (λ (x : Entry). x.seat ≡ before.number → own x) others entry
          (none_made own before.number others none) (λ same. is);
      count = omega (arith, m.entered.count, count_both before.number others (entry ∷ []), here, none);
    }

-- one that sees the history as it is made nothing meanwhile
pub only_shown : (before after : SeatSeen) (history : List Entry) → after.number ≡ before.number → after.list ≡ history
    → after.count ≡ before.count → IsPrefix before.list history → before.count ≡ count_of before.number history
    → before.count ≡ count_of before.number before.list → Only (λ _. ⊥) before after
only_shown before after history number list count begins counted own =
    let others : List Entry = begins.0 in
    let there : before.list ++ others ≡ history = begins.1 in
    let none : count_of before.number others ≡ 0 =
    omega (arith, sym (count_both before.number before.list others) ∙ ap (count_of before.number) there, counted, own) in
    record {
      same = number;
      since = others;
      saw = list ∙ sym there;
      made = none_made (λ _. ⊥) before.number others none;
      count = omega (arith, count, none);
    }

pub goes_shown : (before after : SeatSeen) (history : List Entry) → after ≡ record before { list = history }
    → Only (λ _. ⊥) before after → Goes before after
goes_shown before after history is p = record {
  same = (ap (λ (s : SeatSeen). s.table) is, ap (λ (s : SeatSeen). s.name) is, ap (λ (s : SeatSeen). s.number) is);
  grows = (p.since, sym p.saw);
  count = let c = ap (λ (s : SeatSeen). s.count) is in omega (arith, c);
}

-- one that is shown a history, and no more
pub shown_as : (before after : SeatSeen) (history : List Entry) → after ≡ record before { list = history }
    → Only (λ _. ⊥) before after → IsShown before after
shown_as before after history is p = record {
  same = is ∙ ap (λ l. record before { list = l }) (sym (ap (λ (s : SeatSeen). s.list) is));
  only = p;
}

pub goes_seen : (before after : SeatSeen) → IsShown before after → Goes before after
goes_seen before after p = goes_shown before after after.list p.same p.only

-- whatever its own entries are asked to be
pub only_any : (own : Entry → Type 0) (before after : SeatSeen) → Only (λ _. ⊥) before after → Only own before after
only_any own before after p = record {
  same = p.same;
  since = p.since;
  saw = p.saw;
  made = All-weaker (λ (x : Entry). x.seat ≡ before.number → ⊥)
      (λ (x : Entry). x.seat ≡ before.number → own x) (λ x none same. absurd (none same)) p.since p.made;
  count = p.count;
}

pub only_same : (own : Entry → Type 0) (before after : SeatSeen) → after ≡ before → Only own before after
only_same own before after e = subst (Only own before) (sym e) (record {
  same = refl;
  since = [];
  saw = sym (append-nil before.list);
  made = All-nil (λ (x : Entry). x.seat ≡ before.number → own x);
  count = omega arith;
})

pub shown_same : (before after : SeatSeen) → after ≡ before → IsShown before after
shown_same before after e = subst (IsShown before) (sym e) (record { same = refl; only = only_same (λ _. ⊥) before before refl })

pub only_on : (own : Entry → Type 0) (a b c : SeatSeen) → Only own a b → Only own b c → Only own a c
only_on own a b c p q =
    let renamed : count_of b.number q.since ≡ count_of a.number q.since = ap (λ n. count_of n q.since) p.same in
    record {
      same = q.same ∙ p.same;
      since = p.since ++ q.since;
      saw = q.saw ∙ ap (λ l. l ++ q.since) p.saw ∙ append_assoc a.list p.since q.since;
      made = All-append (λ (x : Entry). x.seat ≡ a.number → own x) p.since q.since p.made
          (subst (λ n. All (λ (x : Entry). x.seat ≡ n → own x) q.since) p.same q.made);
      count = omega (arith, p.count, q.count, count_both a.number p.since q.since, renamed);
    }

pub only_wider : (own wider : Entry → Type 0) (before after : SeatSeen) → ((e : Entry) → own e → wider e)
    → Only own before after → Only wider before after
only_wider own wider before after f p = record {
  same = p.same;
  since = p.since;
  saw = p.saw;
  made = All-weaker (λ (x : Entry). x.seat ≡ before.number → own x)
      (λ (x : Entry). x.seat ≡ before.number → wider x) (λ x is same. f x (is same)) p.since p.made;
  count = p.count;
}

-- ---- one event past tries

pub once_by : (tries : Entry → Type 0) (e : Event) (r : Reply) (old new : HeldSeen) (before after : SeatSeen) (slip : Slip)
    → Made e r old new before after slip → Once tries before after
once_by tries e r old new before after slip m = record {
  at = before;
  tried = only_same tries before before refl;
  last = only_by (λ _. Unit {0}) e r old new before after slip tt m;
  one = m.entered.count;
}

pub once_on : (tries : Entry → Type 0) (a b c : SeatSeen) → Only tries a b → Once tries b c → Once tries a c
once_on tries a b c p q = record {
  at = q.at;
  tried = only_on tries a b q.at p q.tried;
  last = q.last;
  one = q.one;
}

-- What every call keeps, one call after another.
use Rattle.std.proofs.Common.{◌≡◌, ◌≢◌, ℕ, suc, ◌+◌, ◌≤◌, Bool, true, eq-eqb, ne_eqb, List, [], ◌∷◌, ◌++◌, refl, ap, sym, subst, ◌∙◌, arith}
use Rattle.std.proofs.lemmas.List.Elements.{All-append, All-cons, All-nil, All-weaker}
use Rattle.std.specs.Prelude.{All, Option, None, ◌==◌, if◌then◌else◌}
use mathlib.Core.Logic.{dite}
use native.Mathlib.Decide.{ℕ_discrete}
use Rattle.errseq.proofs.Prefixes.{prefix_length, prefix_self, prefix_trans}
use Rattle.pc_types.specs.declared.ids.PageIndex.{PageIndex}
use Rattle.machine.specs.declared.event.Reply.{Reply}
use Rattle.world.specs.declared.step.Step.{Step}
use Rattle.world.specs.Stepping.{WorldSeen, Plays, Steps}
use Rattle.filesvc.specs.Attempts.{Helps}
use Rattle.filesvc.specs.Made.{Moves, Tries, Try}
use Rattle.filesvc.specs.Seen.{SoloSeen}
use Rattle.filesvc.specs.Service.{Keeps, Serves, failures_of}

-- where no write failed, a file has an error that nobody was told of as before
pub since_same : (u : Bool) (n m : ℕ) → m ≡ n → u ≡ (if m == n then u else true)
since_same u n m e = sym (ap (λ t. if t then u else true) (eq-eqb m n e))

since_failed : (u : Bool) (n m : ℕ) → m ≢ n → (if m == n then u else true) ≡ true
since_failed u n m e = ap (λ t. if t then u else true) (ne_eqb m n e)

-- in two calls, one after the other
since_trans : (u v w : Bool) (a b c : ℕ) → a ≤ b → b ≤ c → v ≡ (if b == a then u else true) → w ≡ (if c == b then v else true) → w ≡ (if c == a then u else true)
since_trans u v w a b c p q x y = dite (ℕ_discrete c a)
    (λ e. let first : b ≡ a = omega arith in let second : c ≡ b = omega arith in y ∙ sym (since_same v b c second) ∙ x ∙ sym (since_same u a b first) ∙ since_same u a c e)
    (λ n. dite (ℕ_discrete c b)
    (λ e. let first : b ≢ a = (λ k. n (e ∙ k)) in y ∙ sym (since_same v b c e) ∙ x ∙ since_failed u a b first ∙ sym (since_failed u a c n))
    (λ m. y ∙ since_failed v b c m ∙ sym (since_failed u a c n)))

-- no call takes a failure back
failures_rise : (a b : SoloSeen) → Keeps a b → (f : ℕ) → failures_of a f ≤ failures_of b f
failures_rise a b k f = let more = prefix_length _ _ (k.recorded f) in let same = k.noted f in omega arith

-- how many attempts were made is of no matter
pub keeps_counted : (a b : SoloSeen) (m n : ℕ) → Keeps a b → Keeps (record a { attempts = m }) (record b { attempts = n })
keeps_counted a b m n k = record { name = k.name; sizes = k.sizes; handles = k.handles; count = k.count; board = k.board; opening = k.opening; recorded = k.recorded; noted = k.noted; coded = k.coded; untold = k.untold; tells = k.tells; faults = k.faults }

pub serves_counted : (a b : SoloSeen) (m n : ℕ) → Serves a b → Serves (record a { attempts = m }) (record b { attempts = n })
serves_counted a b m n s = record { keeps = keeps_counted a b m n s.keeps; lengths = s.lengths; files = s.files }

pub keeps_refl : (a : SoloSeen) → Keeps a a
keeps_refl a = record { name = refl; sizes = refl; handles = refl; count = refl; board = refl; opening = refl; recorded = λ f. prefix_self _; noted = λ f. refl; coded = λ same. same; untold = λ f _. since_same _ _ _ refl; tells = refl; faults = omega arith }

pub serves_refl : (a : SoloSeen) → Serves a a
serves_refl a = record { keeps = keeps_refl a; lengths = λ f. refl; files = λ _. refl }

pub keeps_trans : (a b c : SoloSeen) → Keeps a b → Keeps b c → Keeps a c
keeps_trans a b c k l = record {
  name = l.name ∙ k.name;
  sizes = l.sizes ∙ k.sizes;
  handles = l.handles ∙ k.handles;
  count = l.count ∙ k.count;
  board = l.board ∙ k.board;
  opening = l.opening ∙ k.opening;
  recorded = λ f. prefix_trans _ _ _ (k.recorded f) (l.recorded f);
  noted = λ f. (let x = k.noted f in let y = l.noted f in omega arith);
  coded = λ same. l.coded (k.coded same);
  untold = λ f _. since_trans _ _ _ _ _ _ (failures_rise a b k f) (failures_rise b c l f) (k.untold f refl) (l.untold f refl);
  tells = l.tells ∙ k.tells;
  faults = (let x = k.faults in let y = l.faults in omega arith);
}

pub serves_trans : (a b c : SoloSeen) → Serves a b → Serves b c → Serves a c
serves_trans a b c s t = record { keeps = keeps_trans a b c s.keeps t.keeps; lengths = λ f. t.lengths f ∙ s.lengths f; files = λ tells. t.files (s.keeps.tells ∙ tells) ∙ s.files tells }

-- ---- steps of the world, one list after another

plays_append : (ss : List Step) (rs : List Reply) (ss' : List Step) (rs' : List Reply) (a b c : WorldSeen) → Plays a ss rs b
    → Plays b ss' rs' c → Plays a (ss ++ ss') (rs ++ rs') c
plays_append [] [] ss' rs' a b c p q = subst (λ x. Plays x ss' rs' c) p q
plays_append [] (r ∷ rs) ss' rs' a b c p q = absurd p
plays_append (s ∷ ss) [] ss' rs' a b c p q = absurd p
plays_append (s ∷ ss) (r ∷ rs) ss' rs' a b c p q = (p.0, p.1, plays_append ss rs ss' rs' p.0 b c p.2 q)

pub moves_refl : (k : Step → Bool) (a : WorldSeen) → Moves k a a
moves_refl k a = record { steps = []; replies = []; plays = refl; each = All-nil _ }

pub moves_trans : (k : Step → Bool) (a b c : WorldSeen) → Moves k a b → Moves k b c → Moves k a c
moves_trans k a b c m n = record {
  steps = m.steps ++ n.steps;
  replies = m.replies ++ n.replies;
  plays = plays_append m.steps m.replies n.steps n.replies a b c m.plays n.plays;
  each = All-append (λ s. k s ≡ true) m.steps n.steps m.each n.each;
}

-- steps of one kind that are all of another
pub moves_also : (k l : Step → Bool) → ((s : Step) → k s ≡ true → l s ≡ true) → (a b : WorldSeen) → Moves k a b → Moves l a b
moves_also k l also a b m = record {
  steps = m.steps;
  replies = m.replies;
  plays = m.plays;
  each = All-weaker (λ s. k s ≡ true) (λ s. l s ≡ true) also m.steps m.each;
}

pub one_move : (k : Step → Bool) (a b : WorldSeen) (s : Step) (r : Reply) → k s ≡ true → Steps a s r b → Moves k a b
one_move k a b s r is m = record { steps = s ∷ []; replies = r ∷ []; plays = (b, m, refl); each = All-cons (λ x. k x ≡ true) s [] is (All-nil _) }

pub three : (k : Step → Bool) (a b c : Step) → k a ≡ true → k b ≡ true → k c ≡ true
    → All (λ s. k s ≡ true) (a ∷ b ∷ c ∷ [])
three k a b c x y z = All-cons is a (b ∷ c ∷ []) x (All-cons is b (c ∷ []) y (All-cons is c [] z (All-nil is)))
  where
    is : Step → Type 0
    is s = k s ≡ true

-- ---- steps that help a call

pub helps_refl : {k : ℕ} {page : Option PageIndex} (a : SoloSeen) → Helps k page a a
helps_refl a = record { serves = serves_refl a; moves = moves_refl _ a.world }

pub helps_trans : {k : ℕ} {page : Option PageIndex} (a b c : SoloSeen) → Helps k page a b → Helps k page b c → Helps k page a c
helps_trans a b c h k = record { serves = serves_trans a b c h.serves k.serves; moves = moves_trans _ a.world b.world c.world h.moves k.moves }

-- ---- attempts

pub tries_again : (own : Step) (a b c : WorldSeen) (n m : ℕ) → m ≡ n + 1 → Tries own a n b → Try own b None c → Tries own a m c
tries_again own a b c n m e t x = let k : suc n ≡ m = omega arith in subst (λ j. Tries own a j c) k (b, t, x)

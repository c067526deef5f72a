use Rattle.std.proofs.Common.{◌+◌, ◌*◌, ◌/◌, ◌%◌, ◌^◌, sym, ap, ◌∙◌, arith}
use Rattle.std.proofs.lemmas.Bool.{MatchBool-at_true, MatchBool-at_false}
use Rattle.std.proofs.lemmas.Nat.{one_shl}
use Rattle.xarray.proofs.CallLemmas.{apart_reach, follows_reach}
use Rattle.xarray.proofs.ranged.Ranged.reaches.Goals as goal

pub returns : goal.returns
returns c = λ r there. follows_reach c.self.inside.nodes c.self.invariant c.args.first c.args.level c.args.step (rw (sym c.self.view_is) at c.requires.there) c.requires.step r (rw (sym c.self.view_is) at there) (c.place_at.result % 64 + 1 * 2 ^ c.args.step % 2 ^ 64) (ap (λ z. z % 64 + 1 * 2 ^ c.args.step % 2 ^ 64) c.place_at.ensures ∙ ap (λ z. c.args.first / 64 ^ c.args.level % 64 + z) (one_shl c.args.step 64 (omega (arith, c.requires.step)))) (MatchBool-at_true _ _ c.if-not-follows.false c.follows.ensures)

pub returns-then-not-follows : goal.returns-then-not-follows
returns-then-not-follows c = λ r there. apart_reach c.self.inside.nodes c.self.invariant c.args.first c.args.level c.args.step (rw (sym c.self.view_is) at c.requires.there) c.requires.step r (rw (sym c.self.view_is) at there) (c.place_at.result % 64 + 1 * 2 ^ c.args.step % 2 ^ 64) (ap (λ z. z % 64 + 1 * 2 ^ c.args.step % 2 ^ 64) c.place_at.ensures ∙ ap (λ z. c.args.first / 64 ^ c.args.level % 64 + z) (one_shl c.args.step 64 (omega (arith, c.requires.step)))) (MatchBool-at_false _ _ c.if-not-follows.true c.follows.ensures)

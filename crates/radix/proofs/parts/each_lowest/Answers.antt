use Rattle.std.proofs.Common.{◌≡◌, refl, arith}
use Rattle.radix.proofs.FirstsLemmas.{firsts-from}
use Rattle.radix.proofs.parts.each_lowest.Goals as goal

pub returns-in-0 : goal.returns-in-0
returns-in-0 c = rw (c.in-0.is) (firsts-from 18446744073709551615 0 refl)

pub returns-in-1 : goal.returns-in-1
returns-in-1 c = rw (c.in-1.is) (firsts-from 6148914691236517205 1 refl)

pub returns-in-2 : goal.returns-in-2
returns-in-2 c = rw (c.in-2.is) (firsts-from 1229782938247303441 2 refl)

pub returns-in-3 : goal.returns-in-3
returns-in-3 c = rw (c.in-3.is) (firsts-from 72340172838076673 3 refl)

pub returns-in-4 : goal.returns-in-4
returns-in-4 c = rw (c.in-4.is) (firsts-from 281479271743489 4 refl)

pub returns-in_default : goal.returns-in_default
returns-in_default c = let e : c.args.step ≡ 5 = omega (arith, c.in_default, c.requires) in rw e (firsts-from 4294967297 5 refl)

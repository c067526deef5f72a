use Rattle.std.proofs.Common.{sym, ap, subst, ◌∙◌, ◌+◌, ◌-◌, ◌*◌, ◌%◌, ◌^◌, ℕ, option_map, Some}
use Rattle.std.specs.FinMap as map
use Rattle.blockmap.specs.Blocks.{Spots}
use Rattle.blockmap.specs.Keys.{IsFirstFrom, NoneFrom}
use Rattle.blockmap.specs.Told.{told}
use Rattle.blockmap.proofs.PlaceLemmas.{below_most}
use Rattle.blockmap.proofs.SpotLemmas.{found_fits, none_beyond, search_found, search_none, search_spot}
use Rattle.blockmap.proofs.spots.Spots.next.Goals as goal

pub returns-then-not-has_key-clause-none : goal.returns-then-not-has_key-clause-none
returns-then-not-has_key-clause-none c = subst (λ (s : Spots). NoneFrom s c.args.file c.args.from) c.self.view_is (none_beyond c.self.inside.width.bits c.self.inside.array.ranges c.args.file c.args.from c.if-not-has_key.ensures)

pub placed_of-requires : goal.placed_of-requires
placed_of-requires c =
    let w = c.self.inside.width in
    let last = c.key-last.ensures ∙ ap (λ (n : ℕ). c.args.file * 2 ^ w.bits + (n - 1)) c.pages.ensures in
    found_fits w.bits c.self.inside.array.ranges c.args.file c.args.from c.key.result c.key-last.result c.in-Some.found (below_most w.bits w.is.most) c.self.invariant c.key.ensures last c.in-Some.ensures

pub returns-in-Some-clause-found : goal.returns-in-Some-clause-found
returns-in-Some-clause-found c =
    let w = c.self.inside.width in
    let last = c.key-last.ensures ∙ ap (λ (n : ℕ). c.args.file * 2 ^ w.bits + (n - 1)) c.pages.ensures in
    let found = search_found w.bits c.self.inside.array.ranges c.args.file c.args.from c.key.result c.key-last.result c.in-Some.found (below_most w.bits w.is.most) c.self.invariant c.key.ensures last c.in-Some.ensures in
    subst (λ (p : ℕ × ℕ). IsFirstFrom c.args.self.now c.args.file c.args.from p.1) (sym c.place-page.ensures)
    (subst (λ (s : Spots). IsFirstFrom s c.args.file c.args.from (c.in-Some.found.first % 2 ^ w.bits)) c.self.view_is found)

pub returns-in-Some-clause-spot : goal.returns-in-Some-clause-spot
returns-in-Some-clause-spot c =
    let w = c.self.inside.width in
    let last = c.key-last.ensures ∙ ap (λ (n : ℕ). c.args.file * 2 ^ w.bits + (n - 1)) c.pages.ensures in
    let read = search_spot w.bits c.self.inside.array.ranges c.args.file c.args.from c.key.result c.key-last.result c.in-Some.found (below_most w.bits w.is.most) c.self.invariant c.key.ensures last c.in-Some.ensures in
    ap Some c.placed_of.ensures
    ∙ ap (option_map told) (sym read ∙ ap (λ (s : Spots). map.get s (c.args.file, c.in-Some.found.first % 2 ^ w.bits)) c.self.view_is
    ∙ ap (λ (p : ℕ × ℕ). map.get c.args.self.now (c.args.file, p.1)) (sym c.place-page.ensures))

pub returns-in-None-clause-none : goal.returns-in-None-clause-none
returns-in-None-clause-none c =
    let w = c.self.inside.width in
    let last = c.key-last.ensures ∙ ap (λ (n : ℕ). c.args.file * 2 ^ w.bits + (n - 1)) c.pages.ensures in
    subst (λ (s : Spots). NoneFrom s c.args.file c.args.from) c.self.view_is
    (search_none w.bits c.self.inside.array.ranges c.args.file c.args.from c.key.result c.key-last.result c.self.invariant c.key.ensures last c.in-None.ensures)

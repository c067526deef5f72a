use Rattle.std.proofs.Common.{sym, ap, subst, ◌∙◌, option_map, Some}
use Rattle.std.specs.FinMap as map
use Rattle.xarray.specs.MarkedArray.{Array}
use Rattle.blockmap.specs.Blocks.{Spots}
use Rattle.blockmap.specs.Keys.{AreSpots, spots}
use Rattle.blockmap.specs.Told.{told}
use Rattle.blockmap.proofs.SpotLemmas.{erased-are, erased-spots, get-beyond, gone_beyond, none_read, spot_read, word_fits}
use Rattle.blockmap.proofs.spots.Spots.remove.Goals as goal

pub returns-then-not-has_key-clause-had : goal.returns-then-not-has_key-clause-had
returns-then-not-has_key-clause-had c =
    let none = get-beyond c.self.inside.width.bits c.self.inside.array.ranges c.args.file c.args.page c.if-not-has_key.ensures in
    ap (option_map told) (sym none ∙ ap (λ (s : Spots). map.get s (c.args.file, c.args.page)) c.self.view_is)

pub returns-then-not-has_key-clause-gone : goal.returns-then-not-has_key-clause-gone
returns-then-not-has_key-clause-gone c =
    sym c.self.view_is
    ∙ gone_beyond c.self.inside.width.bits c.self.inside.array.ranges c.args.file c.args.page c.if-not-has_key.ensures
    ∙ ap (λ (s : Spots). map.remove s (c.args.file, c.args.page)) c.self.view_is

pub placed_of-requires : goal.placed_of-requires
placed_of-requires c = word_fits c.self.inside.width.bits c.self.inside.array.ranges c.key.result c.in-Some.word c.self.invariant c.in-Some.ensures.before

pub invariant_of-self : goal.invariant_of-self
invariant_of-self c = subst (λ (a : Array). AreSpots c.self.inside.width.bits a.ranges) (sym c.erase.ensures.erases) (erased-are c.self.inside.width.bits c.self.inside.array.ranges c.key.result c.self.invariant)

pub invariant_of-self-2 : goal.invariant_of-self-2
invariant_of-self-2 c = subst (λ (a : Array). AreSpots c.self.inside.width.bits a.ranges) (sym c.erase.ensures.erases) (erased-are c.self.inside.width.bits c.self.inside.array.ranges c.key.result c.self.invariant)

pub returns-clause-had : goal.returns-clause-had
returns-clause-had c =
    let read = spot_read c.self.inside.width.bits c.self.inside.array.ranges c.key.result c.in-Some.word c.args.file c.args.page c.self.invariant c.if-not-has_key.ensures c.key.ensures c.in-Some.ensures.before in
    ap Some c.placed_of.ensures ∙ ap (option_map told) (sym read ∙ ap (λ (s : Spots). map.get s (c.args.file, c.args.page)) c.self.view_is)

pub returns-in_default-clause-had : goal.returns-in_default-clause-had
returns-in_default-clause-had c =
    let read = none_read c.self.inside.width.bits c.self.inside.array.ranges c.key.result c.args.file c.args.page c.self.invariant c.if-not-has_key.ensures c.key.ensures c.in_default.ensures.before in
    ap (option_map told) (sym read ∙ ap (λ (s : Spots). map.get s (c.args.file, c.args.page)) c.self.view_is)

pub returns-clause-gone : goal.returns-clause-gone
returns-clause-gone c =
    ap (λ (a : Array). spots c.self.inside.width.bits a.ranges) c.erase.ensures.erases
    ∙ erased-spots c.self.inside.width.bits c.self.inside.array.ranges c.key.result c.args.file c.args.page c.self.invariant c.if-not-has_key.ensures c.key.ensures
    ∙ ap (λ (s : Spots). map.remove s (c.args.file, c.args.page)) c.self.view_is

pub returns-in_default-clause-gone : goal.returns-in_default-clause-gone
returns-in_default-clause-gone c =
    ap (λ (a : Array). spots c.self.inside.width.bits a.ranges) c.erase.ensures.erases
    ∙ erased-spots c.self.inside.width.bits c.self.inside.array.ranges c.key.result c.args.file c.args.page c.self.invariant c.if-not-has_key.ensures c.key.ensures
    ∙ ap (λ (s : Spots). map.remove s (c.args.file, c.args.page)) c.self.view_is

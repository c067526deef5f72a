use Rattle.std.proofs.Common.{sym, ap, ◌∙◌, option_map, Some}
use Rattle.std.specs.FinMap as map
use Rattle.blockmap.specs.Blocks.{Spots}
use Rattle.blockmap.specs.Told.{told}
use Rattle.blockmap.proofs.SpotLemmas.{get-beyond, none_read, spot_read, word_fits}
use Rattle.blockmap.proofs.spots.Spots.get.Goals as goal

pub returns-then-not-has_key : goal.returns-then-not-has_key
returns-then-not-has_key c =
    let none = get-beyond c.self.inside.width.bits c.self.inside.array.ranges c.args.file c.args.page c.if-not-has_key.ensures in
    ap (option_map told) (sym none ∙ ap (λ (s : Spots). map.get s (c.args.file, c.args.page)) c.self.view_is)

pub placed_of-requires : goal.placed_of-requires
placed_of-requires c = word_fits c.self.inside.width.bits c.self.inside.array.ranges c.key.result c.in-Some.word c.self.invariant c.in-Some.ensures

pub returns-in-Some : goal.returns-in-Some
returns-in-Some c =
    let read = spot_read c.self.inside.width.bits c.self.inside.array.ranges c.key.result c.in-Some.word c.args.file c.args.page c.self.invariant c.if-not-has_key.ensures c.key.ensures c.in-Some.ensures in
    ap Some c.placed_of.ensures ∙ ap (option_map told) (sym read ∙ ap (λ (s : Spots). map.get s (c.args.file, c.args.page)) c.self.view_is)

pub returns-in-None : goal.returns-in-None
returns-in-None c =
    let read = none_read c.self.inside.width.bits c.self.inside.array.ranges c.key.result c.args.file c.args.page c.self.invariant c.if-not-has_key.ensures c.key.ensures c.in-None.ensures in
    ap (option_map told) (sym read ∙ ap (λ (s : Spots). map.get s (c.args.file, c.args.page)) c.self.view_is)

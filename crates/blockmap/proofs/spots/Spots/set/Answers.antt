use Rattle.std.proofs.Common.{sym, ap, subst, ◌∙◌, ◌≡◌, arith, None}
use Rattle.std.proofs.lemmas.Result.{IfOk-at_ok}
use Rattle.std.specs.Prelude.{is_some}
use Rattle.std.specs.FinMap as map
use Rattle.xarray.specs.MarkedArray.{Array, stored}
use Rattle.blockmap.specs.Blocks.{Spots}
use Rattle.blockmap.specs.Keys.{AreSpots, spots}
use Rattle.blockmap.proofs.SpotLemmas.{held_entry, low_page, set, set-are}
use Rattle.blockmap.proofs.spots.Spots.set.Goals as goal

pub key-key-requires-clause-page : goal.key-key-requires-clause-page
key-key-requires-clause-page c =
    let there = ap (λ (s : Spots). is_some (map.get s (c.args.file, c.args.page))) c.self.view_is ∙ c.requires.some in
    low_page c.self.inside.width.bits c.self.inside.array.ranges c.args.file c.args.page there

pub unwrap-before-requires : goal.unwrap-before-requires
unwrap-before-requires c =
    let there = ap (λ (s : Spots). is_some (map.get s (c.args.file, c.args.page))) c.self.view_is ∙ c.requires.some in
    let within = low_page c.self.inside.width.bits c.self.inside.array.ranges c.args.file c.args.page there in
    c.store.ensures.over (omega arith) (held_entry c.self.inside.width.bits c.self.inside.array.ranges c.key-key.result c.args.file c.args.page c.self.invariant within c.key-key.ensures there)

pub invariant_of-self : goal.invariant_of-self
invariant_of-self c =
    let m = c.self.inside.array.ranges in
    let there = ap (λ (s : Spots). is_some (map.get s (c.args.file, c.args.page))) c.self.view_is ∙ c.requires.some in
    let within = low_page c.self.inside.width.bits c.self.inside.array.ranges c.args.file c.args.page there in
    let now = IfOk-at_ok (λ _. c.store.new.self ≡ record { ranges = stored m c.key-key.result c.word_of.result; ready = None }) c.unwrap-before.ensures c.store.ensures.stores in
    subst (λ (a : Array). AreSpots c.self.inside.width.bits a.ranges) (sym now) (set-are c.self.inside.width.bits m c.key-key.result c.word_of.result c.args.file c.args.page c.self.invariant within c.key-key.ensures there c.word_of.ensures.fits)

pub returns : goal.returns
returns c =
    let m = c.self.inside.array.ranges in
    let there = ap (λ (s : Spots). is_some (map.get s (c.args.file, c.args.page))) c.self.view_is ∙ c.requires.some in
    let within = low_page c.self.inside.width.bits c.self.inside.array.ranges c.args.file c.args.page there in
    let now = IfOk-at_ok (λ _. c.store.new.self ≡ record { ranges = stored m c.key-key.result c.word_of.result; ready = None }) c.unwrap-before.ensures c.store.ensures.stores in
    ap (λ (a : Array). spots c.self.inside.width.bits a.ranges) now
    ∙ set c.self.inside.width.bits m c.key-key.result c.word_of.result c.args.placed.block.0 c.args.placed.valid c.args.file c.args.page c.self.invariant within c.key-key.ensures there c.word_of.ensures.is c.requires.valid
    ∙ ap (λ (s : Spots). map.insert s (c.args.file, c.args.page) (record { block = c.args.placed.block.0; valid = c.args.placed.valid })) c.self.view_is

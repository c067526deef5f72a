use Rattle.std.proofs.Common.{sym, ap, subst, ◌∙◌, arith}
use Rattle.std.proofs.lemmas.Result.{on_ok_weaker}
use Rattle.std.specs.FinMap as map
use Rattle.xarray.specs.MarkedArray.{Array}
use Rattle.blockmap.specs.Blocks.{Spots}
use Rattle.blockmap.specs.Keys.{AreSpots, spots}
use Rattle.blockmap.proofs.SpotLemmas.{added, added-are, no_entry, of_result}
use Rattle.blockmap.proofs.spots.Spots.add.Goals as goal

pub invariant_of-self-2 : goal.invariant_of-self-2
invariant_of-self-2 c =
    let bits = c.make_room.new.width.bits in
    let m = c.make_room.new.array.ranges in
    let are = c.in_ok-make_room.ensures.are in
    of_result c.insert.result c.insert.ensures.inserts c.insert.ensures.kept
    (λ e. subst (λ (a : Array). AreSpots bits a.ranges) (sym e) (added-are bits m c.key.result c.word_of.result c.args.file c.args.page are c.requires.page.file c.in_ok-make_room.ensures.room c.key.ensures c.word_of.ensures.fits))
    (λ e. subst (AreSpots bits) (sym e) are)

pub returns-clause-ok : goal.returns-clause-ok
returns-clause-ok c =
    let bits = c.make_room.new.width.bits in
    let m = c.make_room.new.array.ranges in
    on_ok_weaker c.insert.result
    (λ e. ap (λ (a : Array). spots bits a.ranges) e ∙ added bits m c.key.result c.word_of.result c.args.placed.block.0 c.args.placed.valid c.args.file c.args.page c.in_ok-make_room.ensures.room c.key.ensures c.word_of.ensures.is c.requires.valid
    ∙ ap (λ (s : Spots). map.insert s (c.args.file, c.args.page) (record { block = c.args.placed.block.0; valid = c.args.placed.valid })) (c.in_ok-make_room.ensures.same ∙ c.self.view_is))
    c.insert.ensures.inserts

pub returns-clause-memory : goal.returns-clause-memory
returns-clause-memory c =
    let bits = c.make_room.new.width.bits in
    let m = c.make_room.new.array.ranges in
    let absent = ap (λ (s : Spots). map.get s (c.args.file, c.args.page)) (c.in_ok-make_room.ensures.same ∙ c.self.view_is) ∙ c.requires.absent in
    c.insert.ensures.memory (omega arith) (no_entry bits m c.key.result c.args.file c.args.page c.in_ok-make_room.ensures.are c.in_ok-make_room.ensures.room c.key.ensures absent)

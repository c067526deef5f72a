use Rattle.std.proofs.Common.{sym, ap, subst, ◌∙◌, arith}
use Rattle.std.specs.FinMap as map
use Rattle.blockmap.specs.declared.held.Held.{Held}
use Rattle.blockmap.specs.Table.{IsTable, held_of}
use Rattle.blockmap.proofs.BlockLemmas.{Held as ByBlock}
use Rattle.blockmap.proofs.TableLemmas.{get-held, held_push, len-held, table_push}
use Rattle.blockmap.proofs.held.HeldBlocks.add.Goals as goal

pub push-requires : goal.push-requires
push-requires c =
    let len = sym (len-held c.self.inside.table.items c.self.invariant.distinct) ∙ ap map.len c.self.view_is in
    omega (arith, len, c.requires.room)

pub invariant_of-self : goal.invariant_of-self
invariant_of-self c =
    let h : Held = record { block = c.args.block; is_cut = c.args.is_cut } in
    let len = sym (len-held c.self.inside.table.items c.self.invariant.distinct) ∙ ap map.len c.self.view_is in
    subst IsTable (sym c.push.ensures.items) (table_push c.self.inside.table.items h c.self.invariant (omega (arith, len, c.requires.room)) (sym (get-held c.self.inside.table.items c.args.block) ∙ ap (λ (m : ByBlock). map.get m c.args.block) c.self.view_is ∙ c.requires.free))

pub returns : goal.returns
returns c =
    let h : Held = record { block = c.args.block; is_cut = c.args.is_cut } in
    ap held_of c.push.ensures.items
    ∙ held_push c.self.inside.table.items h (ap (λ (m : ByBlock). map.get m c.args.block) c.self.view_is ∙ c.requires.free)
    ∙ ap (λ (m : ByBlock). map.insert m c.args.block c.args.is_cut) c.self.view_is

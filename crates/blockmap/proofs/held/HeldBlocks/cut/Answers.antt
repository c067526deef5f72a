use Rattle.std.proofs.Common.{sym, ap, subst, ◌∙◌, ◌<◌, length, arith, List, true, ◌∷◌, ◌++◌, []}
use Rattle.std.specs.Prelude.{is_some}
use Rattle.std.specs.FinMap as map
use Rattle.blockmap.specs.declared.held.Held.{Held}
use Rattle.blockmap.specs.Table.{IsTable, held_of}
use Rattle.blockmap.proofs.BlockLemmas.{Held as ByBlock}
use Rattle.blockmap.proofs.TableLemmas.{get-held, none_without, put_again, table_push, table_without, without_room}
use Rattle.blockmap.proofs.held.HeldBlocks.cut.Goals as goal

pub push-requires : goal.push-requires
push-requires c =
    let there = sym (ap is_some (get-held c.self.inside.table.items c.args.block)) ∙ ap (λ (m : ByBlock). is_some (map.get m c.args.block)) c.self.view_is ∙ c.requires in
    (omega arith, subst (λ (t : List Held). length t < 64) (sym c.take_out.ensures) (without_room c.args.block c.self.inside.table.items c.self.invariant there))

pub invariant_of-self : goal.invariant_of-self
invariant_of-self c =
    let h : Held = record { block = c.args.block; is_cut = true } in
    let there = sym (ap is_some (get-held c.self.inside.table.items c.args.block)) ∙ ap (λ (m : ByBlock). is_some (map.get m c.args.block)) c.self.view_is ∙ c.requires in
    let now = c.push.ensures.items ∙ ap (λ (t : List Held). t ++ h ∷ []) c.take_out.ensures in
    subst IsTable (sym now) (table_push _ h (table_without c.args.block c.self.inside.table.items c.self.invariant) (without_room c.args.block c.self.inside.table.items c.self.invariant there) (none_without c.args.block c.self.inside.table.items))

pub returns : goal.returns
returns c =
    let h : Held = record { block = c.args.block; is_cut = true } in
    let now = c.push.ensures.items ∙ ap (λ (t : List Held). t ++ h ∷ []) c.take_out.ensures in
    ap held_of now ∙ put_again c.args.block true c.self.inside.table.items ∙ ap (λ (m : ByBlock). map.insert m c.args.block true) c.self.view_is

use Rattle.std.proofs.Common.{Some, None, arith}
use Rattle.std.specs.Prelude.{Result, Ok, Err, IfErr, OnOk}
use Rattle.pc_types.specs.declared.refusal.Refusal.{Refusal}
use Rattle.filesvc.proofs.Demands.{no_more, still_misses}
use Rattle.filesvc.proofs.Laws.{helps_trans}
use Rattle.filesvc.proofs.RoomLaws.{fill_refusal_before}
use Rattle.filesvc.proofs.solo.Solo.fill.Goals as goal

on_ok : (r : Result Unit Refusal) (P Q : Type 0) → OnOk r P → (P → Q) → OnOk r Q
on_ok (Ok _) P Q p f = f p
on_ok (Err e) P Q p f = tt

on_err : (r : Result Unit Refusal) (P Q : Refusal → Type 0) → IfErr r P → ((e : Refusal) → P e → Q e) → IfErr r Q
on_err (Ok _) P Q p f = tt
on_err (Err e) P Q p f = f e p

pub returns-clause-refused : goal.returns-clause-refused
returns-clause-refused g c = on_err c.fill_once.result _ _ c.fill_once.ensures.refused
    (λ e x. fill_refusal_before c.args.self.now c.make_way.new.self c.fill_once.new.self c.args.demand.handle c.args.page _ e
    (c.make_way.ensures.helps (Some c.args.page)) x)

pub fill_once-requires-clause-missed : goal.fill_once-requires-clause-missed
fill_once-requires-clause-missed g c = still_misses c.args.self.now c.make_way.new.self c.args.demand (c.make_way.ensures.helps None).serves
    c.args.page c.requires.missed c.in_ok-make_way.ensures.absent

pub returns-in_err-make_way-clause-helps : goal.returns-in_err-make_way-clause-helps
returns-in_err-make_way-clause-helps g c = c.make_way.ensures.helps (Some c.args.page)

pub returns-clause-helps : goal.returns-clause-helps
returns-clause-helps g c = helps_trans _ _ _ (c.make_way.ensures.helps (Some c.args.page)) c.fill_once.ensures.helps

pub returns-clause-gains : goal.returns-clause-gains
returns-clause-gains g c =
    let most = no_more c.args.self.now c.make_way.new.self c.args.demand (c.make_way.ensures.helps None).serves c.in_ok-make_way.ensures.made c.in_ok-make_way.ensures.kept in
    on_ok c.fill_once.result _ _ c.fill_once.ensures.gains (λ l. omega arith)

use Rattle.orderly.proofs.Enough.{enough_dirty, enough_frames, enough_page}
use Rattle.std.proofs.Common.{◌≡◌, ◌≤◌, ◌∙◌, refl, length, ap, sym, subst, arith}
use Rattle.pc_types.specs.declared.limits.TheConstants.{MIN_DIRTY_LIMIT, MIN_FRAMES, MIN_PAGE_SIZE}
use Rattle.world.specs.Stepping.{WorldSeen}
use Rattle.filesvc.proofs.Beginning.{catalog_at, few_at, lists_in, nothing_in, orderly_at, reached_at, sizes_at, sound_at}
use Rattle.filesvc.proofs.solo.Solo.over.Goals as goal

pub invariant_of-result : goal.invariant_of-result
invariant_of-result g c = record {
  serving = record {
    named = ap (λ (w : WorldSeen). w.core.name) c.in_ok-world.ensures.fresh;
    board = refl;
    lists = lists_in _ c.in-Ok.ensures.nothing;
    rests = record { requests = ap (λ (w : WorldSeen). w.core.requests) c.in_ok-world.ensures.fresh; outcomes = ap (λ (w : WorldSeen). w.outcomes) c.in_ok-world.ensures.fresh };
    reached = reached_at c.in_ok-world.world c.args.catalog.files _ (ap (λ (w : WorldSeen). w.device) c.in_ok-world.ensures.fresh)
        (catalog_at c.args.geometry.now c.args.name c.args.catalog.files _ _ c.in_ok-world.ensures.fresh c.in_ok-world.ensures.catalog)
        c.in_ok-world.ensures.first;
    sound = sound_at c.args.geometry.now c.args.name c.args.catalog.files _ _ c.in_ok-world.ensures.fresh c.in_ok-world.ensures.catalog;
    orderly = orderly_at c.args.geometry.now c.args.name c.args.catalog.files _ _ c.in_ok-world.ensures.fresh
        c.in_ok-world.ensures.catalog (enough_page _ c.page.ensures.within);
    counted = (let a : c.in_ok-world.world.device.calls ≡ c.calls.result = ap (λ (w : WorldSeen). w.device.calls) c.in_ok-world.ensures.fresh ∙ sym c.calls.ensures in let b = c.if-prove.false in omega arith);
    bounded = sizes_at c.args.geometry.now c.args.name c.args.catalog.files _ _ c.in_ok-world.ensures.fresh c.in_ok-world.ensures.catalog;
    page = subst (λ (w : WorldSeen). MIN_PAGE_SIZE ≤ w.core.sizes.page) (sym c.in_ok-world.ensures.fresh) (enough_page _ c.page.ensures.within);
    frames = subst (λ (w : WorldSeen). MIN_FRAMES ≤ w.core.sizes.frames) (sym c.in_ok-world.ensures.fresh) (enough_frames _ c.page.ensures.within);
    dirty = subst (λ (w : WorldSeen). MIN_DIRTY_LIMIT ≤ w.core.sizes.dirty_limit) (sym c.in_ok-world.ensures.fresh) (enough_dirty _ c.page.ensures.within);
    few = few_at c.args.geometry.now c.args.name c.args.catalog.files _ _ c.in_ok-world.ensures.fresh c.in_ok-world.ensures.catalog;
    serials = subst (λ (w : WorldSeen). w.core.next ≤ w.device.calls) (sym c.in_ok-world.ensures.fresh) (omega arith);
  };
  syncs = ap (λ (w : WorldSeen). w.core.syncs) c.in_ok-world.ensures.fresh;
}

pub returns-clause-nothing : goal.returns-clause-nothing
returns-clause-nothing g c = λ f. nothing_in _ f c.in-Ok.ensures.nothing

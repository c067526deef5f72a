use Rattle.std.proofs.Common.{arith, ap, sym, subst, refl, ◌∙◌, ◌≡◌, ◌+◌, ◌≤◌, Bool, true, false, cond, not}
use Rattle.std.specs.Prelude.{◌&&◌, ◌||◌, slice_set}
use Rattle.std.proofs.lemmas.Bool.{false≢true}
use Rattle.std.specs.Int.{from_bool}
use Rattle.writeback.specs.Picks as picks
use Rattle.machine.specs.Changes.{after_write}
use Rattle.frames.specs.Table.{Table, put_back}
use Rattle.mapping.specs.Pages.{Mapped, seen}
use Rattle.pagestore.specs.Store.{IsStore, store_of}
use Rattle.pagestore.proofs.StoreFacts.{few_dirty_pages, byte_is, back_store, not_aside}
use Rattle.pagestore.proofs.TagChanges.{CachedPage, frame_taken, none_left, tagged_store, tagged_seen}
use Rattle.pagestore.proofs.pages.Pages.finish_write.Goals as goal
use Rattle.pagestore.proofs.pages.Pages.finish_write.Goals.{After-index_mut}
use Rattle.pagestore.proofs.pages.Pages.finish_write.Goals.{then-failed, else-failed}

-- one more page is DIRTY where it was not and the write failed
one_more : (d failed : Bool) → cond (failed && not d) 1 0 + cond d 1 0 ≡ cond (d || failed) 1 0
one_more true true = omega arith
one_more true false = omega arith
one_more false true = omega arith
one_more false false = omega arith

-- the page, in its file
abbrev at : After-index_mut → CachedPage
at c = record {
  pages = c.self.inside;
  kept = c.self.invariant;
  store = c.args.self.now;
  seen = c.self.view_is;
  file = c.args.file;
  page = c.args.page;
  here = c.requires.here;
  cached = c.requires.cached;
  found = c.index_mut.result.now;
  value = c.index_mut.ensures.value;
}

pub overflow_add-self : goal.overflow_add-self
overflow_add-self c =
    let most : (b : Bool) → from_bool b ≤ 1 =
    λ b. elim b as (λ b. from_bool b ≤ 1) [ true ↦ omega arith | false ↦ omega arith ] in
    omega (
      arith,
      few_dirty_pages c.self.inside.frames c.self.inside.uptodate.items c.self.inside.files.items
          c.self.inside.dirty c.self.invariant,
      c.from.ensures,
      most c.if-failed.from,
    )

-- the page in the frames once its own is set aside no more
abbrev put_back_at : (w : CachedPage) → Mapped → CachedPage
put_back_at w x = record w {
  pages = record w.pages { frames = put_back w.pages.frames x.frame };
  kept = back_store w.pages.frames w.pages.uptodate.items w.pages.files.items w.pages.dirty x.frame w.kept;
}

pub unreachable-requires : goal.unreachable-requires
unreachable-requires c =
    let w = at (goal.at.unreachable-requires c).After-index_mut in
    none_left w c.in_default.ensures.before

pub put_back-requires : goal.put_back-requires
put_back-requires c =
    let w = at (goal.at.put_back-requires c).After-index_mut in
    frame_taken w (seen c.in-Some.mapped) c.in-Some.ensures.before

pub invariant_of-self : goal.invariant_of-self
invariant_of-self c =
    let w = at (goal.at.invariant_of-self c).After-index_mut in
    let x = seen c.in-Some.mapped in
    let was : c.has-was_dirty.result ≡ x.tags.dirty = c.has-was_dirty.ensures in
    let flag : c.if-failed.from ≡ (c.args.failed && not x.tags.dirty) = elim c.if-failed.branch [
      | then-failed w ↦ w.from-is ∙ (λ i. sym w.if-failed.true i && not (was i))
      | else-failed w ↦ w.from-is ∙ w.if-failed.false ∙ ap (λ b. b && not x.tags.dirty) (sym w.if-failed.false)
    ] in
    let one = c.from.ensures ∙ ap from_bool flag ∙ byte_is (c.args.failed && not x.tags.dirty) in
    let files = slice_set c.self.inside.files.items c.args.file
    (record c.index_mut.result.now { mapping = c.end_write.new.mapping }) in
    subst (λ (u : Table). IsStore u c.self.inside.uptodate.items files (c.self.inside.dirty + c.from.result))
    (sym c.put_back.ensures)
    (tagged_store (put_back_at w x) x c.in-Some.ensures.before (picks.after_write c.args.failed) refl
    c.end_write.new.mapping c.end_write.ensures.tags (c.self.inside.dirty + c.from.result)
    (λ aside. absurd (false≢true (sym (not_aside c.self.inside.frames.aside x.frame) ∙ aside)))
    (omega (arith, one, one_more x.tags.dirty c.args.failed)))

pub returns : goal.returns
returns c =
    let w = at (goal.at.returns c).After-index_mut in
    let files = slice_set c.self.inside.files.items c.args.file
    (record c.index_mut.result.now { mapping = c.end_write.new.mapping }) in
    ap (λ (u : Table). store_of u c.self.inside.uptodate.items files) c.put_back.ensures
    ∙ tagged_seen w (seen c.in-Some.mapped) c.in-Some.ensures.before (picks.after_write c.args.failed) refl
    c.end_write.new.mapping c.end_write.ensures.tags (after_write c.args.failed) refl

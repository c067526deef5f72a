use Rattle.std.proofs.Common.{◌≡◌, ◌∙◌, ◌+◌, ◌/◌, ◌≤◌, ℕ, Bool, true, false, refl, ap, sym, subst, length, not, cond}
use Rattle.std.specs.Prelude.{IfNone, Some, None, is_some, slice_range}
use Rattle.std.proofs.Math.Nat.{mod-eq-sub-div-mul}
use Rattle.pagestore.specs.Reads.{stop_of}
use Rattle.pagestore.specs.Store.{the_page, stored_at, stored_page, with_lists}
use Rattle.pagestore.specs.declared.pages.Reading.{Reading}
use Rattle.pagestore.specs.declared.pages.Reading.TheVariants.{Absent, Done, Filling}
use Rattle.pagestore.proofs.OnePage.{one_found, one_accessed, one_read}
use Rattle.pagestore.proofs.RangeLemmas.{some_page}
use Rattle.pagestore.proofs.pages.Pages.read.Goals as goal

-- what holds where the page was read, which is cached then
once_read : (r : Reading) (cached : Bool) (page : ℕ) (P Q : Type 0) → stop_of r ≡ cond (not cached) (Some page) None
    → IfNone (stop_of r) P → (cached ≡ true → P → Q) → IfNone (stop_of r) Q
once_read Done true page P Q e p g = g refl p
once_read Done false page P Q e p g = absurd cc
once_read (Filling q) cached page P Q e p g = tt
once_read (Absent q) cached page P Q e p g = tt

pub returns-then-at-out-clause-stop : goal.returns-then-at-out-clause-stop
returns-then-at-out-clause-stop c =
    let fits = subst (λ a. a + length c.args.out.now ≤ c.args.page_size)
    (mod-eq-sub-div-mul c.args.offset c.args.page_size) c.if-at-out.true in
    c.read_within.ensures.stop
    ∙ sym (one_found c.args.page_size c.args.offset (length c.args.out.now) c.requires.positive c.requires.some fits
    (λ p. not (is_some (stored_page c.args.self.now c.args.file p))))

pub returns-then-at-out-clause-read : goal.returns-then-at-out-clause-read
returns-then-at-out-clause-read c =
    let fits = subst (λ a. a + length c.args.out.now ≤ c.args.page_size)
    (mod-eq-sub-div-mul c.args.offset c.args.page_size) c.if-at-out.true in
    let pages = (stored_at c.args.self.now c.args.file).pages in
    let first = c.args.offset / c.args.page_size in
    once_read c.read_within.result (is_some (stored_page c.args.self.now c.args.file first)) first _ _
    c.read_within.ensures.stop c.read_within.ensures.read
    (λ cached read. one_read c.args.page_size c.args.offset (length c.args.out.now) c.requires.positive c.requires.some fits pages
    (the_page pages first) c.read_within.new.out
    (some_page pages first cached) c.read_within.auto.out
    (subst (λ a. c.read_within.new.out ≡ slice_range (the_page pages first).bytes a (a + length c.args.out.now))
    (mod-eq-sub-div-mul c.args.offset c.args.page_size) read))

pub returns-then-at-out-clause-moved : goal.returns-then-at-out-clause-moved
returns-then-at-out-clause-moved c =
    let fits = subst (λ a. a + length c.args.out.now ≤ c.args.page_size)
    (mod-eq-sub-div-mul c.args.offset c.args.page_size) c.if-at-out.true in
    let first = c.args.offset / c.args.page_size in
    once_read c.read_within.result (is_some (stored_page c.args.self.now c.args.file first)) first _ _
    c.read_within.ensures.stop c.read_within.ensures.moved
    (λ cached moved. moved
    ∙ ap (with_lists c.args.self.now)
    (sym (one_accessed c.args.page_size c.args.offset (length c.args.out.now) c.requires.positive c.requires.some
    fits c.args.file c.args.self.now.lists)))

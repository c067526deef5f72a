use Rattle.std.proofs.Common.{◌≡◌, ◌∙◌, ◌<◌, List, Bool, ap, sym, subst, length, true, refl}
use Rattle.std.specs.Prelude.{Option, Some, None, find, is_some, option_map, ◌||◌, ◌+◌}
use Rattle.std.specs.FinMap as map
use Rattle.pc_types.specs.declared.ids.FileId.{FileId}
use Rattle.pc_types.specs.declared.ids.PageIndex.{PageIndex}
use Rattle.frames.specs.Table as table
use Rattle.frames.specs.Table.{Table, owner_of}
use Rattle.machine.specs.State.{Page, is_idle}
use Rattle.pagestore.specs.declared.kept.KeptFile.{KeptFile}
use Rattle.pagestore.specs.Cuts.{AreBusy, Evicts, is_idle_at, is_idle_frame}
use Rattle.machine.specs.ListChanges.{numbers}
use Rattle.pagestore.specs.Store.{Store, listed_at, owner_in, store_of, stored_at, stored_page, is_awaited, with_lists, with_pages}
use Rattle.machine.specs.PageLists.{left, place, scan_order}
use Rattle.pagestore.proofs.Victims.{are_busy, find_passes, idle_first, set_aside_store}
use Rattle.pagestore.proofs.Idle.{none_taken, none_idle, no_owner, idle_owned}
use Rattle.pagestore.proofs.pages.Pages.evict.Goals as goal
use Rattle.pagestore.proofs.pages.Pages.evict.Goals.{After-first_idle, In_err-victim, In_ok-victim, In-Some}

pub first_idle-requires : goal.first_idle-requires
first_idle-requires c =
    let t = c.self.inside.frames in
    let up = c.self.inside.uptodate.items in
    let files = c.self.inside.files.items in
    record {
      sound = c.self.invariant.sound;
      busy = subst (λ (x : List Bool). AreBusy t x c.deref-2.result.now) (sym c.deref.ensures.value)
          (subst (λ (y : List KeptFile). AreBusy t up y) (sym c.deref-2.ensures.value)
          (are_busy t up files c.self.inside.dirty c.self.invariant));
    }

-- the search changes nothing that is seen
view : (c : After-first_idle) → store_of c.first_idle.new.frames c.self.inside.uptodate.items c.self.inside.files.items
    ≡ c.args.self.now
view c = ap (λ (u : Table). store_of u c.self.inside.uptodate.items c.self.inside.files.items) c.first_idle.ensures.aside
    ∙ c.self.view_is

-- what it found, by the fields
none : (c : In_err-victim) → find (is_idle_frame c.self.inside.frames c.self.inside.uptodate.items
    c.self.inside.files.items) (table.scan_order c.self.inside.frames) ≡ None
none c = sym (c.in_err-victim.ensures.first
    ∙ (λ i. find (is_idle_frame c.self.inside.frames (c.deref.ensures.value i) (c.deref-2.ensures.value i))
    (table.scan_order c.self.inside.frames)))

pub returns-in_err-victim-clause-evicted : goal.returns-in_err-victim-clause-evicted
returns-in_err-victim-clause-evicted c =
    let t = c.self.inside.frames in
    let up = c.self.inside.uptodate.items in
    let files = c.self.inside.files.items in
    let now = c.args.self.now in
    let it : Evicts now None now =
    subst (λ (s : Store). Evicts s None s) c.self.view_is (
      none_idle t up files c.self.inside.dirty c.self.invariant
          (none_taken (is_idle_frame t up files) t c.self.invariant.sound
          (none (goal.at.returns-in_err-victim-clause-evicted c).In_err-victim)),
      refl,
    ) in
    subst (λ (s : Store). Evicts now c.from_residual.result s)
    (sym (view (goal.at.returns-in_err-victim-clause-evicted c).After-first_idle))
    (subst (λ (r : Option (FileId × PageIndex)). Evicts now r now) (sym c.from_residual.ensures) it)

pub returns-in_err-victim-clause-first : goal.returns-in_err-victim-clause-first
returns-in_err-victim-clause-first c =
    let t = c.self.inside.frames in
    let up = c.self.inside.uptodate.items in
    let files = c.self.inside.files.items in
    ap (option_map numbers) c.from_residual.ensures
    ∙ ap (option_map place) (ap (option_map (listed_at t))
    (sym (none (goal.at.returns-in_err-victim-clause-first c).In_err-victim))
    ∙ idle_first t up files c.self.invariant.sound)
    ∙ ap (λ (s : Store). option_map place (find (is_idle_at s) (scan_order s.lists))) c.self.view_is

victim_found : (c : In_ok-victim) → Some c.in_ok-victim.victim.0 ≡ find (is_idle_frame c.self.inside.frames
    c.self.inside.uptodate.items c.self.inside.files.items) (table.scan_order c.self.inside.frames)
victim_found c = c.in_ok-victim.ensures.first
    ∙ (λ i. find (is_idle_frame c.self.inside.frames (c.deref.ensures.value i) (c.deref-2.ensures.value i))
    (table.scan_order c.self.inside.frames))

victim_idle : (c : In_ok-victim) → is_idle_frame c.self.inside.frames c.self.inside.uptodate.items
    c.self.inside.files.items c.in_ok-victim.victim.0 ≡ true
victim_idle c = find_passes (is_idle_frame c.self.inside.frames c.self.inside.uptodate.items c.self.inside.files.items)
    (table.scan_order c.self.inside.frames) c.in_ok-victim.victim.0 (sym (victim_found c))

victim_owner : (c : In_ok-victim) → owner_of c.first_idle.new.frames c.in_ok-victim.victim.0
    ≡ owner_of c.self.inside.frames c.in_ok-victim.victim.0
victim_owner c = ap (λ (u : Table). owner_of u c.in_ok-victim.victim.0) c.in_ok-victim.ensures.aside

pub unreachable-requires : goal.unreachable-requires
unreachable-requires c =
    let w = (goal.at.unreachable-requires c).In_ok-victim in
    no_owner c.self.inside.frames c.self.inside.uptodate.items c.self.inside.files.items c.in_ok-victim.victim.0
    (sym (c.in_default.ensures ∙ victim_owner w)) (victim_idle w)

-- the page that the victim was taken for
the_page : (c : In-Some) → (page : Page) × (c.in-Some.file.0 < length c.args.self.now.files)
    × (stored_page c.args.self.now c.in-Some.file.0 c.in-Some.page.0 ≡ Some page) × (is_idle page ≡ true)
the_page c =
    let w = (goal.at.In-Some c).In_ok-victim in
    idle_owned c.self.inside.frames c.self.inside.uptodate.items c.self.inside.files.items c.in_ok-victim.victim.0
    c.in-Some.file.0 c.in-Some.page.0 (sym (c.in-Some.ensures ∙ victim_owner w)) (victim_idle w) c.args.self.now
    c.self.view_is

pub invariant_of-self-2 : goal.invariant_of-self-2
invariant_of-self-2 c =
    let t = c.self.inside.frames in
    let up = c.self.inside.uptodate.items in
    let files = c.self.inside.files.items in
    let u = c.first_idle.new.frames in
    set_aside_store t up files c.self.inside.dirty c.self.invariant u c.first_idle.ensures.aside c.first_idle.ensures.sound
    (subst (λ (x : List Bool). AreBusy u x files) c.deref.ensures.value
    (subst (λ (y : List KeptFile). AreBusy u c.deref.result.now y) c.deref-2.ensures.value c.first_idle.ensures.busy))

pub leave-requires-clause-here : goal.leave-requires-clause-here
leave-requires-clause-here c =
    subst (λ (s : Store). c.in-Some.file.0 < length s.files)
    (sym (view (goal.at.leave-requires-clause-here c).After-first_idle))
    (the_page (goal.at.leave-requires-clause-here c).In-Some).1

pub leave-requires-clause-there : goal.leave-requires-clause-there
leave-requires-clause-there c =
    let seen = view (goal.at.leave-requires-clause-there c).After-first_idle in
    let there = (the_page (goal.at.leave-requires-clause-there c).In-Some).2 in
    ap (λ (s : Store). is_some (stored_page s c.in-Some.file.0 c.in-Some.page.0)
    || is_awaited s c.in-Some.file.0 c.in-Some.page.0) seen
    ∙ ap (λ o. is_some o || is_awaited c.args.self.now c.in-Some.file.0 c.in-Some.page.0) there

pub returns-clause-evicted : goal.returns-clause-evicted
returns-clause-evicted c =
    let page = the_page (goal.at.returns-clause-evicted c).In-Some in
    let seen = view (goal.at.returns-clause-evicted c).After-first_idle in
    let f = c.in-Some.file.0 in
    let p = c.in-Some.page.0 in
    let there = ap (λ (s : Store). is_some (stored_page s f p)) seen ∙ ap is_some page.2 in (
      page.0,
      page.2,
      page.3,
      c.leave.ensures.page there
          ∙ ap (λ (s : Store). with_lists (with_pages s f (map.remove (stored_at s f).pages p) (s.free + 1))
          (left f p s.lists)) seen,
    )

pub returns-clause-first : goal.returns-clause-first
returns-clause-first c =
    let t = c.self.inside.frames in
    let up = c.self.inside.uptodate.items in
    let files = c.self.inside.files.items in
    let w = (goal.at.returns-clause-first c).In_ok-victim in
    ap (λ (o : Option (FileId × PageIndex)). Some ((owner_in o).0.0, (owner_in o).1.0))
    (c.in-Some.ensures ∙ victim_owner w)
    ∙ ap (option_map place) (ap (option_map (listed_at t)) (victim_found w)
    ∙ idle_first t up files c.self.invariant.sound)
    ∙ ap (λ (s : Store). option_map place (find (is_idle_at s) (scan_order s.lists))) c.self.view_is

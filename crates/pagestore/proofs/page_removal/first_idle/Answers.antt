use Rattle.std.proofs.Common.{◌≡◌, ◌∙◌, ◌<◌, ap, sym, subst, not, true, length, arith}
use Rattle.std.specs.Prelude.{find, count_by}
use Rattle.frames.specs.Table as table
use Rattle.frames.specs.Table.{Table, IsSound, is_aside, is_taken, set_aside}
use Rattle.pagestore.specs.Cuts.{is_idle_frame}
use Rattle.pagestore.proofs.StoreFacts.{within_taken}
use Rattle.pagestore.proofs.Victims.{find_in, find_passes, find_finer, find_finer_none, fewer_waiting, scanned}
use Rattle.pagestore.proofs.Victims.{is_off, waiting_where}
use Rattle.pagestore.proofs.page_removal.first_idle.Goals as goal
use Rattle.pagestore.proofs.page_removal.first_idle.Goals.{In-Some}

pub returns-then-is_idle_frame-clause-first : goal.returns-then-is_idle_frame-clause-first
returns-then-is_idle_frame-clause-first c =
    let t = c.loop-frame.frames in
    let up = c.args.uptodate.now in
    let files = c.args.files.now in
    let idle : is_idle_frame t up files c.in-Some.frame.0 ≡ true =
    ap (λ (u : Table). is_idle_frame u up files c.in-Some.frame.0) (sym c.in-Some.ensures.same)
    ∙ sym c.is_idle_frame.ensures ∙ c.if-is_idle_frame.true in
    sym (find_finer (λ f. not (is_aside t f)) (is_idle_frame t up files)
    (waiting_where t up files c.loop-frame.invariant.busy) (table.scan_order t) c.in-Some.frame.0
    (sym c.in-Some.ensures.oldest) idle)
    ∙ ap (λ (u : Table). find (is_idle_frame u up files) (table.scan_order u)) c.loop-frame.invariant.same

still : (c : In-Some) → IsSound c.oldest.new.self
still c = subst (λ (t : Table). IsSound t) (sym c.in-Some.ensures.same) c.loop-frame.invariant.sound

taken : (c : In-Some) → is_taken c.oldest.new.self c.in-Some.frame.0 ≡ true
taken c =
    let t = c.oldest.new.self in
    scanned t c.args.uptodate.now c.args.files.now (still c) c.in-Some.frame.0
    (find_in (λ f. not (is_aside t f)) (table.scan_order t) c.in-Some.frame.0
    (ap (λ (u : Table). find (λ f. not (is_aside u f)) (table.scan_order u)) c.in-Some.ensures.same
    ∙ sym c.in-Some.ensures.oldest))

pub set_aside-requires : goal.set_aside-requires
set_aside-requires c = taken (goal.at.set_aside-requires c).In-Some

pub loop-frame-smaller : goal.loop-frame-smaller
loop-frame-smaller c =
    let t = c.oldest.new.self in
    let f = c.in-Some.frame.0 in
    let found = ap (λ (u : Table). find (λ f. not (is_aside u f)) (table.scan_order u)) c.in-Some.ensures.same
    ∙ sym c.in-Some.ensures.oldest in
    let waits = find_passes (λ f. not (is_aside t f)) (table.scan_order t) f found in
    let off = is_off (is_aside t f) waits in
    let within : f < length t.owners = within_taken t f (taken (goal.at.loop-frame-smaller c).In-Some) in
    let fewer = fewer_waiting t.aside f (omega (arith, within, (still (goal.at.loop-frame-smaller c).In-Some).asides)) off in
    let after : count_by not c.set_aside.new.self.aside ≡ count_by not (set_aside t f).aside =
    ap (λ (u : Table). count_by not u.aside) c.set_aside.ensures in
    let before : count_by not t.aside ≡ count_by not c.loop-frame.frames.aside =
    ap (λ (u : Table). count_by not u.aside) c.in-Some.ensures.same in
    omega (arith, fewer, after, before)

pub returns-clause-first : goal.returns-clause-first
returns-clause-first c =
    let t = c.loop-frame.frames in
    let up = c.args.uptodate.now in
    let files = c.args.files.now in
    sym (find_finer_none (λ f. not (is_aside t f)) (is_idle_frame t up files)
    (waiting_where t up files c.loop-frame.invariant.busy) (table.scan_order t)
    (sym c.in_default.ensures.oldest))
    ∙ ap (λ (u : Table). find (is_idle_frame u up files) (table.scan_order u)) c.loop-frame.invariant.same

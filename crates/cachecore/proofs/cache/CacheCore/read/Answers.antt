use Rattle.std.proofs.Common.{true, false, arith, sym, ap, subst, ◌∙◌, ◌≡◌, ◌<◌, ◌≤◌, ◌++◌, ℕ, length}
use Rattle.std.proofs.Common.{take, drop}
use Rattle.std.specs.Prelude.{IfNone, IfSome, slice_index_or}
use Rattle.std.specs.FinMap as map
use Rattle.std.proofs.lemmas.Bool.{eqb-false}
use Rattle.std.proofs.lemmas.List.{length-take}
use Rattle.pc_types.specs.declared.limits.TheConstants.{MAX_TOUCHED}
use Rattle.machine.specs.State.{State, File, no_file, file_at, is_filling, touched_count}
use Rattle.pagestore.specs.Ranges.{AreSized, AreRead}
use Rattle.machine.specs.declared.event.Event.TheVariants as event
use Rattle.machine.specs.declared.event.Reply.TheVariants as reply
use Rattle.machine.specs.Step.{Step}
use Rattle.pagestore.specs.Store.{Store}
use Rattle.pagestore.specs.Reads.{stop_of}
use Rattle.pagestore.specs.declared.pages.Reading.{Reading}
use Rattle.pagestore.specs.declared.pages.Reading.TheVariants.{Absent, Done, Filling}
use Rattle.cachecore.specs.Replies.{was_read}
use Rattle.cachecore.specs.Tables.{IsCache, state_of}
use Rattle.cachecore.proofs.CoreLemmas.{core-lists}
use Rattle.cachecore.proofs.StepLemmas.{ReadFacts, bytes_step, first_absent, read_too_long, stop_step}
use Rattle.pagestore.proofs.Spans.{is_less, not_less}
use Rattle.cachecore.proofs.CoreViews.{state_is}
use Rattle.cachecore.proofs.cache.CacheCore.read.Goals as goal
use Rattle.cachecore.proofs.cache.CacheCore.read.Goals.{After-is_too_long, Else-is_too_long, in-Absent, in-Done, in-Filling}

abbrev entry : After-is_too_long → File
entry c = slice_index_or c.self.inside.pages.files c.in-Some.file no_file

facts : (c : After-is_too_long) → ReadFacts c.args.self.now.state c.args.handle c.args.offset (length c.args.out.now)
    c.in-Some.file c.page-page_size.result c.min-count.result (entry c)
facts c =
    let known : c.in-Some.file < length c.self.inside.pages.files =
    c.self.invariant.core.known c.args.handle.0 c.in-Some.file (sym c.in-Some.ensures) in
    record {
      found = c.in-Some.ensures ∙ ap (λ s. map.get s.handles c.args.handle.0) (state_is c.self.view_is);
      page = c.page-page_size.ensures.value ∙ ap (λ s. s.sizes.page) (state_is c.self.view_is);
      entry_is = ap (λ s. file_at s c.in-Some.file) (state_is c.self.view_is);
      count_is = omega (arith, c.min-count.ensures, c.size-size.ensures);
      some = (let filled = eqb-false (length c.args.out.now) 0 (sym c.is_empty.ensures ∙ c.if-is_empty.false) in
          omega (arith, c.min-count.ensures, c.if-size-offset.false, filled));
    }

short : (c : Else-is_too_long) → touched_count c.page-page_size.result c.args.offset c.min-count.result ≤ MAX_TOUCHED
short c = not_less MAX_TOUCHED (touched_count c.page-page_size.result c.args.offset c.min-count.result)
    (sym c.is_too_long.ensures ∙ c.if-is_too_long.false)

-- as many bytes as are read
size : (c : After-is_too_long) → length (take c.min-count.result c.args.out.now) ≡ c.min-count.result
size c = omega (arith, length-take c.min-count.result c.args.out.now, c.min-count.ensures)

pub returns-then-is_too_long-clause-step : goal.returns-then-is_too_long-clause-step
returns-then-is_too_long-clause-step c =
    let at = (goal.at.returns-then-is_too_long-clause-step c).After-is_too_long in
    read_too_long c.args.self.now.state c.args.handle c.args.offset (length c.args.out.now) c.in-Some.file
    c.page-page_size.result c.min-count.result (entry at) (facts at)
    (is_less MAX_TOUCHED (touched_count c.page-page_size.result c.args.offset c.min-count.result)
    (sym c.is_too_long.ensures ∙ c.if-is_too_long.true))

-- what holds of the pages as they were, and of the ones that were read, holds after a read
either_end : (r : Reading) (old moved now : Store) (Q : Store → Type 0) → IfSome (stop_of r) (λ _. now ≡ old)
    → IfNone (stop_of r) (now ≡ moved) → Q old → Q moved → Q now
either_end Done old moved now Q same is a b = subst Q (sym is) b
either_end (Filling p) old moved now Q same is a b = subst Q (sym same) a
either_end (Absent p) old moved now Q same is a b = subst Q (sym same) a

pub invariant_of-self : goal.invariant_of-self
invariant_of-self c =
    let i = c.self.inside in
    either_end c.read.result i.pages _ c.read.new.self
    (λ (p : Store). IsCache (state_of i.geometry i.name p.files i.handles i.blocks i.requests i.syncs) p i.blocks)
    c.read.ensures.same c.read.ensures.moved c.self.invariant
    (record { core = core-lists c.self.invariant.core _; syncs = c.self.invariant.syncs })

pub returns-clause-step : goal.returns-clause-step
returns-clause-step c =
    let at = goal.at.returns-clause-step c in
    let all = at.After-is_too_long in
    let i = c.self.inside in
    let s = c.args.self.now.state in
    let n = length c.args.out.now in
    let e = event.Read c.args.handle c.args.offset n in
    let f = c.in-Some.file in
    let P = c.page-page_size.result in
    let count = c.min-count.result in
    let out = c.read.new.out ++ drop count c.args.out.now in
    let state = λ (p : Store). state_of i.geometry i.name p.files i.handles i.blocks i.requests i.syncs in
    elim c.match-read.branch [
      | in-Done w ↦
          let long : length c.read.new.out ≡ count =
          omega (arith, length-take count c.args.out.now, c.min-count.ensures, c.read.auto.out) in
          let after = ap state w.in-Done.ensures.moved ∙ state_is c.self.view_is in
          let none = w.in-Done.ensures.stop ∙ ap (first_absent (entry all) P c.args.offset) (size all) in
          subst (λ r. Step s e (was_read r out) (state c.read.new.self)) (sym w.result-is)
          (subst (λ (t : State). Step s e (reply.Bytes (take count out)) t) (sym after)
          (bytes_step s c.args.handle c.args.offset n f P count (entry all) (facts all) (short at.Else-is_too_long)
          c.read.new.out (drop count c.args.out.now) none long
          (subst (λ (k : ℕ). AreRead P c.args.offset (entry all).pages k c.read.new.out) long w.in-Done.ensures.read)))
      | in-Filling w ↦
          let p = w.in-Filling.page in
          let after = ap state w.in-Filling.ensures.same ∙ state_is c.self.view_is in
          subst (λ r. Step s e (was_read r out) (state c.read.new.self)) (sym w.result-is)
          (subst (λ (t : State). Step s e (reply.Wait (record { 0 = p })) t) (sym after)
          (stop_step s c.args.handle c.args.offset n f P count (entry all) (facts all) (short at.Else-is_too_long) p true
          (sym w.in-Filling.ensures.awaited ∙ c.self.invariant.core.filling f p
          ∙ ap (λ (t : State). is_filling t f p) (state_is c.self.view_is))
          (w.in-Filling.ensures.stop ∙ ap (first_absent (entry all) P c.args.offset) (size all))))
      | in-Absent w ↦
          let p = w.in-Absent.page in
          let after = ap state w.in-Absent.ensures.same ∙ state_is c.self.view_is in
          subst (λ r. Step s e (was_read r out) (state c.read.new.self)) (sym w.result-is)
          (subst (λ (t : State). Step s e (reply.Miss (record { 0 = p })) t) (sym after)
          (stop_step s c.args.handle c.args.offset n f P count (entry all) (facts all) (short at.Else-is_too_long) p false
          (sym w.in-Absent.ensures.awaited ∙ c.self.invariant.core.filling f p
          ∙ ap (λ (t : State). is_filling t f p) (state_is c.self.view_is))
          (w.in-Absent.ensures.stop ∙ ap (first_absent (entry all) P c.args.offset) (size all))))
    ]

pub read-requires-clause-bound : goal.read-requires-clause-bound
read-requires-clause-bound c =
    let known : c.in-Some.file < length c.self.inside.pages.files =
    c.self.invariant.core.known c.args.handle.0 c.in-Some.file (sym c.in-Some.ensures) in
    let small = c.self.invariant.core.bounded c.in-Some.file in
    omega (arith, small, length-take c.min-count.result c.args.out.now, c.min-count.ensures, c.size-size.ensures)

pub read-requires-clause-sized : goal.read-requires-clause-sized
read-requires-clause-sized c =
    let known : c.in-Some.file < length c.self.inside.pages.files =
    c.self.invariant.core.known c.args.handle.0 c.in-Some.file (sym c.in-Some.ensures) in
    subst (λ (n : ℕ). AreSized n (slice_index_or c.self.inside.pages.files c.in-Some.file no_file).pages)
    (sym c.page-page_size.ensures.value) (c.self.invariant.core.sized c.in-Some.file)

pub size-size-requires : goal.size-size-requires
size-size-requires c = c.self.invariant.core.known c.args.handle.0 c.in-Some.file (sym c.in-Some.ensures)

pub read-requires-clause-here : goal.read-requires-clause-here
read-requires-clause-here c = c.self.invariant.core.known c.args.handle.0 c.in-Some.file (sym c.in-Some.ensures)

pub read-requires-clause-page : goal.read-requires-clause-page
read-requires-clause-page c = c.page-page_size.ensures.value ∙ sym c.self.invariant.core.page

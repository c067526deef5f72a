use Rattle.std.proofs.Common.{IfSome, Err, subst, sym, ap, length, refl, ◌∙◌, ◌≤◌, arith}
use Rattle.std.proofs.lemmas.Result.{err_from_is_err_and}
use Rattle.textline.specs.declared.stop.Stop.TheVariants.{Input}
use Rattle.textline.specs.declared.lines.Fetched.TheVariants.{Line}
use Rattle.script.specs.declared.run.TheConstants.{MAX_LINE}
use Rattle.textline.specs.Lines.{Fetches}
use Rattle.textline.proofs.LineLemmas.{map_some}
use Rattle.script.proofs.RunLemmas.{stands_first, keeps_same, stands_fault, stands_too_long, stands_stopped, stands_next, stands_ended}
use Rattle.script.proofs.run.answer_lines.Goals as goal

pub lines-init : goal.lines-init
lines-init g c = stands_first _ _ _ _ c.requires.first_line c.requires.no_session

pub returns-in_err-fetch : goal.returns-in_err-fetch
returns-in_err-fetch g c =
    let made = err_from_is_err_and c.from_residual.result c.from_residual.ensures.1 in
    map_some (g.R.Read.remaining c.args.lines.now.reader) _ _ c.lines.invariant (λ script s.
    stands_fault _ c.in_err-fetch.field-0.0 _ (made.1 ∙ ap Err made.2) s c.in_err-fetch.ensures.out c.in_err-fetch.ensures.fault)

pub returns-in_err-run_line-in-Line : goal.returns-in_err-run_line-in-Line
returns-in_err-run_line-in-Line g c =
    let left = g.R.Read.remaining c.lines.lines.reader in
    let after = g.R.Read.remaining c.fetch.new.self.reader in
    let line = subst (λ f. IfSome left (λ bytes. Fetches MAX_LINE bytes f c.fetch.new.self.line.items after)) c.in-Line.is c.in_ok-fetch.ensures.fetched in
    let fetched = subst (λ items. IfSome left (λ bytes. Fetches MAX_LINE bytes Line items after)) (sym c.as_slice.ensures.value) line in
    let within : length c.as_slice.result.now ≤ MAX_LINE = omega (arith, c.in_ok-fetch.ensures.within, c.fetch.new.self.line.ok.0, ap length c.as_slice.ensures.value) in
    let made = err_from_is_err_and c.from_residual-in_err-run_line-in-Line.result c.from_residual-in_err-run_line-in-Line.ensures.1 in
    map_some (g.R.Read.remaining c.args.lines.now.reader) _ _ c.lines.invariant (λ script s.
    stands_stopped _ _ _ _ after c.in_err-run_line-in-Line.field-0.0 _ _ (made.1 ∙ ap Err made.2) s fetched c.in_ok-fetch.ensures.out c.in_ok-fetch.ensures.number within c.in_err-run_line-in-Line.ensures)

pub returns-in-TooLong : goal.returns-in-TooLong
returns-in-TooLong g c =
    let left = g.R.Read.remaining c.lines.lines.reader in
    let after = g.R.Read.remaining c.fetch.new.self.reader in
    let fetched = subst (λ f. IfSome left (λ bytes. Fetches MAX_LINE bytes f c.fetch.new.self.line.items after)) c.in-TooLong.is c.in_ok-fetch.ensures.fetched in
    map_some (g.R.Read.remaining c.args.lines.now.reader) _ _ c.lines.invariant (λ script s.
    stands_too_long _ _ s fetched c.in_ok-fetch.ensures.out c.in_ok-fetch.ensures.number)

pub returns-in-End : goal.returns-in-End
returns-in-End g c =
    let left = g.R.Read.remaining c.lines.lines.reader in
    let after = g.R.Read.remaining c.fetch.new.self.reader in
    let fetched = subst (λ f. IfSome left (λ bytes. Fetches MAX_LINE bytes f c.fetch.new.self.line.items after)) c.in-End.is c.in_ok-fetch.ensures.fetched in
    map_some (g.R.Read.remaining c.args.lines.now.reader) _ _ c.lines.invariant (λ script s.
    stands_ended _ s fetched c.in_ok-fetch.ensures.out)

pub lines-preserved : goal.lines-preserved
lines-preserved g c =
    let left = g.R.Read.remaining c.lines.lines.reader in
    let after = g.R.Read.remaining c.fetch.new.self.reader in
    let line = subst (λ f. IfSome left (λ bytes. Fetches MAX_LINE bytes f c.fetch.new.self.line.items after)) c.in-Line.is c.in_ok-fetch.ensures.fetched in
    let fetched = subst (λ items. IfSome left (λ bytes. Fetches MAX_LINE bytes Line items after)) (sym c.as_slice.ensures.value) line in
    let within : length c.as_slice.result.now ≤ MAX_LINE = omega (arith, c.in_ok-fetch.ensures.within, c.fetch.new.self.line.ok.0, ap length c.as_slice.ensures.value) in
    map_some (g.R.Read.remaining c.args.lines.now.reader) _ _ c.lines.invariant (λ script s.
    stands_next _ _ _ _ after _ s fetched c.in_ok-fetch.ensures.out c.in_ok-fetch.ensures.number within c.in_ok-run_line-in-Line.ensures)

pub returns : goal.returns
returns g c = map_some (g.R.Read.remaining c.args.lines.now.reader) _ _ c.lines.invariant (λ script s. stands_fault _ Input _ refl s (keeps_same _) tt)

use Rattle.std.proofs.Common.{◌≡◌, ◌+◌, sym, ◌∙◌, ap, subst, arith, MatchBool, Some, None, ◌<◌, length}
use Rattle.std.specs.Prelude.{if◌then◌else◌, position}
use Rattle.std.specs.Io.BufRead.{FillKeeps, DropsConsumable}
use Rattle.std.proofs.BufReadLemmas.{Consumes_shown}
use Rattle.std.proofs.lemmas.Bool.{eqb-true}
use Rattle.textline.specs.Lines.{is_newline, Fetches, HasBegun}
use Rattle.textline.specs.declared.lines.Fetched.TheVariants.{Line}
use Rattle.textline.proofs.LineLemmas.{position_found, line_ended, line_goes_on, line_too_long, input_ended}
use Rattle.textline.proofs.lines.take_part.Goals as goal

pub returns-then-is_empty-clause-goes : goal.returns-then-is_empty-clause-goes
returns-then-is_empty-clause-goes g c = λ bytes begun.
    let rested = c.fill_buf.follows.lender-at-none in
    let filled = subst (FillKeeps _ (g.R.Read.remaining rested) (g.R.BufRead.consumable_len rested)) c.in-Ok.is c.fill_buf.follows.holds-at-none in
    input_ended c.args.most bytes c.args.line.now.items c.in-Ok.available.now _ c.len.result _ _ begun c.in-Ok.ensures.end (eqb-true _ _ (sym c.is_empty.ensures ∙ c.if-is_empty.true)) filled.0 c.at_end.ensures (c.len.ensures ∙ c.args.line.now.ok.0)

pub returns-then-len-most-clause-goes : goal.returns-then-len-most-clause-goes
returns-then-len-most-clause-goes g c = λ bytes begun.
    let at = position_found c.in-Ok.available.now _ _ c.len_before_newline-len.ensures.found in
    let len = c.args.line.now.ok.0 in
    line_too_long c.args.most bytes c.args.line.now.items c.in-Ok.available.now _ _ begun c.in-Ok.ensures.front at (omega (arith, len))

pub returns-then-is_ended-clause-goes : goal.returns-then-is_ended-clause-goes
returns-then-is_ended-clause-goes g c = λ bytes begun.
    let s = c.in-Ok.available.now in
    let cut = c.len_before_newline-len in
    let at = position_found s _ _ cut.ensures.found in
    let found = subst (λ b. MatchBool b ((position is_newline s ≡ Some cut.result.0) × (cut.result.0 < length s)) ((position is_newline s ≡ None) × (cut.result.0 ≡ length s))) c.if-is_ended.true cut.ensures.found in
    let taken = c.len_with_newline-taken.ensures ∙ ap (λ b. if b then cut.result.0 + 1 else cut.result.0) c.if-is_ended.true in
    let rested = c.fill_buf.follows.lender-at-none in
    let filled = subst (FillKeeps _ (g.R.Read.remaining rested) (g.R.BufRead.consumable_len rested)) c.in-Ok.is c.fill_buf.follows.holds-at-none in
    let moved = Consumes_shown _ _ _ _ s (cut.result.0 + 1) (omega (arith, found.1)) c.in-Ok.ensures.front c.in-Ok.ensures.end filled.0 filled.1 (subst (DropsConsumable (g.R.Read.remaining rested) (g.R.Read.remaining c.consume.new.self) (g.R.BufRead.consumable_len rested)) taken c.consume.ensures.bytes) in
    subst (λ line. Fetches c.args.most bytes Line line (g.R.Read.remaining c.consume.new.self)) (sym c.in_ok-extend_from_slice.ensures.items)
    (line_ended c.args.most bytes c.args.line.now.items s cut.result.0 _ _ begun at found.1 moved.0)

pub returns-else-is_ended-clause-goes : goal.returns-else-is_ended-clause-goes
returns-else-is_ended-clause-goes g c = λ bytes begun.
    let s = c.in-Ok.available.now in
    let cut = c.len_before_newline-len in
    let at = position_found s _ _ cut.ensures.found in
    let taken = c.len_with_newline-taken.ensures ∙ ap (λ b. if b then cut.result.0 + 1 else cut.result.0) c.if-is_ended.false in
    let rested = c.fill_buf.follows.lender-at-none in
    let filled = subst (FillKeeps _ (g.R.Read.remaining rested) (g.R.BufRead.consumable_len rested)) c.in-Ok.is c.fill_buf.follows.holds-at-none in
    let moved = Consumes_shown _ _ _ _ s cut.result.0 cut.ensures.within c.in-Ok.ensures.front c.in-Ok.ensures.end filled.0 filled.1 (subst (DropsConsumable (g.R.Read.remaining rested) (g.R.Read.remaining c.consume.new.self) (g.R.BufRead.consumable_len rested)) taken c.consume.ensures.bytes) in
    subst (λ line. HasBegun bytes line (g.R.Read.remaining c.consume.new.self)) (sym c.in_ok-extend_from_slice.ensures.items)
    (line_goes_on bytes c.args.line.now.items s cut.result.0 _ _ begun at moved.0)

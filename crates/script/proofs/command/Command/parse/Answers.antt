use Rattle.std.proofs.Common.{sym, ◌∙◌, subst}
use Rattle.script.specs.Commands.{Asks}
use Rattle.script.proofs.CommandLemmas.{unnamed}
use Rattle.script.proofs.command.Command.parse.Goals as goal

pub returns-in_default-of-clause-malformed : goal.returns-in_default-of-clause-malformed
returns-in_default-of-clause-malformed c = λ e other a.
    unnamed c.in-Some.name.now _ other c.in_default-of.ensures
    (subst (λ words. Asks words other) (sym c.new-words.ensures ∙ c.in-Some.ensures) a)

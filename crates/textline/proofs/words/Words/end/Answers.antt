use Rattle.std.proofs.Common.{sym, ◌∙◌, ap}
use Rattle.textline.specs.Words.{words_left}
use Rattle.textline.proofs.WordLemmas.{words_of-nonempty}
use Rattle.textline.proofs.words.Words.end.Goals as goal

pub returns-in-Some-clause-ended : goal.returns-in-Some-clause-ended
returns-in-Some-clause-ended c = (λ e. absurd cc, λ none. absurd (words_of-nonempty c.in-Some.field-0.now (sym (ap words_left c.in-Some.is) ∙ c.self.view_is ∙ none)))

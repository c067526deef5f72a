use Rattle.std.proofs.Common.{sym, ◌∙◌, ap}
use Rattle.textline.specs.Words.{words_left}
use Rattle.textline.proofs.WordLemmas.{words_of-split, words_of-none}
use Rattle.textline.proofs.words.Words.word.Goals as goal

pub returns-in-Some : goal.returns-in-Some
returns-in-Some c =
    let parts = c.in-Some.ensures in
    sym c.self.view_is ∙ ap words_left c.in_ok-rest.was ∙ words_of-split c.in_ok-rest.rest.now c.in-Some.word.now c.in-Some.rest.now parts.0 parts.1 parts.2

pub returns-in-None : goal.returns-in-None
returns-in-None c = sym c.self.view_is ∙ ap words_left c.in_ok-rest.was ∙ words_of-none c.in_ok-rest.rest.now c.in-None.ensures

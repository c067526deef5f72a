use Rattle.deeds.proofs.sides.note.Given as goal

abbrev pub ghost-carry : goal.ghost-carry
ghost-carry g a = g.left

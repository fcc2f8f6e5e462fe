use Rattle.ab_search_ways.proofs.blindness.+hides_an_atom.Given as goal

abbrev pub decreases-hides_an_atom : goal.decreases-hides_an_atom
decreases-hides_an_atom l = l.formula.0

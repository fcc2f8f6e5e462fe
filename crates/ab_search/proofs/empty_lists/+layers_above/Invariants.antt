use Rattle.ab_search.proofs.empty_lists.+layers_above.Given as goal

abbrev pub decreases-layers_above : goal.decreases-layers_above
decreases-layers_above l = l.formula.0

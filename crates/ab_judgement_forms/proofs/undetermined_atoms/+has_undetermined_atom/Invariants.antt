use Rattle.ab_judgement_forms.proofs.undetermined_atoms.+has_undetermined_atom.Given as goal

abbrev pub decreases-has_undetermined_atom : goal.decreases-has_undetermined_atom
decreases-has_undetermined_atom l = l.formula.0

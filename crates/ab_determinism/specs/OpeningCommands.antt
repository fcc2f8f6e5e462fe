-- Which proof commands open formulas of a goal, take its conclusion apart, unfold it or use a formula by its instances: these
-- may make new variables, if only on the way.
use Rattle.ab_grammar.specs.CommandTrees.{ProofCommand, intros, case, apply, backchain, unfold_goal}

abbrev pub OpensNothing : ProofCommand → Type 0
OpensNothing (intros xs) = ⊥
OpensNothing (case H keep) = ⊥
OpensNothing (apply H vs is) = ⊥
OpensNothing (backchain H is) = ⊥
OpensNothing unfold_goal = ⊥
OpensNothing _ = Unit {0}

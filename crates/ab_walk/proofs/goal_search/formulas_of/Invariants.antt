use Rattle.std.proofs.Common.{◌≡◌, map, take}
use Rattle.ab_logic.specs.declared.sequent.Hypothesis.{Hypothesis}
use Rattle.ab_walk.proofs.goal_search.formulas_of.Given as goal

abbrev pub invariant-loop-hypothesis : goal.invariant-loop-hypothesis
invariant-loop-hypothesis l = l.list.items ≡ map (λ (h : Hypothesis). h.formula) (take l.hypothesis-index l.hypothesis-items)

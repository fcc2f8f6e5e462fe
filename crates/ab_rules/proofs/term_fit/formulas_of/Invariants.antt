use Rattle.std.proofs.Common.{◌≡◌, ◌∷◌, map, take}
use Rattle.ab_logic.specs.declared.sequent.Hypothesis.{Hypothesis}
use Rattle.ab_rules.proofs.term_fit.formulas_of.Given as goal

abbrev pub invariant-loop-h : goal.invariant-loop-h
invariant-loop-h l = l.formulas.items ≡ l.sequent.conclusion ∷ map (λ (h : Hypothesis). h.formula) (take l.h-index l.h-items)

-- A JUDGEMENT BY A CLAUSE OF THE PROGRAM, on the path of an answer.
use Rattle.std.proofs.Common.{◌≡◌, ◌⊎◌, ℕ, ◌≤◌, List, [], length, codes, true, Some, sym, ap, subst}
use Rattle.std.specs.Prelude.{Contains}
use Rattle.ab_term.specs.Terms.{Nominal, Variable, Read}
use Rattle.ab_term.proofs.Lists.{Contains-none}
use Rattle.ab_term.specs.Variables.{Substitution, variables, image}
use Rattle.ab_term.specs.Sameness.{same_number}
use Rattle.ab_unifiers.specs.Replacements.{Cell, holds}
use Rattle.ab_unifiers.specs.Unification.{unified, Solves}
use Rattle.ab_unifiers.specs.Clauses.{Clause}
use Rattle.ab_unifiers.specs.Member.{HasMember}
use Rattle.ab_formulas.specs.Declarations.{Declarations, signature_in}
use Rattle.ab_formulas.specs.GoalTerms.{HoldsOnly}
use Rattle.ab_formulas.specs.Marks.{plain}
use Rattle.ab_formulas.specs.Programs.{HavePrograms}
use Rattle.ab_theory.specs.Judgements.{Judgement, as_judgement}
use Rattle.ab_theory.specs.SpecRules.{by_clause}
use Rattle.ab_search_trees.specs.Goals.{Goal, Now}
use Rattle.ab_search_trees.specs.Judgements.{search_rules}
use Rattle.ab_search_trees.specs.Tree.{problem_of, now_after}
use Rattle.ab_search_trees.specs.Ways.{unfolds, demanded, by_rule}
use Rattle.ab_search_trees.proofs.Carried.{AreFlexible}
use Rattle.ab_search_trees.proofs.Facts.{IsTask}
use Rattle.ab_search_trees.proofs.RuleWays.{rule_fine}
use Rattle.ab_search_trees.proofs.Shows.{IsFine, IsLater}
use Rattle.ab_search_proofs.specs.Proved.{IsByRule}
use Rattle.ab_search_clauses.specs.Paths.{at_last}
use Rattle.ab_search_judgements.proofs.ByClause.{clause_terms, clause_evidence}
use Rattle.ab_search_clauses.proofs.Path as path

module _ (D : Declarations) (program : HavePrograms D) (has : HasMember (signature_in D)) (now last : Now) (flexible : AreFlexible now) (g : Goal) (t : IsTask (signature_in D) now g) (depth : ℕ) (j : Judgement) (is : as_judgement g.conclusion ≡ Some j) (bare : j.sign ≡ plain)
    (c : Clause (List ℕ)) (there : Contains (search_rules D j) (by_clause c)) (ys : List (Variable ℕ)) (more : List (Cell (List ℕ))) (q n : Substitution ℕ (List ℕ)) (solves : Solves (codes "x") (problem_of (by_rule D now g depth j (by_clause c))) (unified more q))
    (later : IsLater (signature_in D) (now_after now (by_rule D now g depth j (by_clause c)) more q) n) where
  may : unfolds j.sign ≡ true
  may = ap unfolds bare

  pub fine : IsFine D now g (by_rule D now g depth j (by_clause c))
  fine = rule_fine D program has now flexible g t j is depth may (by_clause c) there

  pub none_held : (a : Nominal) → Contains [] a → Contains last.held a
  none_held a m = absurd (Contains-none a m)

  abbrev pub in_the_end : Substitution ℕ (List ℕ)
  in_the_end = path.in_the_end D now last g (by_rule D now g depth j (by_clause c)) fine.typed fine.over fine.flexible t more q n solves later

  module _ (known : (u : Read) → ((y : Variable ℕ) → Contains (variables u) y → Contains (variables g.conclusion) y ⊎ ((holds (by_rule D now g depth j (by_clause c)).flexible y ≡ true) × (length now.cells ≤ y.name))) → HoldsOnly ys (image same_number in_the_end u)) where
    abbrev pub terms : List Read
    terms = clause_terms D program has now flexible g t depth j is bare c there ys (path.put_in D now last g (by_rule D now g depth j (by_clause c)) fine.typed fine.over fine.flexible t more q n solves later) (path.fill D now last g (by_rule D now g depth j (by_clause c)) fine.typed fine.over fine.flexible t more q n solves later)
        (path.is_last D now last g (by_rule D now g depth j (by_clause c)) fine.typed fine.over fine.flexible t more q n solves later [] none_held ys known) more q solves

    pub gives : IsByRule D ys (image same_number in_the_end g.conclusion) terms (image same_number in_the_end (demanded (length now.cells) j (by_clause c)).body)
    gives =
        let w = by_rule D now g depth j (by_clause c) in
        let body_typed = (fine.tasks.0).conclusion.formula.typed in
        subst (λ B. IsByRule D ys (image same_number in_the_end g.conclusion) terms B) (sym (path.steps D now last g w fine.typed fine.over fine.flexible t more q n solves later body_typed))
        (subst (λ C. IsByRule D ys C terms (at_last (path.put_in D now last g w fine.typed fine.over fine.flexible t more q n solves later) (path.fill D now last g w fine.typed fine.over fine.flexible t more q n solves later) (demanded (length now.cells) j (by_clause c)).body)) (sym (path.steps D now last g w fine.typed fine.over fine.flexible t more q n solves later t.conclusion.formula.typed))
        (clause_evidence D program has now flexible g t depth j is bare c there ys (path.put_in D now last g w fine.typed fine.over fine.flexible t more q n solves later) (path.fill D now last g w fine.typed fine.over fine.flexible t more q n solves later) (path.is_last D now last g w fine.typed fine.over fine.flexible t more q n solves later [] none_held ys known) more q solves))

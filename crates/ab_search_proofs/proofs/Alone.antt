-- A rule that brings no variables is solved at once where its sides are the same, and leaves nothing open.
use Rattle.std.proofs.Common.{◌≡◌, ℕ, List, [], ◌∷◌, ◌++◌, map, length, filter, codes, cond, Option, Some, None, refl, sym, ◌∙◌, ap, subst, append-nil}
use Rattle.std.proofs.Math.Seq.{drop-append_seam}
use Rattle.std.proofs.lemmas.List.Elements.{All-nil}
use Rattle.ab_term.specs.Terms as tree
use Rattle.ab_term.specs.Terms.{Read}
use Rattle.ab_term.specs.Typing.{HasType}
use Rattle.ab_term.specs.Names.{HasOneTypeEach}
use Rattle.ab_term.specs.Translation.{forget, EqualPastHints}
use Rattle.ab_term.specs.Variables.{Substitution, image, one_by_one}
use Rattle.ab_term.specs.Sameness.{same_number}
use Rattle.ab_term.proofs.Same.{same_term-Decides}
use Rattle.ab_unifiers.specs.Replacements.{Cell}
use Rattle.ab_unifiers.specs.Unification.{Equation, Result, parts, unified, Solves, at_end, by_step, or_else, bodies, rigid_heads, pattern_and_rigid, one_variable, two_variables, either_way, found_at, next_by}
use Rattle.ab_unifiers.specs.Unifiers.{given}
use Rattle.ab_unifiers.specs.Clauses.{Each, numbered, put_together}
use Rattle.ab_unifiers.proofs.Ruling.{image_none}
use Rattle.ab_formulas.specs.BodyMarks.{mark_above}
use Rattle.ab_formulas.specs.Declarations.{Declarations, signature_in}
use Rattle.ab_formulas.specs.GoalTerms.{HoldsOnly}
use Rattle.ab_formulas.specs.Sequents.{Variable, Sequent, IsSequent, goal_names, in_terms, proving}
use Rattle.ab_theory.specs.Equations.{stays, made, variables_from}
use Rattle.ab_theory.specs.JudgementCases.{judgement_unfolding}
use Rattle.ab_theory.specs.Judgements.{Judgement}
use Rattle.ab_theory.specs.SpecRules.{SpecRule, Demand, body_alone, demand_of}
use Rattle.ab_theory.specs.Splits.{Case, problem_of}
use Rattle.ab_search_proofs.specs.Proved.{IsRuleSolved}

nothing_together : (ys : List (tree.Variable ℕ)) → put_together {Hint = List ℕ} ys [] ≡ []
nothing_together [] = refl
nothing_together (y ∷ ys) = refl

-- these equations, and this body
abbrev pub bringing_none : List (Equation (List ℕ)) → Read → Demand
bringing_none es X = record { passing = []; own = []; equations = es; body = X }

-- THE SIDES ARE THE SAME, so no rule but the first is asked
pub same_sides : (cells : List (Cell (List ℕ))) (e : Equation (List ℕ)) → EqualPastHints e.left e.right → Solves (codes "x") (given (e ∷ []) cells []) (unified cells [])
same_sides cells e q =
    let others : Option (Result (List ℕ)) =
    or_else (bodies e.place e.left e.right) (or_else (rigid_heads [] e.place e.left e.right)
    (or_else (either_way (codes "x") cells [] (pattern_and_rigid (codes "x") cells []) e) (or_else (one_variable (codes "x") cells [] e.left e.right) (either_way (codes "x") cells [] (two_variables (codes "x") cells []) e)))) in
    by_step (ap (λ b. next_by (given (e ∷ []) cells []) (found_at e [] (or_else (cond b (Some (parts [])) None) others) None)) ((same_term-Decides e.left e.right).1 q)) (at_end refl)

module _ (D : Declarations) (s : Sequent) (is : IsSequent D s) (j : Judgement) (r : SpecRule) (es : List (Equation (List ℕ))) (X : Read) (alone : (n : ℕ) → demand_of n (mark_above j.sign) j r ≡ bringing_none es X)
    (solves : (cells : List (Cell (List ℕ))) → Solves (codes "x") (given es cells []) (unified cells [])) (K : Read) (same : EqualPastHints X K) (cells : List (Cell (List ℕ))) where
  abbrev front : List (Cell (List ℕ))
  front = cells ++ []

  abbrev more : List (Cell (List ℕ))
  more = front ++ []

  abbrev none : Substitution ℕ (List ℕ)
  none = []

  abbrev as_case : Demand → Case
  as_case d = record { before = cells ++ d.passing; own = d.own; equations = d.equations; flexible = numbered (length (cells ++ d.passing)) d.own; goal = proving d.body s }

  abbrev AllTyped : List Variable → List Read → Type 0
  AllTyped = Each (λ (y : Variable) (t : Read). HasType (signature_in D) [] t y.type)

  case_is : as_case (bringing_none es X) ≡ judgement_unfolding s j r cells
  case_is = ap as_case (sym (alone (length cells)))

  none_made : made front more none ≡ []
  none_made = ap (λ k. filter (stays none) (variables_from (length front) k)) (drop-append_seam front [])

  pub solved_so : IsRuleSolved D s j r cells K
  solved_so = record {
    more = more;
    answer = none;
    solved = subst (λ (u : Case). Solves (codes "x") (problem_of u) (unified more none)) case_is (solves more);
    terms = [];
    typed = subst (λ (u : Case). AllTyped (made u.before more none) []) case_is
        (subst (λ zs. AllTyped zs []) (sym none_made) tt);
    known = All-nil (HoldsOnly (map in_terms s.variables));
    one_type = subst HasOneTypeEach (sym (append-nil (goal_names s))) is.one_type;
    body = ap (λ (u : Case). forget (one_by_one same_number (put_together (map in_terms (made u.before more none)) []) (image same_number none u.goal.conclusion))) (sym case_is)
        ∙ ap (λ z. forget (one_by_one same_number z (image same_number none X))) (nothing_together (map in_terms (made front more none)))
        ∙ ap forget (image_none X)
        ∙ same;
  }

-- A rule that demands nothing but its body
pub solved_alone : (D : Declarations) (s : Sequent) → IsSequent D s → (j : Judgement) (r : SpecRule) (X : Read) → ((n : ℕ) → demand_of n (mark_above j.sign) j r ≡ body_alone X) → (K : Read) → EqualPastHints X K → (cells : List (Cell (List ℕ))) → IsRuleSolved D s j r cells K
solved_alone D s is j r X alone K same cells = solved_so D s is j r [] X alone (λ cells. at_end refl) K same cells

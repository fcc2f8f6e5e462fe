-- BY WHICH RULES OF THE SPECIFICATION LOGIC A JUDGEMENT MAY HOLD, and what each demands: new variables, equations, and what is to hold besides.
use Rattle.std.specs.Prelude.{ℕ, zero, ◌+◌, List, [], ◌∷◌, ◌++◌, map, filter, length, Bool, ◌&&◌, not, Option, Some, None, if◌then◌else◌, bytes_eq, codes}
use Rattle.std.specs.List.{list_any}
use Rattle.ab_term.specs.Types.{o}
use Rattle.ab_term.specs.Logical.{existential}
use Rattle.ab_term.specs.Terms.{Nominal, constant, logical, index, lam, spine, no_terms, term, Read}
use Rattle.ab_term.specs.Substitution.{shift}
use Rattle.ab_term.specs.Variables.{Substitution, image, image_all}
use Rattle.ab_term.specs.Sameness.{same_number}
use Rattle.ab_unifiers.specs.Replacements.{Cell, occurs}
use Rattle.ab_unifiers.specs.Unification.{Equation}
use Rattle.ab_unifiers.specs.Clauses.{Clause, clause_variables, head_of, put_together}
use Rattle.ab_unifiers.specs.Prefixes.{arguments_of, own_terms}
use Rattle.ab_unifiers.specs.Alternatives.{cells_over, made_terms, arguments_equal}
use Rattle.ab_unifiers.specs.Member.{in_the_list}
use Rattle.ab_formulas.specs.Marks.{Sign}
use Rattle.ab_formulas.specs.Sequents.{Variable, in_terms}
use Rattle.ab_theory.specs.Equations.{variables_from}
use Rattle.ab_theory.specs.Splits.{cell_for}
use Rattle.ab_theory.specs.Unfolding.{exists_all}
use Rattle.ab_theory.specs.Judgements.{Judgement, marked_focus, constants_of}
use Rattle.ab_formulas.specs.Programs.{Program, goals_in}
use Rattle.ab_theory.specs.Opening.{both, open_goal, conjunction_of, Kind, compound, atomic, undetermined, kind_of, is_undetermined}
use Rattle.ab_theory.specs.Parts.{Part, parts_of, put_under}

pub data SpecRule : Type 0 where
  -- a clause of the program, whose head the goal is
  by_clause : Clause (List ℕ) → SpecRule
  -- some formula of the list, which comes into focus
  by_list : SpecRule
  -- the goal is made of others
  by_opening : SpecRule
  -- a part of the formula in focus, whose atom the goal is
  by_part : Part → SpecRule

-- the clauses for an atom, in order
abbrev pub clauses_for : Read → Program → Program
clauses_for (spine (constant p) ts) cs = filter (λ c. bytes_eq c.predicate p) cs
clauses_for _ cs = []

abbrev pub is_nil : Read → Bool
is_nil (spine (constant c) ts) = bytes_eq c (codes "nil")
is_nil _ = Bool.false

-- the rule by the list, where there may be something in it
abbrev pub list_rules : Read → List SpecRule
list_rules L = if is_nil L then [] else (by_list ∷ [])

abbrev pub rules_unfocused : Program → Read → Read → Kind → Option (List SpecRule)
rules_unfocused cs L G compound = Some (by_opening ∷ [])
rules_unfocused cs L A atomic = Some (map by_clause (clauses_for A cs) ++ list_rules L)
rules_unfocused cs L G undetermined = None

abbrev pub rules_in_focus : List Part → Kind → Option (List SpecRule)
rules_in_focus ps undetermined = None
rules_in_focus ps _ = if list_any (λ (p : Part). is_undetermined (kind_of p.atom)) ps then None else Some (map by_part ps)

abbrev pub rules_for : Program → Option Read → Read → Read → Option (List SpecRule)
rules_for cs None L G = rules_unfocused cs L G (kind_of G)
rules_for cs (Some F) L A = rules_in_focus (parts_of F) (kind_of A)

-- THE RULES, in order; none are known where the goal or an atom of the formula in focus isn't determined
abbrev pub rules_of : Program → Judgement → Option (List SpecRule)
rules_of cs j = rules_for cs j.focus j.context j.goal

-- WHAT A RULE DEMANDS: its own variables, as cells, and what has to be equal and to hold then. On the way some variables are made
-- that stand in none of it.
pub record Demand : Type 0 where
  pub passing : List (Cell (List ℕ))
  pub own : List (Cell (List ℕ))
  pub equations : List (Equation (List ℕ))
  pub body : Read

-- nothing but the body
abbrev pub body_alone : Read → Demand
body_alone B = record { passing = []; own = []; equations = []; body = B }

-- the name stands in goals, and not in the atom
abbrev pub stands_in_goals_alone : Read → List Read → Variable → Bool
stands_in_goals_alone A Gs y = list_any (occurs (in_terms y)) Gs && not (occurs (in_terms y) A)

-- Of names, which are these variables, those that stand in goals alone are closed by `exists`; the others become new variables
-- over the constants, numbered from n on. The goals are opened in the list, with the mark.
abbrev pub demand_by : ℕ → List Nominal → Sign → Read → List (Cell (List ℕ)) → List Variable → Read → List Read → (Substitution ℕ (List ℕ) → List (Equation (List ℕ))) → Demand
demand_by n S m L passing ys A Gs equations =
    let own = filter (λ y. not (stands_in_goals_alone A Gs y)) ys in
    let new = put_together (map in_terms own) (made_terms (codes "x") n S (map cell_for own)) in
    record {
      passing = passing;
      own = cells_over (codes "x") S (map cell_for own);
      equations = equations new;
      body = image same_number new (exists_all (filter (stands_in_goals_alone A Gs) ys) (conjunction_of (map (open_goal m L) Gs)));
    }

-- `exists F, {L, [F] |- A} /\ member F L`
abbrev pub some_item : Sign → Read → Read → Read
some_item m L A =
    let F = spine (index zero) no_terms in
    spine (logical (existential o)) (term (lam o (codes "F")
    (both (marked_focus m (shift zero L) F (shift zero A)) (spine (constant (codes "member")) (in_the_list F (shift zero L))))) no_terms)

-- THE SAME of the rule, for a judgement whose body gets the mark, where n variables were ever made
abbrev pub demand_of : ℕ → Sign → Judgement → SpecRule → Demand
demand_of n m j (by_clause c) =
    let ys = variables_from n c.variables in
    let named = put_together (clause_variables c) (own_terms (codes "x") (map in_terms ys)) in
    let A = image same_number named (head_of c) in
    demand_by n (constants_of j) m j.context [] ys A (map (image same_number named) (goals_in c.body))
    (λ new. arguments_equal (codes "x") 0 (arguments_of j.goal) (image_all same_number new (arguments_of A)))
demand_of n m j by_list = body_alone (some_item m j.context j.goal)
demand_of n m j by_opening = body_alone (open_goal m j.context j.goal)
demand_of n m j (by_part p) =
    let ys = variables_from n p.names in
    let us = own_terms (codes "x") (map in_terms ys) in
    let A = put_under p.names us p.atom in
    demand_by (n + length p.names) (constants_of j) m j.context p.names ys A (map (put_under p.names us) p.goals)
    (λ new. record { place = 0; left = image same_number new A; right = j.goal } ∷ [])

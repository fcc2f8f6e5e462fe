-- WHAT PARTS AND CLAUSES DEMAND, put together as on shared terms: goals under binders for all names, and what takes the places of these.
use Rattle.std.proofs.Common.{◌≡◌, ℕ, ◌+◌, List, [], ◌∷◌, map, length, Bool, not, codes, refl, sym, ◌∙◌, ap}
use Rattle.std.specs.Prelude.{Contains}
use Rattle.ab_term.specs.Types.{o, olist}
use Rattle.ab_term.specs.Terms.{Read}
use Rattle.ab_term.specs.Typing.{Signature, HasType}
use Rattle.ab_term.specs.Variables.{Substitution, image, image_all}
use Rattle.ab_term.specs.Sameness.{same_number}
use Rattle.ab_term.specs.Substitution.{instance_by_all}
use Rattle.ab_unifiers.specs.Replacements.{Cell}
use Rattle.ab_unifiers.specs.Clauses.{head_of}
use Rattle.ab_unifiers.specs.Prefixes.{own_terms, arguments_of}
use Rattle.ab_unifiers.specs.Alternatives.{cells_over, made_terms, arguments_equal}
use Rattle.ab_unifiers.specs.Unification.{Equation}
use Rattle.ab_formulas.specs.Marks.{Sign}
use Rattle.ab_formulas.specs.Sequents.{in_terms}
use Rattle.ab_formulas.specs.Clauses as kept
use Rattle.ab_formulas.specs.CaseClauses.{cell_of, case_of}
use Rattle.ab_formulas.specs.Programs.{IsProgramKept, goals_in}
use Rattle.ab_theory.specs.Equations.{variables_from}
use Rattle.ab_theory.specs.Judgements.{Judgement, constants_of}
use Rattle.ab_theory.specs.Parts.{Part, parts_of, under_all, put_under}
use Rattle.ab_theory.specs.SpecRules.{stands_in_goals_alone, by_part, by_clause, demand_of}
use Rattle.ab_judgement_forms.proofs.ClosedInTurn.{map_then}
use Rattle.ab_judgements.proofs.DemandsOfNames as demands
use Rattle.ab_judgement_forms.proofs.KeptScopes.{kept_variable, named, head_scope, goals_scopes, head_named, goals_named, head_is_scope, goals_are_scopes, alone_named}
use Rattle.ab_judgements.proofs.PartScopes.{atom_scope, goal_scopes}
use Rattle.ab_judgement_forms.proofs.StandIns.{IsBelow}
use Rattle.ab_judgement_forms.specs.DemandWalks.{under_variables, chosen, stand_ins, body_with}

-- A PART, of n variables before: its atom and its goals with new variables for the names; whether each of these is closed; and what becomes of
-- the others
abbrev pub atom_put : ℕ → Part → Read
atom_put n p = put_under p.names (own_terms (codes "x") (map in_terms (variables_from n p.names))) p.atom

abbrev pub goals_put : ℕ → Part → List Read
goals_put n p = map (put_under p.names (own_terms (codes "x") (map in_terms (variables_from n p.names)))) p.goals

abbrev pub part_closed : ℕ → Part → List Bool
part_closed n p = map (stands_in_goals_alone (atom_put n p) (goals_put n p)) (variables_from n p.names)

abbrev pub part_others : ℕ → Part → List (Cell (List ℕ))
part_others n p = chosen (map not (part_closed n p)) p.names

abbrev pub part_terms : ℕ → Judgement → Part → List Read
part_terms n j p = made_terms (codes "x") (n + length p.names) (constants_of j) (part_others n p)

abbrev pub PartOwn : ℕ → Sign → Judgement → Part → Type 0
PartOwn n m j p = (demand_of n m j (by_part p)).own ≡ cells_over (codes "x") (constants_of j) (part_others n p)

abbrev pub PartBody : ℕ → Sign → Judgement → Part → Type 0
PartBody n m j p = (demand_of n m j (by_part p)).body ≡ body_with m j.context (part_closed n p) p.names (part_terms n j p) (map (under_all p.names) p.goals)

abbrev pub part_equation : ℕ → Judgement → Part → Equation (List ℕ)
part_equation n j p = record { place = 0; left = instance_by_all (under_all p.names p.atom) (stand_ins (part_closed n p) p.names (part_terms n j p)); right = j.goal }

abbrev pub PartEquations : ℕ → Sign → Judgement → Part → Type 0
PartEquations n m j p = (demand_of n m j (by_part p)).equations ≡ part_equation n j p ∷ []

module _ (sg : Signature) (n : ℕ) (m : Sign) (j : Judgement) (context : HasType sg [] j.context olist) (context_below : IsBelow n j.context) where
  module _ (F : Read) (focus : HasType sg [] F o) (focus_below : IsBelow n F) (p : Part) (one : Contains (parts_of F) p) where
    abbrev part_put : List Read
    part_put = own_terms (codes "x") (map in_terms (variables_from n p.names))

    abbrev part_follows : Substitution ℕ (List ℕ) → List (Equation (List ℕ))
    part_follows new = record { place = 0; left = image same_number new (atom_put n p); right = j.goal } ∷ []

    pub part_own : PartOwn n m j p
    part_own = demands.own_demanded sg n (n + length p.names) (constants_of j) m j.context context context_below p.names p.names (atom_put n p) (goals_put n p) part_follows

    pub part_body : PartBody n m j p
    part_body =
        demands.body_demanded sg n (n + length p.names) (constants_of j) m j.context context context_below p.names p.names (atom_put n p) (goals_put n p) part_follows
        (map (under_all p.names) p.goals) (goal_scopes sg n F focus focus_below p one) (sym (map_then (under_all p.names) (λ M. instance_by_all M part_put) p.goals))

    pub part_equations : PartEquations n m j p
    part_equations =
        ap (λ t. record { place = 0; left = t; right = j.goal } ∷ [])
        (demands.atom_demanded sg n (n + length p.names) (constants_of j) m j.context context context_below p.names p.names (atom_put n p) (goals_put n p) part_follows
        (under_all p.names p.atom) (atom_scope sg n F focus focus_below p one) refl)

-- A CLAUSE OF THE PROGRAM, as it is kept
abbrev pub clause_closed : kept.Clause → List Bool
clause_closed k = map (stands_in_goals_alone k.head (goals_in k.body)) (map kept_variable k.variables)

abbrev pub clause_others : kept.Clause → List (Cell (List ℕ))
clause_others k = chosen (map not (clause_closed k)) (map cell_of k.variables)

abbrev pub clause_terms : ℕ → Judgement → kept.Clause → List Read
clause_terms n j k = made_terms (codes "x") n (constants_of j) (clause_others k)

abbrev pub ClauseOwn : ℕ → Sign → Judgement → kept.Clause → Type 0
ClauseOwn n m j k = (demand_of n m j (by_clause (case_of k))).own ≡ cells_over (codes "x") (constants_of j) (clause_others k)

abbrev pub ClauseBody : ℕ → Sign → Judgement → kept.Clause → Type 0
ClauseBody n m j k = (demand_of n m j (by_clause (case_of k))).body
    ≡ body_with m j.context (clause_closed k) (map cell_of k.variables) (clause_terms n j k) (map (under_variables (map kept_variable k.variables)) (goals_in k.body))

-- the head, with what takes the places of its variables
abbrev pub clause_head : ℕ → Judgement → kept.Clause → Read
clause_head n j k = instance_by_all (under_variables (map kept_variable k.variables) k.head) (stand_ins (clause_closed k) (map cell_of k.variables) (clause_terms n j k))

abbrev pub ClauseEquations : ℕ → Sign → Judgement → kept.Clause → Type 0
ClauseEquations n m j k = (demand_of n m j (by_clause (case_of k))).equations ≡ arguments_equal (codes "x") 0 (arguments_of j.goal) (arguments_of (clause_head n j k))

module _ (sg : Signature) (n : ℕ) (m : Sign) (j : Judgement) (context : HasType sg [] j.context olist) (context_below : IsBelow n j.context) (k : kept.Clause) (well : IsProgramKept sg k) where
  abbrev cells : List (Cell (List ℕ))
  cells = map cell_of k.variables

  abbrev atom_named : Read
  atom_named = image same_number (named sg n k well) (head_of (case_of k))

  abbrev its_goals : List Read
  its_goals = map (image same_number (named sg n k well)) (goals_in (case_of k).body)

  abbrev clause_follows : Substitution ℕ (List ℕ) → List (Equation (List ℕ))
  clause_follows new = arguments_equal (codes "x") 0 (arguments_of j.goal) (image_all same_number new (arguments_of atom_named))

  abbrev its_bits : List Bool
  its_bits = map (stands_in_goals_alone atom_named its_goals) (variables_from n cells)

  bits_are : its_bits ≡ clause_closed k
  bits_are = alone_named sg n k well

  -- the terms for the others
  abbrev terms_by : List Bool → List Read
  terms_by bs = made_terms (codes "x") n (constants_of j) (chosen (map not bs) cells)

  pub clause_own : ClauseOwn n m j k
  clause_own =
      demands.own_demanded sg n n (constants_of j) m j.context context context_below cells [] atom_named its_goals clause_follows
      ∙ ap (λ bs. cells_over (codes "x") (constants_of j) (chosen (map not bs) cells)) bits_are

  pub clause_body : ClauseBody n m j k
  clause_body =
      demands.body_demanded sg n n (constants_of j) m j.context context context_below cells [] atom_named its_goals clause_follows
      (goals_scopes sg n k well) (goals_are_scopes sg n k well) (goals_named sg n k well)
      ∙ ap (λ bs. body_with m j.context bs cells (terms_by bs) (goals_scopes sg n k well)) bits_are

  -- the equations, by the whole head
  abbrev by_head : Read → List (Equation (List ℕ))
  by_head t = arguments_equal (codes "x") 0 (arguments_of j.goal) (arguments_of t)

  pub clause_equations : ClauseEquations n m j k
  clause_equations =
      ap by_head
      (demands.atom_demanded sg n n (constants_of j) m j.context context context_below cells [] atom_named its_goals clause_follows
      (head_scope sg n k well) (head_is_scope sg n k well) (head_named sg n k well))
      ∙ ap (λ bs. by_head (instance_by_all (head_scope sg n k well) (stand_ins bs cells (terms_by bs)))) bits_are

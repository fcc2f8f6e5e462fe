-- THE WAYS TO GO ON FROM A GOAL, in the order in which a search takes them. Each asks that some sides are made equal, and
-- leaves goals.
use Rattle.std.specs.Prelude.{ℕ, suc, List, [], ◌∷◌, ◌++◌, map, length, codes, Bool, true, false, cond, Option, Some}
use Rattle.ab_term.specs.Types.{Ty}
use Rattle.ab_term.specs.Terms.{Nominal, Variable, lam, spine, Read}
use Rattle.ab_term.specs.Names.{support, permute}
use Rattle.ab_term.specs.Substitution.{instance}
use Rattle.ab_term.specs.Abstraction.{over, given_names}
use Rattle.ab_unifiers.specs.Replacements.{Cell}
use Rattle.ab_unifiers.specs.Unification.{Equation}
use Rattle.ab_unifiers.specs.Clauses.{numbered, name_term}
use Rattle.ab_unifiers.specs.Choices.{in_order, placed, new_constant, for_each}
use Rattle.ab_unifiers.specs.Alternatives.{alternative, on_right}
use Rattle.ab_formulas.specs.Declarations.{Declarations}
use Rattle.ab_formulas.specs.Forms.{Form, truth, both, either, implies, equal, for_all, exists, nabla, other, form_of}
use Rattle.ab_formulas.specs.Marks.{Sign, plain, star_of, at_of, plus_of, hash_of, erased}
use Rattle.ab_formulas.specs.BodyMarks.{mark_above, marked_in}
use Rattle.ab_theory.specs.Atoms.{Defined, Choice, defined_atom, choices_of}
use Rattle.ab_search_trees.specs.Goals.{Goal, Now, asking, assuming}
use Rattle.ab_search_trees.specs.Maps.{maps}
use Rattle.ab_theory.specs.Judgements.{Judgement, as_judgement}
use Rattle.ab_theory.specs.SpecRules.{SpecRule, by_list, Demand, demand_of}
use Rattle.ab_search_trees.specs.Judgements.{opened_once, is_blind, search_rules}

-- ONE WAY: the variables with those that it brings, behind all others; the sides that are to be made equal; formulas of which
-- the first is asked for and the second given, whose marks are to serve; the nominal constants that it takes; and the goals
-- that take the goal's place
pub record Way : Type 0 where
  pub cells : List (Cell (List ℕ))
  pub flexible : List (Variable ℕ)
  pub equations : List (Equation (List ℕ))
  pub serving : List (Read × Read)
  pub taken : List Nominal
  pub goals : List Goal

-- the hint of a quantifier's name
abbrev pub hint_of : Read → List ℕ
hint_of (lam A x F) = x
hint_of (spine h ts) = codes "x"

abbrev pub with_constants : List Nominal → List Nominal → List Nominal
with_constants [] ns = ns
with_constants (a ∷ new) ns = with_constants new (placed a ns)

-- `false` where a conclusion with the mark may not be unfolded
abbrev pub unfolds : Sign → Bool
unfolds plain = true
unfolds (hash_of i) = true
unfolds (star_of i) = false
unfolds (at_of i) = false
unfolds (plus_of i) = false

-- what a rule demands of a judgement whose body is marked as what it unfolds to is, where n variables were ever made
abbrev pub demanded : ℕ → Judgement → SpecRule → Demand
demanded n j r = demand_of n (mark_above j.sign) j r

abbrev pub is_by_list : SpecRule → Bool
is_by_list by_list = true
is_by_list _ = false

-- two goals, the left first or the right first
abbrev pub in_turn : Bool → Goal → Goal → List Goal
in_turn true left right = right ∷ left ∷ []
in_turn false left right = left ∷ right ∷ []

-- FROM A GOAL, over these variables
module _ (D : Declarations) (now : Now) (g : Goal) where
  -- no variable is brought
  abbrev pub leading_to : List Goal → Way
  leading_to gs = record { cells = now.cells; flexible = now.flexible; equations = []; serving = []; taken = []; goals = gs }

  -- the two are made equal, and no goal is left
  abbrev pub equating : Read → Read → List (Read × Read) → Way
  equating t u serving = record { cells = now.cells; flexible = now.flexible; equations = record { place = 0; left = t; right = u } ∷ []; serving = serving; taken = []; goals = [] }

  -- a new variable over these constants, and the term that it makes of them
  abbrev pub new_cell : Read → Ty → List Nominal → Cell (List ℕ)
  new_cell F A ns = record { hint = hint_of F; type = over ns A }

  abbrev pub new_variable : Ty → List Nominal → Variable ℕ
  new_variable A ns = record { name = length now.cells; type = over ns A }

  abbrev pub new_term : Ty → List Nominal → Read
  new_term A ns = given_names (codes "x") (new_variable A ns) ns A

  -- 1. `true`
  abbrev pub by_truth : Form → List Way
  by_truth truth = leading_to [] ∷ []
  by_truth _ = []

  -- 2. a hypothesis, its constants mapped into the branch's: it is made equal to the conclusion, past marks, and its marks serve
  abbrev pub by_hypothesis : Read → List Way
  by_hypothesis B = map (λ ps. equating (permute ps (erased B)) (erased g.conclusion) ((g.conclusion, B) ∷ [])) (maps (in_order (support B)) g.constants)

  -- 3. by the form of the conclusion

  abbrev pub by_layer : ℕ → Option Read → List Way
  by_layer (suc n) (Some F) = leading_to (record (asking F g) { layers = n } ∷ []) ∷ []
  by_layer n o = []

  abbrev pub by_form : Form → List Way
  by_form (equal A t u) = equating t u [] ∷ []
  by_form (both A B) = leading_to (in_turn g.member_first (asking A g) (asking B g)) ∷ []
  by_form (either A B) = leading_to (asking A g ∷ []) ∷ leading_to (asking B g ∷ []) ∷ []
  by_form (implies A B) = leading_to (asking B (assuming A g) ∷ []) ∷ []
  -- the least number that the branch doesn't hold
  by_form (nabla A F) =
      let a = new_constant g.constants A in
      record (leading_to (record (asking (instance F (name_term (codes "x") a)) g) { constants = placed a g.constants } ∷ [])) { taken = a ∷ [] } ∷ []
  -- a variable over the branch's constants, which may be replaced
  by_form (exists A F) =
      record {
        cells = now.cells ++ new_cell F A g.constants ∷ [];
        flexible = now.flexible ++ new_variable A g.constants ∷ [];
        equations = [];
        serving = [];
        taken = [];
        goals = record (asking (instance F (new_term A g.constants)) g) { untouched = false; member_first = g.member_first } ∷ [];
      } ∷ []
  -- a variable over the conclusion's constants, which may not
  by_form (for_all A F) =
      let ns = in_order (support g.conclusion) in
      cond g.untouched (record {
        cells = now.cells ++ new_cell F A ns ∷ [];
        flexible = now.flexible;
        equations = [];
        serving = [];
        taken = [];
        goals = asking (instance F (new_term A ns)) g ∷ [];
      } ∷ []) []
  by_form other = by_layer g.layers (opened_once g.conclusion)
  by_form _ = []

  -- 4. an atom by its definition: the clause's variables may be replaced, and its body is left, one conclusion less being
  -- unfolded below

  abbrev pub by_choice : ℕ → Defined → Choice → Way
  by_choice depth d c =
      let alt = alternative (codes "x") (record { cells = now.cells; variables = []; constants = g.constants }) d.arguments c.clause c.names on_right in
      record {
        cells = alt.cells;
        flexible = now.flexible ++ alt.flexible;
        equations = alt.equations;
        serving = [];
        taken = alt.fresh;
        goals = record {
          hypotheses = g.hypotheses;
          conclusion = marked_in d.block.predicates (mark_above d.sign) alt.body;
          depth = depth;
          constants = with_constants alt.fresh g.constants;
          untouched = false;
          layers = g.layers;
          member_first = false;
        } ∷ [];
      }

  abbrev pub by_definition : ℕ → Option Defined → List Way
  by_definition (suc depth) (Some d) = cond (unfolds d.sign) (map (by_choice depth d) (choices_of g.constants d)) []
  by_definition n o = []

  -- and a judgement by a rule: the rule's variables may be replaced, and what it leaves is left, one conclusion less being
  -- unfolded below

  abbrev pub by_rule : ℕ → Judgement → SpecRule → Way
  by_rule depth j r =
      let d = demanded (length now.cells) j r in
      record {
        cells = (now.cells ++ d.passing) ++ d.own;
        flexible = now.flexible ++ numbered (length (now.cells ++ d.passing)) d.own;
        equations = d.equations;
        serving = [];
        taken = [];
        goals = record (asking d.body g) { depth = depth; untouched = false; member_first = is_by_list r } ∷ [];
      }

  abbrev pub by_judgement : ℕ → Option Judgement → List Way
  by_judgement (suc depth) (Some j) = cond (unfolds j.sign) (map (by_rule depth j) (search_rules D j)) []
  by_judgement n o = []

  -- ALL WAYS, in order. Where the search is blind, the last kinds aren't looked for.
  abbrev pub ways : List Way
  ways =
      by_truth (form_of g.conclusion)
      ++ for_each by_hypothesis g.hypotheses
      ++ cond (is_blind now.flexible g.conclusion) [] ((by_form (form_of g.conclusion) ++ by_definition g.depth (defined_atom D g.conclusion)) ++ by_judgement g.depth (as_judgement g.conclusion))

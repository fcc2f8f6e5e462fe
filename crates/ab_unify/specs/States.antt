-- Where a run stands, and what one step of it does.
use Rattle.std.specs.Prelude.{◌≡◌, ℕ, ◌+◌, List, [], ◌∷◌, map, All, Bool, true, false, Option, Some, None, Result, Ok, Err, codes}
use Rattle.ab_term.specs.Variables.{Substitution}
use Rattle.ab_norm.specs.ab_types.specs.Entries.{Table}
use Rattle.ab_norm.specs.ab_store.specs.declared.node.CellId.{CellId}
use Rattle.ab_norm.specs.ab_store.specs.declared.node.Equation.{Equation as Given}
use Rattle.ab_norm.specs.ab_store.specs.Trees.{Contents}
use Rattle.ab_patterns.specs.declared.equation.Numbered.{Numbered}
use Rattle.ab_patterns.specs.ab_unifiers.specs.Replacements.{Change}
use Rattle.ab_patterns.specs.ab_unifiers.specs.Unification.{State, Equation, Answer, unified, apart, stuck, clash, parts, replaced, image_of, rule, Found, first_found, finished, goes_on, next, Solves}
use Rattle.ab_unify.specs.declared.flexible_rules.Step.{Step}
use Rattle.ab_unify.specs.declared.flexible_rules.Step.TheVariants.{NoRule, Clash, Parts, Replaced}
use Rattle.ab_unify.specs.Problem.{cells_read, variables_read}
use Rattle.ab_unify.specs.StoreChanges.{Changed}
use Rattle.ab_unify.specs.Outcome.{equation_read, IsTypedEquation, still}
use Rattle.ab_unify.specs.declared.answers.Solved.{Solved}
use Rattle.ab_unify.specs.declared.answers.Solved.TheVariants as answers
use Rattle.ab_unify.specs.declared.verdict.Verdict.{Verdict}
use Rattle.ab_unify.specs.declared.verdict.Verdict.TheVariants.{Unified, Apart, Stuck}
use Rattle.ab_unify.specs.UnifyAnswers.{AreLeft}

-- the equations, numbered from k
abbrev pub numbered_from : ℕ → List Given → List Numbered
numbered_from k [] = []
numbered_from k (e ∷ es) = record { place = k; left = e.left; right = e.right } ∷ numbered_from (k + 1) es

module _ (types : Table) (store : Contents) where
  -- the state of a run, where these pairs were put in so far
  abbrev pub state_of : List Numbered → List CellId → Substitution ℕ (List ℕ) → State (List ℕ)
  state_of es flexible s = record { equations = map (equation_read types store) es; cells = cells_read types store; flexible = variables_read types store flexible; pairs = s }

  -- no rule applies to the equation
  abbrev pub IsAtRest : List CellId → Numbered → Type 0
  IsAtRest flexible e = rule (codes "x") (cells_read types store) (variables_read types store flexible) (equation_read types store e) ≡ None

  -- the first equation to which a rule applies
  abbrev pub found_in : List Numbered → List CellId → Option (Found (List ℕ))
  found_in es flexible = first_found (rule (codes "x") (cells_read types store) (variables_read types store flexible)) (map (equation_read types store) es)

-- these pairs were put in since the first store
abbrev pub Reaches : Table → Contents → List CellId → Table → Contents → List CellId → Substitution ℕ (List ℕ) → Type 0
Reaches T S F types store flexible s = Changed T S F (record { cells = cells_read types store; flexible = variables_read types store flexible; pairs = s }) types store flexible

-- what was found is told, where equations that wait stand before it and the others behind it; where nothing was, those that
-- wait are all
abbrev pub FindsBetween : Table → Contents → List (Equation (List ℕ)) → List Numbered → List Numbered → Step → Change (List ℕ) → Change (List ℕ) → Option (Found (List ℕ)) → Type 0
FindsBetween types store all waiting rest NoRule none c o = (o ≡ None) × (c ≡ none) × (rest ≡ []) × (map (equation_read types store) waiting ≡ all)
FindsBetween types store all waiting rest Clash none c o = (f : Found (List ℕ)) × (o ≡ Some f) × (f.result ≡ clash) × (c ≡ none)
FindsBetween types store all waiting rest (Parts es) none c o =
    (o ≡ Some (record { before = map (equation_read types store) waiting; result = parts (map (equation_read types store) es.items); behind = map (equation_read types store) rest }))
    × (c ≡ none) × All (IsTypedEquation types store) es.items
FindsBetween types store all waiting rest Replaced none c o =
    (f : Found (List ℕ)) × (o ≡ Some f) × (f.result ≡ replaced c) × (map (equation_read types store) waiting ≡ map (image_of c.pairs) f.before) × (map (equation_read types store) rest ≡ map (image_of c.pairs) f.behind)

abbrev pub UnlessReplaced : Step → Type 0 → Type 0
UnlessReplaced NoRule P = P
UnlessReplaced Clash P = P
UnlessReplaced (Parts es) P = P
UnlessReplaced Replaced P = Unit {0}

-- THE FIRST RULE IS CARRIED OUT: of the equations `es` those before it wait, and those behind it are left
pub record Settles (types : Table) (store : Contents) (begun : List CellId) (es : List Numbered) (more : Table) (now : Contents) (flexible : List CellId) (waiting rest : List Numbered) (r : Step) : Type 0 where
  pub change : Change (List ℕ)
  pub changed : Changed types store begun change more now flexible
  pub says : FindsBetween more now (map (equation_read types store) es) waiting rest r (still types store begun) change (found_in types store es begun)
  -- unless something was replaced, no rule applies to those that wait
  pub at_rest : UnlessReplaced r (All (IsAtRest more now flexible) waiting)

-- what the verdict says of a step from one state to another
abbrev pub IsStep : Option Verdict → State (List ℕ) → State (List ℕ) → Type 0
IsStep None s r = next (codes "x") s ≡ goes_on r
IsStep (Some Unified) s r = (next (codes "x") s ≡ finished (unified r.cells r.pairs)) × (r.flexible ≡ s.flexible)
IsStep (Some Apart) s r = next (codes "x") s ≡ finished apart
IsStep (Some (Stuck place)) s r = next (codes "x") s ≡ finished (stuck place)

-- the verdict where no rule applies to these
abbrev pub verdict_on : List Numbered → Verdict
verdict_on [] = Unified
verdict_on (e ∷ es) = Stuck e.place

-- how many rules the step carries out
abbrev pub rules_in : Option Verdict → ℕ
rules_in None = 1
rules_in (Some Apart) = 1
rules_in (Some Unified) = 0
rules_in (Some (Stuck place)) = 0

-- ONE STEP IS MADE, from any pairs that were put in before
abbrev pub Advances : Table → Contents → List CellId → List Numbered → Table → Contents → List CellId → List Numbered → Option Verdict → Type 0
Advances types store begun es more now flexible left v =
    (T : Table) (S : Contents) (F : List CellId) (s : Substitution ℕ (List ℕ)) → Reaches T S F types store begun s →
    (r : Substitution ℕ (List ℕ)) × Reaches T S F more now flexible r × IsStep v (state_of types store es begun s) (state_of more now left flexible r)

-- the answer that the verdict stands for
abbrev pub answer_of : Verdict → State (List ℕ) → Answer (List ℕ)
answer_of Unified r = unified r.cells r.pairs
answer_of Apart r = apart
answer_of (Stuck place) r = stuck place

-- the verdict that an answer tells
abbrev pub verdict_of : Solved → Verdict
verdict_of (answers.Unified made) = Unified
verdict_of answers.Apart = Apart
verdict_of (answers.Stuck place) = Stuck place

abbrev pub unified_is : {E : Type 0} → Result Solved E → Bool
unified_is (Ok (answers.Unified made)) = true
unified_is (Ok answers.Apart) = false
unified_is (Ok (answers.Stuck place)) = false
unified_is (Err e) = false

-- what a run leaves unbound
abbrev pub Leaves : Contents → List CellId → Table → Contents → Verdict → Substitution ℕ (List ℕ) → Type 0
Leaves store begun more now Unified s = AreLeft store begun more now s
Leaves store begun more now Apart s = Unit {0}
Leaves store begun more now (Stuck place) s = Unit {0}

-- A WHOLE RUN IS MADE
pub record Runs (types : Table) (store : Contents) (begun : List CellId) (es : List Numbered) (more : Table) (now : Contents) (flexible : List CellId) (v : Verdict) : Type 0 where
  pub pairs : Substitution ℕ (List ℕ)
  pub reached : Reaches types store begun more now flexible pairs
  pub solves : Solves (codes "x") (state_of types store es begun []) (answer_of v (state_of more now [] flexible pairs))
  pub leaves : Leaves store begun more now v pairs

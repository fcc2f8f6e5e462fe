-- What comes of a choice of constants. Public contracts don't speak of this.
use Rattle.std.specs.Prelude.{◌≡◌, ℕ, ◌-◌, take, codes, false, true, List, [], ◌∷◌, ◌++◌, map, filter, length, All, Contains, Bool, ◌&&◌, is_none}
use Rattle.std.specs.List.{list_any}
use Rattle.ab_term.specs.Terms.{Nominal, Read}
use Rattle.ab_term.specs.Variables.{Substitution, image}
use Rattle.ab_term.specs.Sameness.{same_number}
use Rattle.ab_norm.specs.ab_types.specs.Entries.{Table}
use Rattle.ab_norm.specs.ab_store.specs.declared.node.TermId.{TermId}
use Rattle.ab_norm.specs.ab_store.specs.declared.node.CellId.{CellId}
use Rattle.ab_norm.specs.ab_store.specs.declared.node.Equation.{Equation}
use Rattle.ab_norm.specs.ab_store.specs.Trees.{Contents, Holds, cell_of, tree_of}
use Rattle.ab_norm.specs.ab_store.specs.Reading.{binding_of, cell_variable, reading}
use Rattle.ab_unifiers.specs.Replacements.{Cell, occurs}
use Rattle.ab_unifiers.specs.Unification as rules
use Rattle.ab_unifiers.specs.Unification.{Solves}
use Rattle.ab_unify.specs.Problem.{cells_read, problem}
use Rattle.ab_unifiers.specs.Choices.{in_order}
use Rattle.ab_formulas.specs.Sequents.{Variable, goal_names}
use Rattle.ab_consequences.specs.Leading as leading
use Rattle.ab_consequences.specs.NewConstants.{pairs_for}
use Rattle.ab_consequences.specs.UseStages.{stages_of, stage_under}
use Rattle.ab_theory.specs.Equations.{made}
use Rattle.ab_theory.specs.Splits.{NeverArises, IsOpen}
use Rattle.ab_theory.specs.Uses.{given_constants, use_by}
use Rattle.ab_theory.specs.UseAnswers.{Using, case_by, IsSolvedBy, standing_in, awaited, result_in}
use Rattle.ab_uses.specs.UseSolutions.{behind_all}
use Rattle.ab_uses.specs.UseCells.{StageIsTyped, stages_read}
use Rattle.ab_uses.specs.ClosedReadings.{closed_reading}
use Rattle.ab_uses.specs.StageReadings.{stage_by}
use Rattle.ab_uses.specs.declared.stage.Stage.{Stage}
use Rattle.ab_uses.specs.declared.outcome.Outcome.{Outcome}
use Rattle.ab_uses.specs.declared.outcome.Outcome.TheVariants.{PassedOver, Apart, Stuck, Open, Used}

-- the cell is bound to nothing, and stands in what one of the terms reads as
abbrev pub is_left_in : Table → Contents → List TermId → CellId → Bool
is_left_in types store ts c = is_none (binding_of store c) && list_any (λ t. occurs (cell_variable types store c) (reading types store t)) ts

-- SO MUCH IS LEFT of these antecedents and this result, once cells are bound: what is answered is held by the later store
abbrev pub IsLeft : Table → Contents → List TermId → TermId → List Stage → List Nominal → List CellId → Contents → Outcome → Type 0
IsLeft types store As R ss known cells now (Open x) =
    (c : CellId) × (rest : List CellId) × (filter (is_left_in types store (As ++ R ∷ [])) cells ≡ c ∷ rest) × (x ≡ (cell_of store c).hint)
IsLeft types store As R ss known cells now (Used u) =
    (filter (is_left_in types store (As ++ R ∷ [])) cells ≡ [])
    × All (StageIsTyped types now) u.stages.items × All (Holds now) u.awaited.items × Holds now u.result
    × (map (tree_of types now) u.awaited.items ≡ map (reading types store) As) × (tree_of types now u.result ≡ reading types store R)
    × (stages_read types now u.stages.items ≡ map (stage_by types (closed_reading types store known cells)) ss)
IsLeft types store As R ss known cells now _ = ⊥

module _ (types : Table) (store : Contents) (es : List Equation) (own : List CellId) (As : List TermId) (R : TermId) (ss : List Stage) (known : List Nominal) where
  -- the use's own cells are the last ones
  abbrev pub cells_before : List (Cell (List ℕ))
  cells_before = take (length store.cells - length own) (cells_read types store)

  abbrev pub left_by : Substitution ℕ (List ℕ) → Read
  left_by answer = image same_number answer (behind_all (map (tree_of types store) As) (tree_of types store R))

  -- the new variables that stand in it
  abbrev pub open_by : List (Cell (List ℕ)) → Substitution ℕ (List ℕ) → List Variable
  open_by more answer = standing_in (left_by answer) (made cells_before more answer)

  -- SO THE EQUATIONS ARE SOLVED, where this is left: antecedents, and a result
  abbrev pub IsSolvedSo : Table → Contents → Outcome → Type 0
  IsSolvedSo more_types now PassedOver = ⊥
  IsSolvedSo more_types now Apart = Solves (codes "x") (problem types store es own) rules.apart
  IsSolvedSo more_types now (Stuck i) = Solves (codes "x") (problem types store es own) (rules.stuck i)
  IsSolvedSo more_types now (Open x) =
      (more : List (Cell (List ℕ))) × (answer : Substitution ℕ (List ℕ)) × Solves (codes "x") (problem types store es own) (rules.unified more answer)
      × (y : Variable) × (ys : List Variable) × (y ∷ ys ≡ open_by more answer) × (x ≡ y.name)
  IsSolvedSo more_types now (Used u) =
      (more : List (Cell (List ℕ))) × (answer : Substitution ℕ (List ℕ)) × Solves (codes "x") (problem types store es own) (rules.unified more answer)
      × ([] ≡ open_by more answer) × All (StageIsTyped more_types now) u.stages.items × All (Holds now) u.awaited.items × Holds now u.result
      × (map (tree_of more_types now) u.awaited.items ≡ map (λ t. image same_number answer (tree_of types store t)) As)
      × (tree_of more_types now u.result ≡ image same_number answer (tree_of types store R))
      × (stages_read more_types now u.stages.items ≡ map (stage_under (pairs_for known (made cells_before more answer))) (map (stage_under answer) (stages_read types store ss)))

module _ (cells : List (Cell (List ℕ))) (u : Using) (names : List Nominal) where
  -- each constant stands outside the formula that its name is taken off
  abbrev pub IsChoice : Type 0
  IsChoice = (use_by u.goal (length cells) u.parts u.formula names).outside ≡ true

  -- THE STAGES ARE CLOSED: what the answer puts for variables, and then the least constants that aren't known for what it leaves open
  abbrev pub AreClosed : (K : Read) → IsSolvedBy cells u names K [] → List leading.Stage → Type 0
  AreClosed K is ss =
      (known : List Nominal) × ((a : Nominal) → Contains (names ++ (goal_names u.goal ++ given_constants u.parts)) a → Contains known a)
      × (ss ≡ map (stage_under (pairs_for known (made cells is.more is.answer))) (map (stage_under is.answer) (stages_of (in_order (goal_names u.goal)) (length cells) u.parts names)))

  -- SO THE CHOICE COMES OUT
  abbrev pub ComesOut : Table → Contents → Outcome → Type 0
  ComesOut types store PassedOver = (use_by u.goal (length cells) u.parts u.formula names).outside ≡ false
  ComesOut types store Apart = IsChoice × NeverArises (case_by cells u names)
  ComesOut types store (Stuck i) = IsChoice × IsOpen (case_by cells u names) i
  ComesOut types store (Open x) = IsChoice × ((K : Read) × (y : Variable) × (ys : List Variable) × IsSolvedBy cells u names K (y ∷ ys) × (x ≡ y.name))
  ComesOut types store (Used found) =
      IsChoice × All (StageIsTyped types store) found.stages.items × All (Holds store) found.awaited.items × Holds store found.result
      × ((K : Read) × (is : IsSolvedBy cells u names K []) × (map (tree_of types store) found.awaited.items ≡ awaited u.aim.hypotheses K)
      × (tree_of types store found.result ≡ result_in u.aim.hypotheses K) × AreClosed K is (stages_read types store found.stages.items))

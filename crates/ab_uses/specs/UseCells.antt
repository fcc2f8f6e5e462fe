-- A use, made on shared terms: what parts stand for, which formula has them, and what is read of what was made.
use Rattle.std.specs.Prelude.{◌≡◌, ℕ, List, [], ◌∷◌, ◌++◌, map, length, true, ◌&&◌, All}
use Rattle.ab_term.specs.Types.{Ty, prop}
use Rattle.ab_norm.specs.ab_types.specs.Entries.{Table}
use Rattle.ab_norm.specs.ab_types.specs.Ids.{HoldsType, type_of}
use Rattle.ab_norm.specs.ab_store.specs.Trees.{Contents, Holds, tree_of}
use Rattle.ab_norm.specs.ab_store.specs.Naming.{IsTerm}
use Rattle.ab_norm.specs.Nominals.{HoldsNominal}
use Rattle.ab_unifiers.specs.Replacements.{Cell}
use Rattle.ab_unifiers.specs.Clauses.{numbered}
use Rattle.ab_unify.specs.Problem.{cells_read, variables_read}
use Rattle.ab_alternatives.specs.ab_instances.specs.ListReadings.{trees_at}
use Rattle.ab_alternatives.specs.ab_instances.specs.RaisedCells.{ids_from}
use Rattle.ab_consequences.specs.Leading as leading
use Rattle.ab_theory.specs.Pieces as plain
pub use Rattle.ab_consequences.specs.UseStages.{HasParts, has_none, has_variable, has_given, has_constant, has_antecedent}
use Rattle.ab_theory.specs.Pieces.{variable_for, given_term, constant_for, antecedent}
use Rattle.ab_theory.specs.Uses.{Use}
use Rattle.ab_uses.specs.declared.part.Part.{Part}
use Rattle.ab_uses.specs.declared.part.Part.TheVariants.{Variable, Given, Constant, Antecedent}
use Rattle.ab_uses.specs.declared.stage.Stage.{Stage}
use Rattle.ab_uses.specs.declared.stage.Stage.TheVariants as stage
use Rattle.ab_uses.specs.declared.made_uses.Made.{Made}
use Rattle.ab_uses.specs.StageReadings.{stage_by}

module _ (types : Table) (store : Contents) where
  -- what a part stands for
  abbrev pub part_read : Part → plain.Part
  part_read (Variable x a) = variable_for x (type_of types a)
  part_read (Given t) = given_term (tree_of types store t)
  part_read (Constant a) = constant_for (type_of types a)
  part_read Antecedent = antecedent

  abbrev pub parts_read : List Part → List plain.Part
  parts_read = map part_read

  -- what a part names is there
  abbrev pub HoldsPart : Part → Type 0
  HoldsPart (Variable x a) = HoldsType types a
  HoldsPart (Given t) = Holds store t
  HoldsPart (Constant a) = HoldsType types a
  HoldsPart Antecedent = Unit {0}

  -- what a stage names is there: a term of some type, or a constant with a formula
  abbrev pub StageIsTyped : Stage → Type 0
  StageIsTyped (stage.Instance t) = (A : Ty) × IsTerm types store [] t A
  StageIsTyped (stage.Chosen a F) = HoldsNominal types a × IsTerm types store [] F prop
  StageIsTyped stage.Antecedent = Unit {0}

  -- what stages stand for
  abbrev pub stages_read : List Stage → List leading.Stage
  stages_read = map (stage_by types (tree_of types store))

-- THE USE IS MADE, where there were these cells before: its variables are the last cells, and its antecedents and its result
-- are formulas
pub record IsMade (types : Table) (store : Contents) (before : List (Cell (List ℕ))) (u : Use) (m : Made) : Type 0 where
  pub outside : u.outside ≡ true
  pub all : cells_read types store ≡ before ++ u.variables
  pub cells : m.cells.items ≡ ids_from (length before) u.variables
  pub variables : variables_read types store m.cells.items ≡ numbered (length before) u.variables
  pub antecedents : trees_at types store m.antecedents.items ≡ u.antecedents
  pub formulas : All (λ t. IsTerm types store [] t prop) m.antecedents.items
  pub result : tree_of types store m.result ≡ u.result
  pub formula : IsTerm types store [] m.result prop
  pub stages : All (StageIsTyped types store) m.stages.items

-- the constants that are left for the parts behind this one
abbrev pub names_left : {X : Type 0} → plain.Part → List X → List X
names_left p [] = []
names_left (constant_for A) (a ∷ names) = names
names_left (variable_for x A) (a ∷ names) = a ∷ names
names_left (given_term t) (a ∷ names) = a ∷ names
names_left antecedent (a ∷ names) = a ∷ names

-- one use, and then another of what it leads to
abbrev pub and_then : Use → Use → Use
and_then u v = record {
  variables = u.variables ++ v.variables;
  antecedents = u.antecedents ++ v.antecedents;
  result = v.result;
  outside = u.outside && v.outside;
}

-- what is made so far: its formulas are formulas
pub record IsUnderWay (types : Table) (store : Contents) (m : Made) : Type 0 where
  pub formulas : All (λ t. IsTerm types store [] t prop) m.antecedents.items
  pub formula : IsTerm types store [] m.result prop
  pub stages : All (StageIsTyped types store) m.stages.items

-- it goes on by what this use takes off the formula that it had come to
pub record GoesOn (T : Table) (S : Contents) (m : Made) (u : Use) (U : Table) (V : Contents) (n : Made) : Type 0 where
  pub outside : u.outside ≡ true
  pub all : cells_read U V ≡ cells_read T S ++ u.variables
  pub cells : n.cells.items ≡ m.cells.items ++ ids_from (length S.cells) u.variables
  pub antecedents : trees_at U V n.antecedents.items ≡ trees_at T S m.antecedents.items ++ u.antecedents
  pub result : tree_of U V n.result ≡ u.result
  pub under_way : IsUnderWay U V n

-- these stages are taken besides
abbrev pub GoesOnBy : Table → Contents → Made → List leading.Stage → Table → Contents → Made → Type 0
GoesOnBy T S m ss U V n = stages_read U V n.stages.items ≡ stages_read T S m.stages.items ++ ss

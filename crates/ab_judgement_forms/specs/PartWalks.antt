-- A walk through a formula in focus. Public contracts don't speak of it.
use Rattle.std.specs.Prelude.{ℕ, zero, ◌+◌, ◌-◌, List, [], ◌++◌, map, length, All}
use Rattle.ab_term.specs.Terms.{Read}
use Rattle.ab_term.specs.Reach.{raise}
use Rattle.ab_norm.specs.ab_types.specs.Entries.{Table}
use Rattle.ab_norm.specs.ab_store.specs.Trees.{Contents, Holds, tree_of}
use Rattle.ab_theory.specs.Parts.{Part}
use Rattle.ab_judgement_forms.specs.declared.part_names.PartName.{PartName}
use Rattle.ab_judgement_forms.specs.declared.focus_parts.Placed.{Placed}
use Rattle.ab_judgement_forms.specs.PartReadings.{name_read, HoldsName}

-- the goal as it stands under so many names
abbrev pub goal_inside : Table → Contents → ℕ → Placed → Read
goal_inside types store count g = raise (count - g.depth) zero (tree_of types store g.goal)

-- the part of what stands inside, with the names and the goals that stand around
abbrev pub inside : Table → Contents → List PartName → List Placed → Part → Part
inside types store names goals p = record {
  names = map (name_read types) names ++ p.names;
  goals = map (goal_inside types store (length names + length p.names)) goals ++ p.goals;
  atom = p.atom;
}

-- the part of an atom
abbrev pub alone : Read → Part
alone A = record { names = []; goals = []; atom = A }

-- what is named is there
pub record IsAround (types : Table) (store : Contents) (names : List PartName) (goals : List Placed) : Type 0 where
  pub named : All (HoldsName types) names
  pub placed : All (λ (g : Placed). Holds store g.goal) goals

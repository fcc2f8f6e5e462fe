use Rattle.std.proofs.Common.{◌≡◌, map, take, length}
use Rattle.std.specs.Prelude.{not, vec_len}
use Rattle.std.specs.List.{All}
use Rattle.ab_norm.specs.ab_types.specs.Entries.{Table}
use Rattle.ab_norm.specs.ab_store.specs.Trees.{HoldsCell, tree_of}
use Rattle.ab_logic.specs.Worlds.{variable_at}
use Rattle.ab_theory.specs.SpecRules.{stands_in_goals_alone}
use Rattle.ab_judgement_forms.specs.DemandWalks.{trues, chosen}
use Rattle.ab_judgement_forms.proofs.goal_names.sides_of.Given as goal

abbrev pub invariant-loop-cell : goal.invariant-loop-cell
invariant-loop-cell l = record {
  alone : (types : Table) → l.alone.items ≡ map (stands_in_goals_alone (tree_of types l.store l.atom) (map (tree_of types l.store) l.goals)) (map (variable_at types l.store) (take l.cell-index l.cells));
  long : length l.alone.items ≡ l.cell-index;
  closed : l.closed.items ≡ chosen l.alone.items (take l.cell-index l.cells);
  own : l.own.items ≡ chosen (map not l.alone.items) (take l.cell-index l.cells);
  count : vec_len l.closed ≡ trues l.alone.items;
  closed_held : All (HoldsCell l.store) l.closed.items;
  own_held : All (HoldsCell l.store) l.own.items;
}

use Rattle.std.proofs.Common.{◌≡◌, map, take, codes}
use Rattle.std.specs.List.{All}
use Rattle.ab_term.specs.Expansion.{expansion}
use Rattle.ab_term.specs.Terms.{variable}
use Rattle.ab_norm.specs.ab_types.specs.Ids.{type_of}
use Rattle.ab_norm.specs.ab_store.specs.Reading.{cell_variable}
use Rattle.ab_norm.specs.ab_store.specs.Trees.{Holds, cell_of, tree_of}
use Rattle.ab_norm.specs.NodeGrowth.{AddsTypedTerms}
use Rattle.ab_judgements.proofs.part_demands.own_forms.Given as goal

abbrev pub invariant-loop-cell : goal.invariant-loop-cell
invariant-loop-cell l = record {
  held : All (Holds l.store) l.list.items;
  trees : map (tree_of l.types l.store) l.list.items
      ≡ map (λ c. expansion (codes "x") (type_of l.types (cell_of l.initial.store c).ty) (variable (cell_variable l.types l.initial.store c))) (take l.cell-index l.cells);
  adds : AddsTypedTerms l.types l.initial.store l.store;
}

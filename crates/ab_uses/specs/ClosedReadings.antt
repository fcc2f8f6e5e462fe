-- What is read once new constants stand for cells that are bound to nothing. Public contracts don't speak of this.
use Rattle.std.specs.Prelude.{List, map}
use Rattle.ab_term.specs.Terms as tree
use Rattle.ab_term.specs.Terms.{Read}
use Rattle.ab_term.specs.Variables.{one_by_one}
use Rattle.ab_term.specs.Sameness.{same_number}
use Rattle.ab_norm.specs.ab_types.specs.Entries.{Table}
use Rattle.ab_norm.specs.ab_store.specs.declared.node.TermId.{TermId}
use Rattle.ab_norm.specs.ab_store.specs.declared.node.CellId.{CellId}
use Rattle.ab_norm.specs.ab_store.specs.Trees.{Contents}
use Rattle.ab_norm.specs.ab_store.specs.Reading.{reading}
use Rattle.ab_formulas.specs.Sequents.{Variable}
use Rattle.ab_logic.specs.Worlds.{variable_at}
use Rattle.ab_alternatives.specs.ab_equations.specs.Meanwhile.{unbound_of}
use Rattle.ab_consequences.specs.NewConstants.{pairs_for}

module _ (types : Table) (store : Contents) where
  -- those of the cells that are bound to nothing, as variables
  abbrev pub open_among : List CellId → List Variable
  open_among cs = map (variable_at types store) (unbound_of store cs)

  -- the least new constants are put in for them, one after another
  abbrev pub closed_reading : List tree.Nominal → List CellId → TermId → Read
  closed_reading known cs t = one_by_one same_number (pairs_for known (open_among cs)) (reading types store t)

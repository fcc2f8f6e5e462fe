-- Terms of a store in which no cell is bound are over its cells; and a clause of the program has its cells for variables.
use Rattle.std.proofs.Common.{◌≡◌, ◌<◌, List, [], ◌∷◌, map, length, refl, sym, ap, subst}
use Rattle.std.specs.Prelude.{Contains}
use Rattle.ab_term.specs.Variables.{variables}
use Rattle.ab_norm.specs.ab_types.specs.Entries.{Table}
use Rattle.ab_norm.specs.ab_store.specs.declared.node.CellId.{CellId}
use Rattle.ab_norm.specs.ab_store.specs.declared.node.TermId.{TermId}
use Rattle.ab_norm.specs.ab_store.specs.Trees.{Contents, Holds, tree_of}
use Rattle.ab_norm.specs.ab_store.specs.Reading.{reading}
use Rattle.ab_norm.specs.ab_store.specs.Naming.{IsTypedBy}
use Rattle.ab_norm.specs.ab_store.proofs.Growing.{unbound_reads}
use Rattle.ab_unifiers.proofs.Agreeing.{contains_holds}
use Rattle.ab_unifiers.proofs.Falling.{map_length}
use Rattle.ab_unify.specs.Problem.{cell_read, cells_at}
use Rattle.ab_unify.proofs.Over.{reads_over}
use Rattle.ab_formulas.specs.CaseClauses.{cell_of}
use Rattle.ab_typing.specs.DefinitionReadings.{variable_of}
use Rattle.ab_logic.specs.Worlds.{variable_at}
use Rattle.ab_judgement_forms.proofs.KeptScopes.{kept_variable}
use Rattle.ab_judgement_forms.proofs.StandIns.{IsBelow}

pub tree_below : (types : Table) (store : Contents) → IsTypedBy types store → store.bindings ≡ [] → (t : TermId) → Holds store t → IsBelow (length store.cells) (tree_of types store t)
tree_below types store typed none t held y m =
    subst (λ k. y.name < k) (map_length (cell_read types) store.cells)
    (reads_over types store typed t held y (contains_holds (variables (reading types store t)) y (subst (λ r. Contains (variables r) y) (sym (unbound_reads store none types t)) m)))

-- as variables of a sequent, and as cells
pub kept_variables : (types : Table) (store : Contents) (cs : List CellId) → map kept_variable (map (variable_of types store) cs) ≡ map (variable_at types store) cs
kept_variables types store [] = refl
kept_variables types store (c ∷ cs) = ap (λ l. variable_at types store c ∷ l) (kept_variables types store cs)

pub kept_cells : (types : Table) (store : Contents) (cs : List CellId) → map cell_of (map (variable_of types store) cs) ≡ cells_at types store cs
kept_cells types store [] = refl
kept_cells types store (c ∷ cs) = ap (λ l. cell_of (variable_of types store c) ∷ l) (kept_cells types store cs)

-- A new variable that stands for a cell: the cell is bound to it.
use Rattle.std.specs.Prelude.{Contains}
use Rattle.std.proofs.Common.{◌≡◌, inl, inr, ℕ, ◌+◌, ◌<◌, List, [], ◌∷◌, ◌++◌, map, length, codes, sym, ◌∙◌, ap, subst, arith}
use Rattle.ab_term.specs.Terms as tree
use Rattle.ab_term.specs.Terms.{variable, no_terms}
use Rattle.ab_term.specs.Variables.{variables}
use Rattle.ab_term.proofs.Lists.{Contains-none, Contains-cases, All-from_contains}
use Rattle.ab_term.proofs.Stands.{variables-expansion_of}
use Rattle.ab_norm.specs.ab_types.specs.Ids.{type_of}
use Rattle.ab_norm.specs.ab_store.specs.declared.node.TermId.{TermId}
use Rattle.ab_norm.specs.ab_store.specs.declared.node.CellId.{CellId}
use Rattle.ab_norm.specs.ab_store.specs.declared.node.Binding.{Binding}
use Rattle.ab_norm.specs.ab_store.specs.Trees.{Contents, HoldsCell, cell_in, cell_of, tree_of}
use Rattle.ab_norm.specs.ab_store.specs.Reading.{bound_in as first_bound, pairs}
use Rattle.ab_norm.specs.ab_store.specs.Bindings.{cells_of, StandsIn, IsUnbound, IsResolved}
use Rattle.ab_norm.specs.ab_store.specs.Growth.{IsExtendedBy}
use Rattle.ab_norm.specs.ab_store.specs.Naming.{IsTypedBy, IsTerm}
use Rattle.ab_norm.specs.ab_store.proofs.Cells.{numbered}
use Rattle.ab_norm.specs.ab_store.proofs.Rebinding.{bound_others}
use Rattle.ab_formulas.specs.Sequents.{Variable, in_terms, over}
use Rattle.ab_logic.specs.Worlds.{variable_of, declarations_of}
use Rattle.ab_logic.specs.SequentReadings.{sequent_of, HoldsSequent}
use Rattle.ab_formulas.specs.NewNames.{IsNamedFor}
use Rattle.ab_logic.specs.declared.world.World.{World}
use Rattle.ab_logic.specs.declared.sequent.Sequent.{Sequent as Kept}
use Rattle.ab_theory.specs.Equations.{variable_term}
use Rattle.ab_equations.specs.Meanwhile.{GoesOn, bound_in, StandsFor}
use Rattle.ab_equations.proofs.Going.{variable_same, same_goal}
use Rattle.ab_equations.proofs.NewVariables.{pairs_extended, pairs_bound}

-- the term is of the type of the cell
pub bound_typed : (w v : World) (c : CellId) (term : TermId) → v.types ≡ w.types → IsExtendedBy w.store v.store → HoldsCell w.store c → IsTerm v.types v.store [] term (variable_of w c).type → IsTerm v.types v.store [] term (type_of v.types (cell_of v.store c).ty)
bound_typed w v c term types before held is = subst (IsTerm v.types v.store [] term) (sym (ap (λ (x : Variable). x.type) (variable_same w v c types (before.cells c held)))) is

-- the new cell alone stands in the term
module _ (v : World) (term : TermId) (new : CellId) (is : tree_of v.types v.store term ≡ variable_term (variable_of v new)) where
  only : (d : CellId) → Contains (cells_of v.store term) d → d.0 ≡ new.0
  only d m =
      let there : Contains (map (λ (x : tree.Variable ℕ). x.name) (variables (tree_of v.types v.store term))) d.0 = numbered v.types v.store d term m in
      let listed : variables (tree_of v.types v.store term) ≡ in_terms (variable_of v new) ∷ [] =
      ap variables is ∙ variables-expansion_of (codes "x") (variable_of v new).type (variable (in_terms (variable_of v new))) no_terms in
      elim (Contains-cases new.0 [] d.0 (subst (λ (l : List (tree.Variable ℕ)). Contains (map (λ (x : tree.Variable ℕ). x.name) l) d.0) listed there)) [
        | inl same ↦ sym same
        | inr none ↦ absurd (Contains-none d.0 none)
      ]

  pub not_in_itself : (c : CellId) → c.0 < new.0 → ¬ StandsIn v.store c term
  not_in_itself c less stands = let same = only c stands in absurd (omega (arith, less, same))

  pub new_resolved : IsUnbound v.store new → IsResolved v.store term
  new_resolved unbound = All-from_contains (IsUnbound v.store) (cells_of v.store term) (λ d m. subst (IsUnbound v.store) (ap (λ (n : ℕ). record { 0 = n }) (sym (only d m))) unbound)

module _ (w v : World) (now : Contents) (c new : CellId) (term : TermId) (s : Kept) (typed : IsTypedBy w.types w.store) (types : v.types ≡ w.types) (before : IsExtendedBy w.store v.store)
    (tree_is : tree_of v.types v.store term ≡ variable_term (variable_of v new)) (held : HoldsCell w.store c)
    (nodes : now.nodes ≡ v.store.nodes) (cells : now.cells ≡ v.store.cells) (bindings : now.bindings ≡ v.store.bindings ++ record { cell = c; term = term } ∷ []) where
  abbrev u : World
  u = record { types = v.types; store = now; additions = v.additions }

  new_same : variable_of u new ≡ variable_of v new
  new_same = ap (λ cs. record { number = new.0; type = type_of v.types (cell_in cs new).ty; name = (cell_in cs new).hint }) cells

  c_same : variable_of v c ≡ variable_of w c
  c_same = variable_same w v c types (before.cells c held)

  pairs_are : bound_in u ≡ bound_in w ++ (in_terms (variable_of w c), variable_term (variable_of u new)) ∷ []
  pairs_are =
      let b : Binding = record { cell = c; term = term } in
      pairs_bound v.types v.store now b nodes cells bindings
      ∙ ap (λ ps. ps ++ (in_terms (variable_of v c), tree_of v.types v.store term) ∷ [])
      (pairs_extended v.types w.store v.store (subst (λ T. IsTypedBy T w.store) (sym types) typed) before ∙ ap (λ T. pairs T w.store) types)
      ∙ ap (λ (x : Variable). bound_in w ++ (in_terms x, tree_of v.types v.store term) ∷ []) c_same
      ∙ ap (λ t. bound_in w ++ (in_terms (variable_of w c), t) ∷ []) (tree_is ∙ ap variable_term (sym new_same))

  pub stands_for : (k : Kept) → GoesOn w u → HoldsSequent w s → new.0 ≡ length w.store.cells → length v.store.cells ≡ length w.store.cells + 1
      → IsNamedFor (declarations_of w) (sequent_of w s) (variable_of w c).name (variable_of v new).name → (variable_of v new).type ≡ (variable_of w c).type
      → now.room + 1 ≡ v.store.room → HoldsSequent u k → sequent_of u k ≡ over (variable_of u new) (sequent_of u s) → StandsFor w c s u k
  stands_for k goes there number one named type room held_k goal = record {
    new = new;
    number = number;
    one = ap length cells ∙ one;
    type = ap (λ (x : Variable). x.type) new_same ∙ type;
    named = subst (λ (x : Variable). IsNamedFor (declarations_of w) (sequent_of w s) (variable_of w c).name x.name) (sym new_same) named;
    held = held_k;
    goal = goal ∙ ap (over (variable_of u new)) (same_goal w u goes s there);
    pairs = pairs_are;
    others = λ d other. ap (λ bs. first_bound bs d) bindings ∙ bound_others v.store.bindings (record { cell = c; term = term }) d (λ e. other (sym e)) ∙ ap (λ bs. first_bound bs d) before.bindings;
    room = let more = before.room in omega (arith, more, room);
  }

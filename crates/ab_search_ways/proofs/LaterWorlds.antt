-- What stays in a world to which types, terms and cells were added.
use Rattle.std.specs.List.{All}
use Rattle.std.specs.Prelude.{AllPairs, Contains}
use Rattle.std.proofs.lemmas.List.{map-append}
use Rattle.std.proofs.Common.{◌≡◌, ◌≢◌, ℕ, ◌+◌, List, [], ◌∷◌, ◌++◌, map, length, refl, sym, ◌∙◌, ap, subst}
use Rattle.std.proofs.lemmas.List.Elements.{All-weaker}
use Rattle.ab_term.specs.Types.{Ty, prop}
use Rattle.ab_term.specs.Variables.{variables}
use Rattle.ab_norm.specs.ab_store.specs.declared.node.CellId.{CellId}
use Rattle.ab_norm.specs.ab_store.specs.declared.node.TermId.{TermId}
use Rattle.ab_norm.specs.ab_store.specs.declared.node.Binding.{Binding}
use Rattle.ab_norm.specs.ab_store.specs.Trees.{Contents, cell_of, tree_of}
use Rattle.ab_norm.specs.ab_store.specs.Reading.{reading, cell_variable, bound_in}
use Rattle.ab_norm.specs.NodeGrowth.{AddsTypedTerms}
use Rattle.ab_norm.specs.ab_types.specs.Entries.{Table, signature, kinds, constants, IsExtendedBy as IsPartOf}
use Rattle.ab_norm.specs.ab_types.specs.Ids.{type_of}
use Rattle.ab_norm.specs.ab_store.specs.Growth.{IsExtendedBy}
use Rattle.ab_norm.specs.ab_store.specs.Naming.{IsTypedBy}
use Rattle.ab_unify.proofs.Cells.{cells_same}
use Rattle.ab_term.specs.Typing.{HasType}
use Rattle.ab_formulas.specs.Sequents.{Variable as Known}
use Rattle.ab_term.specs.Sameness.{same_number}
use Rattle.ab_term.specs.Variables.{one_by_one}
use Rattle.ab_unify.specs.Problem.{cell_read, cells_read, variables_read}
use Rattle.ab_unify.specs.StoreChanges.{Grows, IsFree}
use Rattle.ab_unify.proofs.Growth.{grows_terms, lifted, one_more}
use Rattle.ab_instances.specs.ListReadings.{names_read}
use Rattle.ab_instances.proofs.Made.{grows_with, names_stay, names_held}
use Rattle.ab_logic.specs.WorldGrowth as world
use Rattle.ab_logic.specs.Worlds.{IsWorld, Holds, read, declarations_of}
use Rattle.ab_logic.specs.declared.world.World.{World}
use Rattle.ab_logic.proofs.Growing.{map_same}
use Rattle.ab_equations.proofs.Going.{world_meanwhile}
use Rattle.ab_equations.proofs.Restored.{came_back, declarations_same}
use Rattle.ab_search_ways.specs.GoalReadings.{goal_read, HoldsGoal, IsFormulaIn, IsAside}
use Rattle.ab_search_ways.specs.declared.goal.Goal.{Goal}
use Rattle.ab_search_ways.proofs.Resolved.{plain_goal}

-- no cell of a world is bound
pub unbound_reads : (w : World) → IsWorld w → (t : TermId) → reading w.types w.store t ≡ read w t
unbound_reads w is t = ap (λ bs. one_by_one same_number (map (λ (b : Binding). (cell_variable w.types w.store b.cell, tree_of w.types w.store b.term)) bs) (tree_of w.types w.store t)) is.unbound

module _ (w v : World) (g : world.Grows w v) where
  pub later_reads : (ts : List TermId) → All (Holds w) ts → map (read v) ts ≡ map (read w) ts
  later_reads ts all = map_same (read v) (read w) (Holds w) g.readings ts all

  pub later_formula : (t : TermId) → IsFormulaIn w t → IsFormulaIn v t
  later_formula t h = (g.ids t h.0, subst (λ r. HasType (signature v.types) [] r prop) (sym (g.readings t h.0)) (lifted w.types v.types g.types h.1))

  pub later_free : (c : CellId) → IsFree w.store c → IsFree v.store c
  later_free c f = (g.cell_ids c f.0, ap (λ bs. bound_in bs c) g.world.unbound)

  pub all_free : (cs : List CellId) → All (IsFree w.store) cs → All (IsFree v.store) cs
  all_free cs all = All-weaker (IsFree w.store) (IsFree v.store) later_free cs all

  pub later_aside : (flexible : List CellId) (t : TermId) → IsAside w flexible t → IsAside v flexible t
  later_aside flexible t a = record {
    formula = later_formula t a.formula;
    apart = λ y m. a.apart y (subst (λ r. Contains (variables r) y) (g.readings t a.formula.0) m);
  }

  pub all_aside : (flexible : List CellId) (ts : List TermId) → All (IsAside w flexible) ts → All (IsAside v flexible) ts
  all_aside flexible ts all = All-weaker (IsAside w flexible) (IsAside v flexible) (later_aside flexible) ts all

  pub base_same : (flexible : List CellId) (base : List TermId) → All (IsAside w flexible) base → map (read v) base ≡ map (read w) base
  base_same flexible base all = later_reads base (All-weaker (IsAside w flexible) (Holds w) (λ t a. a.formula.0) base all)

  pub later_variables : (cs : List CellId) → All (IsFree w.store) cs → variables_read v.types v.store cs ≡ variables_read w.types w.store cs
  later_variables cs all =
      map_same (cell_variable v.types v.store) (cell_variable w.types w.store) (IsFree w.store) (λ c f.
      ap (λ (x : Known). record { name = x.number; type = x.type }) (g.cells c f.0)) cs all

  pub later_goal : (k : Goal) → HoldsGoal w k → HoldsGoal v k
  later_goal k h = record {
    added = All-weaker (Holds w) (Holds v) g.ids k.added.items h.added;
    conclusion = g.ids k.conclusion h.conclusion;
    constants = names_held w.types v.types g.types k.constants.items h.constants;
    once = subst (AllPairs (λ a b. a ≢ b)) (sym (names_stay w.types v.types g.types k.constants.items h.constants)) h.once;
  }

  pub goal_same : (flexible : List CellId) (base : List TermId) → All (IsAside w flexible) base → (k : Goal) → HoldsGoal w k → goal_read v base k ≡ goal_read w base k
  goal_same flexible base aside k h =
      ap (λ hs. plain_goal (hs ++ map (read v) k.added.items) (read v k.conclusion) (names_read v.types k.constants.items) k) (base_same flexible base aside)
      ∙ ap (λ l. plain_goal (map (read w) base ++ l) (read v k.conclusion) (names_read v.types k.constants.items) k) (later_reads k.added.items h.added)
      ∙ ap (λ F. plain_goal (map (read w) base ++ map (read w) k.added.items) F (names_read v.types k.constants.items) k) (g.readings k.conclusion h.conclusion)
      ∙ ap (λ ns. plain_goal (map (read w) base ++ map (read w) k.added.items) (read w k.conclusion) ns k) (names_stay w.types v.types g.types k.constants.items h.constants)

-- where terms alone were added
module _ (w : World) (is : IsWorld w) (new : Contents) (adds : AddsTypedTerms w.types w.store new) where
  abbrev pub with_terms : World
  with_terms = record { types = w.types; store = new; additions = w.additions }

  terms_grow : Grows w.types w.store w.types new
  terms_grow = grows_terms w.types w.store new adds

  pub terms_grown : world.Grows w with_terms
  terms_grown = came_back w with_terms is (record { grows = terms_grow; bindings = adds.before.bindings; additions = refl })

  pub terms_told : declarations_of with_terms ≡ declarations_of w
  terms_told = declarations_same w with_terms (world_meanwhile w is) terms_grow refl

-- the same of a world that has its types and additions
pub later_by : (w v : World) → IsWorld w → v.types ≡ w.types → v.additions ≡ w.additions → AddsTypedTerms w.types w.store v.store → world.Grows w v × (declarations_of v ≡ declarations_of w)
later_by w v is types additions adds = subst (λ u. world.Grows w u × (declarations_of u ≡ declarations_of w)) same (terms_grown w is v.store adds, terms_told w is v.store adds)
  where
    same : with_terms w is v.store adds ≡ v
    same = ap (λ t. record { types = t; store = v.store; additions = w.additions }) (sym types) ∙ ap (λ a. record { types = v.types; store = v.store; additions = a }) (sym additions)

-- where types were added too
module _ (w : World) (is : IsWorld w) (U : Table) (X : Contents) (part : IsPartOf w.types U) (same_kinds : kinds U ≡ kinds w.types) (same_constants : constants U ≡ constants w.types)
    (extended : IsExtendedBy w.store X) (typed : IsTypedBy U X) where
  abbrev pub with_types : World
  with_types = record { types = U; store = X; additions = w.additions }

  pub both_grow : Grows w.types w.store U X
  both_grow = grows_with w.types U w.store X part same_kinds same_constants is.typed extended typed

  pub both_grown : world.Grows w with_types
  both_grown = came_back w with_types is (record { grows = both_grow; bindings = extended.bindings; additions = refl })

  pub both_told : declarations_of with_types ≡ declarations_of w
  both_told = declarations_same w with_types (world_meanwhile w is) both_grow refl

  -- one cell more
  pub one_cell : (made : CellId) (hint : List ℕ) (A : Ty) → made.0 ≡ length w.store.cells → length X.cells ≡ length w.store.cells + 1 → (cell_of X made).hint ≡ hint → type_of U (cell_of X made).ty ≡ A
      → cells_read U X ≡ cells_read w.types w.store ++ record { hint = hint; type = A } ∷ []
  one_cell made hint A number one h t =
      ap (map (cell_read U)) (one_more w.types U w.store X is.typed both_grow made number one)
      ∙ map-append (cell_read U) w.store.cells (cell_of X made ∷ [])
      ∙ ap (λ l. l ++ cell_read U (cell_of X made) ∷ []) (cells_same w.types U part w.store.cells is.typed.cells)
      ∙ ap (λ x. cells_read w.types w.store ++ record { hint = x; type = type_of U (cell_of X made).ty } ∷ []) h
      ∙ ap (λ B. cells_read w.types w.store ++ record { hint = hint; type = B } ∷ []) t

-- What a place names stays there, where types, terms and cells are added.
use Rattle.std.specs.List.{All}
use Rattle.std.specs.Prelude.{Option, Some, None, IfSome}
use Rattle.std.proofs.Common.{◌≡◌, List, [], sym, ap, subst}
use Rattle.std.proofs.lemmas.List.Elements.{All-weaker}
use Rattle.ab_term.specs.Types.{Ty, prop}
use Rattle.ab_term.specs.Typing.{HasType}
use Rattle.ab_norm.specs.ab_types.specs.Entries.{Table, signature, IsExtendedBy as IsPartOf}
use Rattle.ab_norm.specs.ab_types.specs.Ids.{type_of}
use Rattle.ab_norm.specs.ab_store.specs.declared.node.CellId.{CellId}
use Rattle.ab_norm.specs.ab_store.specs.declared.node.TermId.{TermId}
use Rattle.ab_norm.specs.ab_store.specs.Trees.{Contents, Holds, HoldsCell, cell_of, tree_of}
use Rattle.ab_norm.specs.ab_store.specs.Naming.{IsTypedBy, IsTerm}
use Rattle.ab_unify.specs.StoreChanges as changed
use Rattle.ab_unify.proofs.Growth.{lifted, grown_type}
use Rattle.ab_instances.proofs.Made.{names_held}
use Rattle.ab_formulas.specs.Sequents.{Variable}
use Rattle.ab_logic.specs.WorldGrowth as world
use Rattle.ab_logic.specs.declared.world.World.{World}
use Rattle.ab_search_ways.specs.GoalReadings.{IsTypedGoal}
use Rattle.ab_search_ways.specs.Answers.{HoldsValue, IsNamedGoal, HoldsPlace}
use Rattle.ab_search_ways.specs.declared.goal.Goal.{Goal}
use Rattle.ab_search_ways.specs.declared.way.Value.{Value}
use Rattle.ab_search_ways.specs.declared.way.Place.{Place}

module _ (T U : Table) (S V : Contents) (part : IsPartOf T U) (trees : (t : TermId) → Holds S t → Holds V t × (tree_of U V t ≡ tree_of T S t))
    (cells : (c : CellId) → HoldsCell S c → HoldsCell V c × (type_of U (cell_of V c).ty ≡ type_of T (cell_of S c).ty)) where
  pub term_stays : (t : TermId) (A : Ty) → IsTerm T S [] t A → IsTerm U V [] t A
  term_stays t A h = ((trees t h.0).0, subst (λ r. HasType (signature U) [] r A) (sym (trees t h.0).1) (lifted T U part h.1))

  pub goal_stays : (g : Goal) → IsNamedGoal T S g → IsNamedGoal U V g
  goal_stays g h = record {
    typed = record {
      added = All-weaker (λ t. IsTerm T S [] t prop) (λ t. IsTerm U V [] t prop) (λ t k. term_stays t prop k) g.added.items h.typed.added;
      conclusion = term_stays g.conclusion prop h.typed.conclusion;
    };
    constants = names_held T U part g.constants.items h.constants;
  }

  pub value_stays : (v : Value) → HoldsValue T S v → HoldsValue U V v
  value_stays v h = record { cell = (cells v.cell h.cell).0; term = put v.term h.term }
    where
      put : (o : Option TermId) → IfSome o (λ t. IsTerm T S [] t (type_of T (cell_of S v.cell).ty)) → IfSome o (λ t. IsTerm U V [] t (type_of U (cell_of V v.cell).ty))
      put None k = k
      put (Some t) k = subst (IsTerm U V [] t) (sym (cells v.cell h.cell).1) (term_stays t (type_of T (cell_of S v.cell).ty) k)

  pub place_stays : (p : Place) → HoldsPlace T S p → HoldsPlace U V p
  place_stays p h = record {
    goals = All-weaker (IsNamedGoal T S) (IsNamedGoal U V) goal_stays p.goals h.goals;
    flexible = All-weaker (HoldsCell S) (HoldsCell V) (λ c k. (cells c k).0) p.flexible.items h.flexible;
    answer = All-weaker (HoldsValue T S) (HoldsValue U V) value_stays p.answer.items h.answer;
  }

-- in a world that grew
pub place_later : (w v : World) → world.Grows w v → (p : Place) → HoldsPlace w.types w.store p → HoldsPlace v.types v.store p
place_later w v g p h =
    place_stays w.types v.types w.store v.store g.types (λ t k. (g.ids t k, g.readings t k)) (λ c k. (g.cell_ids c k, ap (λ (x : Variable). x.type) (g.cells c k))) p h

pub values_later : (w v : World) → world.Grows w v → (vs : List Value) → All (HoldsValue w.types w.store) vs → All (HoldsValue v.types v.store) vs
values_later w v g vs h =
    All-weaker (HoldsValue w.types w.store) (HoldsValue v.types v.store)
    (value_stays w.types v.types w.store v.store g.types (λ t k. (g.ids t k, g.readings t k)) (λ c k. (g.cell_ids c k, ap (λ (x : Variable). x.type) (g.cells c k)))) vs h

-- in a store that grew, where cells may be bound
pub place_grown : (T U : Table) (S V : Contents) → IsTypedBy T S → changed.Grows T S U V → (p : Place) → HoldsPlace T S p → HoldsPlace U V p
place_grown T U S V typed g p h = place_stays T U S V g.table g.trees (λ c k. ((g.cells c k).0, grown_type T U S V g typed c k)) p h

-- Goals, with what cells are bound to in their places, one after another.
use Rattle.std.specs.List.{All}
use Rattle.std.proofs.Common.{◌≡◌, ℕ, ◌+◌, ◌<◌, List, [], ◌∷◌, ◌++◌, map, take, length, get_or, sym, ◌∙◌, ap, subst, append-nil, append_assoc}
use Rattle.std.proofs.lemmas.List.{map_more, map-append}
use Rattle.std.specs.Prelude.{is_none}
use Rattle.std.proofs.lemmas.List.Elements.{All-push, All-weaker, filter-append}
use Rattle.ab_term.specs.Types.{prop}
use Rattle.ab_term.specs.Terms as terms
use Rattle.ab_term.specs.Terms.{Read}
use Rattle.ab_norm.specs.ab_types.specs.Entries.{Table}
use Rattle.ab_norm.specs.ab_store.specs.declared.node.CellId.{CellId}
use Rattle.ab_norm.specs.ab_store.specs.declared.node.TermId.{TermId}
use Rattle.ab_norm.specs.ab_store.specs.Trees.{Contents, tree_of}
use Rattle.ab_norm.specs.ab_store.specs.Reading.{reading, binding_of}
use Rattle.ab_norm.specs.ab_store.specs.Naming.{IsTerm}
use Rattle.ab_norm.specs.NodeGrowth.{AddsTypedTerms}
use Rattle.ab_norm.proofs.Frame.{typed_none}
use Rattle.ab_norm.specs.declared.nominal.Nominal.{Nominal}
use Rattle.ab_instances.specs.ListReadings.{names_read}
use Rattle.ab_logic.proofs.Growing.{map_same}
use Rattle.ab_search_trees.specs.Goals as tree
use Rattle.ab_search_ways.specs.GoalReadings.{goal_by, IsTypedGoal}
use Rattle.ab_search_ways.specs.GoalsLeft.{IsResolved, unbound_in}
use Rattle.ab_search_ways.specs.declared.goal.Goal.{Goal}
use Rattle.ab_search_ways.proofs.Bare.{kept_term}

-- the cells that are bound to nothing of two lists
pub unbound_both : (store : Contents) (cs ds none same kept now : List CellId) → none ≡ [] → same ≡ cs → kept ≡ none ++ unbound_in store same → now ≡ kept ++ unbound_in store ds → now ≡ unbound_in store (cs ++ ds)
unbound_both store cs ds none same kept now e f g h =
    h ∙ ap (λ l. l ++ unbound_in store ds) (g ∙ ap (λ l. l ++ unbound_in store same) e ∙ ap (unbound_in store) f) ∙ sym (filter-append (λ d. is_none (binding_of store d)) cs ds)

-- a goal that was made stays
pub goal_kept : (types : Table) (t u : Contents) → AddsTypedTerms types t u → (g : Goal) → IsTypedGoal types t g → IsTypedGoal types u g
goal_kept types t u adds g h = record {
  added = All-weaker (λ x. IsTerm types t [] x prop) (λ x. IsTerm types u [] x prop) (λ x h. kept_term types t u adds [] x prop h) g.added.items h.added;
  conclusion = kept_term types t u adds [] g.conclusion prop h.conclusion;
}

-- the goal with these parts
abbrev pub plain_goal : List Read → Read → List terms.Nominal → Goal → tree.Goal
plain_goal hs F ns g = record { hypotheses = hs; conclusion = F; depth = g.depth; constants = ns; untouched = g.untouched; layers = g.layers; member_first = g.member_first }

module _ (types : Table) (s t u : Contents) (so_far : AddsTypedTerms types s t) (adds : AddsTypedTerms types t u) where
  abbrev pub IsFormula : Contents → TermId → Type 0
  IsFormula v x = IsTerm types v [] x prop

  pub formulas_kept : (ids : List TermId) → All (IsFormula t) ids → All (IsFormula u) ids
  formulas_kept ids all = All-weaker (IsFormula t) (IsFormula u) (λ x h. kept_term types t u adds [] x prop h) ids all

  pub same_trees : (ids : List TermId) → All (IsFormula t) ids → map (tree_of types u) ids ≡ map (tree_of types t) ids
  same_trees ids all = map_same (tree_of types u) (tree_of types t) (IsFormula t) (λ x h. adds.before.trees types x h.0) ids all

  pub same_readings : (ids : List TermId) → All (IsFormula s) ids → map (reading types t) ids ≡ map (reading types s) ids
  same_readings ids all = map_same (reading types t) (reading types s) (IsFormula s) (λ x h. so_far.before.readings types x h.0) ids all

  -- one term more
  pub terms_more : (ids done now : List TermId) (i : ℕ) (d r : TermId) → i < length ids → All (IsFormula s) ids → All (IsFormula t) done
      → tree_of types u r ≡ reading types t (get_or ids i d) → now ≡ done ++ r ∷ []
      → map (tree_of types t) done ≡ map (reading types s) (take i ids) → map (tree_of types u) now ≡ map (reading types s) (take (i + 1) ids)
  terms_more ids done now i d r l all held made is before =
      ap (map (tree_of types u)) is
      ∙ map-append (tree_of types u) done (r ∷ [])
      ∙ ap (λ hs. hs ++ tree_of types u r ∷ []) (same_trees done held ∙ before)
      ∙ ap (λ F. map (reading types s) (take i ids) ++ F ∷ []) (made ∙ so_far.before.readings types (get_or ids i d) (all i d l).0)
      ∙ sym (map_more (reading types s) ids i d l)

  pub terms_push : (done now : List TermId) (r : TermId) → All (IsFormula t) done → IsFormula u r → now ≡ done ++ r ∷ [] → All (IsFormula u) now
  terms_push done now r held one is = subst (All (IsFormula u)) (sym is) (All-push (IsFormula u) done r (formulas_kept done held) one)

  -- the parts of a goal make the goal
  pub goal_made : (g : Goal) (added : List TermId) (conclusion : TermId) (names : List Nominal) → All (IsFormula t) added
      → map (tree_of types t) added ≡ map (reading types s) g.added.items → IsFormula s g.conclusion → tree_of types u conclusion ≡ reading types t g.conclusion
      → names ≡ g.constants.items → (before : List Read)
      → plain_goal (before ++ map (tree_of types u) added) (tree_of types u conclusion) (names_read types names) g ≡ goal_by (reading types s) types before g
  goal_made g added conclusion names held made there tree same before =
      ap (λ hs. plain_goal (before ++ hs) (tree_of types u conclusion) (names_read types names) g) (same_trees added held ∙ made)
      ∙ ap (λ F. plain_goal (before ++ map (reading types s) g.added.items) F (names_read types names) g) (tree ∙ so_far.before.readings types g.conclusion there.0)
      ∙ ap (λ ns. plain_goal (before ++ map (reading types s) g.added.items) (reading types s g.conclusion) (names_read types ns) g) same

  -- goals that were made stay
  pub goals_kept : (gs : List Goal) → All (IsTypedGoal types t) gs → All (IsTypedGoal types u) gs
  goals_kept gs all = All-weaker (IsTypedGoal types t) (IsTypedGoal types u) (goal_kept types t u adds) gs all

  pub same_goals : (hs : List Read) (gs : List Goal) → All (IsTypedGoal types t) gs → map (goal_by (tree_of types u) types hs) gs ≡ map (goal_by (tree_of types t) types hs) gs
  same_goals hs gs all =
      map_same (goal_by (tree_of types u) types hs) (goal_by (tree_of types t) types hs) (IsTypedGoal types t) (λ g h.
      ap (λ l. plain_goal (hs ++ l) (tree_of types u g.conclusion) (names_read types g.constants.items) g) (same_trees g.added.items h.added)
      ∙ ap (λ F. plain_goal (hs ++ map (tree_of types t) g.added.items) F (names_read types g.constants.items) g) (adds.before.trees types g.conclusion h.conclusion.0)) gs all

  same_goal : (hs : List Read) (g : Goal) → IsTypedGoal types s g → goal_by (reading types t) types hs g ≡ goal_by (reading types s) types hs g
  same_goal hs g h =
      ap (λ l. plain_goal (hs ++ l) (reading types t g.conclusion) (names_read types g.constants.items) g) (same_readings g.added.items h.added)
      ∙ ap (λ F. plain_goal (hs ++ map (reading types s) g.added.items) F (names_read types g.constants.items) g) (so_far.before.readings types g.conclusion h.conclusion.0)

  -- one goal more
  pub resolved_push : (before goals done now : List Goal) (i : ℕ) (d r : Goal) → i < length goals → All (IsTypedGoal types s) goals
      → ((hs : List Read) → goal_by (tree_of types u) types hs r ≡ goal_by (reading types t) types hs (get_or goals i d)) → IsTypedGoal types u r
      → r.constants.items ≡ (get_or goals i d).constants.items → now ≡ done ++ r ∷ []
      → IsResolved types s t before (take i goals) done → IsResolved types s u before (take (i + 1) goals) now
  resolved_push before goals done now i d r l all reads held names is so = record {
    reads = λ hs.
        ap (map (goal_by (tree_of types u) types hs)) is
        ∙ map-append (goal_by (tree_of types u) types hs) done (r ∷ [])
        ∙ ap (λ gs. gs ++ goal_by (tree_of types u) types hs r ∷ []) (same_goals hs done so.typed ∙ so.reads hs)
        ∙ ap (λ g. (map (goal_by (tree_of types s) types hs) before ++ map (goal_by (reading types s) types hs) (take i goals)) ++ g ∷ []) (reads hs ∙ same_goal hs (get_or goals i d) (all i d l))
        ∙ append_assoc (map (goal_by (tree_of types s) types hs) before) (map (goal_by (reading types s) types hs) (take i goals)) (goal_by (reading types s) types hs (get_or goals i d) ∷ [])
        ∙ ap (λ gs. map (goal_by (tree_of types s) types hs) before ++ gs) (sym (map_more (goal_by (reading types s) types hs) goals i d l));
    typed = subst (All (IsTypedGoal types u)) (sym is) (All-push (IsTypedGoal types u) done r (goals_kept done so.typed) held);
    names =
        ap (map (λ (g : Goal). g.constants.items)) is
        ∙ map-append (λ (g : Goal). g.constants.items) done (r ∷ [])
        ∙ ap (λ ns. ns ++ r.constants.items ∷ []) (so.names ∙ map-append (λ (g : Goal). g.constants.items) before (take i goals))
        ∙ ap (λ n. (map (λ (g : Goal). g.constants.items) before ++ map (λ (g : Goal). g.constants.items) (take i goals)) ++ n ∷ []) names
        ∙ append_assoc (map (λ (g : Goal). g.constants.items) before) (map (λ (g : Goal). g.constants.items) (take i goals)) ((get_or goals i d).constants.items ∷ [])
        ∙ ap (λ ns. map (λ (g : Goal). g.constants.items) before ++ ns) (sym (map_more (λ (g : Goal). g.constants.items) goals i d l))
        ∙ sym (map-append (λ (g : Goal). g.constants.items) before (take (i + 1) goals));
  }

-- the first goals, and then others
module _ (types : Table) (s t u : Contents) (one : AddsTypedTerms types s t) (two : AddsTypedTerms types t u) (goals rest done now : List Goal) where
  pub resolved_none : All (IsTypedGoal types s) done → IsResolved types s s done [] done
  resolved_none held = record {
    reads = λ hs. sym (append-nil (map (goal_by (tree_of types s) types hs) done));
    typed = held;
    names = sym (ap (map (λ (g : Goal). g.constants.items)) (append-nil done));
  }

  pub resolved_both : All (IsTypedGoal types s) rest → IsResolved types s t [] goals done → IsResolved types t u done rest now → IsResolved types s u [] (goals ++ rest) now
  resolved_both held first second = record {
    reads = λ hs.
        second.reads hs
        ∙ ap (λ gs. gs ++ map (goal_by (reading types t) types hs) rest) (first.reads hs)
        ∙ ap (λ gs. map (goal_by (reading types s) types hs) goals ++ gs) (map_same (goal_by (reading types t) types hs) (goal_by (reading types s) types hs) (IsTypedGoal types s) (λ g h. same_goal types s t t one (typed_none types t one.typed) hs g h) rest held)
        ∙ sym (map-append (goal_by (reading types s) types hs) goals rest);
    typed = second.typed;
    names =
        second.names
        ∙ map-append (λ (g : Goal). g.constants.items) done rest
        ∙ ap (λ ns. ns ++ map (λ (g : Goal). g.constants.items) rest) first.names
        ∙ sym (map-append (λ (g : Goal). g.constants.items) goals rest);
  }

-- what is left stays
pub left_kept : (types : Table) (s t u : Contents) (so_far : AddsTypedTerms types s t) (adds : AddsTypedTerms types t u) (gs : List Goal) (now : List Goal) → IsResolved types s t [] gs now → IsResolved types s u [] gs now
left_kept types s t u so_far adds gs now r = record {
  reads = λ hs. same_goals types s t u so_far adds hs now r.typed ∙ r.reads hs;
  typed = goals_kept types s t u so_far adds now r.typed;
  names = r.names;
}

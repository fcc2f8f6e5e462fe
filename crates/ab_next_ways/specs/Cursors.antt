-- WHICH WAYS ARE STILL TO BE GONE from a goal, by where its search stands.
use Rattle.std.specs.Prelude.{◌≡◌, ℕ, zero, suc, ◌+◌, List, [], ◌∷◌, ◌++◌, map, drop, cond, slice_get, Some, All, Contains}
use Rattle.ab_term.specs.Terms.{Nominal, Read}
use Rattle.ab_term.specs.Names.{support, permute}
use Rattle.ab_norm.specs.ab_types.specs.Entries.{Table}
use Rattle.ab_norm.specs.ab_store.specs.declared.node.TermId.{TermId}
use Rattle.ab_norm.specs.declared.nominal.Nominal.{Nominal as Named}
use Rattle.ab_norm.specs.Nominals.{HoldsNominal}
use Rattle.ab_unifiers.specs.Choices.{in_order, for_each}
use Rattle.ab_judgements.specs.ab_alternatives.specs.ab_instances.specs.ListReadings.{names_read}
use Rattle.ab_formulas.specs.Declarations.{Declarations}
use Rattle.ab_formulas.specs.Forms.{form_of}
use Rattle.ab_formulas.specs.Marks.{erased}
use Rattle.ab_theory.specs.Atoms.{defined_atom}
use Rattle.ab_theory.specs.Judgements.{as_judgement}
use Rattle.ab_search_trees.specs.Goals.{Goal, Now}
use Rattle.ab_search_trees.specs.Maps.{mapping, targets}
use Rattle.ab_search_trees.specs.Judgements.{is_blind}
use Rattle.ab_logic.specs.declared.world.World.{World}
use Rattle.ab_search_ways.specs.GoalReadings.{goal_read}
use Rattle.ab_search_ways.specs.declared.goal.Goal.{Goal as Kept}
use Rattle.ab_search_trees.specs.Ways.{Way, equating, by_truth, by_hypothesis, by_form, by_definition, by_judgement, ways}
use Rattle.ab_next_ways.specs.declared.cursor.Cursor.{Cursor}
use Rattle.ab_next_ways.specs.declared.cursor.Cursor.TheVariants.{Start, Hypothesis, Map, Form, Second, Choice, Rule, End}

module _ (D : Declarations) (now : Now) (g : Goal) where
  -- the ways by the definition behind the first so many, and those by the rules of a judgement
  abbrev pub by_choices_from : ℕ → List Way
  by_choices_from k = drop k (by_definition D now g g.depth (defined_atom D g.conclusion)) ++ by_judgement D now g g.depth (as_judgement g.conclusion)

  abbrev pub by_forms_from : ℕ → List Way
  by_forms_from k = drop k (by_form D now g (form_of g.conclusion)) ++ by_choices_from 0

  -- those that are gone where the search isn't blind
  abbrev pub unless_blind : List Way → List Way
  unless_blind ws = cond (is_blind now.flexible g.conclusion) [] ws

  -- those by the hypotheses behind the first so many, and then these
  abbrev pub by_hypotheses_from : ℕ → List Way
  by_hypotheses_from i = for_each (by_hypothesis D now g) (drop i g.hypotheses) ++ unless_blind (by_forms_from 0)

  -- those by the maps of a hypothesis's constants to these targets
  abbrev pub by_maps : Read → List (List Nominal) → List Way
  by_maps B ts = map (λ ns. equating D now g (permute (mapping (in_order (support B)) ns) (erased B)) (erased g.conclusion) ((g.conclusion, B) ∷ [])) ts

  -- THE WAYS LEFT: all; those by the hypotheses from a number on; by a hypothesis, those by the map to these targets and by the
  -- maps behind it; those by the form; and so on
  abbrev pub AreLeft : Table → Cursor → List Way → Type 0
  AreLeft types Start ws = ws ≡ ways D now g
  AreLeft types (Hypothesis i) ws = ws ≡ by_hypotheses_from i
  AreLeft types (Map i names ns) ws =
      (B : Read) × (slice_get g.hypotheses i ≡ Some B) × (names_read types names.items ≡ in_order (support B))
      × (before : List (List Nominal)) × (after : List (List Nominal)) × (targets (in_order (support B)) g.constants ≡ before ++ names_read types ns.items ∷ after)
      × (ws ≡ by_maps B (names_read types ns.items ∷ after) ++ by_hypotheses_from (i + 1))
  AreLeft types Form ws = ws ≡ by_forms_from 0
  AreLeft types Second ws = ws ≡ by_forms_from 1
  AreLeft types (Choice k) ws = ws ≡ by_choices_from k
  AreLeft types (Rule k) ws = ws ≡ drop k (by_judgement D now g g.depth (as_judgement g.conclusion))
  AreLeft types End ws = ws ≡ []

module _ (D : Declarations) (now : Now) (g : Goal) where
  -- a way by the hypothesis of this number
  abbrev pub IsByHypothesis : ℕ → Way → Type 0
  IsByHypothesis i way = (B : Read) × (slice_get g.hypotheses i ≡ Some B) × Contains (by_hypothesis D now g B) way

  -- THE CURSOR STANDS BEHIND THE WAY, and so it tells of which kind the way is: by `true`; by the hypothesis before the cursor; the first
  -- or the second by the form; or by the choice, or the rule, before the cursor
  abbrev pub IsBehind : Cursor → Way → Type 0
  IsBehind (Hypothesis zero) way = slice_get (by_truth D now g (form_of g.conclusion)) 0 ≡ Some way
  IsBehind (Hypothesis (suc i)) way = IsByHypothesis i way
  IsBehind (Map i names ns) way = IsByHypothesis i way
  IsBehind Second way = slice_get (by_form D now g (form_of g.conclusion)) 0 ≡ Some way
  IsBehind (Choice zero) way = slice_get (by_form D now g (form_of g.conclusion)) 1 ≡ Some way
  IsBehind (Choice (suc k)) way = slice_get (by_definition D now g g.depth (defined_atom D g.conclusion)) k ≡ Some way
  IsBehind (Rule (suc k)) way = slice_get (by_judgement D now g g.depth (as_judgement g.conclusion)) k ≡ Some way
  IsBehind _ way = ⊥

-- what a map in hand names is there: the hypothesis of this number, its constants in order, and one of the lists that they go to
pub record HoldsMap (w : World) (base : List TermId) (k : Kept) (i : ℕ) (bs ns : List Named) : Type 0 where
  pub named : All (HoldsNominal w.types) bs
  pub held : All (HoldsNominal w.types) ns
  pub hypothesis : Read
  pub there : slice_get (goal_read w base k).hypotheses i ≡ Some hypothesis
  pub all : names_read w.types bs ≡ in_order (support hypothesis)
  pub among : Contains (targets (in_order (support hypothesis)) (names_read w.types k.constants.items)) (names_read w.types ns)

abbrev pub HoldsCursor : World → List TermId → Kept → Cursor → Type 0
HoldsCursor w base k (Map i names ns) = HoldsMap w base k i names.items ns.items
HoldsCursor w base k _ = Unit {0}

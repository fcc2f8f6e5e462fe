-- One turn on a row of ways.
use Rattle.std.specs.Prelude.{slice_get}
use Rattle.std.proofs.Common.{◌≡◌, ℕ, zero, suc, ◌+◌, List, [], ◌∷◌, ◌++◌, drop, cond, Bool, true, false, Option, Some, None, refl, ◌∙◌, ap, arith}
use Rattle.std.proofs.lemmas.List.{append_assoc}
use Rattle.ab_term.specs.Terms.{Read}
use Rattle.ab_term.proofs.Lists.{Contains-none}
use Rattle.ab_norm.specs.ab_store.specs.declared.node.TermId.{TermId}
use Rattle.ab_unifiers.specs.Choices.{for_each}
use Rattle.ab_formulas.specs.Declarations.{Declarations}
use Rattle.ab_formulas.specs.Forms.{Form, truth, falsity, both, either, implies, equal, for_all, exists, nabla, marked, other, form_of}
use Rattle.ab_logic.specs.Worlds.{declarations_of}
use Rattle.ab_logic.specs.declared.world.World.{World}
use Rattle.ab_theory.specs.Atoms.{defined_atom}
use Rattle.ab_theory.specs.Judgements.{as_judgement}
use Rattle.ab_search_trees.specs.Goals as tree
use Rattle.ab_search_trees.specs.Goals.{Now}
use Rattle.ab_search_trees.specs.Judgements.{is_blind}
use Rattle.ab_search_trees.specs.Ways as trees
use Rattle.ab_search_ways.specs.MadeWays.{IsWayAt}
use Rattle.ab_search_ways.specs.declared.way.Way.{Way}
use Rattle.ab_next_ways.specs.Cursors.{AreLeft, IsBehind, by_hypotheses_from, by_forms_from, unless_blind}
use Rattle.ab_next_ways.specs.Steps.{IsPassed, IsNextWay, IsStep, step_of}
use Rattle.ab_next_ways.specs.declared.cursor.Cursor.{Cursor}
use Rattle.ab_next_ways.proofs.WaysInTurn.{drop_one, drop_none}

module _ (v : World) (base : List TermId) (now : Now) (g : tree.Goal) (ws row tail : List trees.Way) (i : ℕ) (e : ws ≡ drop i row ++ tail) (next : Cursor) where
  -- the cursor stands behind the way of this number
  abbrev pub ItTells : Type 0
  ItTells = (way : trees.Way) → slice_get row i ≡ Some way → IsBehind (declarations_of v) now g next way

  pub row_made : (made : Way) → IsWayAt v base row i (Some made) → AreLeft (declarations_of v) now g v.types next (drop (i + 1) row ++ tail) → ItTells → IsNextWay v base now g ws next (declarations_of v) made
  row_made made at left tells = (at.0, drop (i + 1) row ++ tail, e ∙ ap (λ l. l ++ tail) (drop_one row i at.0 at.1), at.2, left, tells at.0 at.1)

  pub row_passed : slice_get row i ≡ None → AreLeft (declarations_of v) now g v.types next tail → IsPassed v base now g ws next (declarations_of v) v.types
  row_passed at left = ([], tail, e ∙ ap (λ l. l ++ tail) (drop_none row i at), λ way m. absurd (Contains-none way m), left)

  pub row_step : (o : Option Way) → IsWayAt v base row i o → AreLeft (declarations_of v) now g v.types next (drop (i + 1) row ++ tail) → (slice_get row i ≡ None → AreLeft (declarations_of v) now g v.types next tail)
      → ItTells → IsStep v base now g ws next (step_of o)
  row_step (Some made) at some none tells = row_made made at some tells
  row_step None at some none tells = row_passed at (none at)

-- behind what isn't there nothing is
none_suc : {X : Type 0} (xs : List X) (i : ℕ) → slice_get xs i ≡ None → drop (suc i) xs ≡ []
none_suc [] i e = refl
none_suc (x ∷ xs) zero e = absurd (cc)
none_suc (x ∷ xs) (suc i) e = none_suc xs i e

pub none_behind : {X : Type 0} (xs : List X) (i : ℕ) → slice_get xs i ≡ None → drop (i + 1) xs ≡ []
none_behind xs i e = ap (λ n. drop n xs) (let one : i + 1 ≡ suc i = omega arith in one) ∙ none_suc xs i e

module _ (D : Declarations) (now : Now) (g : tree.Goal) where
  -- there is one way at most by `true`, and two by the form
  pub one_truth : (f : Form) → drop 1 (trees.by_truth D now g f) ≡ []
  one_truth truth = refl
  one_truth falsity = refl
  one_truth (both A B) = refl
  one_truth (either A B) = refl
  one_truth (implies A B) = refl
  one_truth (equal A t u) = refl
  one_truth (for_all A F) = refl
  one_truth (exists A F) = refl
  one_truth (nabla A F) = refl
  one_truth (marked m F) = refl
  one_truth other = refl

  few_layers : (n : ℕ) (o : Option Read) → drop 2 (trees.by_layer D now g n o) ≡ []
  few_layers zero None = refl
  few_layers zero (Some F) = refl
  few_layers (suc n) None = refl
  few_layers (suc n) (Some F) = refl

  few_if : (b : Bool) (w : trees.Way) → drop 2 (cond b (w ∷ []) []) ≡ []
  few_if true w = refl
  few_if false w = refl

  pub two_forms : (f : Form) → drop 2 (trees.by_form D now g f) ≡ []
  two_forms truth = refl
  two_forms falsity = refl
  two_forms (both A B) = refl
  two_forms (either A B) = refl
  two_forms (implies A B) = refl
  two_forms (equal A t u) = refl
  two_forms (for_all A F) = few_if g.untouched _
  two_forms (exists A F) = refl
  two_forms (nabla A F) = refl
  two_forms (marked m F) = refl
  two_forms other = few_layers g.layers _

  pub ways_are : trees.ways D now g ≡ trees.by_truth D now g (form_of g.conclusion) ++ by_hypotheses_from D now g 0
  ways_are =
      ap (λ l. trees.by_truth D now g (form_of g.conclusion) ++ for_each (trees.by_hypothesis D now g) g.hypotheses ++ cond (is_blind now.flexible g.conclusion) [] l)
      (append_assoc (trees.by_form D now g (form_of g.conclusion)) (trees.by_definition D now g g.depth (defined_atom D g.conclusion)) (trees.by_judgement D now g g.depth (as_judgement g.conclusion)))
      ∙ append_assoc (trees.by_truth D now g (form_of g.conclusion)) (for_each (trees.by_hypothesis D now g) g.hypotheses) (unless_blind D now g (by_forms_from D now g 0))

-- THE STEPS THAT CLOSE GOALS, one after another: at each the first goal is closed, or goals that are left of it take its place. They are the steps of a
-- search in its order, and each asks what a proof layer by layer asks in the same place.
use Rattle.std.specs.Prelude.{◌≡◌, ◌≢◌, ℕ, List, [], ◌∷◌, ◌++◌, Bool, true, false, codes, Some, None, slice_get, All, Contains}
use Rattle.ab_term.specs.Types.{Ty}
use Rattle.ab_term.specs.Terms as tree
use Rattle.ab_term.specs.Terms.{Nominal, Read}
use Rattle.ab_term.specs.Typing.{HasType}
use Rattle.ab_term.specs.Names.{support, EqualUpToNames}
use Rattle.ab_term.specs.Translation.{EqualPastHints}
use Rattle.ab_term.specs.Substitution.{instance}
use Rattle.ab_term.specs.Abstraction.{over}
use Rattle.ab_unifiers.specs.Clauses.{Clause, name_term}
use Rattle.ab_unifiers.specs.Choices.{in_order}
use Rattle.ab_formulas.specs.BodyMarks.{mark_above}
use Rattle.ab_formulas.specs.Declarations.{Declarations, signature_in}
use Rattle.ab_formulas.specs.Forms.{truth, equal, both, either, implies, for_all, exists, nabla, other, form_of}
use Rattle.ab_formulas.specs.Marks.{erased, MarksServeIn}
use Rattle.ab_formulas.specs.GoalTerms.{HoldsOnly}
use Rattle.ab_theory.specs.Atoms.{Defined}
use Rattle.ab_theory.specs.Judgements.{Judgement, as_judgement}
use Rattle.ab_theory.specs.SpecRules.{is_nil, some_item}
use Rattle.ab_search_trees.specs.Guesses.{a_variable}
use Rattle.ab_search_trees.specs.Judgements.{opened_once}
use Rattle.ab_search_proofs.specs.Proved.{IsByClause, IsByRule, body_by}
use Rattle.ab_search_layers.specs.Layered.{Gives, Layered}
use Rattle.ab_search_layers.specs.Taken as way
use Rattle.ab_search_layers.specs.Taken.{Taking}

-- AN OPEN GOAL: the conclusion is to be shown from the hypotheses, where these variables may stand in what is put in
pub record Open : Type 0 where
  pub known : List (tree.Variable ℕ)
  pub hypotheses : List Read
  pub conclusion : Read

abbrev pub to_show : List (tree.Variable ℕ) → List Read → Read → Open
to_show ys Hs C = record { known = ys; hypotheses = Hs; conclusion = C }

-- two goals, the left first or the right first
abbrev pub in_turn : Bool → Open → Open → List Open
in_turn true left right = right ∷ left ∷ []
in_turn false left right = left ∷ right ∷ []

-- THE STEPS CLOSE THE GOALS: of each step the conclusion of the first goal, and how the search goes on from it
pub data Closes (D : Declarations) : List Open → List (Read × Taking) → Type 0 where
  none : Closes D [] []
  by_truth : {ys : List (tree.Variable ℕ)} {Hs : List Read} {C : Read} {gs : List Open} {es : List (Read × Taking)} → form_of C ≡ truth
      → Closes D gs es → Closes D (to_show ys Hs C ∷ gs) ((C, way.truth) ∷ es)
  by_hypothesis : {ys : List (tree.Variable ℕ)} {Hs : List Read} {C : Read} {gs : List Open} {es : List (Read × Taking)} (i : ℕ) (B : Read) → slice_get Hs i ≡ Some B → EqualUpToNames (erased B) (erased C) → MarksServeIn C B
      → Closes D gs es → Closes D (to_show ys Hs C ∷ gs) ((C, way.hypothesis i) ∷ es)
  by_equality : {ys : List (tree.Variable ℕ)} {Hs : List Read} {C : Read} {gs : List Open} {es : List (Read × Taking)} {A : Ty} {t u : Read} → form_of C ≡ equal A t u → EqualPastHints t u
      → Closes D gs es → Closes D (to_show ys Hs C ∷ gs) ((C, way.equality) ∷ es)
  by_both : {ys : List (tree.Variable ℕ)} {Hs : List Read} {C A B : Read} {gs : List Open} {es : List (Read × Taking)} (right_first : Bool) → form_of C ≡ both A B
      → Closes D (in_turn right_first (to_show ys Hs A) (to_show ys Hs B) ++ gs) es → Closes D (to_show ys Hs C ∷ gs) ((C, way.both right_first) ∷ es)
  by_left : {ys : List (tree.Variable ℕ)} {Hs : List Read} {C A B : Read} {gs : List Open} {es : List (Read × Taking)} → form_of C ≡ either A B
      → Closes D (to_show ys Hs A ∷ gs) es → Closes D (to_show ys Hs C ∷ gs) ((C, way.left) ∷ es)
  by_right : {ys : List (tree.Variable ℕ)} {Hs : List Read} {C A B : Read} {gs : List Open} {es : List (Read × Taking)} → form_of C ≡ either A B
      → Closes D (to_show ys Hs B ∷ gs) es → Closes D (to_show ys Hs C ∷ gs) ((C, way.right) ∷ es)
  by_assuming : {ys : List (tree.Variable ℕ)} {Hs : List Read} {C A B : Read} {gs : List Open} {es : List (Read × Taking)} → form_of C ≡ implies A B
      → Closes D (to_show ys (Hs ++ A ∷ []) B ∷ gs) es → Closes D (to_show ys Hs C ∷ gs) ((C, way.assuming) ∷ es)
  -- a constant that doesn't stand in the conclusion
  by_constant : {ys : List (tree.Variable ℕ)} {Hs : List Read} {C F : Read} {A : Ty} {gs : List Open} {es : List (Read × Taking)} (a : Nominal) → form_of C ≡ nabla A F → a.type ≡ A → ¬ Contains (support C) a
      → Closes D (to_show ys Hs (instance F (name_term (codes "x") a)) ∷ gs) es → Closes D (to_show ys Hs C ∷ gs) ((C, way.constant a) ∷ es)
  by_term : {ys : List (tree.Variable ℕ)} {Hs : List Read} {C F : Read} {A : Ty} {gs : List Open} {es : List (Read × Taking)} (t : Read) → form_of C ≡ exists A F → HasType (signature_in D) [] t A → HoldsOnly ys t
      → Closes D (to_show ys Hs (instance F t) ∷ gs) es → Closes D (to_show ys Hs C ∷ gs) ((C, way.term t) ∷ es)
  -- a variable of a new number over the conclusion's constants
  by_variable : {ys : List (tree.Variable ℕ)} {Hs : List Read} {C F : Read} {A : Ty} {gs : List Open} {es : List (Read × Taking)} (n : ℕ) → form_of C ≡ for_all A F → All (λ (y : tree.Variable ℕ). y.name ≢ n) ys
      → Closes D (to_show (record { name = n; type = over (in_order (support C)) A } ∷ ys) Hs (instance F (a_variable n (in_order (support C)) A)) ∷ gs) es
      → Closes D (to_show ys Hs C ∷ gs) ((C, way.variable n (in_order (support C))) ∷ es)
  by_layer : {ys : List (tree.Variable ℕ)} {Hs : List Read} {C F : Read} {gs : List Open} {es : List (Read × Taking)} → form_of C ≡ other → opened_once C ≡ Some F
      → Closes D (to_show ys Hs F ∷ gs) es → Closes D (to_show ys Hs C ∷ gs) ((C, way.layer) ∷ es)
  by_clause : {ys : List (tree.Variable ℕ)} {Hs : List Read} {C : Read} {gs : List Open} {es : List (Read × Taking)} (d : Defined) (c : Clause (List ℕ)) (us : List Read) (ns : List Nominal) → IsByClause D ys C d c us ns
      → Closes D (to_show ys Hs (body_by d c us ns) ∷ gs) es → Closes D (to_show ys Hs C ∷ gs) ((C, way.clause c ns us) ∷ es)
  -- of a judgement without a layer: what the rule leaves is B, and what is shown gives it
  by_rule : {ys : List (tree.Variable ℕ)} {Hs : List Read} {C : Read} {gs : List Open} {es : List (Read × Taking)} (i : ℕ) (ts : List Read) (closed : List Bool) (us : List Read) (B F : Read) → opened_once C ≡ None → IsByRule D ys C us B → Gives D ys F B
      → Closes D (to_show ys Hs F ∷ gs) es → Closes D (to_show ys Hs C ∷ gs) ((C, way.rule i ts closed) ∷ es)
  -- of a judgement whose list is `nil`, by some formula of the list, though it has none
  by_empty_list : {ys : List (tree.Variable ℕ)} {Hs : List Read} {C : Read} {gs : List Open} {es : List (Read × Taking)} (i : ℕ) (j : Judgement) → as_judgement C ≡ Some j → j.focus ≡ None → is_nil j.context ≡ true
      → Closes D (to_show ys Hs (some_item (mark_above j.sign) j.context j.goal) ∷ gs) es → Closes D (to_show ys Hs C ∷ gs) ((C, way.rule i [] []) ∷ es)

-- THE GOAL IS PROVED layer by layer
abbrev pub IsShown : Declarations → Open → Type 0
IsShown D g = Layered D g.known g.hypotheses g.conclusion

-- THE FIRST STEPS CLOSE THE FIRST GOALS, and those that are left the others
pub record CloseInTurn (D : Declarations) (gs hs : List Open) (es : List (Read × Taking)) : Type 0 where
  pub own : List (Read × Taking)
  pub rest : List (Read × Taking)
  pub all : es ≡ own ++ rest
  pub first : Closes D gs own
  pub others : Closes D hs rest

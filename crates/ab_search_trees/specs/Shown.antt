-- WHAT AN ANSWER SHOWS: a goal by its hypotheses and definitions, with terms in the place of variables. Where a rule of the logic
-- guesses, so does this; nothing is unified, and no depth is counted.
use Rattle.std.specs.Prelude.{◌≡◌, ℕ, List, [], ◌∷◌, ◌++◌, codes, true, Some, All, Contains}
use Rattle.ab_term.specs.Types.{Ty}
use Rattle.ab_term.specs.Terms.{Nominal, constant, spine, Read}
use Rattle.ab_term.specs.Typing.{HasType}
use Rattle.ab_term.specs.Names.{support, EqualUpToNames}
use Rattle.ab_term.specs.Translation.{EqualPastHints}
use Rattle.ab_term.specs.Substitution.{instance}
use Rattle.ab_term.specs.Variables.{Substitution, image, IsTyped}
use Rattle.ab_term.specs.Sameness.{same_number}
use Rattle.ab_unifiers.specs.Clauses.{name_term, Instance}
use Rattle.ab_unifiers.specs.Choices.{in_order}
use Rattle.ab_formulas.specs.Declarations.{Declarations, signature_in}
use Rattle.ab_formulas.specs.Forms.{truth, equal, both, either, implies, for_all, exists, nabla, other, form_of}
use Rattle.ab_formulas.specs.Marks.{erased, MarksServeIn}
use Rattle.ab_formulas.specs.BodyMarks.{mark_above, marked_in}
use Rattle.ab_theory.specs.Atoms.{Defined, defined_atom}
use Rattle.ab_theory.specs.Judgements.{Judgement, as_judgement}
use Rattle.ab_theory.specs.SpecRules.{SpecRule}
use Rattle.ab_theory.specs.SpecInstances.{HoldsUnder, IsAbove}
use Rattle.ab_search_trees.specs.Judgements.{opened_once, search_rules}
use Rattle.ab_search_trees.specs.Ways.{unfolds, demanded}
use Rattle.ab_search_trees.specs.Guesses.{HasNone, a_variable}

-- A RULE of the specification logic GIVES the judgement C where B holds: C comes of a judgement by terms for its variables and for
-- those of a rule of it; the equations that the rule demands hold with these, and its body becomes B. A goal is opened before
-- the terms are put in.
pub record IsGivenBy (D : Declarations) (C B : Read) : Type 0 where
  pub judged : Read
  pub judgement : Judgement
  pub is : as_judgement judged ≡ Some judgement
  pub may : unfolds judgement.sign ≡ true
  pub rule : SpecRule
  pub one : Contains (search_rules D judgement) rule
  -- the rule's variables are numbered above those of the judgement
  pub number : ℕ
  pub above : IsAbove number judged
  pub terms : Substitution ℕ (List ℕ)
  pub typed : IsTyped (signature_in D) terms
  pub equal : All (HoldsUnder terms) (demanded number judgement rule).equations
  pub conclusion : image same_number terms judged ≡ C
  pub body : image same_number terms (demanded number judgement rule).body ≡ B

-- the conclusion follows from the hypotheses
pub data Shown (D : Declarations) : List Read → Read → Type 0 where
  by_truth : {Hs : List Read} {C : Read} → form_of C ≡ truth → Shown D Hs C
  by_hypothesis : {Hs : List Read} {C : Read} (B : Read) → Contains Hs B → EqualUpToNames (erased B) (erased C) → MarksServeIn C B → Shown D Hs C
  by_equality : {Hs : List Read} {C : Read} {A : Ty} {t u : Read} → form_of C ≡ equal A t u → EqualPastHints t u → Shown D Hs C
  by_both : {Hs : List Read} {C A B : Read} → form_of C ≡ both A B → Shown D Hs A → Shown D Hs B → Shown D Hs C
  by_left : {Hs : List Read} {C A B : Read} → form_of C ≡ either A B → Shown D Hs A → Shown D Hs C
  by_right : {Hs : List Read} {C A B : Read} → form_of C ≡ either A B → Shown D Hs B → Shown D Hs C
  by_assuming : {Hs : List Read} {C A B : Read} → form_of C ≡ implies A B → Shown D (Hs ++ A ∷ []) B → Shown D Hs C
  -- a constant that doesn't stand in the conclusion
  by_constant : {Hs : List Read} {C F : Read} {A : Ty} (a : Nominal) → form_of C ≡ nabla A F → a.type ≡ A → ¬ Contains (support C) a → Shown D Hs (instance F (name_term (codes "x") a)) → Shown D Hs C
  by_term : {Hs : List Read} {C F : Read} {A : Ty} (t : Read) → form_of C ≡ exists A F → HasType (signature_in D) [] t A → Shown D Hs (instance F t) → Shown D Hs C
  -- a variable of a new number over the conclusion's constants
  by_variable : {Hs : List Read} {C F : Read} {A : Ty} (n : ℕ) → form_of C ≡ for_all A F → HasNone n C → All (HasNone n) Hs → Shown D Hs (instance F (a_variable n (in_order (support C)) A)) → Shown D Hs C
  by_layer : {Hs : List Read} {C F : Read} → form_of C ≡ other → opened_once C ≡ Some F → Shown D Hs F → Shown D Hs C
  by_rule : {Hs : List Read} {C : Read} (B : Read) → IsGivenBy D C B → Shown D Hs B → Shown D Hs C
  by_clause : {Hs : List Read} {C : Read} (d : Defined) (B : Read) → defined_atom D C ≡ Some d → unfolds d.sign ≡ true
      → Instance (signature_in D) (codes "x") d.block.clauses (spine (constant d.predicate) d.arguments) B → Shown D Hs (marked_in d.block.predicates (mark_above d.sign) B) → Shown D Hs C

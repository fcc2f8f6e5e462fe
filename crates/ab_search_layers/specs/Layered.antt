-- PROOFS OF A SEARCH THAT OPENS JUDGEMENTS LAYER BY LAYER, where the rules open all layers at once. So it may close a judgement by a hypothesis
-- before all its layers are opened, and what it shows of a rule may be less opened than what the rule leaves.
use Rattle.std.specs.Prelude.{◌≡◌, ◌≢◌, ℕ, List, [], ◌∷◌, ◌++◌, codes, true, Some, None, All, Contains}
use Rattle.ab_term.specs.Types.{Ty}
use Rattle.ab_term.specs.Logical as plain
use Rattle.ab_term.specs.Terms as tree
use Rattle.ab_term.specs.Terms.{Nominal, logical, lam, spine, no_terms, term, Read}
use Rattle.ab_term.specs.Typing.{HasType}
use Rattle.ab_term.specs.Names.{support, EqualUpToNames}
use Rattle.ab_term.specs.Translation.{EqualPastHints}
use Rattle.ab_term.specs.Substitution.{instance}
use Rattle.ab_term.specs.Abstraction.{over}
use Rattle.ab_unifiers.specs.Clauses.{Clause, name_term}
use Rattle.ab_unifiers.specs.Choices.{in_order}
use Rattle.ab_unifiers.specs.Member.{member_clauses}
use Rattle.ab_formulas.specs.BodyMarks.{mark_above}
use Rattle.ab_formulas.specs.Declarations.{Declarations, Block, block_in, signature_in}
use Rattle.ab_formulas.specs.Formulas.{IsFormula}
use Rattle.ab_formulas.specs.Forms.{truth, equal, both, either, implies, for_all, exists, nabla, other, form_of}
use Rattle.ab_formulas.specs.Marks.{erased, MarksServeIn}
use Rattle.ab_formulas.specs.GoalTerms.{HoldsOnly}
use Rattle.ab_theory.specs.Atoms.{Defined}
use Rattle.ab_theory.specs.Judgements.{Judgement, as_judgement}
use Rattle.ab_theory.specs.Opening as opening
use Rattle.ab_theory.specs.SpecRules.{is_nil, some_item}
use Rattle.ab_search_trees.specs.Guesses.{a_variable}
use Rattle.ab_search_trees.specs.Judgements.{opened_once}
use Rattle.ab_search_proofs.specs.Proved.{IsByClause, IsByRule, body_by}

-- THE FIRST OPENS TO THE SECOND by some layers of its judgements, or by none
pub data OpensTo : Read → Read → Type 0 where
  it_stays : {F : Read} → OpensTo F F
  a_layer : {F G H : Read} → opened_once F ≡ Some G → OpensTo G H → OpensTo F H
  in_both : {A B C E : Read} → OpensTo A C → OpensTo B E → OpensTo (opening.both A B) (opening.both C E)
  in_nabla : {A B : Ty} {x : List ℕ} {F G : Read} → OpensTo F G → OpensTo (spine (logical (plain.nabla A)) (term (lam B x F) no_terms)) (spine (logical (plain.nabla A)) (term (lam B x G) no_terms))
  in_exists : {A B : Ty} {x : List ℕ} {F G : Read} → OpensTo F G → OpensTo (spine (logical (plain.existential A)) (term (lam B x F) no_terms)) (spine (logical (plain.existential A)) (term (lam B x G) no_terms))

-- THE FIRST, which is shown, GIVES THE SECOND, which a rule leaves: it opens to it, past hints; or the second says that something exists, and the first
-- gives that of some term over these variables; or both say so, and the first gives the second of whatever term; or the first alone says so, and gives the
-- second by whatever term.
pub data Gives (D : Declarations) (ys : List (tree.Variable ℕ)) : Read → Read → Type 0 where
  it_opens : {F B : Read} → OpensTo F B → Gives D ys F B
  but_for_hints : {F K B : Read} → IsFormula (signature_in D) K → EqualPastHints K B → Gives D ys F K → Gives D ys F B
  of_a_term : {F B S : Read} {A : Ty} (t : Read) → form_of B ≡ exists A S → HasType (signature_in D) [] t A → HoldsOnly ys t → Gives D ys F (instance S t) → Gives D ys F B
  of_each_term : {F B R S : Read} {A : Ty} → IsFormula (signature_in D) F → form_of F ≡ exists A R → form_of B ≡ exists A S → ((t : Read) → HasType (signature_in D) [] t A → Gives D ys (instance R t) (instance S t)) → Gives D ys F B
  of_any_term : {F B R : Read} {A : Ty} → IsFormula (signature_in D) F → form_of F ≡ exists A R → ((t : Read) → HasType (signature_in D) [] t A → Gives D ys (instance R t) B) → Gives D ys F B

-- `member` is defined as it is built in
pub record MemberIsDefined (D : Declarations) : Type 0 where
  pub block : Block
  pub found : block_in D (codes "member") ≡ Some block
  pub clauses : block.clauses ≡ member_clauses

-- THE CONCLUSION IS PROVED from the hypotheses, where these variables may stand in what is put in
pub data Layered (D : Declarations) : List (tree.Variable ℕ) → List Read → Read → Type 0 where
  by_truth : {ys : List (tree.Variable ℕ)} {Hs : List Read} {C : Read} → form_of C ≡ truth → Layered D ys Hs C
  by_hypothesis : {ys : List (tree.Variable ℕ)} {Hs : List Read} {C : Read} (B : Read) → Contains Hs B → EqualUpToNames (erased B) (erased C) → MarksServeIn C B → Layered D ys Hs C
  by_equality : {ys : List (tree.Variable ℕ)} {Hs : List Read} {C : Read} {A : Ty} {t u : Read} → form_of C ≡ equal A t u → EqualPastHints t u → Layered D ys Hs C
  by_both : {ys : List (tree.Variable ℕ)} {Hs : List Read} {C A B : Read} → form_of C ≡ both A B → Layered D ys Hs A → Layered D ys Hs B → Layered D ys Hs C
  by_left : {ys : List (tree.Variable ℕ)} {Hs : List Read} {C A B : Read} → form_of C ≡ either A B → Layered D ys Hs A → Layered D ys Hs C
  by_right : {ys : List (tree.Variable ℕ)} {Hs : List Read} {C A B : Read} → form_of C ≡ either A B → Layered D ys Hs B → Layered D ys Hs C
  by_assuming : {ys : List (tree.Variable ℕ)} {Hs : List Read} {C A B : Read} → form_of C ≡ implies A B → Layered D ys (Hs ++ A ∷ []) B → Layered D ys Hs C
  -- a constant that doesn't stand in the conclusion
  by_constant : {ys : List (tree.Variable ℕ)} {Hs : List Read} {C F : Read} {A : Ty} (a : Nominal) → form_of C ≡ nabla A F → a.type ≡ A → ¬ Contains (support C) a
      → Layered D ys Hs (instance F (name_term (codes "x") a)) → Layered D ys Hs C
  by_term : {ys : List (tree.Variable ℕ)} {Hs : List Read} {C F : Read} {A : Ty} (t : Read) → form_of C ≡ exists A F → HasType (signature_in D) [] t A → HoldsOnly ys t
      → Layered D ys Hs (instance F t) → Layered D ys Hs C
  -- a variable of a new number over the conclusion's constants
  by_variable : {ys : List (tree.Variable ℕ)} {Hs : List Read} {C F : Read} {A : Ty} (n : ℕ) → form_of C ≡ for_all A F → All (λ (y : tree.Variable ℕ). y.name ≢ n) ys
      → Layered D (record { name = n; type = over (in_order (support C)) A } ∷ ys) Hs (instance F (a_variable n (in_order (support C)) A)) → Layered D ys Hs C
  by_layer : {ys : List (tree.Variable ℕ)} {Hs : List Read} {C F : Read} → form_of C ≡ other → opened_once C ≡ Some F → Layered D ys Hs F → Layered D ys Hs C
  by_clause : {ys : List (tree.Variable ℕ)} {Hs : List Read} {C : Read} (d : Defined) (c : Clause (List ℕ)) (us : List Read) (ns : List Nominal)
      → IsByClause D ys C d c us ns → Layered D ys Hs (body_by d c us ns) → Layered D ys Hs C
  -- of a judgement without a layer: what the rule leaves is B, and what is shown gives it
  by_rule : {ys : List (tree.Variable ℕ)} {Hs : List Read} {C : Read} (us : List Read) (B F : Read) → opened_once C ≡ None → IsByRule D ys C us B → Gives D ys F B → Layered D ys Hs F → Layered D ys Hs C
  -- of a judgement whose list is `nil`, by some formula of the list, though it has none: then a hypothesis says what can't be
  by_empty_list : {ys : List (tree.Variable ℕ)} {Hs : List Read} {C : Read} (j : Judgement) → as_judgement C ≡ Some j → j.focus ≡ None → is_nil j.context ≡ true → Layered D ys Hs (some_item (mark_above j.sign) j.context j.goal) → Layered D ys Hs C

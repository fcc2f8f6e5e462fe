-- PROOFS OF A SEARCH: what an answer shows, with what the rules ask for besides. They speak of no sequent: constants, numbers of variables and
-- names of hypotheses are whatever the search took.
use Rattle.std.specs.Prelude.{◌≡◌, ◌≢◌, ℕ, List, [], ◌∷◌, ◌++◌, map, codes, Some, slice_get, All, AllPairs, Contains}
use Rattle.ab_term.specs.Types.{Ty}
use Rattle.ab_term.specs.Terms as tree
use Rattle.ab_term.specs.Terms.{Nominal, constant, spine, Read}
use Rattle.ab_term.specs.Typing.{HasType}
use Rattle.ab_term.specs.Names.{support, permute, moved_by, EqualUpToNames, IsPermutationTable, HasOneTypeEach}
use Rattle.ab_term.specs.Translation.{EqualPastHints}
use Rattle.ab_term.specs.Substitution.{instance}
use Rattle.ab_term.specs.Abstraction.{over}
use Rattle.ab_term.specs.Variables.{Substitution, image, one_by_one}
use Rattle.ab_term.specs.Sameness.{same_number}
use Rattle.ab_unifiers.specs.Replacements.{Cell}
use Rattle.ab_unifiers.specs.Unification.{unified, Solves}
use Rattle.ab_unifiers.specs.Clauses.{Clause, clause_variables, head_of, put_together, filled, name_term, Each, AreFor, HoldsNone}
use Rattle.ab_unifiers.specs.Choices.{in_order}
use Rattle.ab_formulas.specs.Declarations.{Declarations, signature_in}
use Rattle.ab_formulas.specs.Forms.{truth, equal, both, either, implies, for_all, exists, nabla, form_of}
use Rattle.ab_formulas.specs.Marks.{erased, MarksServeIn}
use Rattle.ab_formulas.specs.BodyMarks.{MayBeUnfolded, mark_above, marked_in}
use Rattle.ab_formulas.specs.Formulas.{IsFormula}
use Rattle.ab_formulas.specs.Programs.{program_in}
use Rattle.ab_formulas.specs.GoalTerms.{HoldsOnly}
use Rattle.ab_formulas.specs.Sequents.{Variable, Sequent, IsSequent, goal_names, names_of, in_terms}
use Rattle.ab_theory.specs.Equations.{AreCells, made}
use Rattle.ab_theory.specs.Splits.{problem_of}
use Rattle.ab_theory.specs.Atoms.{Defined, Choice, defined_atom, choices_of}
use Rattle.ab_theory.specs.JudgementCases.{judgement_unfolding}
use Rattle.ab_theory.specs.Judgements.{Judgement, as_judgement}
use Rattle.ab_theory.specs.SpecRules.{SpecRule, rules_of}
use Rattle.ab_theory.specs.Unfolding.{unfolding_case}
use Rattle.ab_search_trees.specs.Guesses.{a_variable}
use Rattle.ab_search_proofs.specs.Likeness.{StandIn, replaced, replacing, AreStandIns}

-- A CHOICE IS SOLVED in a sequent, where these are all variables that were ever made and the sequent's own aren't replaced: with these terms for
-- the variables that it leaves open its body is the formula, past hints. The terms may be put into the sequent, one beside the other,
-- and don't hold the constants that were chosen.
pub record IsSolved (D : Declarations) (s : Sequent) (d : Defined) (k : Choice) (cells : List (Cell (List ℕ))) (F : Read) : Type 0 where
  pub more : List (Cell (List ℕ))
  pub answer : Substitution ℕ (List ℕ)
  pub solved : Solves (codes "x") (problem_of (unfolding_case cells s d k)) (unified more answer)
  pub terms : List Read
  pub typed : Each (λ (y : Variable) t. HasType (signature_in D) [] t y.type) (made cells more answer) terms
  pub known : All (HoldsOnly (map in_terms s.variables)) terms
  pub without : All (HoldsNone (signature_in D) k.names) terms
  pub one_type : HasOneTypeEach (goal_names s ++ (k.names ++ names_of terms))
  pub body : EqualPastHints (one_by_one same_number (put_together (map in_terms (made cells more answer)) terms) (image same_number answer (unfolding_case cells s d k).goal.conclusion)) F

-- THE CLAUSE IS SOLVED WHEREVER the conclusion may come to stand: in each sequent whose conclusion is like it, others standing in for these
-- variables, by the constants that the likeness makes of those here, if these are a choice. Constants of the terms are to have one type each there.
abbrev pub IsSolvedWherever : Declarations → List (tree.Variable ℕ) → Read → Clause (List ℕ) → List Read → List Nominal → Read → Type 0
IsSolvedWherever D ys C c us ns B =
    (vs : List StandIn) (s : Sequent) (ps : List (Nominal × Nominal)) (d : Defined) (cells : List (Cell (List ℕ))) →
    let here : Read → Read = λ t. permute ps (image same_number (replacing vs) t) in
    let k : Choice = record { clause = c; names = map (moved_by ps) ns } in
    map replaced vs ≡ ys → AreStandIns s vs → IsSequent D s → AreCells cells s → IsPermutationTable ps → EqualPastHints (here C) s.conclusion →
    defined_atom D s.conclusion ≡ Some d → Contains (choices_of (goal_names s) d) k → HasOneTypeEach (goal_names s ++ (k.names ++ names_of (map here us))) → IsSolved D s d k cells (here B)

-- what the clause leaves to be shown
abbrev pub body_by : Defined → Clause (List ℕ) → List Read → List Nominal → Read
body_by d c us ns = marked_in d.block.predicates (mark_above d.sign) (image same_number (filled (codes "x") c us ns) c.body)

-- THE CLAUSE GIVES THE ATOM that the conclusion is, by these terms for its variables and these constants for its names; the terms hold these
-- variables alone. And it is solved wherever it has to be.
pub record IsByClause (D : Declarations) (ys : List (tree.Variable ℕ)) (C : Read) (d : Defined) (c : Clause (List ℕ)) (us : List Read) (ns : List Nominal) : Type 0 where
  pub atom : defined_atom D C ≡ Some d
  pub may : MayBeUnfolded d.sign
  pub one : Contains d.block.clauses c
  pub terms : AreFor (signature_in D) (clause_variables c) us
  pub known : All (HoldsOnly ys) us
  pub types : map (λ a. a.type) ns ≡ map (λ z. z.type) c.names
  pub different : AllPairs (λ a b. a ≢ b) ns
  pub without : All (HoldsNone (signature_in D) ns) us
  pub head : EqualPastHints (image same_number (filled (codes "x") c us ns) (head_of c)) (spine (constant d.predicate) d.arguments)
  pub solved : IsSolvedWherever D ys C c us ns (body_by d c us ns)

-- A RULE OF A JUDGEMENT IS SOLVED in a sequent of which that is the conclusion, where these are all variables that were ever made: with these terms
-- for the variables that it leaves open its body is the formula, past hints. The terms may be put into the sequent.
pub record IsRuleSolved (D : Declarations) (s : Sequent) (j : Judgement) (r : SpecRule) (cells : List (Cell (List ℕ))) (F : Read) : Type 0 where
  pub more : List (Cell (List ℕ))
  pub answer : Substitution ℕ (List ℕ)
  pub solved : Solves (codes "x") (problem_of (judgement_unfolding s j r cells)) (unified more answer)
  pub terms : List Read
  pub typed : Each (λ (y : Variable) t. HasType (signature_in D) [] t y.type) (made (judgement_unfolding s j r cells).before more answer) terms
  pub known : All (HoldsOnly (map in_terms s.variables)) terms
  pub one_type : HasOneTypeEach (goal_names s ++ names_of terms)
  pub body : EqualPastHints (one_by_one same_number (put_together (map in_terms (made (judgement_unfolding s j r cells).before more answer)) terms) (image same_number answer (judgement_unfolding s j r cells).goal.conclusion)) F

-- the sequent's judgement has a rule that is solved so
pub record HasSolvedRule (D : Declarations) (s : Sequent) (j : Judgement) (F : Read) : Type 0 where
  pub rules : List SpecRule
  pub known : rules_of (program_in D) j ≡ Some rules
  pub place : ℕ
  pub rule : SpecRule
  pub there : slice_get rules place ≡ Some rule
  pub solved : (cells : List (Cell (List ℕ))) → AreCells cells s → IsRuleSolved D s j rule cells F

-- SUCH A RULE IS THERE WHEREVER the conclusion may come to stand, as for a clause
abbrev pub HasSolvedRuleWherever : Declarations → List (tree.Variable ℕ) → Read → List Read → Read → Type 0
HasSolvedRuleWherever D ys C us B =
    (vs : List StandIn) (s : Sequent) (ps : List (Nominal × Nominal)) (j : Judgement) →
    let here : Read → Read = λ t. permute ps (image same_number (replacing vs) t) in
    map replaced vs ≡ ys → AreStandIns s vs → IsSequent D s → IsPermutationTable ps → EqualPastHints (here C) s.conclusion →
    as_judgement s.conclusion ≡ Some j → HasOneTypeEach (goal_names s ++ names_of (map here us)) → HasSolvedRule D s j (here B)

-- A RULE OF THE SPECIFICATION LOGIC LEAVES THIS FORMULA of the judgement that the conclusion is, by these terms
pub record IsByRule (D : Declarations) (ys : List (tree.Variable ℕ)) (C : Read) (us : List Read) (B : Read) : Type 0 where
  pub judgement : Judgement
  pub is : as_judgement C ≡ Some judgement
  pub may : MayBeUnfolded judgement.sign
  pub formula : IsFormula (signature_in D) B
  pub known : HoldsOnly ys B
  pub solved : HasSolvedRuleWherever D ys C us B

-- THE CONCLUSION IS PROVED from the hypotheses, where these variables may stand in what is put in
pub data Proved (D : Declarations) : List (tree.Variable ℕ) → List Read → Read → Type 0 where
  by_truth : {ys : List (tree.Variable ℕ)} {Hs : List Read} {C : Read} → form_of C ≡ truth → Proved D ys Hs C
  by_hypothesis : {ys : List (tree.Variable ℕ)} {Hs : List Read} {C : Read} (B : Read) → Contains Hs B → EqualUpToNames (erased B) (erased C) → MarksServeIn C B → Proved D ys Hs C
  by_equality : {ys : List (tree.Variable ℕ)} {Hs : List Read} {C : Read} {A : Ty} {t u : Read} → form_of C ≡ equal A t u → EqualPastHints t u → Proved D ys Hs C
  by_both : {ys : List (tree.Variable ℕ)} {Hs : List Read} {C A B : Read} → form_of C ≡ both A B → Proved D ys Hs A → Proved D ys Hs B → Proved D ys Hs C
  by_left : {ys : List (tree.Variable ℕ)} {Hs : List Read} {C A B : Read} → form_of C ≡ either A B → Proved D ys Hs A → Proved D ys Hs C
  by_right : {ys : List (tree.Variable ℕ)} {Hs : List Read} {C A B : Read} → form_of C ≡ either A B → Proved D ys Hs B → Proved D ys Hs C
  by_assuming : {ys : List (tree.Variable ℕ)} {Hs : List Read} {C A B : Read} → form_of C ≡ implies A B → Proved D ys (Hs ++ A ∷ []) B → Proved D ys Hs C
  -- a constant that doesn't stand in the conclusion
  by_constant : {ys : List (tree.Variable ℕ)} {Hs : List Read} {C F : Read} {A : Ty} (a : Nominal) → form_of C ≡ nabla A F → a.type ≡ A → ¬ Contains (support C) a
      → Proved D ys Hs (instance F (name_term (codes "x") a)) → Proved D ys Hs C
  by_term : {ys : List (tree.Variable ℕ)} {Hs : List Read} {C F : Read} {A : Ty} (t : Read) → form_of C ≡ exists A F → HasType (signature_in D) [] t A → HoldsOnly ys t
      → Proved D ys Hs (instance F t) → Proved D ys Hs C
  -- a variable of a new number over the conclusion's constants
  by_variable : {ys : List (tree.Variable ℕ)} {Hs : List Read} {C F : Read} {A : Ty} (n : ℕ) → form_of C ≡ for_all A F → All (λ (y : tree.Variable ℕ). y.name ≢ n) ys
      → Proved D (record { name = n; type = over (in_order (support C)) A } ∷ ys) Hs (instance F (a_variable n (in_order (support C)) A)) → Proved D ys Hs C
  by_clause : {ys : List (tree.Variable ℕ)} {Hs : List Read} {C : Read} (d : Defined) (c : Clause (List ℕ)) (us : List Read) (ns : List Nominal)
      → IsByClause D ys C d c us ns → Proved D ys Hs (body_by d c us ns) → Proved D ys Hs C
  by_rule : {ys : List (tree.Variable ℕ)} {Hs : List Read} {C : Read} (us : List Read) (B : Read) → IsByRule D ys C us B → Proved D ys Hs B → Proved D ys Hs C

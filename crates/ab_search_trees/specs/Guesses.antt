-- DERIVATIONS BY GUESSES: the ways of a search with guessed terms in the place of variables, and equal sides in the place of
-- equations. Against these the search is judged. Nothing is unified here. A derivation may take judgements by rules, or it takes
-- none so: then each is closed by a hypothesis, or opened by layers.
use Rattle.std.specs.Prelude.{◌≡◌, ◌≢◌, ℕ, suc, List, [], map, codes, Bool, true, false, Some, All, AllPairs, Contains}
use Rattle.ab_term.specs.Types.{Ty}
use Rattle.ab_term.specs.Terms.{Nominal, Variable, constant, spine, Read}
use Rattle.ab_term.specs.Typing.{Signature, HasType}
use Rattle.ab_term.specs.Names.{support, support_of_all, permute}
use Rattle.ab_term.specs.Translation.{EqualPastHints}
use Rattle.ab_term.specs.Substitution.{instance}
use Rattle.ab_term.specs.Abstraction.{over, given_names}
use Rattle.ab_term.specs.Variables.{variables, image}
use Rattle.ab_term.specs.Sameness.{same_number}
use Rattle.ab_unifiers.specs.Clauses.{clause_variables, numbered, put_together, filled, head_of, name_term, AreFor, HoldsNone}
use Rattle.ab_unifiers.specs.Choices.{in_order, outside, placed, new_constant}
use Rattle.ab_formulas.specs.Declarations.{Declarations, signature_in}
use Rattle.ab_formulas.specs.Forms.{truth, equal, both, either, implies, for_all, exists, nabla, other, form_of}
use Rattle.ab_formulas.specs.Marks.{erased, MarksServeIn}
use Rattle.ab_formulas.specs.BodyMarks.{mark_above, marked_in}
use Rattle.ab_theory.specs.Atoms.{Defined, Choice, defined_atom, choices_of}
use Rattle.ab_search_trees.specs.Goals.{Goal, asking, assuming}
use Rattle.ab_search_trees.specs.Maps.{mapping}
use Rattle.ab_theory.specs.Judgements.{Judgement, as_judgement}
use Rattle.ab_theory.specs.SpecRules.{SpecRule, Demand}
use Rattle.ab_theory.specs.SpecInstances.{HoldsUnder, IsAbove, first_own}
use Rattle.ab_search_trees.specs.Judgements.{opened_once, search_rules}
use Rattle.ab_search_trees.specs.Ways.{with_constants, unfolds, demanded}

-- different constants of the branch, one for each of these and of its type
pub record AreTargets (branch bs ns : List Nominal) : Type 0 where
  pub types : map (λ a. a.type) ns ≡ map (λ b. b.type) bs
  pub different : AllPairs (λ a b. a ≢ b) ns
  pub there : (a : Nominal) → Contains ns a → Contains branch a

-- each constant of the term is one of these
abbrev pub HoldsOf : List Nominal → Read → Type 0
HoldsOf ns t = (a : Nominal) → Contains (support t) a → Contains ns a

-- no variable of the goal has the number
abbrev pub HasNone : ℕ → Read → Type 0
HasNone n t = (y : Variable ℕ) → Contains (variables t) y → y.name ≢ n

abbrev pub IsNewFor : ℕ → Goal → Type 0
IsNewFor n g = HasNone n g.conclusion × All (HasNone n) g.hypotheses

-- the variable of that number over these constants, given them, as a term of the type
abbrev pub a_variable : ℕ → List Nominal → Ty → Read
a_variable n ns A = given_names (codes "x") (record { name = n; type = over ns A }) ns A

-- the goal with the clause's body for the conclusion, these terms put in for the clause's variables, and the choice's
-- constants for its names
abbrev pub unfolded_to : ℕ → Goal → Defined → Choice → List Read → Goal
unfolded_to depth g d c us = record {
  hypotheses = g.hypotheses;
  conclusion = marked_in d.block.predicates (mark_above d.sign) (image same_number (filled (codes "x") c.clause us c.names) c.clause.body);
  depth = depth;
  constants = with_constants (outside c.names (in_order (support_of_all d.arguments))) g.constants;
  untouched = false;
  layers = g.layers;
  member_first = false;
}

-- THE GUESS MAKES THE ATOM AN INSTANCE: terms for the clause's variables, over the atom's constants and without those that
-- were chosen for its names
pub record IsGuessedFor (sg : Signature) (d : Defined) (c : Choice) (us : List Read) : Type 0 where
  pub terms : AreFor sg (clause_variables c.clause) us
  pub without : All (HoldsNone sg c.names) us
  pub of_atom : All (HoldsOf (support_of_all d.arguments)) us
  pub head : EqualPastHints (image same_number (filled (codes "x") c.clause us c.names) (head_of c.clause)) (spine (constant d.predicate) d.arguments)

-- THE GUESS MEETS WHAT A RULE DEMANDS: terms for the rule's variables, without constants, since these variables take those of the
-- judgement for arguments; with them the equations hold
pub record MeetsDemand (sg : Signature) (n : ℕ) (d : Demand) (us : List Read) : Type 0 where
  pub terms : AreFor sg (numbered (first_own n d) d.own) us
  pub nameless : All (λ u. support u ≡ []) us
  pub equal : All (HoldsUnder (put_together (numbered (first_own n d) d.own) us)) d.equations

-- the goal with what the rule leaves for the conclusion, these terms put in
abbrev pub ruled_to : ℕ → Goal → ℕ → Demand → List Read → Goal
ruled_to depth g n d us = record (asking (image same_number (put_together (numbered (first_own n d) d.own) us) d.body) g) { depth = depth; untouched = false }

-- THE GOAL HAS A DERIVATION BY GUESSES; whether judgements may be taken by rules is said
pub data Guessed (D : Declarations) (rules : Bool) : Goal → Type 0 where
  by_truth : {g : Goal} → form_of g.conclusion ≡ truth → Guessed D rules g
  by_hypothesis : {g : Goal} (B : Read) (ns : List Nominal) → Contains g.hypotheses B → AreTargets g.constants (in_order (support B)) ns
      → EqualPastHints (permute (mapping (in_order (support B)) ns) (erased B)) (erased g.conclusion) → MarksServeIn g.conclusion B → Guessed D rules g
  by_equality : {g : Goal} {A : Ty} {t u : Read} → form_of g.conclusion ≡ equal A t u → EqualPastHints t u → Guessed D rules g
  by_both : {g : Goal} {A B : Read} → form_of g.conclusion ≡ both A B → Guessed D rules (asking A g) → Guessed D rules (asking B g) → Guessed D rules g
  by_left : {g : Goal} {A B : Read} → form_of g.conclusion ≡ either A B → Guessed D rules (asking A g) → Guessed D rules g
  by_right : {g : Goal} {A B : Read} → form_of g.conclusion ≡ either A B → Guessed D rules (asking B g) → Guessed D rules g
  by_assuming : {g : Goal} {A B : Read} → form_of g.conclusion ≡ implies A B → Guessed D rules (asking B (assuming A g)) → Guessed D rules g
  by_constant : {g : Goal} {A : Ty} {F : Read} → form_of g.conclusion ≡ nabla A F
      → Guessed D rules (record (asking (instance F (name_term (codes "x") (new_constant g.constants A))) g) { constants = placed (new_constant g.constants A) g.constants }) → Guessed D rules g
  -- a term over the branch's constants is guessed
  by_term : {g : Goal} {A : Ty} {F : Read} (t : Read) → form_of g.conclusion ≡ exists A F → HasType (signature_in D) [] t A → HoldsOf g.constants t
      → Guessed D rules (record (asking (instance F t) g) { untouched = false }) → Guessed D rules g
  -- a variable of whatever new number
  by_variable : {g : Goal} {A : Ty} {F : Read} → form_of g.conclusion ≡ for_all A F → g.untouched ≡ true
      → ((n : ℕ) → IsNewFor n g → Guessed D rules (asking (instance F (a_variable n (in_order (support g.conclusion)) A)) g)) → Guessed D rules g
  by_layer : {g : Goal} {n : ℕ} {F : Read} → form_of g.conclusion ≡ other → opened_once g.conclusion ≡ Some F → g.layers ≡ suc n
      → Guessed D rules (record (asking F g) { layers = n }) → Guessed D rules g
  by_clause : {g : Goal} {depth : ℕ} (d : Defined) (c : Choice) (us : List Read) → g.depth ≡ suc depth → defined_atom D g.conclusion ≡ Some d → unfolds d.sign ≡ true
      → Contains (choices_of g.constants d) c → IsGuessedFor (signature_in D) d c us → Guessed D rules (unfolded_to depth g d c us) → Guessed D rules g
  by_rule : {g : Goal} {depth : ℕ} (j : Judgement) (r : SpecRule) (n : ℕ) (us : List Read) → rules ≡ true → g.depth ≡ suc depth → as_judgement g.conclusion ≡ Some j → unfolds j.sign ≡ true
      → Contains (search_rules D j) r → IsAbove n g.conclusion → MeetsDemand (signature_in D) n (demanded n j r) us → Guessed D rules (ruled_to depth g n (demanded n j r) us) → Guessed D rules g

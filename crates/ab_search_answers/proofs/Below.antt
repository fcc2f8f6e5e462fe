-- WHAT IS PUT IN BELOW A PLACE of the tree, down to an answer: what is unified on the way, and then a constant for each variable that stays open.
use Rattle.std.proofs.Common.{◌≡◌, ◌⊎◌, ℕ, ◌≤◌, List, ◌∷◌, map, length, codes, true, Some, None}
use Rattle.std.specs.Prelude.{Contains, slice_get}
use Rattle.ab_term.specs.Terms.{Nominal, Variable, Read}
use Rattle.ab_term.specs.Typing.{Signature}
use Rattle.ab_term.specs.Variables.{Substitution, variables, value_in, image, image_all, IsTyped}
use Rattle.ab_term.specs.Sameness.{same_number}
use Rattle.ab_unifiers.specs.Replacements.{Cell, holds}
use Rattle.ab_unifiers.specs.Unification.{unified, Solves}
use Rattle.ab_formulas.specs.Declarations.{Declarations, signature_in}
use Rattle.ab_formulas.specs.GoalTerms.{HoldsOnly}
use Rattle.ab_formulas.specs.Marks.{plain}
use Rattle.ab_theory.specs.Atoms.{Defined, Choice, defined_atom, choices_of}
use Rattle.ab_theory.specs.Judgements.{Judgement, as_judgement}
use Rattle.ab_theory.specs.SpecRules.{SpecRule}
use Rattle.ab_search_trees.specs.Goals.{Goal, Now}
use Rattle.ab_search_trees.specs.Judgements.{opened_once, search_rules}
use Rattle.ab_search_trees.specs.Tree.{problem_of, now_after}
use Rattle.ab_search_trees.specs.Ways.{Way, unfolds, demanded, by_choice, by_rule}
use Rattle.ab_search_trees.proofs.Facts.{IsTask}
use Rattle.ab_search_trees.proofs.Carried.{AreFlexible}
use Rattle.ab_search_trees.proofs.Shows.{IsLater}
use Rattle.ab_search_proofs.specs.Proved.{IsByClause, body_by}
use Rattle.ab_search_layers.specs.Closed.{Open, to_show, Closes}
use Rattle.ab_search_layers.specs.Taken.{rule, Taking}
use Rattle.ab_search_answers.specs.Followed.{in_the_end, clause_terms, closed_names, rule_terms}

-- FROM THE PLACE DOWN TO THE ANSWER: what is unified holds no constants; what isn't replaced is open there, and what is open there was before or came later;
-- and what is held stays held
pub record IsBelow (sg : Signature) (now last : Now) (n : Substitution ℕ (List ℕ)) : Type 0 where
  pub later : IsLater sg now n
  pub filled : (y : Variable ℕ) → holds now.flexible y ≡ true → value_in same_number n y ≡ None → holds last.flexible y ≡ true
  pub kept : (y : Variable ℕ) → holds last.flexible y ≡ true → (holds now.flexible y ≡ true) ⊎ (length now.cells ≤ y.name)
  pub held : (a : Nominal) → Contains now.held a → Contains last.held a

-- A PLACE: what is known of its variables and of its first goal
pub record IsPlace (D : Declarations) (now : Now) (g : Goal) : Type 0 where
  pub flexible : AreFlexible now
  pub task : IsTask (signature_in D) now g
  pub branch : (a : Nominal) → Contains g.constants a → Contains now.held a

-- ONE WAY IS TAKEN from the place, and in the end this is put in: the way's equations are solved, what is put in holds no constant that was held, and for the
-- goal's variables, and for those that the way brings, it holds these variables alone
pub record IsTaken (D : Declarations) (now : Now) (g : Goal) (ys : List (Variable ℕ)) (w : Way) (last : Now) (more : List (Cell (List ℕ))) (q n : Substitution ℕ (List ℕ)) : Type 0 where
  pub place : IsPlace D now g
  pub solved : Solves (codes "x") (problem_of w) (unified more q)
  pub typed : IsTyped (signature_in D) (in_the_end last q n)
  pub below : IsBelow (signature_in D) (now_after now w more q) last n
  pub known : (t : Read) → ((y : Variable ℕ) → Contains (variables t) y → Contains (variables g.conclusion) y ⊎ ((holds w.flexible y ≡ true) × (length now.cells ≤ y.name))) → HoldsOnly ys (image same_number (in_the_end last q n) t)

-- the defined atom, with what is put in
abbrev pub atom_under : Substitution ℕ (List ℕ) → Defined → Defined
atom_under r d = record d { arguments = image_all same_number r d.arguments }

-- a goal, once all is put in, over these variables
abbrev pub at_end : Substitution ℕ (List ℕ) → List (Variable ℕ) → Goal → Open
at_end r ys g = to_show ys (map (image same_number r) g.hypotheses) (image same_number r g.conclusion)

-- EVIDENCE FOR CLAUSES: where an atom was unfolded by a choice, in the end the clause gives the atom, and its body is what is left to show
pub record GivesByClause (D : Declarations) (ys : List (Variable ℕ)) (C : Read) (d : Defined) (c : Choice) (us : List Read) (Fs : List Read) : Type 0 where
  pub by : IsByClause D ys C d c.clause us c.names
  pub body : (F : Read) → Contains Fs F → F ≡ body_by d c.clause us c.names

abbrev pub ClauseEvidence : Declarations → Type 0
ClauseEvidence D =
    (now last : Now) (g : Goal) (depth : ℕ) (d : Defined) (c : Choice) (ys : List (Variable ℕ)) (more : List (Cell (List ℕ))) (q n : Substitution ℕ (List ℕ)) →
    let w = by_choice D now g depth d c in
    let r = in_the_end last q n in
    defined_atom D g.conclusion ≡ Some d → unfolds d.sign ≡ true → Contains (choices_of g.constants d) c → IsTaken D now g ys w last more q n →
    GivesByClause D ys (image same_number r g.conclusion) (atom_under r d) c (map (image same_number r) (clause_terms (length now.cells) d c)) (map (λ (h : Goal). image same_number r h.conclusion) w.goals)

-- EVIDENCE FOR A RULE of the specification logic, for unmarked judgements: what was taken by the rule of this number is closed in the end by steps that close
-- what the rule leaves of it
abbrev pub EvidenceFor : Declarations → SpecRule → Type 0
EvidenceFor D s =
    (now last : Now) (g : Goal) (depth : ℕ) (j : Judgement) (i : ℕ) (ys : List (Variable ℕ)) (Hs : List Read) (more : List (Cell (List ℕ))) (q n : Substitution ℕ (List ℕ)) →
    let r = in_the_end last q n in
    as_judgement g.conclusion ≡ Some j → j.sign ≡ plain → slice_get (search_rules D j) i ≡ Some s → IsTaken D now g ys (by_rule D now g depth j s) last more q n → opened_once (image same_number r g.conclusion) ≡ None →
    (gs : List Open) (es : List (Read × Taking)) → Closes D (to_show ys Hs (image same_number r (demanded (length now.cells) j s).body) ∷ gs) es →
    Closes D (to_show ys Hs (image same_number r g.conclusion) ∷ gs) ((image same_number r g.conclusion, rule i (map (image same_number r) (rule_terms (length now.cells) j s)) (closed_names s)) ∷ es)

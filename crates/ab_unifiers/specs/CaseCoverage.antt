-- THAT SPLITTING BY AN ATOM LOSES NOTHING, case by case: for each instance of the atom under a substitution there is one
-- choice whose alternative covers it, over whatever cells there are when the alternative is made.
use Rattle.std.specs.Prelude.{◌≡◌, ℕ, List, map, Contains}
use Rattle.ab_term.specs.Terms.{Nominal, Term, Terms}
use Rattle.ab_term.specs.Typing.{Signature}
use Rattle.ab_term.specs.Names.{support_of_all}
use Rattle.ab_term.specs.Variables.{Substitution}
use Rattle.ab_unifiers.specs.Replacements.{Cell}
use Rattle.ab_unifiers.specs.Unification.{Answer, Solves}
use Rattle.ab_unifiers.specs.Unifiers.{AreKnown, given}
use Rattle.ab_unifiers.specs.Clauses.{Clause}
use Rattle.ab_unifiers.specs.Choices.{in_order, choices}
use Rattle.ab_unifiers.specs.Alternatives.{Scope, alternative, on_left}
use Rattle.ab_unifiers.specs.InstanceCover.{Covers}

module _ {Hint : Type 0} where
  -- the sequent where these are all cells
  abbrev pub over_cells : List (Cell Hint) → Scope Hint → Scope Hint
  over_cells cells sequent = record { cells = cells; variables = sequent.variables; constants = sequent.constants }

-- `alike` is the sameness in which formulas are compared
module _ {Hint : Type 0} (alike : Term ℕ Hint → Term ℕ Hint → Type 0) (sg : Signature) (x : Hint) (sequent : Scope Hint) (s : Substitution ℕ Hint) (B : Term ℕ Hint) where
  -- THE CHOICE COVERS the substitution and the body, whatever the answer to the equations of its alternative
  abbrev pub CoversAlways : Terms ℕ Hint → Clause Hint → List Nominal → Type 0
  CoversAlways ts c ns = (cells : List (Cell Hint)) → AreKnown cells sequent.variables →
      let alt = alternative x (over_cells cells sequent) ts c ns on_left in
      (a : Answer Hint) → Solves x (given alt.equations alt.cells alt.flexible) a → Covers alike sg sequent alt a s B

  -- SOME CHOICE DOES SO: a clause of the atom's predicate, with constants that may be chosen for its names
  pub record HasCover (clauses : List (Clause Hint)) (p : List ℕ) (ts : Terms ℕ Hint) : Type 0 where
    pub clause : Clause Hint
    pub names : List Nominal
    pub listed : Contains clauses clause
    pub predicate : clause.predicate ≡ p
    pub choice : Contains (choices (map (λ z. z.type) clause.names) (in_order (support_of_all ts)) sequent.constants) names
    pub covers : CoversAlways ts clause names

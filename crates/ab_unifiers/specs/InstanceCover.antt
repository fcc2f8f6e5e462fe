-- That case analysis loses nothing: for each instance of the analysed formula under a substitution there is an
-- alternative whose solution is the substitution, up to another one.
use Rattle.std.specs.Prelude.{ℕ, List, [], All, Contains}
use Rattle.ab_term.specs.Types.{Ty}
use Rattle.ab_term.specs.Terms.{Nominal, Term}
use Rattle.ab_term.specs.Typing.{Signature, HasType}
use Rattle.ab_term.specs.Translation.{EqualPastHints}
use Rattle.ab_term.specs.Names.{support}
use Rattle.ab_term.specs.Variables.{Substitution, variables, image, IsTyped}
use Rattle.ab_term.specs.Sameness.{same_number}
use Rattle.ab_unifiers.specs.Unification.{Answer, unified, apart, stuck, Solves}
use Rattle.ab_unifiers.specs.Unifiers.{AreKnown, AreDifferent, given}
use Rattle.ab_unifiers.specs.Clauses.{Clause, Within}
use Rattle.ab_unifiers.specs.Alternatives.{Scope, Alternative, on_left, alternatives}

-- the sequent's variables are different, and each has the number of a cell
pub record IsScope {Hint : Type 0} (sequent : Scope Hint) : Type 0 where
  pub different : AreDifferent sequent.variables
  pub numbered : AreKnown sequent.cells sequent.variables

module _ (sg : Signature) {Hint : Type 0} where
  -- a formula, or another term, over the sequent's variables and constants
  pub record IsOf (sequent : Scope Hint) (t : Term ℕ Hint) (A : Ty) : Type 0 where
    pub typed : HasType sg [] t A
    pub over_variables : Within (variables t) sequent.variables
    pub constants_held : (a : Nominal) → Contains (support t) a → Contains sequent.constants a

module _ {Hint : Type 0} where
  -- no constant of the sequent stands in what is put in
  abbrev pub IsCleanFor : Scope Hint → Substitution ℕ Hint → Type 0
  IsCleanFor sequent s = All (λ p. All (λ a. ¬ (Contains (support p.1) a)) sequent.constants) s

-- WHAT COVER ASKS of an alternative, by the answer to its equations, for a substitution s and a body: that it isn't
-- apart; and where it is unified, that some substitution gives of the alternative's body this one, and of each
-- other formula of the sequent what s makes of it. `alike` is the sameness in which they are compared. Where the
-- answer is stuck the whole step is refused.
module _ {Hint : Type 0} (alike : Term ℕ Hint → Term ℕ Hint → Type 0) where
  abbrev pub Covers : Signature → Scope Hint → Alternative Hint → Answer Hint → Substitution ℕ Hint → Term ℕ Hint → Type 0
  Covers sg sequent alt apart s B = ⊥
  Covers sg sequent alt (stuck i) s B = Unit {0}
  Covers sg sequent alt (unified more q) s B = (r : Substitution ℕ Hint) × IsTyped sg r
      × alike (image same_number r (image same_number q alt.body)) B
      × ((t : Term ℕ Hint) (A : Ty) → IsOf sg sequent t A
      → alike (image same_number r (image same_number q (image same_number alt.raised t))) (image same_number s t))

  -- some alternative of the atom does so
  abbrev pub IsCovered : Signature → Hint → Scope Hint → List (Clause Hint) → Term ℕ Hint → Substitution ℕ Hint → Term ℕ Hint → Type 0
  IsCovered sg x sequent clauses atom s B = (alt : Alternative Hint) × Contains (alternatives x on_left sequent clauses atom) alt
      × ((a : Answer Hint) → Solves x (given alt.equations alt.cells alt.flexible) a → Covers sg sequent alt a s B)

module _ {Hint : Type 0} where
  -- what cover asks of an equation between two sides, all variables of the sequent being flexible
  abbrev pub CoversEquality : Signature → Scope Hint → Answer Hint → Substitution ℕ Hint → Type 0
  CoversEquality sg sequent apart s = ⊥
  CoversEquality sg sequent (stuck i) s = Unit {0}
  CoversEquality sg sequent (unified more q) s = (r : Substitution ℕ Hint) × IsTyped sg r
      × ((t : Term ℕ Hint) (A : Ty) → HasType sg [] t A → Within (variables t) sequent.variables
      → EqualPastHints (image same_number r (image same_number q t)) (image same_number s t))

-- How a goal is split: cases are gone through one after another, while the world grows. Public contracts don't speak of this.
use Rattle.std.specs.Prelude.{◌≡◌, ℕ, List, [], ◌++◌, map, cond, bytes_eq, All}
use Rattle.ab_term.specs.Types.{prop}
use Rattle.ab_term.specs.Typing.{HasType}
use Rattle.ab_term.specs.Terms.{constant, spine}
use Rattle.ab_term.specs.Names.{support_of_all}
use Rattle.ab_norm.specs.Nominals.{HoldsNominal}
use Rattle.ab_unifiers.specs.Clauses.{Clause}
use Rattle.ab_unifiers.specs.Choices.{in_order, choices}
use Rattle.ab_unify.specs.StoreChanges as changed
use Rattle.ab_unify.specs.Problem.{cells_read}
use Rattle.ab_instances.specs.ListReadings.{names_read}
use Rattle.ab_formulas.specs.Declarations.{signature_in}
use Rattle.ab_formulas.specs.Formulas.{IsFormula}
use Rattle.ab_logic.specs.WorldGrowth.{Grows}
use Rattle.ab_formulas.specs.NewNames.{IsNamedFor}
use Rattle.ab_formulas.specs.Sequents.{Sequent, IsSequent, formulas_of, goal_names}
use Rattle.ab_logic.specs.Worlds.{IsWorld, declarations_of}
use Rattle.ab_logic.specs.SequentReadings.{HoldsSequent, sequent_of}
use Rattle.ab_logic.specs.declared.world.World.{World}
use Rattle.ab_logic.specs.declared.sequent.Sequent.{Sequent as Kept}
use Rattle.ab_theory.specs.Splits.{CaseOver, IsUnsplit}
use Rattle.ab_theory.proofs.SplitEquations.{Passes}
use Rattle.ab_theory.specs.Atoms.{Defined}
use Rattle.ab_theory.specs.Analysis.{case_of}
use Rattle.ab_formulas.specs.Members.{SameMembers}
use Rattle.ab_alternatives.specs.AtomReadings.{defined_read, HoldsDefined}
use Rattle.ab_alternatives.specs.declared.atoms.DefinedAtom.{DefinedAtom}
use Rattle.ab_alternatives.specs.declared.constants.Constants.{Constants}

-- the cases by one clause: none if its predicate is another, else one for each choice of constants for its names
abbrev pub clause_cases : Sequent → Sequent → List ℕ → Defined → Clause (List ℕ) → List CaseOver
clause_cases goal rest name d c = cond (bytes_eq c.predicate d.predicate)
    (map (λ ns. case_of goal rest name d (record { clause = c; names = ns })) (choices (map (λ z. z.type) c.names) (in_order (support_of_all d.arguments)) (goal_names goal)))
    []

-- a later world: types, terms and cells were added at most
pub record IsLater (w v : World) : Type 0 where
  pub grown : changed.Grows w.types w.store v.types v.store
  pub additions : v.additions ≡ w.additions
  pub grows : Grows w v
  pub declared : declarations_of v ≡ declarations_of w

-- all that is asked of a world, of the goal and what stays of it, of its atom, and of the constants of both, for cases to be
-- tried
pub record IsReady (w : World) (a : DefinedAtom) (k : Constants) (g r : Kept) : Type 0 where
  pub world : IsWorld w
  pub goal : HoldsSequent w g
  pub sequent : IsSequent (declarations_of w) (sequent_of w g)
  pub rest : HoldsSequent w r
  pub formulas : All (IsFormula (signature_in (declarations_of w))) (formulas_of (sequent_of w r))
  pub same : r.variables ≡ g.variables
  pub atom : HoldsDefined w a
  pub typed : HasType (signature_in (declarations_of w)) [] (spine (constant (defined_read w a).predicate) (defined_read w a).arguments) prop
  pub of_atom : names_read w.types k.of_atom.items ≡ in_order (support_of_all (defined_read w a).arguments)
  pub of_atom_held : All (HoldsNominal w.types) k.of_atom.items
  pub of_goal : SameMembers (names_read w.types k.of_goal.items) (goal_names (sequent_of w g))
  pub of_goal_held : All (HoldsNominal w.types) k.of_goal.items

-- THESE CASES WERE GONE THROUGH: the goals that came of them stand behind those that were there before, and other cases may
-- follow over all variables that there are now
pub record ArePassed (w : World) (before : List Kept) (cs : List CaseOver) (v : World) (now : List Kept) : Type 0 where
  pub goals : List Sequent
  pub listed : map (sequent_of v) now ≡ map (sequent_of w) before ++ goals
  pub passes : Passes (IsNamedFor (declarations_of w)) (cells_read w.types w.store) cs goals (cells_read v.types v.store)
  pub held : All (HoldsSequent v) now

-- THE FIRST OF THEM THAT IS OPEN is so at its equation of this number, whatever cases stand behind them
abbrev pub AreStopped : World → List CaseOver → ℕ → Type 0
AreStopped w cs i = (ds : List CaseOver) → IsUnsplit (IsNamedFor (declarations_of w)) (cells_read w.types w.store) (cs ++ ds) i

-- WHAT THE ANSWER TO A RULE'S EQUATIONS GIVES, where the judgement has an instance by the rule's clause under a substitution.
use Rattle.std.proofs.Common.{◌≡◌, ℕ, List, [], ◌∷◌, ◌++◌, length, true, codes, Option, Some, sym, ◌∙◌, ap, subst}
use Rattle.std.specs.Prelude.{Contains}
use Rattle.ab_term.specs.Types.{o, olist, arrows}
use Rattle.ab_term.specs.Terms.{Nominal, Variable, constant, spine, Terms, Read}
use Rattle.ab_term.specs.Typing.{Signature, HasType}
use Rattle.ab_term.specs.Translation.{forget, EqualPastHints}
use Rattle.ab_term.specs.Variables.{Substitution, value_in, image, IsTyped}
use Rattle.ab_term.specs.Sameness.{same_number}
use Rattle.ab_term.proofs.Depends.{image_nothing}
use Rattle.ab_term.proofs.PastHints.{typed_past_hints, support_past_hints, variables_past_hints}
use Rattle.ab_term.proofs.Standing.{Has}
use Rattle.ab_term.proofs.Stands.{has, has_names, has_variables}
use Rattle.ab_unifiers.specs.Replacements.{Cell, holds}
use Rattle.ab_unifiers.specs.Unification.{Equation, unified, apart, stuck}
use Rattle.ab_unifiers.specs.Unifiers.{AreKnown}
use Rattle.ab_unifiers.specs.Alternatives.{Scope, Alternative, cells_over, made_over, made_terms, arguments_equal}
use Rattle.ab_unifiers.specs.InstanceCover.{IsScope}
use Rattle.ab_unifiers.specs.Prefixes.{arguments_of}
use Rattle.ab_unifiers.proofs.Constants as names
use Rattle.ab_coverage.proofs.IndexedSpecClauses.{SpecClause, clause_image, closed_in, left_open, spread, atom_with, body_with}
use Rattle.ab_coverage.proofs.IndexedInstances.{IsGuess}
use Rattle.ab_coverage.proofs.IndexedCovering.{FullyEqual, IsMetBy}
use Rattle.ab_coverage.proofs.Parts.{IsPart}
use Rattle.ab_coverage.proofs.Cases as one
use Rattle.ab_coverage.proofs.Cases.{full_past_hints, Over, more_over}
use Rattle.ab_coverage.proofs.Covered.{IsRight, arguments_right, atoms_right}
use Rattle.ab_coverage.proofs.Unifier as problem
use Rattle.ab_coverage.proofs.Demands.{x}
use Rattle.ab_coverage.proofs.Guesses.{image_alike}

-- heads are the same past hints
pub same_heads : (S : List Nominal) (V : List (Variable ℕ)) (t u : Read) → EqualPastHints t u → Has (Over S V) u → Has (Over S V) t
same_heads S V t u e h = has (Contains S) (λ y. holds V y ≡ true) t
    (λ a m. has_names (Contains S) (λ y. holds V y ≡ true) u h a (subst (λ l. Contains l a) (support_past_hints t u e) m))
    (λ y m. has_variables (Contains S) (λ y. holds V y ≡ true) u h y (subst (λ l. Contains l y) (variables_past_hints t u e) m))

-- a rule's problem, where no constant is chosen and nothing is raised
abbrev pub problem_for : Scope (List ℕ) → List (Cell (List ℕ)) → List (Variable ℕ) → List (Equation (List ℕ)) → Read → Alternative (List ℕ)
problem_for sequent own made es b = record { chosen = []; fresh = []; raised = []; cells = sequent.cells ++ own; flexible = sequent.variables ++ made; equations = es; body = b }

module _ (sg : Signature) (cons : sg (codes "::") ≡ Some (arrows (o ∷ olist ∷ []) olist)) (sequent : Scope (List ℕ)) (scope : IsScope sequent) (S : List Nominal) (s : Substitution ℕ (List ℕ)) (s_typed : IsTyped sg s)
    (s_holds : (y : Variable ℕ) (t : Read) → value_in same_number s y ≡ Some t → names.Has (λ a. ¬ (Contains S a)) t) (L : Read) (L_typed : HasType sg [] L olist) (L_over : Has (Over S sequent.variables) L)
    (c : SpecClause (List ℕ)) (part : IsPart sg (Over S sequent.variables) [] c) (vs : List (Option Read)) (g : IsGuess sg (closed_in c) c.binders vs) (A b : Read)
    (A_tied : EqualPastHints A (atom_with c (spread (closed_in c) (made_terms x (length sequent.cells) S (left_open (closed_in c) c.binders)))))
    (b_tied : EqualPastHints b (body_with L c (spread (closed_in c) (made_terms x (length sequent.cells) S (left_open (closed_in c) c.binders))))) where
  abbrev U : Substitution ℕ (List ℕ)
  U = one.U sg cons x sequent scope.different scope.numbered S s s_typed s_holds L L_typed L_over c part vs g

  abbrev new : List (Option Read)
  new = spread (closed_in c) (made_terms x (length sequent.cells) S (left_open (closed_in c) c.binders))

  abbrev open_cells : List (Cell (List ℕ))
  open_cells = left_open (closed_in c) c.binders

  abbrev zs : List (Variable ℕ)
  zs = made_over x (length sequent.cells) S open_cells

  abbrev all_cells : List (Cell (List ℕ))
  all_cells = sequent.cells ++ cells_over x S open_cells

  A_typed : HasType sg [] A o
  A_typed = typed_past_hints sg (atom_with c new) A (sym A_tied) (one.atom_typed sg cons x sequent scope.different scope.numbered S s s_typed s_holds L L_typed L_over c part vs g)

  A_over : Has (Over S (sequent.variables ++ zs)) A
  A_over = same_heads S (sequent.variables ++ zs) A (atom_with c new) A_tied (one.atom_over sg cons x sequent scope.different scope.numbered S s s_typed s_holds L L_typed L_over c part vs g)

  A_same : EqualPastHints (image same_number U A) (atom_with (clause_image s c) vs)
  A_same = image_alike U A (atom_with c new) A_tied ∙ one.atoms_same sg cons x sequent scope.different scope.numbered S s s_typed s_holds L L_typed L_over c part vs g

  known : AreKnown all_cells (sequent.variables ++ zs)
  known = problem.known sg x sequent scope.different scope.numbered S open_cells
      (one.us sg cons x sequent scope.different scope.numbered S s s_typed s_holds L L_typed L_over c part vs g)
      (one.us_for sg cons x sequent scope.different scope.numbered S s s_typed s_holds L L_typed L_over c part vs g) s s_typed s_holds

  -- the goal under the unifier
  goal_same : (K : Read) → HasType sg [] K o → Has (Over S sequent.variables) K → EqualPastHints (image same_number U K) (image same_number s K)
  goal_same K d h = one.on_old sg cons x sequent scope.different scope.numbered S s s_typed s_holds L L_typed L_over c part vs g d h

  -- the equation of the two atoms
  pub pair_right : (K : Read) → HasType sg [] K o → Has (Over S sequent.variables) K → EqualPastHints (atom_with (clause_image s c) vs) (image same_number s K) → IsRight sg all_cells S U (record { place = 0; left = A; right = K } ∷ [])
  pair_right K d h e = atoms_right sg x all_cells S (sequent.variables ++ zs) known U A K A_typed A_over d (more_over S sequent.variables zs K h) (A_same ∙ e ∙ sym (goal_same K d h))

  -- those of the arguments
  pub arguments_are_right : (p : List ℕ) (ts us : Terms ℕ (List ℕ)) → A ≡ spine (constant p) us → HasType sg [] (spine (constant p) ts) o → Has (Over S sequent.variables) (spine (constant p) ts)
      → EqualPastHints (atom_with (clause_image s c) vs) (image same_number s (spine (constant p) ts)) → IsRight sg all_cells S U (arguments_equal x 0 ts (arguments_of A))
  arguments_are_right p ts us is d h e =
      arguments_right sg x all_cells S (sequent.variables ++ zs) known U p ts d (more_over S sequent.variables zs (spine (constant p) ts) h) A us is A_typed A_over (goal_same (spine (constant p) ts) d h ∙ sym e ∙ sym A_same)

  -- THE ANSWER
  pub answered : (es : List (Equation (List ℕ))) → IsRight sg all_cells S U es → IsMetBy FullyEqual sg x sequent (problem_for sequent (cells_over x S open_cells) zs es b) s (body_with (image same_number s L) (clause_image s c) vs)
  answered es r apart sol = one.clause_met sg cons x sequent scope.different scope.numbered S s s_typed s_holds L L_typed L_over c part vs g es r.typed r.over r.hold r.unifies apart sol
  answered es r (stuck i) sol = tt
  answered es r (unified more q) sol =
      let k = one.clause_met sg cons x sequent scope.different scope.numbered S s s_typed s_holds L L_typed L_over c part vs g es r.typed r.over r.hold r.unifies (unified more q) sol in (
        k.0,
        k.1,
        full_past_hints (image same_number k.0 (image same_number q b)) (image same_number k.0 (image same_number q (body_with L c new)))
            (image_alike k.0 (image same_number q b) (image same_number q (body_with L c new)) (image_alike q b (body_with L c new) b_tied)) ∙ k.2,
        (λ t B is. ap (λ u. forget (image same_number k.0 (image same_number q u))) (image_nothing t) ∙ k.3 t B is.typed is.over_variables),
      )

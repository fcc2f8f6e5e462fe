-- The alternatives of a judgement: each says what must be equal for the judgement to be an instance.
use Rattle.std.specs.Prelude.{ℕ, List, [], ◌∷◌, ◌++◌, map, length, Bool, true, false, cond, not, Option, Some, None, bytes_eq}
use Rattle.std.specs.List.{list_any}
use Rattle.ab_term.specs.Logical.{judgement, focused_judgement}
use Rattle.ab_term.specs.Terms.{Nominal, Variable, constant, logical, Term, spine, no_terms, term}
use Rattle.ab_term.specs.Names.{support}
use Rattle.ab_unifiers.specs.Replacements.{Cell}
use Rattle.ab_unifiers.specs.Unification.{Equation}
use Rattle.ab_unifiers.specs.Choices.{in_order, for_each}
use Rattle.ab_unifiers.specs.Alternatives.{Scope, Alternative, Side, on_left, on_right, cells_over, made_over, made_terms, arguments_equal}
use Rattle.ab_unifiers.specs.Prefixes.{predicate_of, arguments_of}
use Rattle.ab_coverage.proofs.IndexedGoals.{GoalForm, compound, atomic, flexible, judged, focused, is_nil, goal_form, open_goal}
use Rattle.ab_coverage.proofs.IndexedSpecClauses.{SpecClause, taken_apart, closed_in, left_open, atom_with, body_with, spread}
use Rattle.ab_coverage.proofs.IndexedInstances.{from_context}

abbrev pub is_flexible : GoalForm → Bool
is_flexible flexible = true
is_flexible _ = false

abbrev pub is_atomic : GoalForm → Bool
is_atomic atomic = true
is_atomic _ = false

-- `x` is the hint of binders that no text wrote, `f` that of `exists F, {L, [F] |- A} /\ member F L`
module _ {Hint : Type 0} (x f : Hint) (side : Side) (sequent : Scope Hint) where
  -- on the right the sequent's variables may not be replaced
  abbrev pub old_variables : Side → List (Variable ℕ)
  old_variables on_left = sequent.variables
  old_variables on_right = []

  -- no constant is chosen and nothing is raised
  abbrev pub alternative_of : List (Cell Hint) → List (Variable ℕ) → List (Equation Hint) → Term ℕ Hint → Alternative Hint
  alternative_of more made equations body = record {
    chosen = [];
    fresh = [];
    raised = [];
    cells = sequent.cells ++ more;
    flexible = old_variables side ++ made;
    equations = equations;
    body = body;
  }

  -- ONE ALTERNATIVE BY A CLAUSE: its variables become new ones over the judgement's constants
  module _ (S : List Nominal) (L : Term ℕ Hint) (c : SpecClause Hint) where
    abbrev pub open_binders : List (Cell Hint)
    open_binders = left_open (closed_in c) c.binders

    abbrev pub new_terms : List (Option (Term ℕ Hint))
    new_terms = spread (closed_in c) (made_terms x (length sequent.cells) S open_binders)

    abbrev pub by_clause : List (Equation Hint) → Alternative Hint
    by_clause equations = alternative_of (cells_over x S open_binders) (made_over x (length sequent.cells) S open_binders) equations (body_with L c new_terms)

    -- of the program: the heads' arguments, where the heads are one constant
    abbrev pub program_alternatives : Term ℕ Hint → List (Alternative Hint)
    program_alternatives (spine (constant p) ts) = cond (bytes_eq (predicate_of c.atom) p) (by_clause (arguments_equal x 0 ts (arguments_of (atom_with c new_terms))) ∷ []) []
    program_alternatives _ = []

    -- of a focused formula: the two atoms
    abbrev pub focused_alternative : Term ℕ Hint → Alternative Hint
    focused_alternative A = by_clause (record { place = 0; left = atom_with c new_terms; right = A } ∷ [])

  -- the alternative without equations
  abbrev pub plain_alternative : Term ℕ Hint → Alternative Hint
  plain_alternative body = alternative_of [] [] [] body

  -- those of `{L |- G}`; `None` where G may still become anything
  abbrev pub unfocused_alternatives : List (SpecClause Hint) → Term ℕ Hint → Term ℕ Hint → GoalForm → Option (List (Alternative Hint))
  unfocused_alternatives program L G compound = Some (plain_alternative (open_goal L G) ∷ [])
  unfocused_alternatives program L G atomic = Some (for_each (λ c. program_alternatives (in_order (support (judged L G))) L c G) program ++ cond (is_nil L) [] (plain_alternative (from_context f L G) ∷ []))
  unfocused_alternatives program L G flexible = None

  -- those of `{L, [F] |- A}`; `None` where A, or an atom of F, may still become anything
  abbrev pub focused_alternatives : Term ℕ Hint → Term ℕ Hint → Term ℕ Hint → Option (List (Alternative Hint))
  focused_alternatives L F A = cond (is_flexible (goal_form A)) None (cond (list_any (λ c. not (is_atomic (goal_form c.atom))) (taken_apart F)) None
      (Some (map (λ c. focused_alternative (in_order (support (focused L F A))) L c A) (taken_apart F))))

  -- THE ALTERNATIVES of a judgement
  abbrev pub judgement_alternatives : List (SpecClause Hint) → Term ℕ Hint → Option (List (Alternative Hint))
  judgement_alternatives program (spine (logical judgement) (term L (term G no_terms))) = unfocused_alternatives program L G (goal_form G)
  judgement_alternatives program (spine (logical focused_judgement) (term L (term F (term A no_terms)))) = focused_alternatives L F A
  judgement_alternatives program _ = None

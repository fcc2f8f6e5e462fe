-- Clauses of the specification logic, and focused formulas taken apart into such.
use Rattle.std.specs.Prelude.{ℕ, zero, List, [], ◌∷◌, ◌++◌, map, length, Bool, true, false, ◌&&◌, not, Option, Some, None}
use Rattle.std.specs.List.{list_any}
use Rattle.ab_term.specs.Types.{Ty}
use Rattle.ab_term.specs.Logical.{spec_universal, spec_implication, spec_conjunction}
use Rattle.ab_term.specs.Terms.{logical, Term, lam, spine, no_terms, term}
use Rattle.ab_term.specs.Substitution.{substitute}
use Rattle.ab_term.specs.Reach.{raise}
use Rattle.ab_term.specs.Variables.{Substitution, image}
use Rattle.ab_term.specs.Sameness.{same_number}
use Rattle.ab_unifiers.specs.Replacements.{Cell}
use Rattle.ab_coverage.proofs.IndexedGoals.{true_formula, both, for_some, open_goal, stands, lower}

-- `pi binders, goals => atom`: goals and atom stand under all the binders, of which the first is the outermost.
pub record SpecClause (Hint : Type 0) : Type 0 where
  pub binders : List (Cell Hint)
  pub goals : List (Term ℕ Hint)
  pub atom : Term ℕ Hint

module _ {Hint : Type 0} where
  -- one binder more, around it
  abbrev pub under_binder : Hint → Ty → SpecClause Hint → SpecClause Hint
  under_binder x A c = record { binders = record { hint = x; type = A } ∷ c.binders; goals = c.goals; atom = c.atom }

  -- one goal more, in front, from outside its binders
  abbrev pub with_goal : Term ℕ Hint → SpecClause Hint → SpecClause Hint
  with_goal G c = record { binders = c.binders; goals = raise (length c.binders) zero G ∷ c.goals; atom = c.atom }

  -- A FORMULA TAKEN APART: a clause for each way down to an atom, in order
  abbrev pub taken_apart : Term ℕ Hint → List (SpecClause Hint)
  taken_apart (spine (logical (spec_universal A)) (term (lam B x F) no_terms)) = map (under_binder x A) (taken_apart F)
  taken_apart (spine (logical spec_implication) (term G (term F no_terms))) = map (with_goal G) (taken_apart F)
  taken_apart (spine (logical spec_conjunction) (term F (term G no_terms))) = taken_apart F ++ taken_apart G
  taken_apart B = record { binders = []; goals = []; atom = B } ∷ []

  -- what a substitution makes of a clause
  abbrev pub clause_image : Substitution ℕ Hint → SpecClause Hint → SpecClause Hint
  clause_image s c = record { binders = c.binders; goals = map (image same_number s) c.goals; atom = image same_number s c.atom }

  -- for each binder whether its name stands in the goals and not in the atom
  abbrev pub in_goals_only : List (Cell Hint) → List (Term ℕ Hint) → Term ℕ Hint → List Bool
  in_goals_only [] goals atom = []
  in_goals_only (b ∷ bs) goals atom = (list_any (stands (length bs)) goals && not (stands (length bs) atom)) ∷ in_goals_only bs goals atom

  abbrev pub closed_in : SpecClause Hint → List Bool
  closed_in c = in_goals_only c.binders c.goals c.atom

  -- the others become variables
  abbrev pub left_open : List Bool → List (Cell Hint) → List (Cell Hint)
  left_open (false ∷ fs) (b ∷ bs) = b ∷ left_open fs bs
  left_open (true ∷ fs) (b ∷ bs) = left_open fs bs
  left_open _ _ = []

  -- A term is put for a binder's name, or the binder is dealt with by `close`; the innermost first.
  abbrev pub put_or : (Cell Hint → Term ℕ Hint → Term ℕ Hint) → Cell Hint → Option (Term ℕ Hint) → Term ℕ Hint → Term ℕ Hint
  put_or close b (Some u) t = substitute b.type u zero t
  put_or close b None t = close b t

  abbrev pub filled_in : (Cell Hint → Term ℕ Hint → Term ℕ Hint) → List (Cell Hint) → List (Option (Term ℕ Hint)) → Term ℕ Hint → Term ℕ Hint
  filled_in close (b ∷ bs) (v ∷ vs) t = put_or close b v (filled_in close bs vs t)
  filled_in close _ _ t = t

  -- the conjunction in order, grouped to the left; that of nothing is `true`
  abbrev pub and_also : Term ℕ Hint → List (Term ℕ Hint) → Term ℕ Hint
  and_also F [] = F
  and_also F (G ∷ Gs) = and_also (both F G) Gs

  abbrev pub conjoined : List (Term ℕ Hint) → Term ℕ Hint
  conjoined [] = true_formula
  conjoined (F ∷ Fs) = and_also F Fs

  -- THE ATOM AND THE BODY of a clause, with these terms for its variables, asked from the list L. Goals are opened
  -- before the terms are put in. A name without a term stands in no atom, and is closed by `exists` in the body.
  abbrev pub atom_with : SpecClause Hint → List (Option (Term ℕ Hint)) → Term ℕ Hint
  atom_with c vs = filled_in (λ b t. lower zero t) c.binders vs c.atom

  abbrev pub body_with : Term ℕ Hint → SpecClause Hint → List (Option (Term ℕ Hint)) → Term ℕ Hint
  body_with L c vs = filled_in (λ b t. for_some b.type b.hint t) c.binders vs (conjoined (map (open_goal (raise (length c.binders) zero L)) c.goals))

  -- for each binder that isn't closed a term, in order
  abbrev pub spread : List Bool → List (Term ℕ Hint) → List (Option (Term ℕ Hint))
  spread [] us = []
  spread (true ∷ fs) us = None ∷ spread fs us
  spread (false ∷ fs) [] = None ∷ spread fs []
  spread (false ∷ fs) (u ∷ us) = Some u ∷ spread fs us

  -- what the binders add to a context
  abbrev pub context_of : List (Cell Hint) → List Ty → List Ty
  context_of [] G = G
  context_of (b ∷ bs) G = context_of bs (b.type ∷ G)

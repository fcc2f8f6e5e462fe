-- A FOCUSED FORMULA IS TAKEN APART: under its `pi`s and behind its `=>`s stand atoms, one for each way through its `&`s.
use Rattle.std.specs.Prelude.{ℕ, zero, List, [], ◌∷◌, ◌++◌, map, length}
use Rattle.ab_term.specs.Logical.{spec_universal, spec_implication, spec_conjunction}
use Rattle.ab_term.specs.Terms.{logical, lam, spine, no_terms, term, Read}
use Rattle.ab_term.specs.Substitution.{instance_by_all}
use Rattle.ab_term.specs.Reach.{raise}
use Rattle.ab_unifiers.specs.Replacements.{Cell}

-- the names of the `pi`s, the outermost first; and under them the goals, in order, and the atom
pub record Part : Type 0 where
  pub names : List (Cell (List ℕ))
  pub goals : List Read
  pub atom : Read

abbrev pub under_name : Cell (List ℕ) → Part → Part
under_name c p = record { names = c ∷ p.names; goals = p.goals; atom = p.atom }

-- a goal that stands outside the part's own names
abbrev pub with_goal : Read → Part → Part
with_goal G p = record { names = p.names; goals = raise (length p.names) zero G ∷ p.goals; atom = p.atom }

-- THE PARTS, in order
abbrev pub parts_of : Read → List Part
parts_of (spine (logical (spec_universal A)) (term (lam B x F) no_terms)) = map (under_name (record { hint = x; type = A })) (parts_of F)
parts_of (spine (logical spec_implication) (term G (term F no_terms))) = map (with_goal G) (parts_of F)
parts_of (spine (logical spec_conjunction) (term F (term G no_terms))) = parts_of F ++ parts_of G
parts_of A = record { names = []; goals = []; atom = A } ∷ []

-- what stands under the names, with these terms for them
abbrev pub under_all : List (Cell (List ℕ)) → Read → Read
under_all [] t = t
under_all (c ∷ cs) t = lam c.type c.hint (under_all cs t)

abbrev pub put_under : List (Cell (List ℕ)) → List Read → Read → Read
put_under cs us t = instance_by_all (under_all cs t) us

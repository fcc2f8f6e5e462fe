-- THE NAMES OF A PART that a body closes by `exists`, and bodies from which some of these are taken off: those that the body of an
-- instance closes, and that of the part before a substitution doesn't, since the name stood in the part's atom then.
use Rattle.std.specs.Prelude.{ℕ, zero, List, [], ◌∷◌, map, Bool, true, false, codes, Option, Some, None}
use Rattle.ab_term.specs.Logical.{existential}
use Rattle.ab_term.specs.Terms.{logical, Term, lam, spine, no_terms, term}
use Rattle.ab_term.specs.Typing.{Signature, HasType}
use Rattle.ab_term.specs.Substitution.{substitute}
use Rattle.ab_term.specs.Variables.{Substitution, image}
use Rattle.ab_term.specs.Sameness.{same_number}
use Rattle.ab_unifiers.specs.Replacements.{Cell}
use Rattle.ab_unifiers.specs.Prefixes.{own_terms}
use Rattle.ab_formulas.specs.Sequents.{in_terms}
use Rattle.ab_theory.specs.Equations.{variables_from}
use Rattle.ab_theory.specs.Parts.{Part, put_under}
use Rattle.ab_theory.specs.SpecRules.{stands_in_goals_alone}

-- For each name of the part, the outermost first, whether it stands in goals alone, so that a body closes it. The names are
-- variables numbered from n on, above those of the part.
abbrev pub closes : ℕ → Part → List Bool
closes n p =
    let us = own_terms (codes "x") (map in_terms (variables_from n p.names)) in
    map (stands_in_goals_alone (put_under p.names us p.atom) (map (put_under p.names us) p.goals)) (variables_from n p.names)

-- the part under a substitution
abbrev pub part_under : Substitution ℕ (List ℕ) → Part → Part
part_under q p = record { names = p.names; goals = map (image same_number q) p.goals; atom = image same_number q p.atom }

-- a term of its type for each name that is closed after and not before, and none for the others
abbrev pub IsTaken : Signature → {Hint : Type 0} → List Bool → List Bool → List (Cell Hint) → List (Option (Term ℕ Hint)) → Type 0
IsTaken sg [] [] [] [] = Unit {0}
IsTaken sg (true ∷ ds) (e ∷ es) (b ∷ bs) (None ∷ ks) = IsTaken sg ds es bs ks
IsTaken sg (false ∷ ds) (false ∷ es) (b ∷ bs) (None ∷ ks) = IsTaken sg ds es bs ks
IsTaken sg (false ∷ ds) (true ∷ es) (b ∷ bs) (Some k ∷ ks) = HasType sg [] k b.type × IsTaken sg ds es bs ks
IsTaken sg _ _ _ _ = ⊥

-- THE BODY WITH SOME NAMES TAKEN OFF: it begins with an `exists` for each name that it closes; where there is a term, it is put in
abbrev pub taken_off : {Hint : Type 0} → List Bool → List (Option (Term ℕ Hint)) → Term ℕ Hint → Term ℕ Hint
taken_off (false ∷ es) (k ∷ ks) B = taken_off es ks B
taken_off (true ∷ es) (None ∷ ks) (spine (logical (existential A)) (term (lam C x F) no_terms)) = spine (logical (existential A)) (term (lam C x (taken_off es ks F)) no_terms)
taken_off (true ∷ es) (Some k ∷ ks) (spine (logical (existential A)) (term (lam C x F) no_terms)) = substitute A k zero (taken_off es ks F)
taken_off _ _ B = B

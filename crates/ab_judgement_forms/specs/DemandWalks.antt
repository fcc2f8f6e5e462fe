-- How a rule's demand is put together on shared terms: names of a clause give way to terms all at once, under the binders of those
-- that are closed. Public contracts don't speak of it.
use Rattle.std.specs.Prelude.{ℕ, zero, suc, List, [], ◌∷◌, map, Bool, true, false, codes}
use Rattle.ab_term.specs.Logical.{existential}
use Rattle.ab_term.specs.Terms.{logical, variable, index, lam, spine, no_terms, term, Read}
use Rattle.ab_term.specs.Expansion.{expansion}
use Rattle.ab_term.specs.Substitution.{instance_by_all}
use Rattle.ab_term.specs.Abstraction.{close}
use Rattle.ab_unifiers.specs.Replacements.{Cell}
use Rattle.ab_formulas.specs.Marks.{Sign}
use Rattle.ab_formulas.specs.Sequents.{Variable, in_terms}
use Rattle.ab_theory.specs.Opening.{open_goal, conjunction_of}

-- the term under a binder for each variable, the first outermost
abbrev pub under_variables : List Variable → Read → Read
under_variables [] t = t
under_variables (y ∷ ys) t = lam y.type y.name (close zero (variable (in_terms y)) (under_variables ys t))

-- the formula under `exists` for each cell, the first outermost, whose names stand in it as bound names
abbrev pub exists_names : List (Cell (List ℕ)) → Read → Read
exists_names [] F = F
exists_names (c ∷ cs) F = spine (logical (existential c.type)) (term (lam c.type c.hint (exists_names cs F)) no_terms)

-- how many there are of these
abbrev pub trues : List Bool → ℕ
trues [] = zero
trues (true ∷ bs) = suc (trues bs)
trues (false ∷ bs) = trues bs

-- those of the list at whose places it is true
abbrev pub chosen : {X : Type 0} → List Bool → List X → List X
chosen [] xs = []
chosen (b ∷ bs) [] = []
chosen (true ∷ bs) (x ∷ xs) = x ∷ chosen bs xs
chosen (false ∷ bs) (x ∷ xs) = chosen bs xs

-- what takes the places of the cells: of those that are closed the names that `exists` binds, of the others these terms
abbrev pub stand_ins : List Bool → List (Cell (List ℕ)) → List Read → List Read
stand_ins [] cs ts = []
stand_ins (b ∷ bs) [] ts = []
stand_ins (true ∷ bs) (c ∷ cs) ts = expansion (codes "x") c.type (index (trues bs)) ∷ stand_ins bs cs ts
stand_ins (false ∷ bs) (c ∷ cs) [] = []
stand_ins (false ∷ bs) (c ∷ cs) (t ∷ ts) = t ∷ stand_ins bs cs ts

-- goals that stand under binders for all cells, with what takes their places, opened, and closed by `exists`
abbrev pub body_with : Sign → Read → List Bool → List (Cell (List ℕ)) → List Read → List Read → Read
body_with m L bs cs ts scopes = exists_names (chosen bs cs) (conjunction_of (map (λ s. open_goal m L (instance_by_all s (stand_ins bs cs ts))) scopes))

-- WHY NAMES HAVE TO STAY: a goal that a search doesn't find to depth 1, though a derivation by guesses of that depth is there.
use Rattle.std.specs.Prelude.{ℕ, [], ◌∷◌, codes}
use Rattle.ab_term.specs.Types.{arrow}
use Rattle.ab_term.specs.Logical.{existential, implication, focused_judgement, spec_universal, spec_implication}
use Rattle.ab_term.specs.Terms.{constant, logical, index, lam, spine, terms_of, Read}
use Rattle.ab_formulas.specs.Declarations.{Declarations, a_constant}
use Rattle.ab_search_trees.specs.Examples.{i, bound, const_of, of_nothing}

abbrev pub one_constant : Declarations
one_constant = a_constant (codes "c") i ∷ []

abbrev pub p_of : Read → Read → Read
p_of t u = spine (constant (codes "p")) (terms_of (t ∷ u ∷ []))

-- `exists y, {p y c}`
abbrev pub given : Read
given = spine (logical (existential i)) (terms_of (lam i (codes "y") (of_nothing (p_of (bound 0) (const_of (codes "c")))) ∷ []))

-- `pi y\ pi z\ p y (X z) => a`, where X is the name at k outside of it
abbrev pub in_focus : ℕ → Read
in_focus k =
    spine (logical (spec_universal i)) (terms_of (lam i (codes "y")
    (spine (logical (spec_universal i)) (terms_of (lam i (codes "z")
    (spine (logical spec_implication) (terms_of (p_of (bound 1) (spine (index k) (terms_of (bound 0 ∷ []))) ∷ const_of (codes "a") ∷ []))) ∷ []))) ∷ []))

-- `(exists y, {p y c}) -> exists X, {nil, [pi y\ pi z\ p y (X z) => a] |- a}`. With a term for X that leaves z out, only y is closed by
-- `exists`, and the hypothesis serves; but a search closes z too.
abbrev pub name_leaves : Read
name_leaves =
    spine (logical implication) (terms_of (given
    ∷ spine (logical (existential (arrow i i))) (terms_of (lam (arrow i i) (codes "X")
    (spine (logical focused_judgement) (terms_of (const_of (codes "nil") ∷ in_focus 2 ∷ const_of (codes "a") ∷ []))) ∷ []))
    ∷ []))

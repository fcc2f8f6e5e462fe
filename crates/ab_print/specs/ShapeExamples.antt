-- A few terms over one kind, for worked instances of what is printed. Variables are names.
use Rattle.std.specs.Prelude.{ℕ, List, codes}
use Rattle.ab_term.specs.Types.{Ty, kind}
use Rattle.ab_term.specs.Logical.{conjunction, implication, equality, universal, existential, judgement, focused_judgement}
use Rattle.ab_term.specs.Terms.{Head, constant, logical, nominal, variable, Term, lam, spine, no_terms, term}
use Rattle.ab_print.specs.ShapeText.{bytes}
use Rattle.ab_print.specs.NameAssignment.{printed}

abbrev pub i : Ty
i = kind (codes "i")

abbrev pub Written : Type 0
Written = Term (List ℕ) (List ℕ)

-- what is printed of a term, where variables are their names
abbrev pub shown : Written → List ℕ
shown t = bytes (printed (λ x. x) t)

-- a head alone, and given one argument and two
abbrev pub alone : Head (List ℕ) → Written
alone h = spine h no_terms

abbrev pub of : Head (List ℕ) → Written → Written
of h t = spine h (term t no_terms)

abbrev pub of_two : Head (List ℕ) → Written → Written → Written
of_two h t u = spine h (term t (term u no_terms))

abbrev pub known : List ℕ → Head (List ℕ)
known c = constant c

abbrev pub unknown : List ℕ → Head (List ℕ)
unknown x = variable (record { name = x; type = i })

abbrev pub nominal_of : ℕ → Head (List ℕ)
nominal_of n = nominal (record { number = n; type = i })

abbrev pub under : List ℕ → Written → Written
under x t = lam i x t

abbrev pub all : List ℕ → Written → Written
all x t = of (logical (universal i)) (under x t)

abbrev pub some : List ℕ → Written → Written
some x t = of (logical (existential i)) (under x t)

abbrev pub implies : Written → Written → Written
implies = of_two (logical implication)

abbrev pub and : Written → Written → Written
and = of_two (logical conjunction)

abbrev pub equal : Written → Written → Written
equal = of_two (logical (equality i))

abbrev pub p : Written → Written
p = of (known (codes "p"))

-- lists of formulas of the specification logic, and judgements
abbrev pub nil : Written
nil = alone (known (codes "nil"))

abbrev pub cons : Written → Written → Written
cons = of_two (known (codes "::"))

abbrev pub holds : Written → Written → Written
holds = of_two (logical judgement)

abbrev pub holds_by : Written → Written → Written → Written
holds_by l f g = spine (logical focused_judgement) (term l (term f (term g no_terms)))

-- A few goals over one kind, for worked instances of what is printed. Variables are numbers; each has a name.
use Rattle.std.specs.Prelude.{ℕ, ◌==◌, List, [], ◌∷◌, codes, map, if◌then◌else◌}
use Rattle.ab_term.specs.Types.{Ty, kind}
use Rattle.ab_term.specs.Logical.{implication, equality, universal, star, at_sign}
use Rattle.ab_term.specs.Terms.{Head, constant, logical, nominal, variable, index, lam, spine, terms_of, Read}
use Rattle.ab_formulas.specs.Sequents.{Sequent, Hypothesis}

abbrev pub i : Ty
i = kind (codes "nat")

abbrev pub all_names : ℕ → List ℕ
all_names n = if n == 0 then (codes "N") else (if n == 1 then (codes "E") else (if n == 2 then (codes "T1") else (if n == 3 then (codes "T2") else (if n == 4 then (codes "T") else (codes "L1")))))

-- a head with arguments, and what stands alone
abbrev pub given : Head ℕ → List Read → Read
given h ts = spine h (terms_of ts)

abbrev pub known : List ℕ → List Read → Read
known c ts = given (constant c) ts

abbrev pub unknown : ℕ → List Read → Read
unknown n ts = given (variable (record { name = n; type = i })) ts

abbrev pub local : ℕ → Read
local k = given (index k) []

abbrev pub fresh_one : Read
fresh_one = given (nominal (record { number = 1; type = i })) []

abbrev pub implies : Read → Read → Read
implies t u = given (logical implication) (t ∷ u ∷ [])

abbrev pub equal : Read → Read → Read
equal t u = given (logical (equality i)) (t ∷ u ∷ [])

abbrev pub all : List ℕ → Read → Read
all x t = given (logical (universal i)) (lam i x t ∷ [])

-- with the sign `*`, and with the sign `@`, of the first level
abbrev pub smaller : Read → Read
smaller t = given (logical (star 1)) (t ∷ [])

abbrev pub same_size : Read → Read
same_size t = given (logical (at_sign 1)) (t ∷ [])

abbrev pub nat : Read → Read
nat t = known (codes "nat") (t ∷ [])

abbrev pub plus : Read → Read → Read → Read
plus t u v = known (codes "plus") (t ∷ u ∷ v ∷ [])

abbrev pub zero_term : Read
zero_term = known (codes "z") []

abbrev pub with_name : List ℕ → Read → Hypothesis
with_name x t = record { name = x; formula = t }

abbrev pub goal_of : List ℕ → List Hypothesis → Read → Sequent
goal_of ns hs t = record { variables = map (λ n. record { number = n; type = i; name = all_names n }) ns; hypotheses = hs; conclusion = t; counter = 0 }

-- the induction hypothesis of a proof that `z` is a right zero of `plus`
abbrev pub right_zero : Read → Read
right_zero n = plus n zero_term n

abbrev pub by_induction : Hypothesis
by_induction = with_name (codes "IH") (all (codes "N") (implies (smaller (nat (local 0))) (right_zero (local 0))))

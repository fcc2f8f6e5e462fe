-- Nominal constants of a goal change places: of some numbers each becomes the next, and the last the first.
use Rattle.std.specs.Prelude.{◌≡◌, ℕ, List}
use Rattle.ab_term.specs.Terms.{Nominal}
use Rattle.ab_formulas.specs.Sequents.{Sequent, goal_names}
use Rattle.ab_formulas.specs.Cycles.{MayCycle, type_among, cycle}
use Rattle.ab_meaning.specs.Refusals.{Refusal, type_clash, wrong_shape}
use Rattle.ab_effects.specs.Row.{Row, finds, makes}

-- the numbers are to be different, and of one type where they stand in the goal; else the command clashes at its beginning
abbrev pub of_one_type : List ℕ → Sequent → Row → Row
of_one_type ns s k = makes {A = Unit {0}} (λ u. MayCycle ns (goal_names s)) (λ f. (¬ MayCycle ns (goal_names s)) × (f ≡ type_clash 0)) (λ u. k)

-- one of the numbers is to stand in the goal, and the others take its type: the permutation is given on
abbrev pub cycling : List ℕ → Sequent → (List (Nominal × Nominal) → Row) → Row
cycling ns s k = finds wrong_shape (type_among ns (goal_names s)) (λ A. k (cycle A ns))

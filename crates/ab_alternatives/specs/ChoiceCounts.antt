-- The choices of a defined atom, clause by clause. Public contracts don't speak of this.
use Rattle.std.specs.Prelude.{◌≡◌, ◌+◌, ℕ, List, [], map, filter, length, bytes_eq, cond, slice_get, Option, Some, None, All}
use Rattle.ab_term.specs.Terms.{Nominal}
use Rattle.ab_term.specs.Names.{support_of_all}
use Rattle.ab_norm.specs.Nominals.{HoldsNominal}
use Rattle.ab_unifiers.specs.Clauses.{Clause}
use Rattle.ab_unifiers.specs.Choices.{in_order, choices, for_each}
use Rattle.ab_typing.specs.declared.definitions.ClauseTerm.{ClauseTerm}
use Rattle.ab_logic.specs.declared.world.World.{World}
use Rattle.ab_theory.specs.Atoms.{Defined, Choice}
use Rattle.ab_alternatives.specs.AtomReadings.{choice_read}
use Rattle.ab_alternatives.specs.declared.choice_counts.Place.{Place}
use Rattle.ab_alternatives.specs.declared.choice_counts.Place.TheVariants.{Within, Behind}

-- the lists, where there are any
abbrev pub all_of : {A : Type 0} → Option (List A) → List A
all_of None = []
all_of (Some xs) = xs

-- the choices with the clause, in a goal that holds these constants
abbrev pub choices_with : List Nominal → Defined → Clause (List ℕ) → List Choice
choices_with held d c = map (λ ns. record { clause = c; names = ns }) (choices (map (λ z. z.type) c.names) (in_order (support_of_all d.arguments)) held)

-- the same, where it is one of the atom's predicate
abbrev pub choices_by : List Nominal → Defined → Clause (List ℕ) → List Choice
choices_by held d c = cond (bytes_eq c.predicate d.predicate) (choices_with held d c) []

-- those with the clauses, in order
abbrev pub choices_among : List Nominal → Defined → List (Clause (List ℕ)) → List Choice
choices_among held d cs = for_each (choices_with held d) (filter (λ c. bytes_eq c.predicate d.predicate) cs)

-- the place is one of these choices by the clause, or lies behind them
abbrev pub LiesIn : World → ClauseTerm → List Choice → ℕ → Place → Type 0
LiesIn w c cs place (Within ns) = (slice_get cs place ≡ Some (choice_read w c ns.items)) × All (HoldsNominal w.types) ns.items
LiesIn w c cs place (Behind left) = length cs + left ≡ place

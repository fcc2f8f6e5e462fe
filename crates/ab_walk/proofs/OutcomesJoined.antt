-- The outcome of leaves, and then of others.
use Rattle.std.proofs.Common.{◌≡◌, ℕ, List, [], ◌∷◌, ◌++◌, Option, Some, None, is_some, true, false, refl, ◌∙◌, ap}
use Rattle.ab_search_trees.specs.Tree.{Leaf, found, stuck_at, blind}
use Rattle.ab_search_trees.specs.Outcomes.{Outcome, closed, not_pattern, not_found, outcome_behind, outcome_of}
use Rattle.ab_walk.specs.Told.{outcome_without}

-- the first, and then the second
abbrev pub joined : Outcome → Outcome → Outcome
joined closed o = closed
joined (not_pattern i) closed = closed
joined (not_pattern i) (not_pattern j) = not_pattern i
joined (not_pattern i) not_found = not_pattern i
joined not_found o = o

behind_joined : (l : Leaf) (a b : Outcome) → outcome_behind l (joined a b) ≡ joined (outcome_behind l a) b
behind_joined (found now) a b = refl
behind_joined blind a b = refl
behind_joined (stuck_at i) closed b = refl
behind_joined (stuck_at i) (not_pattern j) closed = refl
behind_joined (stuck_at i) (not_pattern j) (not_pattern k) = refl
behind_joined (stuck_at i) (not_pattern j) not_found = refl
behind_joined (stuck_at i) not_found closed = refl
behind_joined (stuck_at i) not_found (not_pattern k) = refl
behind_joined (stuck_at i) not_found not_found = refl

pub outcome_both : (ls ms : List Leaf) → outcome_of (ls ++ ms) ≡ joined (outcome_of ls) (outcome_of ms)
outcome_both [] ms = refl
outcome_both (l ∷ ls) ms = ap (outcome_behind l) (outcome_both ls ms) ∙ behind_joined l (outcome_of ls) (outcome_of ms)

-- the first number stays
abbrev pub first_of : Option ℕ → ℕ → Option ℕ
first_of None i = Some i
first_of (Some j) i = Some j

pub stuck_noted : (o : Option ℕ) (i : ℕ) → joined (outcome_without o) (not_pattern i) ≡ outcome_without (first_of o i)
stuck_noted None i = refl
stuck_noted (Some j) i = refl

pub nothing_noted : (o : Outcome) → joined o not_found ≡ o
nothing_noted closed = refl
nothing_noted (not_pattern i) = refl
nothing_noted not_found = refl

pub first_none : (o : Option ℕ) (i : ℕ) → is_some o ≡ false → first_of o i ≡ Some i
first_none None i e = refl
first_none (Some j) i e = absurd (cc)

pub first_some : (o : Option ℕ) (i : ℕ) → is_some o ≡ true → first_of o i ≡ o
first_some None i e = absurd (cc)
first_some (Some j) i e = refl

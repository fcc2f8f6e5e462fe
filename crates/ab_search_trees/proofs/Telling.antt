-- WHAT AN OUTCOME TELLS of the leaves.
use Rattle.std.proofs.Common.{◌≡◌, ◌≢◌, inl, inr, ℕ, List, [], ◌∷◌, refl, sym, ap, subst}
use Rattle.std.specs.Prelude.{Contains}
use Rattle.ab_term.proofs.Lists.{Contains-none, Contains-here, Contains-there, Contains-cases}
use Rattle.ab_search_trees.specs.Goals.{Now}
use Rattle.ab_search_trees.specs.Tree.{Leaf, found, stuck_at, blind}
use Rattle.ab_search_trees.specs.Outcomes.{Outcome, closed, not_pattern, not_found, outcome_behind, outcome_of}

never_not_found : (i : ℕ) (o : Outcome) → outcome_behind (stuck_at i) o ≢ not_found
never_not_found i closed e = absurd (cc)
never_not_found i (not_pattern j) e = absurd (cc)
never_not_found i not_found e = absurd (cc)

-- nothing is found where the leaves are those at which the search is blind
pub not_found_blind : (ls : List Leaf) → outcome_of ls ≡ not_found → (l : Leaf) → Contains ls l → l ≡ blind
not_found_blind [] e l m = absurd (Contains-none l m)
not_found_blind (found now ∷ ls) e l m = absurd (cc)
not_found_blind (stuck_at i ∷ ls) e l m = absurd (never_not_found i (outcome_of ls) e)
not_found_blind (blind ∷ ls) e l m = elim (Contains-cases blind ls l m) [ inl f ↦ sym f | inr n ↦ not_found_blind ls e l n ]

pub none_left : (ls : List Leaf) → outcome_of ls ≡ not_found → ¬ Contains ls blind → ls ≡ []
none_left [] e n = refl
none_left (l ∷ ls) e n = absurd (n (subst (Contains (l ∷ ls)) (not_found_blind (l ∷ ls) e l (Contains-here l ls)) (Contains-here l ls)))

-- closed exactly where there is an answer
pub closed_found : (ls : List Leaf) → outcome_of ls ≡ closed → (now : Now) × Contains ls (found now)
closed_found [] e = absurd (cc)
closed_found (found now ∷ ls) e = (now, Contains-here (found now) ls)
closed_found (stuck_at i ∷ ls) e = go (outcome_of ls) refl e (closed_found ls)
  where
    go : (o : Outcome) → outcome_of ls ≡ o → outcome_behind (stuck_at i) o ≡ closed → (outcome_of ls ≡ closed → (now : Now) × Contains ls (found now)) → (now : Now) × Contains (stuck_at i ∷ ls) (found now)
    go closed f q rest = let r = rest f in (r.0, Contains-there (stuck_at i) ls (found r.0) r.1)
    go (not_pattern j) f q rest = absurd (cc)
    go not_found f q rest = absurd (cc)
closed_found (blind ∷ ls) e = let r = closed_found ls e in (r.0, Contains-there blind ls (found r.0) r.1)

pub found_closed : (ls : List Leaf) (now : Now) → Contains ls (found now) → outcome_of ls ≡ closed
found_closed [] now m = absurd (Contains-none (found now) m)
found_closed (found k ∷ ls) now m = refl
found_closed (stuck_at i ∷ ls) now m = elim (Contains-cases (stuck_at i) ls (found now) m) [ inl e ↦ absurd (cc) | inr n ↦ ap (outcome_behind (stuck_at i)) (found_closed ls now n) ]
found_closed (blind ∷ ls) now m = elim (Contains-cases blind ls (found now) m) [ inl e ↦ absurd (cc) | inr n ↦ found_closed ls now n ]

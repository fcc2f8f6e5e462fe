-- What is told of the leaves that were seen, as more are seen.
use Rattle.std.proofs.Common.{◌≡◌, inl, inr, ℕ, List, [], ◌∷◌, ◌++◌, Bool, true, false, Option, Some, None, refl, sym, ◌∙◌, ap, subst, append-nil}
use Rattle.std.proofs.lemmas.List.Elements.{Contains-append_left, Contains-append_right}
use Rattle.ab_term.proofs.Lists.{Contains-none, Contains-here, Contains-cases}
use Rattle.ab_search_trees.specs.Goals.{Now}
use Rattle.ab_search_trees.specs.Tree.{Leaf, found, stuck_at, blind}
use Rattle.ab_search_trees.specs.Outcomes.{closed, not_pattern, outcome_of}
use Rattle.ab_search_trees.proofs.Answered.{contains_split}
use Rattle.ab_walk.specs.Told.{outcome_without, Tells}
use Rattle.ab_walk.specs.Standing.{blind_if}
use Rattle.ab_walk.specs.declared.walk.Told.TheVariants.{Found, Not}
use Rattle.ab_walk.proofs.OutcomesJoined.{joined, outcome_both, first_of, stuck_noted, nothing_noted}

-- an equation outside the patterns
pub stuck_seen : (done : List Leaf) (o : Option ℕ) (b : Bool) (i : ℕ) → Tells done (Not o b) → Tells (done ++ stuck_at i ∷ []) (Not (first_of o i) b)
stuck_seen done o b i t = (
  outcome_both done (stuck_at i ∷ []) ∙ ap (λ c. joined c (not_pattern i)) t.0 ∙ stuck_noted o i,
  (
    (λ h. Contains-append_left done (stuck_at i ∷ []) blind (t.1.0 h)),
    (λ m. elim (contains_split done (stuck_at i ∷ []) blind m) [
      | inl a ↦ t.1.1 a
      | inr a ↦ elim (Contains-cases (stuck_at i) [] blind a) [ inl e ↦ absurd (cc) | inr n ↦ absurd (Contains-none blind n) ]
    ]),
  ),
)

-- the ways of a place are over, where the search is blind
pub blind_seen : (done : List Leaf) (o : Option ℕ) (b : Bool) → Tells done (Not o b) → Tells (done ++ blind_if true) (Not o true)
blind_seen done o b t = (
  outcome_both done (blind ∷ []) ∙ nothing_noted (outcome_of done) ∙ t.0,
  ((λ h. Contains-append_right done (blind ∷ []) blind (Contains-here blind [])), (λ m. refl)),
)

-- or where it isn't
pub none_seen : (done : List Leaf) (o : Option ℕ) (b : Bool) → Tells done (Not o b) → Tells (done ++ blind_if false) (Not o b)
none_seen done o b t = subst (λ l. Tells l (Not o b)) (sym (append-nil done)) t

-- an answer
pub found_seen : (done back : List Leaf) (o : Option ℕ) (b : Bool) (now : Now) → Tells done (Not o b) → Tells (done ++ found now ∷ back) Found
found_seen done back o b now t = outcome_both done (found now ∷ back) ∙ ap (λ c. joined c closed) t.0 ∙ all_closed o
  where
    all_closed : (o : Option ℕ) → joined (outcome_without o) closed ≡ closed
    all_closed None = refl
    all_closed (Some i) = refl

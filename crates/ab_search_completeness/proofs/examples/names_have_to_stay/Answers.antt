use Rattle.std.proofs.Common.{◌≡◌, ℕ, zero, suc, List, [], ◌∷◌, codes, Option, Some, None, refl, ◌∙◌, ap, ◌<◌, ◌≢◌}
use Rattle.std.specs.Prelude.{slice_get, All}
use Rattle.std.proofs.lemmas.List.Elements.{All-nil, All-cons}
use Rattle.ab_term.specs.Terms as tree
use Rattle.ab_term.specs.Terms.{lam, Read}
use Rattle.ab_term.specs.Typing.{typed_lam, typed_spine, take_none}
use Rattle.ab_term.specs.Names.{support}
use Rattle.ab_term.proofs.Lists.{Contains-none, Contains-here, AllPairs-none}
use Rattle.ab_unifiers.specs.Replacements.{Cell}
use Rattle.ab_unifiers.specs.Unification.{State, Answer, Next, finished, goes_on, next, Solves, at_end, by_step}
use Rattle.ab_formulas.specs.Marks.{MarksServeIn}
use Rattle.ab_formulas.specs.Sequents.{Variable}
use Rattle.ab_theory.specs.SpecInstances.{HoldsUnder}
use Rattle.ab_search_trees.specs.Examples.{i, const_of}
use Rattle.ab_search_trees.specs.Guesses.{by_hypothesis, by_assuming, by_term, by_rule}
use Rattle.ab_search_trees.specs.Tree.{a_goal, no_way, a_way, are_apart, go_on}
use Rattle.ab_search_completeness.specs.Examples.{given}
use Rattle.ab_search_completeness.proofs.examples.names_have_to_stay.Goals as goal

-- the answer that so many steps reach
abbrev step : Next (List ℕ) → (State (List ℕ) → Option (Answer (List ℕ))) → Option (Answer (List ℕ))
step (finished a) f = Some a
step (goes_on s) f = f s

abbrev run : ℕ → State (List ℕ) → Option (Answer (List ℕ))
run zero s = None
run (suc n) s = step (next (codes "x") s) (run n)

by_running : (n : ℕ) {s : State (List ℕ)} {a : Answer (List ℕ)} → run n s ≡ Some a → Solves (codes "x") s a
by_running zero e = absurd (cc)
by_running (suc n) {s = s} {a = a} e = go (next (codes "x") s) refl e (λ r q. by_running n {s = r} q)
  where
    go : (k : Next (List ℕ)) → next (codes "x") s ≡ k → step k (run n) ≡ Some a → ((r : State (List ℕ)) → run n r ≡ Some a → Solves (codes "x") r a) → Solves (codes "x") s a
    go (finished b) p q rest = let same : b ≡ a = cc in at_end (p ∙ ap finished same)
    go (goes_on r) p q rest = by_step p (rest r q)

none : All (λ (p : Read × Read). MarksServeIn p.0 p.1) []
none = All-nil (λ (p : Read × Read). MarksServeIn p.0 p.1)

no_cells : All (λ (x : Variable). slice_get {X = Cell (List ℕ)} [] x.number ≡ Some (record { hint = x.name; type = x.type })) []
no_cells = All-nil (λ (x : Variable). slice_get {X = Cell (List ℕ)} [] x.number ≡ Some (record { hint = x.name; type = x.type }))

-- the hypothesis is apart from each goal
pub returns-clause-searched : goal.returns-clause-searched
returns-clause-searched c = (
  [],
  no_cells,
  _,
  a_goal (a_way (go_on _ [] (at_end refl) none
      (a_goal (a_way (are_apart (by_running 9 refl)) (a_way (go_on _ [] (at_end refl) none
      (a_goal (a_way (are_apart (by_running 9 refl)) (a_way (go_on _ _ (by_running 9 refl) none
      (a_goal (a_way (are_apart (by_running 9 refl)) (a_way (go_on _ [] (at_end refl) none
      (a_goal (a_way (are_apart (by_running 9 refl)) (a_way (go_on _ [] (at_end refl) none
      (a_goal (a_way (are_apart (by_running 9 refl)) no_way))) no_way)))) no_way)))) no_way)))) no_way)))) no_way),
  refl,
)

-- with `z\ c` for X the part leaves `exists y, {p y c}`
pub returns-clause-derived : goal.returns-clause-derived
returns-clause-derived c =
    by_assuming refl
    (by_term (lam i (codes "z") (const_of (codes "c"))) refl (typed_lam (typed_spine refl take_none)) (λ a m. absurd (Contains-none a m))
    (by_rule _ _ 0 (const_of (codes "c") ∷ []) refl refl refl refl (Contains-here _ []) (All-nil (λ (y : tree.Variable ℕ). y.name < 0))
    (record {
      terms = (typed_spine refl take_none, tt);
      nameless = All-cons (λ u. support u ≡ []) (const_of (codes "c")) [] refl (All-nil (λ u. support u ≡ []));
      equal = All-cons (HoldsUnder ((record { name = 2; type = i }, const_of (codes "c")) ∷ [])) (record { place = 0; left = const_of (codes "a"); right = const_of (codes "a") }) [] refl (All-nil (HoldsUnder ((record { name = 2; type = i }, const_of (codes "c")) ∷ [])));
    })
    (by_hypothesis given [] (Contains-here given []) (record { types = refl; different = AllPairs-none (λ a b. a ≢ b); there = λ a m. absurd (Contains-none a m) }) refl refl)))

use Rattle.std.proofs.Common.{◌≡◌, ℕ, List, [], ◌∷◌, codes, refl}
use Rattle.std.specs.Prelude.{slice_get, Some, All}
use Rattle.std.proofs.lemmas.List.Elements.{All-nil, All-cons, All-head}
use Rattle.ab_term.specs.Types.{olist}
use Rattle.ab_term.specs.Terms.{Read}
use Rattle.ab_unifiers.specs.Replacements.{Cell}
use Rattle.ab_unifiers.specs.Unification.{at_end, by_step}
use Rattle.ab_formulas.specs.Declarations.{Declarations}
use Rattle.ab_formulas.specs.Marks.{MarksServeIn}
use Rattle.ab_formulas.specs.Sequents.{Variable, Sequent}
use Rattle.ab_theory.specs.Equations.{AreCells}
use Rattle.ab_search_trees.specs.Tree.{Leaf, no_goal, a_goal, no_way, a_way, are_apart, are_stuck, dont_serve, go_on}
use Rattle.ab_search_trees.specs.Outcomes.{Outcome, closed, not_pattern, not_found, outcome_of, Searched, ComesTo}
use Rattle.ab_search_trees.specs.Examples.{alone, beyond_patterns, const_of, given, numeral, natural_numbers, q_by_p, from_the_list, list_cells, a_holds, of_nothing, equal_streams, asked_of_smaller, smaller, as_large, str, stream_cells}
use Rattle.ab_search_trees.proofs.examples.searches_compute.Goals as goal

comes : (D : Declarations) (cells : List (Cell (List ℕ))) (depth : ℕ) (s : Sequent) (o : Outcome) {ls : List Leaf} → AreCells cells s → Searched D cells depth s ls → outcome_of ls ≡ o → ComesTo D depth s o
comes D cells depth s o {ls = ls} are l e = (cells, are, ls, l, e)

none : All (λ (p : Read × Read). MarksServeIn p.0 p.1) []
none = All-nil (λ (p : Read × Read). MarksServeIn p.0 p.1)

no_cells : All (λ (x : Variable). slice_get {X = Cell (List ℕ)} [] x.number ≡ Some (record { hint = x.name; type = x.type })) []
no_cells = All-nil (λ (x : Variable). slice_get {X = Cell (List ℕ)} [] x.number ≡ Some (record { hint = x.name; type = x.type }))

one_cell : (c : Cell (List ℕ)) → All (λ (x : Variable). slice_get (c ∷ []) x.number ≡ Some (record { hint = x.name; type = x.type })) (record { number = 0; type = c.type; name = c.hint } ∷ [])
one_cell c = All-cons (λ (x : Variable). slice_get (c ∷ []) x.number ≡ Some (record { hint = x.name; type = x.type })) (record { number = 0; type = c.type; name = c.hint }) [] refl (All-nil (λ (x : Variable). slice_get (c ∷ []) x.number ≡ Some (record { hint = x.name; type = x.type })))

-- of a numeral: the first clause is apart, and the second leaves the numeral before it
pub returns-clause-too_deep : goal.returns-clause-too_deep
returns-clause-too_deep c =
    comes natural_numbers [] 5 (alone (given (codes "nat") (numeral 5))) not_found no_cells
    (a_goal (a_way (are_apart (at_end refl)) (a_way (go_on _ _ (by_step refl (by_step refl (at_end refl))) none
    (a_goal (a_way (are_apart (at_end refl)) (a_way (go_on _ _ (by_step refl (by_step refl (at_end refl))) none
    (a_goal (a_way (are_apart (at_end refl)) (a_way (go_on _ _ (by_step refl (by_step refl (at_end refl))) none
    (a_goal (a_way (are_apart (at_end refl)) (a_way (go_on _ _ (by_step refl (by_step refl (at_end refl))) none
    (a_goal (a_way (are_apart (at_end refl)) (a_way (go_on _ _ (by_step refl (by_step refl (at_end refl))) none
    (a_goal no_way)) no_way)))) no_way)))) no_way)))) no_way)))) no_way)))
    refl

pub returns-clause-deep : goal.returns-clause-deep
returns-clause-deep c =
    comes natural_numbers [] 6 (alone (given (codes "nat") (numeral 5))) closed no_cells
    (a_goal (a_way (are_apart (at_end refl)) (a_way (go_on _ _ (by_step refl (by_step refl (at_end refl))) none
    (a_goal (a_way (are_apart (at_end refl)) (a_way (go_on _ _ (by_step refl (by_step refl (at_end refl))) none
    (a_goal (a_way (are_apart (at_end refl)) (a_way (go_on _ _ (by_step refl (by_step refl (at_end refl))) none
    (a_goal (a_way (are_apart (at_end refl)) (a_way (go_on _ _ (by_step refl (by_step refl (at_end refl))) none
    (a_goal (a_way (are_apart (at_end refl)) (a_way (go_on _ _ (by_step refl (by_step refl (at_end refl))) none
    (a_goal (a_way (go_on _ _ (by_step refl (at_end refl)) none (a_goal (a_way (go_on _ _ (at_end refl) none no_goal) no_way))) (a_way (are_apart (at_end refl)) no_way))))
    no_way)))) no_way)))) no_way)))) no_way)))) no_way)))
    refl

pub returns-clause-outside : goal.returns-clause-outside
returns-clause-outside c =
    comes [] [] 5 (alone beyond_patterns) (not_pattern 0) no_cells
    (a_goal (a_way (go_on _ _ (at_end refl) none
    (a_goal (a_way (go_on _ _ (at_end refl) none
    (a_goal (a_way (are_stuck (at_end refl)) no_way))) no_way))) no_way))
    refl

pub returns-clause-fact : goal.returns-clause-fact
returns-clause-fact c =
    comes a_holds [] 5 (alone (of_nothing (const_of (codes "a")))) closed no_cells
    (a_goal (a_way (go_on _ _ (at_end refl) none (a_goal (a_way (go_on _ _ (at_end refl) none no_goal) no_way))) no_way))
    refl

pub returns-clause-by_list : goal.returns-clause-by_list
returns-clause-by_list c =
    comes q_by_p list_cells 5 from_the_list closed (one_cell (record { hint = codes "L"; type = olist }))
    (a_goal
    (a_way (go_on _ _ (by_step refl (at_end refl)) none
    -- `{L, p c |- p c}`, by the list: some F, of which `member F (p c :: L)` is taken first
    (a_goal (a_way (go_on _ _ (at_end refl) none
    (a_goal (a_way (go_on _ _ (at_end refl) none
    (a_goal (a_way (go_on _ _ (at_end refl) none
    (a_goal
    (a_way (go_on _ _ (by_step refl (by_step refl (by_step refl (by_step refl (at_end refl))))) none
    -- it is `p c`
    (a_goal (a_way (go_on _ _ (at_end refl) none
    (a_goal (a_way (go_on _ _ (by_step refl (at_end refl)) none
    (a_goal (a_way (go_on _ _ (at_end refl) none no_goal) no_way))) no_way))) no_way)))
    -- or it stands in L
    (a_way (go_on _ _ (by_step refl (by_step refl (by_step refl (by_step refl (at_end refl))))) none
    (a_goal (a_way (are_apart (by_step refl (at_end refl))) (a_way (are_apart (by_step refl (at_end refl))) no_way)))) no_way))))
    no_way))) no_way))) no_way)))
    -- `{L, p c |- q c}`, by the list
    (a_way (go_on _ _ (at_end refl) none
    (a_goal (a_way (go_on _ _ (at_end refl) none
    (a_goal (a_way (go_on _ _ (at_end refl) none
    (a_goal
    (a_way (go_on _ _ (by_step refl (by_step refl (by_step refl (by_step refl (at_end refl))))) none
    (a_goal (a_way (go_on _ _ (at_end refl) none
    (a_goal (a_way (are_apart (at_end refl)) no_way))) no_way)))
    (a_way (go_on _ _ (by_step refl (by_step refl (by_step refl (by_step refl (at_end refl))))) none
    (a_goal (a_way (are_apart (by_step refl (at_end refl))) (a_way (are_apart (by_step refl (at_end refl))) no_way)))) no_way))))
    no_way))) no_way))) no_way)))
    refl

pub returns-clause-refused : goal.returns-clause-refused
returns-clause-refused c =
    comes equal_streams stream_cells 5 (asked_of_smaller as_large) not_found (one_cell (record { hint = codes "S"; type = str }))
    (a_goal (a_way (dont_serve _ _ (by_step refl (at_end refl)) (λ s. All-head (λ (p : Read × Read). MarksServeIn p.0 p.1) (as_large, smaller) [] s))
    (a_way (are_apart (at_end refl)) no_way)))
    refl

pub returns-clause-served : goal.returns-clause-served
returns-clause-served c =
    comes equal_streams stream_cells 5 (asked_of_smaller smaller) closed (one_cell (record { hint = codes "S"; type = str }))
    (a_goal (a_way (go_on _ _ (by_step refl (at_end refl)) (All-cons (λ (p : Read × Read). MarksServeIn p.0 p.1) (smaller, smaller) [] refl none) no_goal) no_way))
    refl

use Rattle.std.proofs.Common.{[], refl}
use Rattle.std.proofs.lemmas.List.Elements.{All-nil, All-cons}
use Rattle.ab_term.specs.Terms.{Read}
use Rattle.ab_unifiers.specs.Unification.{at_end, by_step}
use Rattle.ab_formulas.specs.Marks.{MarksServeIn}
use Rattle.ab_search_trees.specs.Tree.{no_goal, a_goal, no_way, a_way, are_apart, are_stuck, go_on}
use Rattle.ab_search_trees.specs.Examples.{p_of}
use Rattle.ab_search_trees.proofs.examples.leaves_compute.Goals as goal

pub returns-clause-stuck : goal.returns-clause-stuck
returns-clause-stuck c =
    a_goal (a_way (go_on _ [] (at_end refl) (All-nil (λ (p : Read × Read). MarksServeIn p.0 p.1))
    (a_goal (a_way (go_on _ [] (at_end refl) (All-nil (λ (p : Read × Read). MarksServeIn p.0 p.1))
    (a_goal (a_way (are_stuck (at_end refl)) no_way))) no_way))) no_way)

pub returns-clause-renamed : goal.returns-clause-renamed
returns-clause-renamed c =
    a_goal (a_way (are_apart (by_step refl (at_end refl)))
    (a_way (go_on _ _ (by_step refl (at_end refl)) (All-cons (λ (p : Read × Read). MarksServeIn p.0 p.1) (p_of 2, p_of 1) [] tt (All-nil (λ (p : Read × Read). MarksServeIn p.0 p.1))) no_goal) no_way))

pub returns-clause-both : goal.returns-clause-both
returns-clause-both c =
    a_goal (a_way (go_on _ [] (at_end refl) (All-nil (λ (p : Read × Read). MarksServeIn p.0 p.1))
    (a_goal (a_way (go_on _ _ (by_step refl (at_end refl)) (All-nil (λ (p : Read × Read). MarksServeIn p.0 p.1)) (a_goal (a_way (go_on _ [] (at_end refl) (All-nil (λ (p : Read × Read). MarksServeIn p.0 p.1)) no_goal) no_way)))
    (a_way (go_on _ _ (by_step refl (at_end refl)) (All-nil (λ (p : Read × Read). MarksServeIn p.0 p.1)) (a_goal (a_way (go_on _ [] (at_end refl) (All-nil (λ (p : Read × Read). MarksServeIn p.0 p.1)) no_goal) no_way))) no_way)))) no_way)

pub returns-clause-shallow : goal.returns-clause-shallow
returns-clause-shallow c = a_goal (a_way (go_on _ [] (at_end refl) (All-nil (λ (p : Read × Read). MarksServeIn p.0 p.1)) (a_goal no_way)) no_way)

pub returns-clause-never : goal.returns-clause-never
returns-clause-never c = a_goal no_way

pub returns-clause-hidden : goal.returns-clause-hidden
returns-clause-hidden c = a_goal (a_way (go_on _ [] (at_end refl) (All-nil (λ (p : Read × Read). MarksServeIn p.0 p.1)) (a_goal no_way)) no_way)

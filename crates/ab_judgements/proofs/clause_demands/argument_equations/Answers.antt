use Rattle.std.proofs.Common.{◌<◌, ◌≤◌, List, map, codes, arith, sym, ap, ◌∙◌, subst, refl}
use Rattle.std.specs.List.{All}
use Rattle.std.proofs.lemmas.List.Elements.{All-weaker}
use Rattle.ab_term.specs.Terms.{Terms, terms_of}
use Rattle.ab_norm.specs.ab_store.specs.declared.node.Equation.{Equation}
use Rattle.ab_norm.specs.ab_store.specs.declared.node.TermId.{TermId}
use Rattle.ab_norm.specs.ab_store.specs.Trees.{Holds, tree_of, node_tree}
use Rattle.ab_norm.proofs.Frame.{if_ok, spine_names}
use Rattle.ab_unifiers.specs.Alternatives.{arguments_equal}
use Rattle.ab_unifiers.specs.Prefixes.{arguments_of}
use Rattle.ab_alternatives.specs.LeftAlternatives.{equate, trees_from}
use Rattle.ab_alternatives.specs.ab_instances.specs.ListReadings.{given_at}
use Rattle.ab_alternatives.proofs.Assembled.{equate_trees}
use Rattle.ab_judgements.proofs.ArgumentsEqual.{none_against, equate_held}
use Rattle.ab_judgements.proofs.clause_demands.argument_equations.Goals as goal

pub returns-in-Lam-view-clause-trees : goal.returns-in-Lam-view-clause-trees
returns-in-Lam-view-clause-trees c = λ types.
    let S = c.args.store.now in
    let ts = arguments_of (tree_of types S c.args.goal) in
    ap (trees_from types S 0) c.new-in-Lam-view.ensures.items
    ∙ sym (ap (λ t. arguments_equal (codes "x") 0 ts (arguments_of t)) (c.view-in-Spine.ensures.tree types ∙ ap (node_tree types S) c.in-Lam-view.is) ∙ none_against ts)

pub returns-in-Spine-view-clause-trees : goal.returns-in-Spine-view-clause-trees
returns-in-Spine-view-clause-trees c =
    let S = c.args.store.now in
    let left = c.as_slice.result.now in
    let right = c.as_slice-in-Spine-view.result.now in
    if_ok c.equations_between.result (λ list e types.
    ap (trees_from types S 0) e
    ∙ equate_trees types S 0 0 refl left right
    ∙ ap (λ (ts : List TermId). arguments_equal (codes "x") 0 (given_at types S ts) (given_at types S right)) c.as_slice.ensures
    ∙ ap (λ (us : List TermId). arguments_equal (codes "x") 0 (given_at types S c.in-Spine.left) (given_at types S us)) c.as_slice-in-Spine-view.ensures
    ∙ sym (ap (λ t. arguments_equal (codes "x") 0 (arguments_of t) (arguments_of (tree_of types S c.args.atom))) (c.view.ensures.tree types ∙ ap (node_tree types S) c.in-Spine.is)
    ∙ ap (λ t. arguments_equal (codes "x") 0 (given_at types S c.in-Spine.left) (arguments_of t)) (c.view-in-Spine.ensures.tree types ∙ ap (node_tree types S) c.in-Spine-view.is))) c.equations_between.ensures

pub returns-in-Spine-view-clause-held : goal.returns-in-Spine-view-clause-held
returns-in-Spine-view-clause-held c =
    let S = c.args.store.now in
    let left = c.as_slice.result.now in
    let right = c.as_slice-in-Spine-view.result.now in
    let lefts : All (λ (t : TermId). t.0 < c.args.goal.0) c.in-Spine.left = (spine_names _ _ c.view.result.now _ c.in-Spine.left c.in-Spine.is c.view.ensures.earlier).1 in
    let rights : All (λ (t : TermId). t.0 < c.args.atom.0) c.in-Spine-view.right = (spine_names _ _ c.view-in-Spine.result.now _ c.in-Spine-view.right c.in-Spine-view.is c.view-in-Spine.ensures.earlier).1 in
    let lefts_held : All (Holds S) left = subst (All (Holds S)) (sym c.as_slice.ensures) (All-weaker (λ (t : TermId). t.0 < c.args.goal.0) (Holds S) (λ t l. omega (arith, l, c.requires.goal)) c.in-Spine.left lefts) in
    let rights_held : All (Holds S) right = subst (All (Holds S)) (sym c.as_slice-in-Spine-view.ensures) (All-weaker (λ (t : TermId). t.0 < c.args.atom.0) (Holds S) (λ t l. omega (arith, l, c.requires.atom)) c.in-Spine-view.right rights) in
    if_ok c.equations_between.result (λ list e. subst (All (λ (q : Equation). Holds S q.left × Holds S q.right)) (sym e) (equate_held S left right lefts_held rights_held)) c.equations_between.ensures

use Rattle.std.proofs.Common.{ap, ◌∙◌}
use Rattle.ab_term.specs.Logical.{spec_universal}
use Rattle.ab_term.specs.Terms.{logical, spine, term, no_terms}
use Rattle.ab_norm.specs.ab_store.specs.Trees.{tree_of, node_tree}
use Rattle.ab_theory.specs.Parts.{parts_of}
use Rattle.ab_search_ways.specs.Blindness.{atoms_of}
use Rattle.ab_search_ways.proofs.SeenParts.{under_same}
use Rattle.ab_search_ways.proofs.blindness.under_pi.Goals as goal

pub returns-in-Lam-clause-seen : goal.returns-in-Lam-clause-seen
returns-in-Lam-clause-seen c = λ types A.
    let S = c.args.store.now in
    ap (λ r. atoms_of (spine (logical (spec_universal A)) (term r no_terms))) (c.view.ensures.tree types ∙ ap (node_tree types S) c.in-Lam.is)
    ∙ under_same _ (parts_of (tree_of types S c.in-Lam.body))

use Rattle.std.proofs.Common.{◌||◌, sym, ap, ◌∙◌}
use Rattle.std.specs.List.{list_any}
use Rattle.ab_norm.specs.ab_store.specs.Trees.{tree_of}
use Rattle.ab_theory.specs.Parts.{Part, parts_of}
use Rattle.ab_unify.specs.Problem.{variables_read}
use Rattle.ab_search_trees.specs.Judgements.{hides_head}
use Rattle.ab_search_ways.proofs.SeenParts.{any_here, any_under, any_of_both}
use Rattle.ab_search_ways.proofs.blindness.+hides_an_atom.Goals as goal

pub returns-in-Atom : goal.returns-in-Atom
returns-in-Atom t c = λ types.
    let S = c.args.store.now in
    c.hides_head.ensures types ∙ any_here (hides_head (variables_read types S c.args.flexible.now)) (tree_of types S c.args.formula) (c.in-Atom.ensures.seen types)

pub returns-in-Under : goal.returns-in-Under
returns-in-Under t c = λ types.
    let S = c.args.store.now in
    c.hides_an_atom.ensures types ∙ any_under (hides_head (variables_read types S c.args.flexible.now)) (tree_of types S c.args.formula) (tree_of types S c.in-Under.body) (c.in-Under.ensures.seen types)

pub returns-then-hides_an_atom : goal.returns-then-hides_an_atom
returns-then-hides_an_atom t c = λ types.
    let S = c.args.store.now in
    let h = hides_head (variables_read types S c.args.flexible.now) in
    let right = list_any (λ (p : Part). h p.atom) (parts_of (tree_of types S c.in-Both.right)) in
    ap (λ b. b || right) (sym c.if-hides_an_atom.true ∙ c.hides_an_atom-in-Both.ensures types)
    ∙ any_of_both h (tree_of types S c.args.formula) (tree_of types S c.in-Both.left) (tree_of types S c.in-Both.right) (c.in-Both.ensures.seen types)

pub returns-else-hides_an_atom : goal.returns-else-hides_an_atom
returns-else-hides_an_atom t c = λ types.
    let S = c.args.store.now in
    let h = hides_head (variables_read types S c.args.flexible.now) in
    let right = list_any (λ (p : Part). h p.atom) (parts_of (tree_of types S c.in-Both.right)) in
    c.hides_an_atom-else-hides_an_atom.ensures types
    ∙ ap (λ b. b || right) (sym c.if-hides_an_atom.false ∙ c.hides_an_atom-in-Both.ensures types)
    ∙ any_of_both h (tree_of types S c.args.formula) (tree_of types S c.in-Both.left) (tree_of types S c.in-Both.right) (c.in-Both.ensures.seen types)

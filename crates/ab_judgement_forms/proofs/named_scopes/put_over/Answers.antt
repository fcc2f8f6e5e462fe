use Rattle.std.proofs.Common.{◌∙◌, map, ap}
use Rattle.ab_term.specs.Substitution.{instance_by_all}
use Rattle.ab_norm.specs.ab_store.specs.Trees.{tree_of}
use Rattle.ab_norm.proofs.Frame.{if_ok, typed_from, typed_on, adds_but_types}
use Rattle.ab_logic.specs.Worlds.{variable_at}
use Rattle.ab_judgement_forms.specs.DemandWalks.{under_variables}
use Rattle.ab_judgement_forms.proofs.named_scopes.put_over.Goals as goal

pub returns-clause-tree : goal.returns-clause-tree
returns-clause-tree g c =
    let T = c.args.types.now in
    let S = c.args.store.now in
    let S1 = c.under_cells.new.store in
    let made = c.in_ok-scope.ensures in
    if_ok c.instantiate.result (λ r put.
    put
    ∙ ap (λ u. instance_by_all u (map (tree_of T S1) c.args.terms.now)) made.tree
    ∙ ap (instance_by_all (under_variables (map (variable_at T S) c.args.cells.now) (tree_of T S c.args.term))) (adds_but_types T S S1 c.under_cells.ensures.adds c.args.terms.now c.requires.terms).1) c.instantiate.ensures.tree

pub returns-clause-adds : goal.returns-clause-adds
returns-clause-adds g c =
    let T = c.args.types.now in
    let S1 = c.under_cells.new.store in
    let first = c.under_cells.ensures.adds in
    typed_on T c.args.store.now S1 c.instantiate.new.store first (typed_from T S1 c.instantiate.new.store c.instantiate.ensures.adds first.typed)

use Rattle.std.proofs.Common.{◌∙◌, map, ap}
use Rattle.ab_norm.specs.ab_store.specs.Trees.{tree_of}
use Rattle.ab_norm.proofs.Frame.{if_ok, typed_from, typed_on}
use Rattle.ab_logic.specs.Forms.{sign_of}
use Rattle.ab_theory.specs.Opening.{open_goal}
use Rattle.ab_judgement_forms.proofs.opened_scopes.opened_scope.Goals as goal

pub returns-clause-tree : goal.returns-clause-tree
returns-clause-tree g c =
    let T = c.args.types.now in
    let S = c.args.store.now in
    let S1 = c.instantiate.new.store in
    let m = sign_of c.args.opening.manner.sign in
    let list = c.args.opening.list in
    if_ok c.open.result (λ r opened.
    opened
    ∙ ap (λ K. open_goal m K (tree_of T S1 c.in_ok-goal.goal)) (c.instantiate.ensures.adds.before.trees T list c.requires.list)
    ∙ ap (open_goal m (tree_of T S list)) c.in_ok-goal.ensures.tree) c.open.ensures.tree

pub returns-clause-adds : goal.returns-clause-adds
returns-clause-adds g c =
    let T = c.args.types.now in
    let S1 = c.instantiate.new.store in
    let first = typed_from T c.args.store.now S1 c.instantiate.ensures.adds c.requires.store in
    typed_on T c.args.store.now S1 c.open.new.store first c.open.ensures.adds

use Rattle.std.proofs.Common.{subst}
use Rattle.ab_syntax.specs.ab_expressions.specs.SyntaxTrees.{tree_of}
use Rattle.ab_meaning.specs.Scopes.{resolved}
use Rattle.ab_infer.specs.NameScopes.{names_in, scope_of}
use Rattle.ab_infer.specs.Rows.{Grew}
use Rattle.ab_infer.proofs.Wholes.{grew_whole}
use Rattle.ab_infer.proofs.expression_walk.row_of.Goals as goal

pub returns-clause-row : goal.returns-clause-row
returns-clause-row c =
    let e = c.new-row.ensures in
    let s = scope_of c.args.types.now c.args.store.now c.args.scope.now in
    let grew = subst (λ bs. Grew c.walk.new.types c.args.store.now c.new-row.result c.walk.new.row (resolved s (names_in bs) (tree_of c.args.parse.now))) e.bound c.in_ok-walk.ensures.walked in
    grew_whole c.walk.new.types c.args.store.now c.new-row.result c.walk.new.row _ e.steps e.marks e.names e.variables e.bound grew

use Rattle.std.specs.Prelude.{option_map}
use Rattle.std.proofs.Common.{sym, subst}
use Rattle.ab_syntax.specs.ab_expressions.specs.SyntaxTrees.{tree_of}
use Rattle.ab_infer.specs.NameScopes.{scope_of}
use Rattle.ab_infer.specs.Rows.{Grew}
use Rattle.ab_declare.specs.ClauseMeanings.{body_found}
use Rattle.ab_declare.proofs.Walks.{truth_put}
use Rattle.ab_declare.proofs.joined_rows.walk_body.Goals as goal

pub returns-in_ok-put-in-None-clause-walked : goal.returns-in_ok-put-in-None-clause-walked
returns-in_ok-put-in-None-clause-walked c =
    let t = c.args.types.now in
    let S = c.args.store.now in
    let s = scope_of t S c.args.scope.now in
    let on = c.requires.ground in
    subst (λ b. Grew t S c.args.row.now c.put.new.self (body_found s (option_map tree_of b))) (sym c.in-None.is)
    (truth_put t S c.args.row.now c.put.new.self s c.args.formulas.prop on.typed on.are_formulas.prop_held on.are_formulas.prop_is c.in_ok-put-in-None.ensures)

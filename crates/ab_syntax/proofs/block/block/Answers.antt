use Rattle.std.proofs.lemmas.Result.{err_from_is_err_and}
use Rattle.std.proofs.Common.{List, Bool, true, false}
use Rattle.ab_grammar.specs.Token.{Token, other, by_word}
use Rattle.ab_grammar.proofs.Following.{BeforeStop}
use Rattle.ab_grammar.specs.CommandTable.{Definition, Row}
use Rattle.ab_grammar.specs.CommandTrees as tree
use Rattle.ab_grammar.proofs.Choices.{define, codefine}
use Rattle.ab_grammar.proofs.Continuing.{Continues}
use Rattle.ab_grammar.proofs.Rows.{definienda_by, definition}
use Rattle.ab_syntax.specs.Commands.{block_head}
use Rattle.ab_expressions.specs.Reader.{rest}
use Rattle.ab_syntax.proofs.Passing.{refused_on, refused_first, closed_found}
use Rattle.ab_syntax.proofs.block.block.Goals as goal

block : (b : Bool) (ks : List Token) → Continues Definition (Row (block_head b)) BeforeStop (λ d. tree.define b d.0 d.1) ks ks
block true ks = define ks
block false ks = codefine ks

pub returns-in_err-predicates : goal.returns-in_err-predicates
returns-in_err-predicates c =
    let p = err_from_is_err_and c.from_residual.result c.from_residual.ensures.1 in
    let named = closed_found (other by_word) definienda_by _ (rest c.args.text.now c.args.here.now) _ _ c.items-predicates.result c.close_part.result c.items-predicates.ensures c.close_part.ensures in
    rw (p.1, p.2) (refused_on (block c.args.inductive (rest c.args.text.now c.args.here.now)) _ _ (refused_first definition _ _ _ (rw c.in_err-predicates.was at named)))

pub returns-in_err-clauses : goal.returns-in_err-clauses
returns-in_err-clauses c =
    let p = err_from_is_err_and c.from_residual-in_err-clauses.result c.from_residual-in_err-clauses.ensures.1 in
    let named = closed_found (other by_word) definienda_by _ (rest c.args.text.now c.args.here.now) _ _ c.items-predicates.result c.close_part.result c.items-predicates.ensures c.close_part.ensures in
    rw (p.1, p.2) (refused_on (block c.args.inductive (rest c.args.text.now c.args.here.now)) _ _ (refused_on (definition.first_read _ _ _ (rw c.in_ok-predicates.was at named)) _ _ c.in_err-clauses.ensures))

pub returns : goal.returns
returns c =
    let named = closed_found (other by_word) definienda_by _ (rest c.args.text.now c.args.here.now) _ _ c.items-predicates.result c.close_part.result c.items-predicates.ensures c.close_part.ensures in
    (block c.args.inductive (rest c.args.text.now c.args.here.now)).reads _ _ ((definition.first_read _ _ _ (rw c.in_ok-predicates.was at named)).reads _ _ c.in_ok-clauses.ensures)

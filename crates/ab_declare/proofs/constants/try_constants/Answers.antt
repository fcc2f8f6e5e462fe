use Rattle.std.specs.Prelude.{◌≡◌, Some, None}
use Rattle.std.proofs.Common.{sym, subst}
use Rattle.ab_term.specs.Constants as table
use Rattle.ab_norm.specs.ab_types.specs.Entries.{constants}
use Rattle.ab_grammar.specs.CommandTrees as command
use Rattle.ab_syntax.specs.ab_expressions.specs.SyntaxTrees as trees
use Rattle.ab_declare.specs.DeclarationCommands.{first_taken}
use Rattle.ab_declare.specs.DeclarationAnswers.{TableDeclared}
use Rattle.ab_declare.proofs.Concluding.{if_ok_more, none_left, constants_refused, constants_declared, type_refused}
use Rattle.ab_declare.proofs.constants.try_constants.Goals as goal

pub returns-in-Some-clause-answer : goal.returns-in-Some-clause-answer
returns-in-Some-clause-answer g c =
    let a = rw c.in-Some.is at c.in_ok-refusal.ensures.taken in
    constants_refused c.args.types.now c.args.types.now c.args.names.now _ a.0 c.in-Some.refusal a.1 a.2

pub returns-in-Ok-clause-answer : goal.returns-in-Ok-clause-answer
returns-in-Ok-clause-answer g c =
    let w = trees.type_of c.args.parse.now in
    let free = none_left _ _ _ c.in_default.not-Some c.in_ok-refusal.ensures.taken in
    let free_then = subst (λ q. first_taken (table.names (constants q)) c.args.names.now ≡ None) (sym c.taken_name.ensures.same) free in
    let a = c.in-Ok.ensures.answer in
    if_ok_more c.add_constants.result _ _
    (λ o h. subst (λ q. TableDeclared q c.add_constants.new.types (command.constants c.args.names.now w) o) c.taken_name.ensures.same
    (constants_declared c.taken_name.new.types c.read_type.new.types c.add_constants.new.types c.args.names.now w a.0 c.in-Ok.ty free_then a.1.reads a.2 c.read_type.ensures.kept c.read_type.ensures.kinds c.read_type.ensures.constants a.1.is o h))
    c.add_constants.ensures.added

pub returns-in_ok-refusal_for-in-Err-clause-answer : goal.returns-in_ok-refusal_for-in-Err-clause-answer
returns-in_ok-refusal_for-in-Err-clause-answer g c =
    let w = trees.type_of c.args.parse.now in
    let free = none_left _ _ _ c.in_default.not-Some c.in_ok-refusal.ensures.taken in
    let free_then = subst (λ q. first_taken (table.names (constants q)) c.args.names.now ≡ None) (sym c.taken_name.ensures.same) free in
    subst (λ q. TableDeclared q c.read_type.new.types (command.constants c.args.names.now w) (Some c.in_ok-refusal_for-in-Err.field-0)) c.taken_name.ensures.same
    (type_refused c.taken_name.new.types c.read_type.new.types c.read_type.new.types c.args.names.now w c.in-Err.fault c.in_ok-refusal_for-in-Err.field-0 free_then c.in-Err.ensures.answer c.in_ok-refusal_for-in-Err.ensures)

use Rattle.std.proofs.Common.{ℕ, List, map}
use Rattle.std.proofs.lemmas.List.{map-id}
use Rattle.std.proofs.lemmas.Result.{err_from_is_err_and}
use Rattle.ab_grammar.specs.CommandForms.{One}
use Rattle.ab_grammar.specs.Token.{comma, other, type_word}
use Rattle.ab_grammar.proofs.Following.{Anything, Followed, Except, BeforeStop}
use Rattle.ab_grammar.specs.Language.{Expression, TypeExpression}
use Rattle.ab_grammar.specs.CommandTable.{DeclaredNames, Name, ShowsText}
use Rattle.ab_grammar.proofs.Beginnings.{followed_by_stop}
use Rattle.ab_grammar.proofs.Choosing.{fewer_reads}
use Rattle.ab_grammar.proofs.Choices as choices
use Rattle.ab_grammar.proofs.Rows.{kind, typed, theorem, set}
use Rattle.ab_grammar.specs.CommandTrees as tree
use Rattle.ab_expressions.specs.declared.items.Items.{Items}
use Rattle.ab_expressions.specs.Items.{list_of}
use Rattle.ab_expressions.specs.Reader.{rest}
use Rattle.ab_syntax.proofs.Passing.{refused_on, refused_first, refused_fewer, found_said, as_they_are, closed_made}
use Rattle.ab_syntax.proofs.row.row.Goals as goal

pub returns-in_err-close_part-in-Kind : goal.returns-in_err-close_part-in-Kind
returns-in_err-close_part-in-Kind c =
    let p = err_from_is_err_and c.from_residual.result c.from_residual.ensures.1 in
    let declared = found_said DeclaredNames (Except comma) (λ (xs : Items (List ℕ)). map (λ (x : (List ℕ)). x) (list_of xs)) list_of (λ xs. map-id (list_of xs)) _ _ c.items-names.result c.items-names.ensures in
    let read = closed_made tree.kinds (other type_word) kind list_of (rest c.args.text.now c.args.here.now) _ _ c.items-names.result c.close_part.result declared c.close_part.ensures in
    rw (p.1, p.2, c.in-Kind.is) (rw c.in_err-close_part-in-Kind.was at read)

pub returns-in_ok-close_part-in-Kind : goal.returns-in_ok-close_part-in-Kind
returns-in_ok-close_part-in-Kind c =
    let declared = found_said DeclaredNames (Except comma) (λ (xs : Items (List ℕ)). map (λ (x : (List ℕ)). x) (list_of xs)) list_of (λ xs. map-id (list_of xs)) _ _ c.items-names.result c.items-names.ensures in
    let read = closed_made tree.kinds (other type_word) kind list_of (rest c.args.text.now c.args.here.now) _ _ c.items-names.result c.close_part.result declared c.close_part.ensures in
    rw c.in-Kind.is (rw c.in_ok-close_part-in-Kind.was at read)

pub returns-in_err-names-in-Typed : goal.returns-in_err-names-in-Typed
returns-in_err-names-in-Typed c =
    let p = err_from_is_err_and c.from_residual-in_err-names-in-Typed.result c.from_residual-in_err-names-in-Typed.ensures.1 in
    rw (p.1, p.2, c.in-Typed.is) (refused_first typed _ _ _ c.in_err-names-in-Typed.ensures)

pub returns-in_err-ty-in-Typed : goal.returns-in_err-ty-in-Typed
returns-in_err-ty-in-Typed c =
    let p = err_from_is_err_and c.from_residual-in_err-ty-in-Typed.result c.from_residual-in_err-ty-in-Typed.ensures.1 in
    rw (p.1, p.2, c.in-Typed.is) (refused_on (typed.first_read _ _ _ (as_they_are DeclaredNames (Except comma) _ _ _ c.in_ok-names-in-Typed.ensures)) _ _ (refused_fewer TypeExpression Followed BeforeStop followed_by_stop _ _ _ c.in_err-ty-in-Typed.ensures))

pub returns-in_ok-ty-in-Typed : goal.returns-in_ok-ty-in-Typed
returns-in_ok-ty-in-Typed c = rw c.in-Typed.is ((typed.first_read _ _ _ (as_they_are DeclaredNames (Except comma) _ _ _ c.in_ok-names-in-Typed.ensures)).reads _ _ (fewer_reads TypeExpression Followed BeforeStop followed_by_stop _ _ _ c.in_ok-ty-in-Typed.ensures))

pub returns-in-Define : goal.returns-in-Define
returns-in-Define c = rw c.in-Define.is (c.block.ensures)

pub returns-in-CoDefine : goal.returns-in-CoDefine
returns-in-CoDefine c = rw c.in-CoDefine.is (c.block-in-CoDefine.ensures)

pub returns-in_err-name-in-Theorem : goal.returns-in_err-name-in-Theorem
returns-in_err-name-in-Theorem c =
    let p = err_from_is_err_and c.from_residual-in_err-name-in-Theorem.result c.from_residual-in_err-name-in-Theorem.ensures.1 in
    rw (p.1, p.2, c.in-Theorem.is) (refused_first theorem _ _ _ c.in_err-name-in-Theorem.ensures)

pub returns-in_err-formula-in-Theorem : goal.returns-in_err-formula-in-Theorem
returns-in_err-formula-in-Theorem c =
    let p = err_from_is_err_and c.from_residual-in_err-formula-in-Theorem.result c.from_residual-in_err-formula-in-Theorem.ensures.1 in
    rw (p.1, p.2, c.in-Theorem.is) (refused_on (theorem.first_read _ _ _ c.in_ok-name-in-Theorem.ensures) _ _ (refused_fewer Expression Followed BeforeStop followed_by_stop _ _ _ c.in_err-formula-in-Theorem.ensures))

pub returns-in_ok-formula-in-Theorem : goal.returns-in_ok-formula-in-Theorem
returns-in_ok-formula-in-Theorem c = rw c.in-Theorem.is ((theorem.first_read _ _ _ c.in_ok-name-in-Theorem.ensures).reads _ _ (fewer_reads Expression Followed BeforeStop followed_by_stop _ _ _ c.in_ok-formula-in-Theorem.ensures))

pub returns-in_err-take-in-Specification : goal.returns-in_err-take-in-Specification
returns-in_err-take-in-Specification c =
    let p = err_from_is_err_and c.from_residual-in_err-take-in-Specification.result c.from_residual-in_err-take-in-Specification.ensures.1 in
    rw (p.1, p.2, c.in-Specification.is) (refused_on (choices.specification (rest c.args.text.now c.args.here.now)) _ _ (refused_fewer (One ShowsText) Anything BeforeStop (λ r f. tt) _ _ _ c.in_err-take-in-Specification.ensures))

pub returns-in_ok-take-in-Specification : goal.returns-in_ok-take-in-Specification
returns-in_ok-take-in-Specification c = rw c.in-Specification.is ((choices.specification (rest c.args.text.now c.args.here.now)).reads _ _ (fewer_reads (One ShowsText) Anything BeforeStop (λ r f. tt) _ _ _ c.in_ok-take-in-Specification.ensures))

pub returns-in_err-take-in-Show : goal.returns-in_err-take-in-Show
returns-in_err-take-in-Show c =
    let p = err_from_is_err_and c.from_residual-in_err-take-in-Show.result c.from_residual-in_err-take-in-Show.ensures.1 in
    rw (p.1, p.2, c.in-Show.is) (refused_on (choices.show (rest c.args.text.now c.args.here.now)) _ _ (refused_fewer Name Anything BeforeStop (λ r f. tt) _ _ _ c.in_err-take-in-Show.ensures))

pub returns-in_ok-take-in-Show : goal.returns-in_ok-take-in-Show
returns-in_ok-take-in-Show c = rw c.in-Show.is ((choices.show (rest c.args.text.now c.args.here.now)).reads _ _ (fewer_reads Name Anything BeforeStop (λ r f. tt) _ _ _ c.in_ok-take-in-Show.ensures))

pub returns-in_err-keyword-in-Set : goal.returns-in_err-keyword-in-Set
returns-in_err-keyword-in-Set c =
    let p = err_from_is_err_and c.from_residual-in_err-keyword-in-Set.result c.from_residual-in_err-keyword-in-Set.ensures.1 in
    rw (p.1, p.2, c.in-Set.is) (refused_first set _ _ _ c.in_err-keyword-in-Set.ensures)

pub returns-in_err-switch-in-Set : goal.returns-in_err-switch-in-Set
returns-in_err-switch-in-Set c =
    let p = err_from_is_err_and c.from_residual-in_err-switch-in-Set.result c.from_residual-in_err-switch-in-Set.ensures.1 in
    rw (p.1, p.2, c.in-Set.is) (refused_on (set.first_read _ _ _ c.in_ok-keyword-in-Set.ensures) _ _ c.in_err-switch-in-Set.ensures)

pub returns-in_ok-switch-in-Set : goal.returns-in_ok-switch-in-Set
returns-in_ok-switch-in-Set c = rw c.in-Set.is ((set.first_read _ _ _ c.in_ok-keyword-in-Set.ensures).reads _ _ c.in_ok-switch-in-Set.ensures)

pub returns-in-Query : goal.returns-in-Query
returns-in-Query c = rw c.in-Query.is (c.query.ensures)

pub returns-in-Quit : goal.returns-in-Quit
returns-in-Quit c = rw c.in-Quit.is (choices.quit (rest c.args.text.now c.args.here.now))

pub returns-in-Back : goal.returns-in-Back
returns-in-Back c = rw c.in-Back.is (choices.back (rest c.args.text.now c.args.here.now))

pub returns-in-Reset : goal.returns-in-Reset
returns-in-Reset c = rw c.in-Reset.is (choices.reset (rest c.args.text.now c.args.here.now))

pub returns-in-Undo : goal.returns-in-Undo
returns-in-Undo c = rw c.in-Undo.is (choices.undo (rest c.args.text.now c.args.here.now))

pub returns-in-Abort : goal.returns-in-Abort
returns-in-Abort c = rw c.in-Abort.is (choices.abort (rest c.args.text.now c.args.here.now))

-- Every list of tokens has an answer as an expression, and one as a type.
use Rattle.std.proofs.Common.{List}
use Rattle.ab_grammar.specs.Token.{Token}
use Rattle.ab_grammar.specs.Nesting.{outside}
use Rattle.ab_grammar.specs.Language.{Expression, TypeExpression}
use Rattle.ab_grammar.proofs.Following.{Followed}
use Rattle.ab_grammar.proofs.Machine.{step, finish, start, type_step, type_finish, type_start}
use Rattle.ab_grammar.proofs.Readers.{SoFar, at_start, goes, done, wrong, too_deep, done_at_end, wrong_at_end, TypeSoFar, type_at_start, type_goes, type_done, type_wrong, type_too_deep, type_done_at_end, type_wrong_at_end}
use Rattle.ab_language_laws.specs.TextAnswers.{HasAnswer}
use Rattle.ab_language_laws.proofs.Outcomes.{Total}
use Rattle.ab_language_laws.proofs.Walk.{walk, answer}

pub expression_found : Total Expression Followed
expression_found ks = walk step finish Expression SoFar goes done wrong too_deep done_at_end wrong_at_end ks ks start outside (at_start ks)

pub type_found : Total TypeExpression Followed
type_found ks = walk type_step type_finish TypeExpression TypeSoFar type_goes type_done type_wrong type_too_deep type_done_at_end type_wrong_at_end ks ks type_start outside (type_at_start ks)

pub expression_answer : (ts : List Token) → HasAnswer Expression ts
expression_answer = answer Expression expression_found

pub type_answer : (ts : List Token) → HasAnswer TypeExpression ts
type_answer = answer TypeExpression type_found

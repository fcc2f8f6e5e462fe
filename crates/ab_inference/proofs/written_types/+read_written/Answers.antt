use Rattle.std.proofs.Common.{sym, ◌∙◌, ap, subst, refl}
use Rattle.std.specs.Prelude.{Ok, ◌&&◌}
use Rattle.ab_syntax.specs.ab_expressions.specs.SyntaxTrees as trees
use Rattle.ab_inference.specs.WrittenTypes.{WrittenAnswers}
use Rattle.ab_inference.proofs.Tables.{still_held, same_kinds, same_constants}
use Rattle.ab_inference.proofs.WrittenTyping.{type_base, arrow_whole, arrow_answer}
use Rattle.ab_inference.proofs.written_types.+read_written.Goals as goal

pub arrow-requires-clause-from_held : goal.arrow-requires-clause-from_held
arrow-requires-clause-from_held t c =
    still_held c.read_written.new.types c.read_written-in-Arrow.new.types c.read_written-in-Arrow.ensures.kept c.in-Ok.from.ty (c.in-Ok.ensures.answer.1).held

pub returns-in-Base-clause-answer : goal.returns-in-Base-clause-answer
returns-in-Base-clause-answer t c =
    subst (λ w. WrittenAnswers c.args.types.now c.read_kind-read.new.types w c.read_kind-read.result) (sym (ap trees.type_of c.in-Base.is ∙ type_base c.in-Base.name c.in-Base.field-1))
    (c.read_kind-read.ensures.answer c.in-Base.field-1)

pub returns-in_ok-ty-in-Arrow-clause-answer : goal.returns-in_ok-ty-in-Arrow-clause-answer
returns-in_ok-ty-in-Arrow-clause-answer t c =
    let k = c.in_ok-ty-in-Arrow in
    subst (λ w. WrittenAnswers c.args.types.now c.arrow.new.self w (Ok (record { ty = k.ty; is_free = c.in-Ok.from.is_free && c.in-Ok-read_written.to.is_free; is_declarable = c.in-Ok.from.is_free && c.in-Ok-read_written.to.is_declarable })))
    (sym (arrow_whole c.args.parse.now c.deref.result.now c.deref-in-Arrow.result.now c.in-Arrow.from c.in-Arrow.to c.in-Arrow.is c.deref.ensures c.deref-in-Arrow.ensures))
    (arrow_answer c.args.types.now c.read_written.new.types c.read_written-in-Arrow.new.types c.arrow.new.self (trees.type_of c.deref.result.now) (trees.type_of c.deref-in-Arrow.result.now) c.in-Ok.from c.in-Ok-read_written.to k.ty
    c.in-Ok.ensures.answer c.in-Ok-read_written.ensures.answer c.read_written.ensures.kinds c.read_written-in-Arrow.ensures.kept k.ensures.held k.ensures.id _ _ refl refl)

pub returns-in_ok-ty-in-Arrow-clause-kinds : goal.returns-in_ok-ty-in-Arrow-clause-kinds
returns-in_ok-ty-in-Arrow-clause-kinds t c = same_kinds _ c.arrow.new.self _ c.in_ok-ty-in-Arrow.ensures.entries ∙ (c.read_written-in-Arrow.ensures.kinds ∙ c.read_written.ensures.kinds)

pub returns-in_ok-ty-in-Arrow-clause-constants : goal.returns-in_ok-ty-in-Arrow-clause-constants
returns-in_ok-ty-in-Arrow-clause-constants t c = same_constants _ c.arrow.new.self _ c.in_ok-ty-in-Arrow.ensures.entries ∙ (c.read_written-in-Arrow.ensures.constants ∙ c.read_written.ensures.constants)

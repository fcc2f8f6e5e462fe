use Rattle.std.proofs.Common.{refl, ◌∙◌, sym, ap}
use Rattle.ab_meaning.specs.Types.{written_type}
use Rattle.ab_syntax.specs.ab_expressions.specs.SyntaxTrees as trees
use Rattle.ab_inference.proofs.WrittenTyping.{arrow_whole}
use Rattle.ab_declare.proofs.Ending.{arrow_ends}
use Rattle.ab_declare.proofs.predicates.+ends_in_prop.Goals as goal

pub returns-in-Arrow : goal.returns-in-Arrow
returns-in-Arrow t c = λ kinds A e.
    let whole = arrow_whole c.args.parse.now c.in-Arrow.field-0.value c.deref.result.now c.in-Arrow.field-0 c.in-Arrow.to c.in-Arrow.is refl c.deref.ensures in
    arrow_ends kinds (trees.type_of c.in-Arrow.field-0.value) (trees.type_of c.deref.result.now) A c.ends_in_prop.result (sym (ap (written_type kinds) whole) ∙ e) (c.ends_in_prop.ensures kinds)

use Rattle.ab_grammar.proofs.Rows.{name_and}
use Rattle.ab_expressions.specs.Kinds.{key_of}
use Rattle.ab_expressions.specs.Reader.{rest}
use Rattle.ab_syntax.proofs.Passing.{closed_found}
use Rattle.ab_syntax.proofs.part.name_and.Goals as goal

pub returns : goal.returns
returns c =
    let key = key_of c.args.key in
    closed_found key (name_and key) (λ x. x) (rest c.args.text.now c.args.here.now) _ _ c.take-name.result c.close_part.result c.take-name.ensures c.close_part.ensures

use Rattle.ab_search_answers.proofs.Derived.{printed_sequent, printed_derived}
use Rattle.ab_search_answers.proofs.laws.printed_answers_are_derived.Goals as goal

pub returns : goal.returns
returns c = λ D cells depth s E ls last sentences defs program has defined is are unmarked none given named asks l m.
    let whole = printed_derived D sentences defs program has defined none cells depth s is are unmarked given named E asks ls l last m in
    (printed_sequent D sentences defs program has defined none cells depth s is are unmarked given named E asks ls l last m, whole.0, whole.1)

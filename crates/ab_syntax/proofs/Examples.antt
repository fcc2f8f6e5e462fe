-- A text of each form that stands behind a key.
use Rattle.std.proofs.Common.{[], ◌∷◌, ◌++◌, codes}
use Rattle.ab_grammar.specs.Token.{word, right_paren}
use Rattle.ab_grammar.specs.Nesting.{lone}
use Rattle.ab_grammar.specs.Language.{Key, the_key}
use Rattle.ab_grammar.specs.CommandForms.{One, joined, no_more, OneOrMore, ◌▸◌}
use Rattle.ab_grammar.specs.CommandTable.{ShowsArgument, Word}
use Rattle.ab_grammar.proofs.Joining.{Example}
use Rattle.ab_grammar.proofs.Shown.{argument_example, placed_example}

pub some_argument : Example (OneOrMore (One ShowsArgument))
some_argument =
    let a = argument_example in
    record { spots = a.spots ++ []; value = a.value ∷ []; text = joined (a.text) no_more }

pub a_keep : Example (Word (codes "keep") ▸ Key right_paren)
a_keep =
    let k = placed_example (word (codes "keep")) in
    record { spots = k.spots ++ lone right_paren ∷ []; value = tt; text = joined (k.text) the_key }

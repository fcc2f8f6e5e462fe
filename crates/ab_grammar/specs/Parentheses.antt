-- A text without its parentheses, in which reserved words are words like others: what two texts of one tree have in common.
use Rattle.std.specs.Prelude.{List, [], ◌∷◌}
use Rattle.ab_grammar.specs.Token.{Token, word, truth, pi_word, left_paren, right_paren}

abbrev pub spelled : Token → Token
spelled (truth x p) = word x p
spelled (pi_word p) = word (112 ∷ 105 ∷ []) p
spelled k = k

abbrev pub without_parentheses : List Token → List Token
without_parentheses [] = []
without_parentheses (left_paren ∷ ks) = without_parentheses ks
without_parentheses (right_paren ∷ ks) = without_parentheses ks
without_parentheses (k ∷ ks) = spelled k ∷ without_parentheses ks

-- The tokens that the grammar speaks of: words, reserved words, numbers, quoted texts and signs.
-- A token with which a tree can begin carries its place, in bytes.
use Rattle.std.specs.Prelude.{ℕ, List}
use Rattle.ab_grammar.specs.declared.Infix.{Infix}
use Rattle.ab_grammar.specs.declared.Quant.{Quant}

-- what stands in no expression and in no type
pub data Other : Type 0 where
  stop : Other  -- .
  semicolon : Other  -- ;
  becomes : Other  -- :=
  from : Other  -- :-
  star : Other  -- *
  back : Other  -- #back
  reset : Other  -- #reset
  by_word : Other  -- the reserved words by, to, with, on, type
  to_word : Other
  with_word : Other
  on_word : Other
  type_word : Other
  number : ℕ → Other  -- a number of at most nine digits, and its value
  text : List ℕ → Other  -- a quoted text, without its quotes
  unusable : Other  -- a longer number, or a quoted text with a byte that it may not hold: no form has it

pub data Token : Type 0 where
  word : List ℕ → ℕ → Token  -- a word that isn't reserved
  truth : List ℕ → ℕ → Token  -- true, false
  quantifier : Quant → ℕ → Token  -- forall, exists, nabla
  pi_word : ℕ → Token  -- pi
  sign : Infix → Token  -- -> \/ /\ = => & ::
  left_paren : Token
  right_paren : Token
  left_brace : ℕ → Token
  right_brace : Token
  left_bracket : Token
  right_bracket : Token
  turnstile : Token  -- |-
  backslash : Token
  comma : Token
  colon : Token
  other : Other → Token

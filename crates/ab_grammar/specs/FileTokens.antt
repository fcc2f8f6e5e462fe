-- The tokens of one item of a specification file, as its forms see them: a comma in parentheses says what `&` says, in the goals
-- of a clause. And how a file's tokens are divided into its title and its items.
use Rattle.std.specs.Prelude.{List, [], ◌∷◌, Bool, true, false, if◌then◌else◌, ◌&&◌, not}
use Rattle.ab_grammar.specs.declared.Infix.TheVariants.{With}
use Rattle.ab_grammar.specs.declared.file.FileKind.{FileKind}
use Rattle.ab_grammar.specs.declared.file.FileKind.TheVariants.{Signature, Module}
use Rattle.ab_grammar.specs.Token.{Token, quantifier, sign, left_paren, right_paren, left_brace, right_brace, left_bracket, right_bracket, comma, colon, other, stop, from}

-- an open bracket, or what is outside all: whether it is a parenthesis, and whether the names of binders are being read in it
pub record Open : Type 0 where
  pub parenthesis : Bool
  pub naming : Bool

abbrev pub naming_in : Bool → List Open → List Open
naming_in b [] = []
naming_in b (o ∷ os) = record { parenthesis = o.parenthesis; naming = b } ∷ os

-- a bracket that opens among binders holds a binder
abbrev pub inner : Bool → List Open → List Open
inner b [] = []
inner b (o ∷ os) = record { parenthesis = b; naming = o.naming } ∷ o ∷ os

-- a bracket that closes, where one is open
abbrev pub outer : List Open → List Open
outer (o ∷ p ∷ os) = p ∷ os
outer os = os

-- the brackets that are open behind a token, the innermost first
abbrev pub opened : List Open → Token → List Open
opened os (quantifier q p) = naming_in true os
opened os comma = naming_in false os
opened os colon = naming_in false os
opened os left_paren = inner true os
opened os (left_brace p) = inner false os
opened os left_bracket = inner false os
opened os right_paren = outer os
opened os right_brace = outer os
opened os right_bracket = outer os
opened os k = os

-- A COMMA OF GOALS stands where the innermost open bracket is a parenthesis, and no binder's names stand before it
abbrev pub joins_goals : List Open → Bool
joins_goals [] = false
joins_goals (o ∷ os) = o.parenthesis && not o.naming

abbrev pub goal_token : List Open → Token → Token
goal_token os comma = if joins_goals os then sign With else comma
goal_token os k = k

abbrev pub goal_tokens : List Open → List Token → List Token
goal_tokens os [] = []
goal_tokens os (k ∷ ks) = goal_token os k ∷ goal_tokens (opened os k) ks

abbrev pub outside : List Open
outside = record { parenthesis = false; naming = false } ∷ []

-- goals stand behind `:-`
abbrev pub clause_tokens : List Token → List Token
clause_tokens [] = []
clause_tokens (other from ∷ ks) = other from ∷ goal_tokens outside ks
clause_tokens (k ∷ ks) = k ∷ clause_tokens ks

-- THE TOKENS OF AN ITEM, as the forms of its file's items see them
abbrev pub item_tokens : FileKind → List Token → List Token
item_tokens Signature ks = ks
item_tokens Module ks = clause_tokens ks

-- A SENTENCE of a file is its title or an item: the tokens up to the first full stop and with it, or all where there is none
abbrev pub sentence : List Token → List Token
sentence [] = []
sentence (other stop ∷ ks) = other stop ∷ []
sentence (k ∷ ks) = k ∷ sentence ks

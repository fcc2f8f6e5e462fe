-- What may stand behind a part of a text, as the readers of the parts ask: where a part ends is known by what comes next.
-- No public contract speaks of it.
use Rattle.std.specs.Prelude.{◌≡◌, List, [], ◌∷◌, ◌++◌, Option, Some, None, ◌⊎◌}
use Rattle.ab_grammar.specs.Token.{Token, other, Other, stop, semicolon, to_word, with_word, right_paren, right_brace, right_bracket, turnstile, comma, colon}
use Rattle.ab_grammar.specs.Nesting.{Spot}
use Rattle.ab_grammar.specs.Language.{tokens_of}

-- the next token, if there is one
abbrev pub first : List Token → Option Token
first [] = None
first (k ∷ ks) = Some k

-- tokens of which this one is the next; none where there is no next one
abbrev pub led_by : Option Token → List Token → List Token
led_by None zs = []
led_by (Some k) zs = k ∷ zs

-- what stands behind a text of G, where a text of H and then what F says come next
pub data Follow {B : Type 0} (H : List Spot → B → Type 0) (F : List Token → Type 0) : List Token → Type 0 where
  follow : {vs : List Spot} {r : List Token} {b : B} → H vs b → F r → Follow H F (tokens_of vs ++ r)

abbrev pub Anything : List Token → Type 0
Anything r = Unit {0}

-- what can stand behind a whole expression and behind a whole type, and continues none: nothing at all, or one of these tokens
pub data Follower : Option Token → Type 0 where
  by_end : Follower None
  by_right_paren : Follower (Some right_paren)
  by_right_brace : Follower (Some right_brace)
  by_right_bracket : Follower (Some right_bracket)
  by_turnstile : Follower (Some turnstile)
  by_comma : Follower (Some comma)
  by_colon : Follower (Some colon)
  by_other : (o : Other) → Follower (Some (other o))

abbrev pub Followed : List Token → Type 0
Followed r = Follower (first r)

-- what comes next: this token; another one, or none; one that shows this value; none that shows a value
abbrev pub Comes : Token → List Token → Type 0
Comes k r = first r ≡ Some k

abbrev pub Except : Token → List Token → Type 0
Except k r = first r ≡ Some k → ⊥

abbrev pub Showing : {A : Type 0} → (Token → A → Type 0) → A → List Token → Type 0
Showing Shows a r = (k : Token) × (first r ≡ Some k) × Shows k a

abbrev pub Without : {A : Type 0} → (Token → A → Type 0) → List Token → Type 0
Without {A} Shows r = (k : Token) (a : A) → first r ≡ Some k → Shows k a → ⊥

-- a command's part is followed by its full stop
abbrev pub BeforeStop : List Token → Type 0
BeforeStop = Comes (other stop)

-- a clause ends before a semicolon or a full stop
abbrev pub ClauseEnds : List Token → Type 0
ClauseEnds r = (Comes (other semicolon) r) ⊎ BeforeStop r

-- the depth of `Query` ends before `to` or a full stop
abbrev pub DepthEnds : List Token → Type 0
DepthEnds r = (Comes (other to_word) r) ⊎ BeforeStop r

-- the arguments of `apply` end before `with` or a full stop
abbrev pub ArgumentsEnd : List Token → Type 0
ArgumentsEnd r = (Comes (other with_word) r) ⊎ BeforeStop r

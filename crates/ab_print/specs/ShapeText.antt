-- The text of a shape: its parts in order, with the parentheses that the grammar's levels ask for. One definition
-- gives the bytes and the tokens, by what it is told to put down for each part.
use Rattle.std.specs.Prelude.{ℕ, List, [], ◌∷◌, ◌++◌, Bool, true, false, ◌&&◌, ◌||◌, if◌then◌else◌, nat_lt, codes}
use Rattle.ab_grammar.specs.declared.Infix.TheVariants.{Arrow, Or, And, Equal, Imply, With, Cons}
use Rattle.ab_grammar.specs.declared.Quant.TheVariants.{Forall, Exists, Nabla}
use Rattle.ab_grammar.specs.Token as token
use Rattle.ab_grammar.specs.Token.{Token, quantifier, pi_word, sign, left_paren, right_paren, left_brace, right_brace, left_bracket, right_bracket, turnstile, backslash, comma}
use Rattle.ab_grammar.specs.Grammar.{level, left, right}
use Rattle.ab_print.specs.Shapes.{Shape, word, truth, empty, applied, abstraction, join, bind, pi, judge, focus, marked, broken, Shapes, no_shapes, shape, is_none}

-- a token; the space before a bound name or an argument; a size mark, which the grammar doesn't have
pub data Part : Type 0 where
  sees : Token → Part
  space : Part
  mark : List ℕ → Part

-- a name and a reserved word that is a formula, as tokens, whose places don't matter here
abbrev pub name_part : List ℕ → Part
name_part x = sees (token.word x 0)

abbrev pub truth_part : List ℕ → Part
truth_part x = sees (token.truth x 0)

-- whether it is a quantifier or an abstraction, which reaches as far right as it can
abbrev pub reaches_far : Shape → Bool
reaches_far (abstraction x s) = true
reaches_far (bind q xs s) = true
reaches_far _ = false

-- the level at which the grammar has it
abbrev pub level_of : Shape → ℕ
level_of (join o s u) = level o
level_of (applied f ss) = 8
level_of (pi x s) = 8
level_of (marked m s) = 8
level_of _ = 9

-- Whether a shape stands in parentheses where an expression of this level is asked. What reaches far needs none
-- where it is the last: where a closing bracket or the end follows.
abbrev pub is_enclosed : ℕ → Bool → Shape → Bool
is_enclosed l last s = if reaches_far s then (if last then false else true) else nat_lt (level_of s) l

-- a mark stands behind an atom after a space, behind a judgement at once
abbrev pub behind : Shape → List ℕ → List ℕ
behind (judge cs g) m = m
behind (focus cs f g) m = m
behind _ m = codes " " ++ m

module _ {A : Type 0} (put : Part → List A) where
  abbrev pub enclosed : Bool → List A → List A
  enclosed needed text = if needed then (put (sees left_paren) ++ (text ++ put (sees right_paren))) else text

  -- a shape where an expression of this level is asked, in parentheses where they are needed; within, a bracket closes
  abbrev pub placed : ℕ → Bool → Shape → (Bool → List A) → List A
  placed l last s text = enclosed (is_enclosed l last s) (text (is_enclosed l last s || last))

  -- bound names, each behind a space
  abbrev pub bound : List (List ℕ) → List A
  bound [] = []
  bound (x ∷ xs) = put space ++ (put (name_part x) ++ bound xs)

  -- a shape without parentheses around it; `last` as above
  abbrev mutual
    pub bare : Shape → Bool → List A
    bare (word x) last = put (name_part x)
    bare (truth x) last = put (truth_part x)
    bare empty last = put (name_part (codes "nil"))
    bare (applied f ss) last = put (name_part f) ++ arguments ss last
    bare (abstraction x s) last = put (name_part x) ++ (put (sees backslash) ++ bare s true)
    bare (join o s u) last = placed (left o) false s (bare s) ++ (put (sees (sign o)) ++ placed (right o) last u (bare u))
    bare (bind q xs s) last = put (sees (quantifier q 0)) ++ (bound xs ++ (put (sees comma) ++ bare s true))
    bare (pi x s) last = put (sees (pi_word 0)) ++ enclosed (if last then false else true) (put (name_part x) ++ (put (sees backslash) ++ bare s true))
    bare (judge cs g) last = put (sees (left_brace 0)) ++ (context cs ++ (bare g true ++ put (sees right_brace)))
    bare (focus cs f g) last = put (sees (left_brace 0)) ++ (items cs ++ (put (sees left_bracket) ++ (bare f true ++ (put (sees right_bracket) ++ (put (sees turnstile) ++ (bare g true ++ put (sees right_brace)))))))
    bare (marked m s) last = placed 8 false s (bare s) ++ put (mark (behind s m))
    bare broken last = []

    -- arguments, each behind a space
    pub arguments : Shapes → Bool → List A
    arguments no_shapes last = []
    arguments (shape s ss) last = put space ++ (placed 9 (is_none ss && last) s (bare s) ++ arguments ss last)

    -- the items of a judgement's list, and the turnstile behind them; nothing where there is none
    pub context : Shapes → List A
    context no_shapes = []
    context (shape c cs) = placed 1 false c (bare c) ++ further cs

    pub further : Shapes → List A
    further no_shapes = put (sees turnstile)
    further (shape c cs) = put (sees comma) ++ (placed 1 false c (bare c) ++ further cs)

    -- items, each with its comma
    pub items : Shapes → List A
    items no_shapes = []
    items (shape c cs) = placed 1 false c (bare c) ++ (put (sees comma) ++ items cs)

  -- a shape by itself: the end follows
  abbrev pub whole : Shape → List A
  whole s = bare s true

-- signs have a space on both sides, commas and backslashes one behind
abbrev pub token_bytes : Token → List ℕ
token_bytes (token.word x p) = x
token_bytes (token.truth x p) = x
token_bytes (quantifier Forall p) = codes "forall"
token_bytes (quantifier Exists p) = codes "exists"
token_bytes (quantifier Nabla p) = codes "nabla"
token_bytes (pi_word p) = codes "pi "
token_bytes (sign Arrow) = codes " -> "
token_bytes (sign Or) = codes " \\/ "
token_bytes (sign And) = codes " /\\ "
token_bytes (sign Equal) = codes " = "
token_bytes (sign Imply) = codes " => "
token_bytes (sign With) = codes " & "
token_bytes (sign Cons) = codes " :: "
token_bytes left_paren = codes "("
token_bytes right_paren = codes ")"
token_bytes (left_brace p) = codes "{"
token_bytes right_brace = codes "}"
token_bytes left_bracket = codes "["
token_bytes right_bracket = codes "]"
token_bytes turnstile = codes " |- "
token_bytes backslash = codes "\\ "
token_bytes comma = codes ", "
token_bytes k = []

abbrev pub part_bytes : Part → List ℕ
part_bytes (sees k) = token_bytes k
part_bytes space = codes " "
part_bytes (mark m) = m

abbrev pub part_tokens : Part → List Token
part_tokens (sees k) = k ∷ []
part_tokens space = []
part_tokens (mark m) = []

-- THE BYTES that are printed of a shape
abbrev pub bytes : Shape → List ℕ
bytes = whole part_bytes

-- its tokens, as the grammar has them: without marks
abbrev pub tokens : Shape → List Token
tokens = whole part_tokens

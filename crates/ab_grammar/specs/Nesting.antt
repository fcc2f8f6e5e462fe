-- Nesting, as a number at each token of an expression or a type, by the tokens alone: the brackets that are open behind it,
-- and the binders' names and infix signs up to it that stand in an open bracket or outside all brackets.
-- The name of an abstraction is known for one only by the backslash behind it, and so is counted there.
use Rattle.std.specs.Prelude.{ℕ, suc, ◌+◌, ◌-◌, ◌≤◌, List, [], ◌∷◌, drop, Bool, true, false, cond, if◌then◌else◌}
use Rattle.ab_grammar.specs.Token.{Token, word, quantifier, sign, left_paren, right_paren, left_brace, right_brace, left_bracket, right_bracket, backslash, comma, colon}

-- an open bracket, or what is outside all: the names and signs counted in it so far, and whether a word here is a binder's name
pub record Layer : Type 0 where
  pub count : ℕ
  pub naming : Bool

abbrev pub counted : Layer → Layer
counted l = record { count = suc l.count; naming = l.naming }

abbrev pub naming_in : Bool → Layer → Layer
naming_in b l = record { count = l.count; naming = b }

-- a bracket that opens among binders holds a binder
abbrev pub opened : Layer → Layer
opened l = record { count = 0; naming = l.naming }

-- a bracket that closes, where one is open
abbrev pub closed : List Layer → List Layer
closed (l ∷ m ∷ ls) = m ∷ ls
closed ls = ls

-- the layers behind a token, the innermost first
abbrev pub nest : List Layer → Token → List Layer
nest [] k = []
nest (l ∷ ls) (word x p) = cond l.naming (counted l) l ∷ ls
nest (l ∷ ls) (sign o) = counted l ∷ ls
nest (l ∷ ls) backslash = counted l ∷ ls
nest (l ∷ ls) (quantifier q p) = naming_in true l ∷ ls
nest (l ∷ ls) comma = naming_in false l ∷ ls
nest (l ∷ ls) colon = naming_in false l ∷ ls
nest (l ∷ ls) left_paren = opened l ∷ l ∷ ls
nest (l ∷ ls) (left_brace p) = opened l ∷ l ∷ ls
nest (l ∷ ls) left_bracket = opened l ∷ l ∷ ls
nest (l ∷ ls) right_paren = closed (l ∷ ls)
nest (l ∷ ls) right_brace = closed (l ∷ ls)
nest (l ∷ ls) right_bracket = closed (l ∷ ls)
nest (l ∷ ls) k = l ∷ ls

abbrev pub outside : List Layer
outside = record { count = 0; naming = false } ∷ []

abbrev pub depth_of : List Layer → ℕ
depth_of [] = 0
depth_of (l ∷ []) = l.count
depth_of (l ∷ m ∷ ls) = suc (l.count + depth_of (m ∷ ls))

-- a token with the nesting at it
pub record Spot : Type 0 where
  pub token : Token
  pub depth : ℕ

abbrev pub spots_from : List Layer → List Token → List Spot
spots_from ls [] = []
spots_from ls (k ∷ ks) = record { token = k; depth = depth_of (nest ls k) } ∷ spots_from (nest ls k) ks

abbrev pub spots : List Token → List Spot
spots = spots_from outside

-- a token that is in no expression and in no type
abbrev pub lone : Token → Spot
lone k = record { token = k; depth = 0 }

abbrev pub limit : ℕ
limit = 200

abbrev pub IsShallow : Spot → Type 0
IsShallow s = s.depth ≤ limit

-- whether the first of some tokens is a backslash
abbrev pub begins_with_backslash : List Token → Bool
begins_with_backslash (backslash ∷ ks) = true
begins_with_backslash ks = false

-- the token that is told where the i-th is refused for its depth: itself, or at a backslash the name in front of it
abbrev pub blamed : List Token → ℕ → ℕ
blamed ks i = if begins_with_backslash (drop i ks) then i - 1 else i

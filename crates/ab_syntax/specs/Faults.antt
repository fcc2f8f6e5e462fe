-- The place that a refusal names.
use Rattle.std.specs.Prelude.{◌≡◌, ◌⊎◌, ℕ, zero, suc, ◌-◌, List, [], ◌∷◌, length}
use Rattle.ab_lex.specs.declared.token.Token.{Token as Lexed}
use Rattle.ab_grammar.specs.Token.{Token}
use Rattle.ab_grammar.specs.Nesting.{blamed}
use Rattle.ab_grammar.specs.CommandTable.{ShowsLabel}
use Rattle.ab_expressions.specs.Tokens.{origin_of, tokens_from}

-- where the i-th of some tokens begins, counted from the origin; where there is none, the end
abbrev pub place_from : ℕ → ℕ → List Lexed → ℕ → ℕ
place_from end origin [] i = end
place_from end origin (t ∷ ts) zero = t.span.start - origin
place_from end origin (t ∷ ts) (suc i) = place_from end origin ts i

-- the place of the i-th token; behind them all, the number of the bytes
abbrev pub place_past : List ℕ → ℕ → List Lexed → ℕ → ℕ
place_past bytes origin ts = place_from (length bytes) origin ts

-- the same, from the first byte of the first token
abbrev pub fault_place : List ℕ → List Lexed → ℕ → ℕ
fault_place bytes ts = place_past bytes (origin_of ts) ts

-- the place of the token that is told to be nested too deeply
abbrev pub nested_from : List ℕ → ℕ → List Lexed → ℕ → ℕ
nested_from bytes origin ts i = place_past bytes origin ts (blamed (tokens_from bytes origin ts) i)

abbrev pub nested_place : List ℕ → List Lexed → ℕ → ℕ
nested_place bytes ts = nested_from bytes (origin_of ts) ts

-- the tokens are refused behind a first word with which no command begins, where no colon is
abbrev pub IsWordAlone : List Token → ℕ → Type 0
IsWordAlone [] i = ⊥
IsWordAlone (k ∷ ks) i = (i ≡ 1) × ((x : List ℕ) × ShowsLabel k x)

-- the token that is told to be no command: that first word, or the one at which they are refused
abbrev pub IsTold : List Token → ℕ → ℕ → Type 0
IsTold ks i j = (IsWordAlone ks i × (j ≡ 0)) ⊎ ((IsWordAlone ks i → ⊥) × (j ≡ i))

-- its place
abbrev pub IsCommandPlaceFrom : List ℕ → ℕ → List Lexed → ℕ → ℕ → Type 0
IsCommandPlaceFrom bytes origin ts i place = (j : ℕ) × IsTold (tokens_from bytes origin ts) i j × (place ≡ place_past bytes origin ts j)

abbrev pub IsCommandPlace : List ℕ → List Lexed → ℕ → ℕ → Type 0
IsCommandPlace bytes ts = IsCommandPlaceFrom bytes (origin_of ts) ts

-- What the reader's own functions say of tokens and of their answers. No public contract speaks of it.
use Rattle.std.specs.Prelude.{◌≡◌, ◌≢◌, ℕ, ◌-◌, List, [], ◌∷◌, map, drop, Bool, true, false, Some, Result, Ok, Err}
use Rattle.ab_lex.specs.declared.token.Token.{Token as Lexed}
use Rattle.ab_grammar.specs.Token.{Token, word, other, stop}
use Rattle.ab_grammar.specs.Nesting.{Spot}
use Rattle.ab_grammar.specs.Language.{Key}
use Rattle.ab_grammar.specs.CommandTable.{StandsAnywhere, Word}
use Rattle.ab_grammar.proofs.Following.{Anything, Showing, Without, first}
use Rattle.ab_grammar.proofs.Reading.{ReadsOff, RefusesAt, ungrammatical, too_nested}
use Rattle.ab_expressions.specs.declared.located_tokens.Seen.{Seen}
use Rattle.ab_expressions.specs.declared.text.Text.{Text}
use Rattle.ab_expressions.specs.declared.stop.Stop.{Stop}
use Rattle.ab_expressions.specs.declared.stop.Stop.TheVariants.{Syntax, TooNested, Memory}
use Rattle.ab_expressions.specs.Tokens.{tokens_from}
use Rattle.ab_expressions.specs.Kinds.{meaning}

-- the token that was seen
abbrev pub seen : Seen → Token
seen s = meaning s.kind s.written.now s.place

-- where a token stands
abbrev pub place_of : ℕ → Lexed → ℕ
place_of origin t = t.span.start - origin

-- these are the tokens, as they were seen
abbrev pub AreSeen : List ℕ → ℕ → List Lexed → List Seen → Type 0
AreSeen bytes origin ts ss = (map seen ss ≡ tokens_from bytes origin ts) × (map (λ s. s.place) ss ≡ map (place_of origin) ts)

-- the tokens from the i-th on
abbrev pub rest : Text → ℕ → List Token
rest t i = map seen (drop i t.tokens.now)

-- the next token; behind them all a full stop, with which no expression and no type goes on
abbrev pub next_or_stop : List Token → Token
next_or_stop [] = other stop
next_or_stop (k ∷ ks) = k

-- why a part was not read, and where; want of memory says nothing
abbrev pub Refused : {A : Type 0} → (List Spot → A → Type 0) → (List Token → Type 0) → Stop → List Token → List Token → Type 0
Refused G F Syntax ks ms = RefusesAt G F ungrammatical ks ms
Refused G F TooNested ks ms = RefusesAt G F too_nested ks ms
Refused G F (Memory e) ks ms = Unit {0}

-- a reader of G, from ks on, answers so, and ms comes next
abbrev pub Found : {A X : Type 0} → (List Spot → A → Type 0) → (List Token → Type 0) → (X → A) → List Token → List Token → Result X Stop → Type 0
Found G F value ks ms (Ok x) = ReadsOff G F ks (value x) ms
Found G F value ks ms (Err s) = Refused G F s ks ms

-- the key was taken behind a part, if that was read
abbrev pub IsClosedBy : {X : Type 0} → Token → List Token → List Token → Result X Stop → Result X Stop → Type 0
IsClosedBy k ks ms (Err s) r = (r ≡ Err s) × (ms ≡ ks)
IsClosedBy k ks ms (Ok x) (Ok y) = (y ≡ x) × ReadsOff (Key k) Anything ks tt ms
IsClosedBy k ks ms (Ok x) (Err s) = Refused (Key k) Anything s ks ms

-- whether the key was taken: it was the next token, or it was not and all is left
abbrev pub IsTaken : Token → List Token → List Token → Bool → Type 0
IsTaken k ks ms true = ks ≡ k ∷ ms
IsTaken k ks ms false = (first ks ≢ Some k) × (ms ≡ ks)

-- whether the word was taken: it was the next token, or it was not and all is left
abbrev pub IsWordTaken : List ℕ → List Token → List Token → Bool → Type 0
IsWordTaken x ks ms true = Showing (StandsAnywhere (word x)) tt ks × ReadsOff (Word x) Anything ks tt ms
IsWordTaken x ks ms false = Without (StandsAnywhere (word x)) ks × (ms ≡ ks)

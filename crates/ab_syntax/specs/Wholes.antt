-- What the readers of whole texts say of their answers, before a place is told in bytes. No public contract speaks of it.
use Rattle.std.specs.Prelude.{◌≡◌, ◌≢◌, ℕ, List, [], map, length, get_or, min, Result, Ok, Err}
use Rattle.ab_grammar.specs.Token.{Token}
use Rattle.ab_grammar.specs.Nesting.{Spot, blamed}
use Rattle.ab_grammar.specs.Language.{Accepted, SyntaxAt, TooNestedAt}
use Rattle.ab_expressions.specs.declared.text.Text.{Text}
use Rattle.ab_expressions.specs.declared.stop.Stop.{Stop}
use Rattle.ab_expressions.specs.declared.stop.Stop.TheVariants.{Syntax, TooNested, Memory}
use Rattle.ab_expressions.specs.declared.fault.ParseFault.{ParseFault}
use Rattle.ab_expressions.specs.declared.fault.ParseFault.TheVariants as fault
use Rattle.ab_expressions.specs.Reader.{rest}

-- why the tokens are no text of G, where the i-th was the next
abbrev pub Tells : {A : Type 0} → (List Spot → A → Type 0) → List Token → ℕ → Stop → Type 0
Tells G ts i Syntax = SyntaxAt G ts (min i (length ts))
Tells G ts i TooNested = TooNestedAt G ts i
Tells G ts i (Memory e) = Unit {0}

-- what a reader of the tokens, as a text of G, answers
abbrev pub Answers : {A X : Type 0} → (List Spot → A → Type 0) → (X → A) → List Token → ℕ → Result X Stop → Type 0
Answers G value ts i (Ok x) = Accepted G ts (value x)
Answers G value ts i (Err s) = Tells G ts i s

-- where the i-th token stands; behind them all, the end
abbrev pub place_in : Text → ℕ → ℕ
place_in t i = get_or (map (λ s. s.place) t.tokens.now) i t.end

-- a part that was read is all, if nothing is left
abbrev pub IsComplete : {X : Type 0} → List Token → Result X Stop → Result X Stop → Type 0
IsComplete ks (Err s) r = r ≡ Err s
IsComplete ks (Ok x) (Ok y) = (y ≡ x) × (ks ≡ [])
IsComplete ks (Ok x) (Err s) = (s ≡ Syntax) × (ks ≢ [])

-- the fault that is told, where the i-th token is the next; where the text isn't in the form, it is at the j-th
abbrev pub fault_of : Text → ℕ → ℕ → Stop → ParseFault
fault_of t i j Syntax = fault.Syntax (place_in t j)
fault_of t i j TooNested = fault.TooNested (place_in t (blamed (rest t 0) i))
fault_of t i j (Memory e) = fault.Memory e

abbrev pub told_by : {X : Type 0} → (Stop → ParseFault) → Result X Stop → Result X ParseFault
told_by f (Ok x) = Ok x
told_by f (Err s) = Err (f s)

-- what is told of a part that was read up to the i-th token
abbrev pub IsAnswer : {X : Type 0} → Text → ℕ → ℕ → Result X Stop → Result X ParseFault → Type 0
IsAnswer {X = X} t i j part r = (q : Result X Stop) × IsComplete (rest t i) part q × (r ≡ told_by (fault_of t i j) q)

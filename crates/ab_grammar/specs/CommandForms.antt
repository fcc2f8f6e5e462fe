-- How the form of a command is put together from smaller ones: tokens that show a value, one form behind another,
-- a form that may be left out, and one that is repeated.
use Rattle.std.specs.Prelude.{List, [], ◌∷◌, ◌++◌}
use Rattle.ab_grammar.specs.Token.{Token}
use Rattle.ab_grammar.specs.Nesting.{Spot, lone}

abbrev pub Form : Type 0 → Type 1
Form A = List Spot → A → Type 0

-- one token, of those that show a value
pub data One {A : Type 0} (Shows : Token → A → Type 0) : List Spot → A → Type 0 where
  one : {k : Token} {a : A} → Shows k a → One Shows (lone k ∷ []) a

-- nothing at all
pub data Nothing : List Spot → Unit {0} → Type 0 where
  nothing : Nothing [] tt

-- a text of G, then one of H; f makes the value
pub data Joined {A B C : Type 0} (f : A → B → C) (G : List Spot → A → Type 0) (H : List Spot → B → Type 0) : List Spot → C → Type 0 where
  joined : {us vs : List Spot} {a : A} {b : B} → G us a → H vs b → Joined f G H (us ++ vs) (f a b)

-- a text of G; f makes the value
pub data Valued {A B : Type 0} (f : A → B) (G : List Spot → A → Type 0) : List Spot → B → Type 0 where
  valued : {us : List Spot} {a : A} → G us a → Valued f G us (f a)

-- a text of G, or nothing, which has the value given
pub data Optional {A : Type 0} (absent : A) (G : List Spot → A → Type 0) : List Spot → A → Type 0 where
  left_out : Optional absent G [] absent
  present : {us : List Spot} {a : A} → G us a → Optional absent G us a

-- any number of texts of G
pub data Many {A : Type 0} (G : List Spot → A → Type 0) : List Spot → List A → Type 0 where
  no_more : Many G [] []
  one_more : {us vs : List Spot} {a : A} {xs : List A} → G us a → Many G vs xs → Many G (us ++ vs) (a ∷ xs)

infixl 30 ◌▹◌
infixl 30 ◌▸◌
infixl 30 ◌◂◌
-- G, then H, with both values; with the second alone; with the first alone
abbrev pub ◌▹◌ : {A B : Type 0} → Form A → Form B → Form (A × B)
G ▹ H = Joined (λ a b. (a, b)) G H

abbrev pub ◌▸◌ : {A B : Type 0} → Form A → Form B → Form B
G ▸ H = Joined (λ a b. b) G H

abbrev pub ◌◂◌ : {A B : Type 0} → Form A → Form B → Form A
G ◂ H = Joined (λ a b. a) G H

-- one text of G or more
abbrev pub OneOrMore : {A : Type 0} → Form A → Form (List A)
OneOrMore G = Joined (λ a xs. a ∷ xs) G (Many G)

-- one text of G or more, with a text of S between
abbrev pub Separated : {A B : Type 0} → Form B → Form A → Form (List A)
Separated S G = Joined (λ a xs. a ∷ xs) G (Many (S ▸ G))

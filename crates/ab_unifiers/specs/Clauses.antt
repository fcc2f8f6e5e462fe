-- The clauses of a definition, and what it is to be an instance of one: a guess of terms, without unification.
use Rattle.std.specs.Prelude.{◌≡◌, ◌≢◌, ℕ, suc, List, [], ◌∷◌, ◌++◌, map, length, true, All, AllPairs, Contains}
use Rattle.ab_term.specs.Types.{prop}
use Rattle.ab_term.specs.Terms.{Nominal, Variable, constant, nominal, Term, spine, Terms}
use Rattle.ab_term.specs.Typing.{Signature, HasType}
use Rattle.ab_term.specs.Expansion.{expansion}
use Rattle.ab_term.specs.Translation.{EqualPastHints}
use Rattle.ab_term.specs.Names.{support, support_of_all}
use Rattle.ab_term.specs.Variables.{Substitution, variables, variables_of_all, image}
use Rattle.ab_term.specs.Sameness.{same_number}
use Rattle.ab_unifiers.specs.Replacements.{Cell, holds}

-- `nabla names, predicate arguments := body`. The clause's variables have the numbers from 0 on, and its `nabla`
-- names the numbers behind these.
pub record Clause (Hint : Type 0) : Type 0 where
  pub variables : List (Cell Hint)
  pub names : List (Cell Hint)
  pub predicate : List ℕ
  pub arguments : Terms ℕ Hint
  pub body : Term ℕ Hint

module _ {Hint : Type 0} where
  -- the cells as variables, numbered from there on
  abbrev pub numbered : ℕ → List (Cell Hint) → List (Variable ℕ)
  numbered n [] = []
  numbered n (c ∷ cs) = record { name = n; type = c.type } ∷ numbered (suc n) cs

  abbrev pub clause_variables : Clause Hint → List (Variable ℕ)
  clause_variables c = numbered 0 c.variables

  abbrev pub clause_names : Clause Hint → List (Variable ℕ)
  clause_names c = numbered (length c.variables) c.names

  -- a term for each variable
  abbrev pub put_together : List (Variable ℕ) → List (Term ℕ Hint) → Substitution ℕ Hint
  put_together [] ts = []
  put_together (y ∷ ys) [] = []
  put_together (y ∷ ys) (t ∷ ts) = (y, t) ∷ put_together ys ts

  -- a nominal constant as a term
  abbrev pub name_term : Hint → Nominal → Term ℕ Hint
  name_term x a = expansion x a.type (nominal a)

  -- these terms for a clause's variables, and these constants for its names
  abbrev pub filled : Hint → Clause Hint → List (Term ℕ Hint) → List Nominal → Substitution ℕ Hint
  filled x c us ns = put_together (clause_variables c) us ++ put_together (clause_names c) (map (name_term x) ns)

  abbrev pub head_of : Clause Hint → Term ℕ Hint
  head_of c = spine (constant c.predicate) c.arguments

-- one against one, and as many
abbrev pub Each : {X Y : Type 0} → (X → Y → Type 0) → List X → List Y → Type 0
Each R [] [] = Unit {0}
Each R [] (t ∷ ts) = ⊥
Each R (y ∷ ys) [] = ⊥
Each R (y ∷ ys) (t ∷ ts) = R y t × Each R ys ts

-- each variable of the first list is one of the second
abbrev pub Within : List (Variable ℕ) → List (Variable ℕ) → Type 0
Within xs ys = (y : Variable ℕ) → holds xs y ≡ true → holds ys y ≡ true

module _ (sg : Signature) {Hint : Type 0} where
  -- Head and body are formulas without nominal constants, over the clause's own variables; its names stand in the
  -- head alone.
  pub record IsClause (c : Clause Hint) : Type 0 where
    pub head : HasType sg [] (head_of c) prop
    pub body : HasType sg [] c.body prop
    pub head_without_constants : support_of_all c.arguments ≡ []
    pub body_without_constants : support c.body ≡ []
    pub head_variables : Within (variables_of_all c.arguments) (clause_variables c ++ clause_names c)
    pub body_variables : Within (variables c.body) (clause_variables c)

  -- closed terms of these variables' types, in order
  abbrev pub AreFor : List (Variable ℕ) → List (Term ℕ Hint) → Type 0
  AreFor ys ts = Each (λ y t. HasType sg [] t y.type) ys ts

  -- none of the constants stands in the term
  abbrev pub HoldsNone : List Nominal → Term ℕ Hint → Type 0
  HoldsNone ns t = All (λ a. ¬ (Contains (support t) a)) ns

  -- INSTANCE: some clause has this head and this body, past hints, after pairwise different nominal constants are
  -- put for its names, and terms that hold none of these for its variables
  pub data Instance (x : Hint) (clauses : List (Clause Hint)) (atom body : Term ℕ Hint) : Type 0 where
    instance_by : (c : Clause Hint) (us : List (Term ℕ Hint)) (ns : List Nominal) → Contains clauses c
        → AreFor (clause_variables c) us → map (λ a. a.type) ns ≡ map (λ z. z.type) c.names
        → AllPairs (λ a b. a ≢ b) ns → All (HoldsNone ns) us
        → EqualPastHints (image same_number (filled x c us ns) (head_of c)) atom
        → EqualPastHints (image same_number (filled x c us ns) c.body) body
        → Instance x clauses atom body

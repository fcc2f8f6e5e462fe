-- What is printed of a term, before its bytes: a tree in which each bound name has its printed name, so that
-- indices, types and hints are gone.
use Rattle.std.specs.Prelude.{ℕ, List, Bool, true, false}
use Rattle.ab_grammar.specs.declared.Infix.{Infix}
use Rattle.ab_grammar.specs.declared.Quant.{Quant}

mutual
  pub data Shape : Type 0 where
    -- a name, and a reserved word that is a formula
    word : List ℕ → Shape
    truth : List ℕ → Shape
    -- the empty list, `nil`
    empty : Shape
    -- a name with its arguments, of which there is one at least
    applied : List ℕ → Shapes → Shape
    abstraction : List ℕ → Shape → Shape
    join : Infix → Shape → Shape → Shape
    -- a quantifier, the names that it binds, of which there is one at least, and what it reaches over
    bind : Quant → List (List ℕ) → Shape → Shape
    -- `pi` before an abstraction
    pi : List ℕ → Shape → Shape
    -- a judgement: the items of its list in the order of writing, its focused formula where it has one, its goal
    judge : Shapes → Shape → Shape
    focus : Shapes → Shape → Shape → Shape
    -- an atom or a judgement, with its size mark behind it
    marked : List ℕ → Shape → Shape
    -- a logical constant without the arguments that it takes: in no well-typed term
    broken : Shape

  pub data Shapes : Type 0 where
    no_shapes : Shapes
    shape : Shape → Shapes → Shapes

abbrev pub is_none : Shapes → Bool
is_none no_shapes = true
is_none (shape s ss) = false

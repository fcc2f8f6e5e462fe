-- The trees of expressions and types, as a reader of the language draws them. Names are lists of bytes.
-- The last number of each tree is its place: that of its first token that isn't an opening parenthesis.
use Rattle.std.specs.Prelude.{ℕ, List, [], ◌∷◌, Option, Some, None}
use Rattle.ab_grammar.specs.declared.Infix.{Infix}
use Rattle.ab_grammar.specs.declared.Quant.{Quant}

pub data Ty : Type 0 where
  base : List ℕ → ℕ → Ty
  arrow : Ty → Ty → Ty

-- a bound name, its type where one is written, and its place
pub record Binder : Type 0 where
  pub name : List ℕ
  pub type_of : Option Ty
  pub place : ℕ

mutual
  pub data Tree : Type 0 where
    name : List ℕ → ℕ → Tree
    apply : Tree → Trees → ℕ → Tree
    abs : List ℕ → Tree → ℕ → Tree
    join : Infix → Tree → Tree → ℕ → Tree
    bind : Quant → List Binder → Tree → ℕ → Tree
    -- the context, the focused formula where there is one, and the goal
    judge : Trees → Focus → Tree → ℕ → Tree

  pub data Trees : Type 0 where
    no_trees : Trees
    tree : Tree → Trees → Trees

  pub data Focus : Type 0 where
    unfocused : Focus
    focused : Tree → Focus

abbrev pub trees_of : List Tree → Trees
trees_of [] = no_trees
trees_of (t ∷ ts) = tree t (trees_of ts)

abbrev pub focus_of : Option Tree → Focus
focus_of None = unfocused
focus_of (Some t) = focused t

abbrev pub place_of : Tree → ℕ
place_of (name x p) = p
place_of (apply f vs p) = p
place_of (abs x t p) = p
place_of (join o t u p) = p
place_of (bind q bs t p) = p
place_of (judge cs f g p) = p

-- an application and an infix form begin where their first part does
abbrev pub applied : Tree → List Tree → Tree
applied f vs = apply f (trees_of vs) (place_of f)

abbrev pub joined : Infix → Tree → Tree → Tree
joined o t u = join o t u (place_of t)

abbrev pub judgement : List Tree → Option Tree → Tree → ℕ → Tree
judgement cs f g p = judge (trees_of cs) (focus_of f) g p

-- pi is a word that is applied to an abstraction
abbrev pub pi_of : ℕ → Tree → Tree
pi_of p t = apply (name (112 ∷ 105 ∷ []) p) (tree t no_trees) p

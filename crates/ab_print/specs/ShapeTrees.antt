-- The tree of the grammar that a shape stands for. Places don't matter here: all are 0.
use Rattle.std.specs.Prelude.{◌≢◌, List, [], ◌∷◌, map, Some, None, codes}
use Rattle.ab_grammar.specs.Tree as tree
use Rattle.ab_grammar.specs.Tree.{Tree, joined, judgement, pi_of}
use Rattle.ab_grammar.specs.Grammar.{plain}
use Rattle.ab_print.specs.Shapes.{Shape, word, truth, empty, applied, abstraction, join, bind, pi, judge, focus, marked, broken, Shapes, no_shapes, shape}

abbrev mutual
  pub tree_of : Shape → Tree
  tree_of (word x) = tree.name x 0
  tree_of (truth x) = tree.name x 0
  tree_of empty = tree.name (codes "nil") 0
  tree_of (applied f ss) = tree.applied (tree.name f 0) (trees ss)
  tree_of (abstraction x s) = tree.abs x (tree_of s) 0
  tree_of (join o s u) = joined o (tree_of s) (tree_of u)
  tree_of (bind q xs s) = tree.bind q (map (λ x. plain x 0) xs) (tree_of s) 0
  tree_of (pi x s) = pi_of 0 (tree.abs x (tree_of s) 0)
  tree_of (judge cs g) = judgement (trees cs) None (tree_of g) 0
  tree_of (focus cs f g) = judgement (trees cs) (Some (tree_of f)) (tree_of g) 0
  -- the grammar has no marks
  tree_of (marked m s) = tree_of s
  tree_of broken = tree.name [] 0

  pub trees : Shapes → List Tree
  trees no_shapes = []
  trees (shape s ss) = tree_of s ∷ trees ss

-- A shape that has all its parts: each application an argument, each quantifier a name, each logical constant
-- the arguments that it takes.
abbrev mutual
  pub IsFormed : Shape → Type 0
  IsFormed (word x) = Unit {0}
  IsFormed (truth x) = Unit {0}
  IsFormed empty = Unit {0}
  IsFormed (applied f ss) = (ss ≢ no_shapes) × AreFormed ss
  IsFormed (abstraction x s) = IsFormed s
  IsFormed (join o s u) = IsFormed s × IsFormed u
  IsFormed (bind q xs s) = (xs ≢ []) × IsFormed s
  IsFormed (pi x s) = IsFormed s
  IsFormed (judge cs g) = AreFormed cs × IsFormed g
  IsFormed (focus cs f g) = AreFormed cs × IsFormed f × IsFormed g
  IsFormed (marked m s) = IsFormed s
  IsFormed broken = ⊥

  pub AreFormed : Shapes → Type 0
  AreFormed no_shapes = Unit {0}
  AreFormed (shape s ss) = IsFormed s × AreFormed ss

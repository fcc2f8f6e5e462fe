-- The plain shapes that the program's shapes stand for.
use Rattle.std.specs.Prelude.{codes, replicate}
use Rattle.ab_print.specs.declared.shape.Shape.{Shape, Word, True, False, Empty, Applied', Abstraction', Join', Bind', Pi', Judge', Focus', Marked', Broken}
use Rattle.ab_print.specs.declared.shape.Shapes.{Shapes, End, More'}
use Rattle.ab_print.specs.Shapes as plain
use Rattle.ab_print.specs.NameAssignment.{joined_to}

abbrev mutual
  pub shape_of : Shape → plain.Shape
  shape_of (Word x) = plain.word x.items
  shape_of True = plain.truth (codes "true")
  shape_of False = plain.truth (codes "false")
  shape_of Empty = plain.empty
  shape_of (Applied' f p ss) = plain.applied f.items (shapes_of ss)
  shape_of (Abstraction' x p s) = plain.abstraction x.items (shape_of s)
  shape_of (Join' o p s q u) = plain.join o (shape_of s) (shape_of u)
  shape_of (Bind' q x p s) = joined_to q x.items (shape_of s)
  shape_of (Pi' x p s) = plain.pi x.items (shape_of s)
  shape_of (Judge' p cs q g) = plain.judge (shapes_of cs) (shape_of g)
  shape_of (Focus' p cs q f r g) = plain.focus (shapes_of cs) (shape_of f) (shape_of g)
  shape_of (Marked' sign level p s) = plain.marked (replicate level sign) (shape_of s)
  shape_of Broken = plain.broken

  pub shapes_of : Shapes → plain.Shapes
  shapes_of End = plain.no_shapes
  shapes_of (More' p s q ss) = plain.shape (shape_of s) (shapes_of ss)
